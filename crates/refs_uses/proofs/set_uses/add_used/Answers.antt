-- The answers to the goals of `set_uses::add_used`.
use Rattle.std.proofs.Common.{sym, ◌∙◌}
use Rattle.std.proofs.lemmas.Bool.{false≢true}
use Rattle.refs_binding.specs.Binding.{BindsByMember}
use Rattle.refs_binding.specs.Steps.{UsesIn}
use Rattle.refs_binding.proofs.Adding.{adds_none}
use Rattle.refs_uses.specs.SoughtMembers.{IsPlaceOfSome}
use Rattle.refs_uses.proofs.MemberNames.{use_spelled}
use Rattle.refs_uses.proofs.set_uses.add_used.Goals as goal

pub returns-else-uses_name : goal.returns-else-uses_name
returns-else-uses_name c = λ p is.
    adds_none c.args.spots.now.items (IsPlaceOfSome c.args.sought.now.set.now (λ d. UsesIn p (λ u. BindsByMember p u d)))
    (λ place x.
    let u = x.holds.0 in
    let m = x.holds.1.1 in
    false≢true (sym c.if-uses_name.false ∙ c.uses_name.ensures p is (p.layout.place u).file (p.layout.place u).index x.declaration m
    (λ name found. use_spelled p x.declaration name (c.requires.named x.declaration x.among name found p is.is_package) (p.layout.place u).file
    (p.layout.place u).index m)))
