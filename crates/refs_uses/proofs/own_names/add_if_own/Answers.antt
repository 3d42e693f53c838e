-- The answers to the goals of `own_names::add_if_own`.
use Rattle.std.proofs.Common.{sym, ◌∙◌}
use Rattle.std.specs.Prelude.{None, slice_index_or}
use Rattle.std.proofs.lemmas.Bool.{false≢true}
use Rattle.types_declared.specs.PackageView.{package_of}
use Rattle.refs_binding.specs.Steps.{AtFound}
use Rattle.refs_binding.proofs.Adding.{adds_none, call_adds}
use Rattle.refs_uses.specs.SoughtMembers.{IsListedName}
use Rattle.refs_uses.proofs.own_names.add_if_own.Goals as goal

pub returns-then-is_own : goal.returns-then-is_own
returns-then-is_own c =
    let p = package_of c.args.unit in
    call_adds c.args.found.now.items c.add_named.new.found.items (AtFound p (slice_index_or c.args.places.now c.args.symbol.now.rank None))
    (IsListedName p c.args.places.now c.args.symbol.now) c.add_named.result
    (λ place at. (c.is_own.ensures.0 c.if-is_own.true, at)) (λ place h. h.1) c.add_named.ensures

pub returns-else-is_own : goal.returns-else-is_own
returns-else-is_own c =
    adds_none c.args.found.now.items (IsListedName (package_of c.args.unit) c.args.places.now c.args.symbol.now)
    (λ place h. false≢true (sym c.if-is_own.false ∙ c.is_own.ensures.1 h.0))
