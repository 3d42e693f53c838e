-- The answers to the goals of `called::SoughtTypes::add_at`.
use Rattle.std.proofs.Common.{◌≡◌, ◌∙◌, rules, sym}
use Rattle.std.specs.Prelude.{Some, None, slice_get}
use Rattle.std.proofs.lemmas.Option.{none-some}
use Rattle.refs_binding.proofs.AddingAll.{all_none, call_all}
use Rattle.refactor_coupled.specs.Called.{IsSoughtAt, IsSoughtHeld}
use Rattle.refactor_coupled.proofs.SoughtLists.{held_as}
use Rattle.refactor_coupled.proofs.called.SoughtTypes.add_at.Goals as goal

pub returns-in-None : goal.returns-in-None
returns-in-None c =
    let t = c.args.self.now in
    let none : slice_get c.args.own.now c.args.rank ≡ None = search rules in
    all_none c.args.found.now.items (IsSoughtAt t.types.now t.old.now t.new.now t.only_interfaces c.args.path.now c.args.own.now c.args.rank)
    (λ s k. none-some k.held (sym none ∙ k.has_rank))

pub returns-in-Some : goal.returns-in-Some
returns-in-Some c =
    let t = c.args.self.now in
    let path = c.args.path.now in
    let held = c.in-Some.definition.now in
    let at : slice_get c.args.own.now c.args.rank ≡ Some held = search rules in
    call_all c.args.found.now.items c.add_if_sought.new.found.items (IsSoughtHeld t.types.now t.old.now t.new.now t.only_interfaces path held c.args.rank)
    (IsSoughtAt t.types.now t.old.now t.new.now t.only_interfaces path c.args.own.now c.args.rank) c.add_if_sought.result
    (λ s. (held_as t.types.now t.old.now t.new.now t.only_interfaces path c.args.own.now c.args.rank held at s).0)
    (λ s. (held_as t.types.now t.old.now t.new.now t.only_interfaces path c.args.own.now c.args.rank held at s).1) c.add_if_sought.ensures
