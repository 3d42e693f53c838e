-- The answers to the goals of `called::SoughtTypes::add_if_sought`.
use Rattle.std.proofs.Common.{◌≡◌, ◌∙◌, true, sym}
use Rattle.std.proofs.lemmas.Bool.{false≢true}
use Rattle.types_expr.specs.WorldView.{definition_of}
use Rattle.refs_binding.proofs.AddingAll.{all_none}
use Rattle.refactor_coupled.specs.Called.{IsSoughtHeld, is_sought_type}
use Rattle.refactor_coupled.specs.RenamedTypesView.{definitions_in}
use Rattle.refactor_coupled.proofs.SoughtLists.{pushed_all}
use Rattle.refactor_coupled.proofs.called.SoughtTypes.add_if_sought.Goals as goal

pub returns-then-not-is_sought : goal.returns-then-not-is_sought
returns-then-not-is_sought c =
    let t = c.args.self.now in
    all_none c.args.found.now.items (IsSoughtHeld t.types.now t.old.now t.new.now t.only_interfaces c.args.path.now c.args.definition.now c.args.rank)
    (λ s k. false≢true (sym c.if-not-is_sought.true ∙ c.is_sought.ensures ∙ k.sought))

pub returns : goal.returns
returns c =
    let t = c.args.self.now in
    let sought : is_sought_type (definitions_in t.types.now) (definition_of c.args.definition.now) t.old.now t.new.now t.only_interfaces ≡ true =
    sym c.is_sought.ensures ∙ c.if-not-is_sought.false in
    pushed_all c.args.found.now.items c.push.new.self.items c.in_ok-symbol.symbol
    (IsSoughtHeld t.types.now t.old.now t.new.now t.only_interfaces c.args.path.now c.args.definition.now c.args.rank) c.in_ok-push.ensures.items
    (record { sought = sought; is_symbol = c.in_ok-symbol.ensures }) (λ s k. k.is_symbol ∙ sym c.in_ok-symbol.ensures)
