-- The answers to the goals of `coupling::add_renamed`.
use Rattle.std.proofs.Common.{◌≡◌, inl, inr, sym, subst}
use Rattle.std.specs.Prelude.{Contains, OnOk}
use Rattle.types_expr.specs.declared.symbol.Symbol.{Symbol}
use Rattle.refs_binding.specs.declared.declaration.Declaration.{Declaration}
use Rattle.refs_binding.specs.declared.declaration.Declaration.TheVariants.{Field}
use Rattle.refactor_coupled.specs.Reached.{AddsCoupled}
use Rattle.refactor_coupled.proofs.RenamedSets.{is_no_field, no_member_asked}
use Rattle.refactor_coupled.proofs.coupling.add_renamed.Goals as goal

pub add_asked-requires : goal.add_asked-requires
add_asked-requires c = subst (Contains c.args.set.now.items) c.in-Field.is c.requires

pub returns-in-Field : goal.returns-in-Field
returns-in-Field c =
    let w = c.args.workspace.now in
    subst (λ (d : Declaration). OnOk c.add_asked.result (AddsCoupled w d c.args.set.now.items c.add_asked.new.set.items)) (sym c.in-Field.is)
    c.add_asked.ensures

pub returns-in-Predeclared : goal.returns-in-Predeclared
returns-in-Predeclared c =
    let d = c.args.declaration.now in
    let not : (s : Symbol) → d ≡ Field s → ⊥ = λ s field. elim c.in-Predeclared.is [
      | inl q ↦ is_no_field d _ q.1 tt s field
      | inr r ↦ elim r [ inl q ↦ is_no_field d _ q.2 tt s field | inr q ↦ is_no_field d _ q.1 tt s field ]
    ] in
    no_member_asked c.args.workspace.now c.args.set.now.items d c.requires not
