-- No name is needed behind the rename of a local declaration.
use Rattle.std.proofs.Common.{inl, inr, List, sym, subst, ◌∙◌}
use Rattle.std.specs.Prelude.{IfNone}
use Rattle.std.proofs.lemmas.Bool.{false≢true}
use Rattle.std.proofs.lemmas.Result.{IfOk-weaker}
use Rattle.refs_binding.proofs.Units.{list_of_sound}
use Rattle.build_names.specs.Words.{NameChange}
use Rattle.refactor_units.specs.CarriedNames.{CarriesRename, HasCarriedName}
use Rattle.refactor_units.specs.LevelNames.{IsLevelAt}
use Rattle.refactor_units.proofs.LocalRenames.{local_renames}
use Rattle.refactor_units.proofs.Missed.{none_then}
use Rattle.refactor_units.proofs.carried.names_carried.Goals as goal

pub returns-then-branch-clause-carries : goal.returns-then-branch-clause-carries
returns-then-branch-clause-carries c =
    let w = c.args.workspace.now.graph in
    let path = c.args.path.now in
    let name = c.args.name.now in
    subst (λ (cs : List NameChange). CarriesRename w path c.args.offset name cs) (sym c.new.ensures.items)
    (local_renames w path c.args.offset name (list_of_sound w c.args.workspace.now.findings c.has_no_faults.ensures)
    (c.in_ok-names_local.ensures.0 c.if-branch.true))

pub returns-clause-finds : goal.returns-clause-finds
returns-clause-finds c =
    let w = c.args.workspace.now.graph in
    let path = c.args.path.now in
    let name = c.args.name.now in
    IfOk-weaker c.names_level.result (λ names. IfNone names ((change : NameChange) → IsLevelAt w path c.args.offset name change → ⊥))
    (λ names. IfNone names (HasCarriedName w path c.args.offset name → ⊥))
    (λ names none. none_then names none (λ nothing has. elim has [
      | inl local ↦ false≢true (sym c.if-branch.false ∙ c.in_ok-names_local.ensures.1 local)
      | inr level ↦ nothing level.0 level.1
    ]))
    c.names_level.ensures.finds
