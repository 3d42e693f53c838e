-- The one name carries units over.
use Rattle.std.proofs.Common.{List, sym, subst}
use Rattle.std.specs.Prelude.{IfNone, IfSome}
use Rattle.refs_binding.proofs.Units.{list_of_sound}
use Rattle.build_names.specs.Words.{NameChange}
use Rattle.refactor_units.specs.CarriedNames.{CarriesRename}
use Rattle.refactor_units.specs.LevelNames.{IsLevelAt}
use Rattle.refactor_units.proofs.LevelRenames.{level_renames}
use Rattle.refactor_units.proofs.carried.names_level.Goals as goal

pub returns-in_ok-one_name-in-Some-clause-carries : goal.returns-in_ok-one_name-in-Some-clause-carries
returns-in_ok-one_name-in-Some-clause-carries c =
    let w = c.args.workspace.now.graph in
    let path = c.args.path.now in
    let name = c.args.name.now in
    let level = subst (λ o. IfSome o (IsLevelAt w path c.args.offset name)) c.in-Some.is c.in_ok-level_name_at.ensures.names in
    subst (λ (cs : List NameChange). CarriesRename w path c.args.offset name cs) (sym c.in_ok-one_name-in-Some.ensures)
    (level_renames w path c.args.offset name c.in-Some.given (list_of_sound w c.args.workspace.now.findings c.has_no_faults.ensures) level)

pub returns-in-None-clause-finds : goal.returns-in-None-clause-finds
returns-in-None-clause-finds c =
    let w = c.args.workspace.now.graph in
    subst (λ o. IfNone o ((change : NameChange) → IsLevelAt w c.args.path.now c.args.offset c.args.name.now change → ⊥)) c.in-None.is
    c.in_ok-level_name_at.ensures.finds
