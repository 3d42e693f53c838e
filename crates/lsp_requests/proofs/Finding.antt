-- The places of declarations.
use Rattle.std.proofs.Common.{ℕ, List, [], Option}
use Rattle.std.specs.Prelude.{Ok}
use Rattle.base_files.specs.Workspace.{Workspace}
use Rattle.base_files.specs.declared.place.Place.{Place}
use Rattle.refs_binding.specs.DeclaringPlaces.{IsDeclaredAt}
use Rattle.refs_binding.specs.Uses.{HasDeclaration, IsCheckedPackage}
use Rattle.refs_binding.specs.declared.declaration.Declaration.{Declaration}
use Rattle.refs_places.specs.DeclaredPlaces.{IsChoice}
use Rattle.workspace_check.specs.FaultLists.{ListsFaults}
use Rattle.workspace_check.specs.Verdicts.{AreVerdicts, Verdicts}
use Rattle.lsp_requests.specs.Uses.{AnswersDeclaration}

pub place_told : (w : Workspace) (known : Verdicts) → AreVerdicts w known → ListsFaults w [] → (path : List ℕ) (offset : ℕ) (d : Declaration)
    → HasDeclaration w known path offset d → (place : Option Place) → IsChoice (IsDeclaredAt (IsCheckedPackage w known) d) place
    → AnswersDeclaration w path offset (Ok place)
place_told w known right sound path offset d has place is = (sound, (known, right, (d, has, is)))
