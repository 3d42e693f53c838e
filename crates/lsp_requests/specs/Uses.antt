-- What is told of the uses and the declaration of an identifier.
use Rattle.std.specs.Prelude.{ℕ, ◌≡◌, Bool, true, false, List, [], Option, None, Result, Ok, Err, ⊤}
use Rattle.serde_json.specs.declared.value.Value.{Value}
use Rattle.base_files.specs.Workspace.{Workspace}
use Rattle.base_files.specs.declared.place.Place.{Place}
use Rattle.base_files.specs.declared.refusal.Refusal.{Refusal}
use Rattle.base_files.specs.declared.refusal.Refusal.TheVariants.{Faulty, Memory, NoIdentifier, NotRenamable, Same}
use Rattle.lsp_edits.specs.declared.telling.Telling.{Telling}
use Rattle.lsp_told.specs.Asking.{Tells, TellsFound, fault_by}
use Rattle.lsp_told.specs.Locations.{ListsLocations, TellsLocation, highlights_in, name_from, prepared_at}
use Rattle.lsp_told.specs.declared.asked_byte.AskedByte.{AskedByte}
use Rattle.lsp_told.specs.declared.fault.AskFault.{AskFault}
use Rattle.lsp_told.specs.declared.fault.AskFault.TheVariants as fault
use Rattle.refactor_affected.specs.Renames.{PlansAffectedRename}
use Rattle.refs_binding.specs.DeclaringPlaces.{IsDeclaredAt}
use Rattle.refs_binding.specs.Uses.{AnswersUses, HasDeclaration, HasFirstFault, HasNoDeclaration, HasNoIdentifier, IsCheckedPackage}
use Rattle.refs_binding.specs.declared.declaration.Declaration.{Declaration}
use Rattle.refs_places.specs.DeclaredPlaces.{IsChoice}
use Rattle.workspace_check.specs.FaultLists.{ListsFaults}
use Rattle.workspace_check.specs.Verdicts.{AreVerdicts, Verdicts}
use Rattle.workspace_snapshot.specs.declared.change.Change.{Change}
use Rattle.workspace_snapshot.specs.declared.snapshot.Snapshot.{Snapshot}

-- The place of the declaration of the identifier at a byte. A predeclared name has none.
abbrev pub HasDeclaredPlace : Workspace → (path : List ℕ) → ℕ → Option Place → Type 0
HasDeclaredPlace w path offset place = (known : Verdicts) × AreVerdicts w known × ((declaration : Declaration)
    × HasDeclaration w known path offset declaration × IsChoice (IsDeclaredAt (IsCheckedPackage w known) declaration) place)

-- The place of the declaration of the identifier at a byte, or a refusal: the first fault, no identifier there, or no declaration.
abbrev pub AnswersDeclaration : Workspace → (path : List ℕ) → ℕ → Result (Option Place) Refusal → Type 0
AnswersDeclaration w path offset (Ok place) = ListsFaults w [] × HasDeclaredPlace w path offset place
AnswersDeclaration w path offset (Err (Faulty place kind)) = HasFirstFault w place kind
AnswersDeclaration w path offset (Err NoIdentifier) = ListsFaults w [] × HasNoIdentifier w path offset
AnswersDeclaration w path offset (Err NotRenamable) = ListsFaults w [] × HasNoDeclaration w path offset
AnswersDeclaration w path offset (Err Memory) = ⊤
AnswersDeclaration w path offset (Err refusal) = ⊥

-- Uses as locations, but for the place that is left out.
abbrev pub ListsUsesBut : Telling → Workspace → List Place → Option Place → Result Value AskFault → Type 0
ListsUsesBut telling w places left_out = Tells (ListsLocations telling w left_out places)

-- Uses as locations, without the declaration.
abbrev pub ListsOthers : Telling → Workspace → AskedByte → List Place → Result Value AskFault → Type 0
ListsOthers telling w byte places came = (declared : Result (Option Place) Refusal) × AnswersDeclaration w byte.path byte.offset declared
    × TellsFound (ListsUsesBut telling w places) declared came

-- Uses as locations, with the declaration or without it.
abbrev pub ListsReferences : Telling → Workspace → AskedByte → (with_declaration : Bool) → List Place → Result Value AskFault → Type 0
ListsReferences telling w byte true places came = ListsUsesBut telling w places None came
ListsReferences telling w byte false places came = ListsOthers telling w byte places came

-- What is told where references are asked for: the identifiers that are bound to the declaration of the one at a byte.
abbrev pub TellsReferences : Telling → Workspace → (with_declaration : Bool) → AskedByte → Result Value AskFault → Type 0
TellsReferences telling w with_declaration byte came = (found : Result (List Place) Refusal) × AnswersUses w byte.path byte.offset found
    × TellsFound (ListsReferences telling w byte with_declaration) found came

-- What is told where the definition is asked for: the place of the declaration of the identifier at a byte.
abbrev pub TellsDefinition : Telling → Workspace → AskedByte → Result Value AskFault → Type 0
TellsDefinition telling w byte came = (declared : Result (Option Place) Refusal) × AnswersDeclaration w byte.path byte.offset declared
    × TellsFound (TellsLocation telling w) declared came

-- The highlights of uses in the file of a byte.
abbrev pub TellsHighlightsOf : Telling → Workspace → AskedByte → List Place → Result Value AskFault → Type 0
TellsHighlightsOf telling w byte places = Tells (λ value. value ≡ highlights_in telling w byte places)

-- What is told where highlights are asked for: the identifiers of the same file that are bound to the declaration of the one at a byte.
abbrev pub TellsHighlights : Telling → Workspace → AskedByte → Result Value AskFault → Type 0
TellsHighlights telling w byte came = (found : Result (List Place) Refusal) × AnswersUses w byte.path byte.offset found
    × TellsFound (TellsHighlightsOf telling w byte) found came

-- What is told of an identifier by the plan of its rename to its own name: that it can be renamed, where the plan is refused with `Same`.
abbrev pub TellsWhether : Telling → Workspace → AskedByte → Result Change Refusal → Result Value AskFault → Type 0
TellsWhether telling w byte (Err Same) came = Tells (λ value. value ≡ prepared_at telling w byte) came
TellsWhether telling w byte (Err why) came = came ≡ Err (fault_by why)
TellsWhether telling w byte (Ok change) came = came ≡ Err (fault.Refused NotRenamable)

-- What is told of an identifier by the plan of its rename to a name.
abbrev pub PreparesNamed : Telling → Snapshot → AskedByte → (name : List ℕ) → Result Value AskFault → Type 0
PreparesNamed telling shown byte name came = (planned : Result Change Refusal) × PlansAffectedRename shown byte.path byte.offset name planned
    × TellsWhether telling shown.files byte planned came

-- What is told where the client asks whether an identifier can be renamed.
abbrev pub TellsPrepared : Telling → Snapshot → AskedByte → Result Value AskFault → Type 0
TellsPrepared telling shown byte came = PreparesNamed telling shown byte (name_from shown.files byte) came
