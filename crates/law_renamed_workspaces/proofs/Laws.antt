-- The laws of verdicts after a rename, by the laws of the crates below.
use Rattle.law_changed_types.proofs.FileUses.{files_ask}
use Rattle.law_renamed_workspaces.proofs.CountingMembers.{counting_field, counting_method}
use Rattle.law_renamed_workspaces.proofs.DefinitionsAfter.{exported_definition}
use Rattle.law_renamed_workspaces.proofs.SeenAfter.{seen_follow}
use Rattle.law_renamed_workspaces.proofs.WorldsAlike.{worlds_stay}
use Rattle.law_renamed_workspaces.specs.MembersMoved.{FieldsFollow, MethodsFollow, ExportedDefinitionsFollow}
use Rattle.law_renamed_workspaces.proofs.OwnNames.{own_renames}
use Rattle.law_renamed_workspaces.proofs.RenamedScopesRenamed.{others_stay}
use Rattle.law_renamed_workspaces.specs.VerdictsStay.{FoundStays, NoFaultComes, VerdictsStayAbove, VerdictsStay, PlainWorkspaceStaysSound}
use Rattle.law_renamed_workspaces.proofs.Found.{found_stays}
use Rattle.law_renamed_workspaces.proofs.NoFaults.{NoFaultComesBelow, no_fault_below, no_fault_comes}
use Rattle.law_renamed_workspaces.proofs.AlongImports.{verdicts_stay_above, verdicts_stay, plain_workspace_stays_sound}
use Rattle.law_changed_types.proofs.Alike.{of_bound}

fields : FieldsFollow
fields w known r p q is relaid definition name rank = counting_field w known r p q is relaid definition name rank

methods : MethodsFollow
methods w known r p q is relaid alike seen definition name rank h = counting_method w known r p q is relaid (of_bound p q alike) seen definition name rank h

pub exported : ExportedDefinitionsFollow
exported w known r p q is relaid alike seen i j before after rank =
    exported_definition w known r p q is relaid (of_bound p q alike) seen i j before after rank

pub found : FoundStays
found = found_stays worlds_stay files_ask

pub no_fault_by : NoFaultComesBelow
no_fault_by = no_fault_below found fields methods own_renames others_stay

pub no_fault : NoFaultComes
no_fault = no_fault_comes no_fault_by

pub above : VerdictsStayAbove
above = verdicts_stay_above own_renames others_stay seen_follow exported no_fault_by

pub each : VerdictsStay
each = verdicts_stay above

pub whole : PlainWorkspaceStaysSound
whole = plain_workspace_stays_sound each
