-- Why there is no place of a declaration.
use Rattle.std.proofs.Common.{ℕ, List, []}
use Rattle.std.specs.Prelude.{Err}
use Rattle.base_files.specs.Workspace.{Workspace}
use Rattle.base_files.specs.declared.refusal.Refusal.{Refusal}
use Rattle.base_files.specs.declared.refusal.Refusal.TheVariants as refusal
use Rattle.refs_binding.specs.Workspaces.{FindsDeclaration, RefusesFaults}
use Rattle.workspace_check.specs.FaultLists.{ListsFaults}
use Rattle.workspace_check.specs.Verdicts.{AreVerdicts, Verdicts}
use Rattle.workspace_check.specs.declared.findings.Findings.{Findings}
use Rattle.lsp_requests.specs.Uses.{AnswersDeclaration}

-- the first fault is why there is no declaration
pub fault_first : (w : Workspace) (found : Findings) (path : List ℕ) (offset : ℕ) (why : Refusal) → RefusesFaults w found (Err why)
    → AnswersDeclaration w path offset (Err why)
fault_first w found path offset refusal.Memory h = tt
fault_first w found path offset (refusal.Faulty place kind) h = h
fault_first w found path offset why h = absurd h

-- in a workspace without faults an identifier is wanting, or its declaration
pub declaration_unfound : (w : Workspace) (known : Verdicts) → AreVerdicts w known → ListsFaults w [] → (path : List ℕ) (offset : ℕ) (why : Refusal)
    → FindsDeclaration w known path offset (Err why) → AnswersDeclaration w path offset (Err why)
declaration_unfound w known right sound path offset refusal.Memory h = tt
declaration_unfound w known right sound path offset refusal.NoIdentifier h = (sound, record { known = known; right = right; none = h })
declaration_unfound w known right sound path offset refusal.NotRenamable h =
    (sound, record { known = known; right = right; asked_in = h.0; is_asked = h.1.0; number = h.1.1.0; at = h.1.1.1.0; unbound = h.1.1.1.1 })
declaration_unfound w known right sound path offset why h = absurd h
