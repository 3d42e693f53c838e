-- Why requests have no result, and what is told of it.
use Rattle.std.specs.Prelude.{ℕ, ◌≡◌, List, Err, string_bytes}
use Rattle.base_files.specs.declared.refusal.Refusal.{Refusal}
use Rattle.lsp_message.specs.declared.answers.ErrorCode.TheVariants.{RequestFailed}
use Rattle.lsp_session.specs.Outcomes.{ServiceOutcome}
use Rattle.lsp_told.specs.Asking.{fault_by}
use Rattle.lsp_told.specs.Words.{fault_code}
use Rattle.lsp_told.specs.declared.fault.AskFault.{AskFault}
use Rattle.lsp_service.specs.declared.failure.Failure.{Failure}
use Rattle.lsp_service.specs.declared.failure.Failure.TheVariants.{Asked, Folder}

-- Why a request has no result where the desk refuses.
abbrev pub refused_by : Refusal → Failure
refused_by why = Asked (fault_by why)

module _ {D : Type 0} (tells : D → List ℕ → AskFault → List ℕ → D → Type 0) where
  -- What the client gets where a request has no result: the code of the fault, and what the desk tells of it; or what is told of the folder.
  abbrev pub TellsFailure : D → (prefix : List ℕ) → Failure → ServiceOutcome → D → Type 0
  TellsFailure old prefix (Asked fault) outcome new =
      (words : List ℕ) × tells old prefix fault words new × (outcome ≡ Err (fault_code fault, words))
  TellsFailure old prefix (Folder text) outcome new = (outcome ≡ Err (RequestFailed, string_bytes text)) × (new ≡ old)
