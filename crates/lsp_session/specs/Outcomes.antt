-- What comes of requests, as data.
use Rattle.std.specs.Prelude.{ℕ, List, Result, Ok, Err, string_bytes}
use Rattle.serde_json.specs.Data.{Data}
use Rattle.serde_json.specs.View.{view}
use Rattle.serde_json.specs.declared.value.Value.{Value}
use Rattle.lsp_message.specs.declared.answers.ErrorCode.{ErrorCode}
use Rattle.lsp_session.specs.declared.service.ServiceFault.{ServiceFault}

-- A result, or the code of an error and what is told of it.
abbrev pub ServiceOutcome : Type 0
ServiceOutcome = Result Data (ErrorCode × List ℕ)

-- What came of a request, as data.
abbrev pub outcome_view : Result Value ServiceFault → ServiceOutcome
outcome_view (Ok value) = Ok (view value)
outcome_view (Err fault) = Err (fault.code, string_bytes fault.words)
