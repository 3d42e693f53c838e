-- The messages that the server writes.
use Rattle.std.specs.Prelude.{ℕ, List, [], ◌∷◌, codes, Option, None, Some, Ok, Err}
use Rattle.std.specs.Io.KnownBytes.{Appends, Keeps}
use Rattle.serde_json.specs.Data.{Data}
use Rattle.lsp_message.specs.Answers.{error_answer, notification_value, request_value, result_answer}
use Rattle.lsp_message.specs.Frames.{IsFrameOf}
use Rattle.lsp_message.specs.declared.answers.ErrorCode.{ErrorCode}
use Rattle.lsp_message.specs.declared.answers.ErrorCode.TheVariants.{InternalError, ParseError, ServerNotInitialized}
use Rattle.lsp_session.specs.Outcomes.{ServiceOutcome}

-- The frame of a message is written. `held` and `holds` are what the writer held before and after.
abbrev pub WritesMessage : Data → (held holds : Option (List ℕ)) → Type 0
WritesMessage message held holds = (bytes : List ℕ) × IsFrameOf message bytes × Appends held holds bytes

-- The frames of messages are written, one after another.
abbrev pub WritesMessages : List Data → (held holds : Option (List ℕ)) → Type 0
WritesMessages [] held holds = Keeps held holds
WritesMessages (message ∷ messages) held holds = (mid : Option (List ℕ)) × WritesMessage message held mid × WritesMessages messages mid holds

-- The answer to the request with this id: its result, or why it has none.
abbrev pub answer_of : (id : Data) → ServiceOutcome → Data
answer_of id (Ok outcome) = result_answer id outcome
answer_of id (Err why) = error_answer (Some id) why.0 why.1

-- The request that the client make an edit, with this number as its id.
abbrev pub edit_request : ℕ → Data → Data
edit_request number params = request_value number (codes "workspace/applyEdit") params

-- The requests for an edit, if there is one.
abbrev pub edit_requests : ℕ → Option Data → List Data
edit_requests number (Some params) = edit_request number params ∷ []
edit_requests number None = []

-- Faults of a document are published.
abbrev pub published : Data → Data
published params = notification_value (codes "textDocument/publishDiagnostics") params

-- What is told where a message is refused.
abbrev pub refused_words : ErrorCode → List ℕ
refused_words ServerNotInitialized = codes "the session is not initialized"
refused_words ParseError = codes "this is no message"
refused_words InternalError = codes "memory was wanting"
refused_words code = codes "this is no call that can be made now"
