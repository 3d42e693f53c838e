-- What is told of faults of requests.
use Rattle.std.specs.Prelude.{ℕ, List, codes, Option, None, Some, unwrap_or}
use Rattle.std.specs.Str.Lossy.{utf8_lossy}
use Rattle.base_files.specs.declared.place.Place.{Place}
use Rattle.base_files.specs.declared.refusal.Refusal.{Refusal}
use Rattle.base_files.specs.declared.refusal.Refusal.TheVariants as refusal
use Rattle.lsp_message.specs.declared.answers.ErrorCode.{ErrorCode}
use Rattle.lsp_message.specs.declared.answers.ErrorCode.TheVariants as code
use Rattle.server_read.specs.FirstLine.{first_line}
use Rattle.tool_told.specs.Telling.{refusal_text}
use Rattle.tool_told.specs.declared.telling.Naming.{Naming}
use Rattle.lsp_told.specs.declared.fault.AskFault.{AskFault}
use Rattle.lsp_told.specs.declared.fault.AskFault.TheVariants as fault

-- The code of the error that a fault is.
abbrev pub fault_code : AskFault → ErrorCode
fault_code fault.Memory = code.InternalError
fault_code fault.Method = code.MethodNotFound
fault_code fault.Params = code.InvalidParams
fault_code (fault.Refused why) = code.RequestFailed

-- The sentence of a refusal: where it is and why it is refused, as the commands over a folder tell it. Of what captures an identifier it says
-- the path, the line and the column.
abbrev pub refusal_sentence : Naming → Option Place → Refusal → List ℕ
refusal_sentence naming place why = utf8_lossy (first_line (refusal_text naming (codes "gorefd") place why))

-- What is told of a refusal that names no place.
abbrev pub plain_words : Refusal → Option (List ℕ)
plain_words refusal.NothingToUndo = Some (codes "there is no rename to take back")
plain_words refusal.NothingToRedo = Some (codes "there is no rename to do again")
plain_words refusal.JournalFull = Some (codes "this session had as many changes as it can: start it again")
plain_words why = None

-- What is told of a refusal.
abbrev pub refusal_words : Naming → Option Place → Refusal → List ℕ
refusal_words naming place why = unwrap_or (plain_words why) (refusal_sentence naming place why)

-- What is told of a fault.
abbrev pub fault_sentence : Naming → Option Place → AskFault → List ℕ
fault_sentence naming place fault.Memory = codes "memory was wanting"
fault_sentence naming place fault.Method = codes "this server does not know the method"
fault_sentence naming place fault.Params = codes "the parameters lack something, or have it in another form"
fault_sentence naming place (fault.Refused why) = refusal_words naming place why
