-- The answers to the goals of `faults::words_in`.
use Rattle.std.proofs.Common.{◌≡◌, None, String, refl, string_bytes}
use Rattle.std.specs.declared.alloc.Global.{Global}
use Rattle.std.proofs.lemmas.Result.{IfOk-weaker}
use Rattle.lsp_told.specs.Words.{fault_sentence}
use Rattle.tool_told.specs.declared.telling.Naming.{Naming}
use Rattle.lsp_requests.specs.Faults.{TellsIn}
use Rattle.lsp_requests.proofs.faults.words_in.Goals as goal

pub returns : goal.returns
returns c =
    let naming : Naming = record { files = c.args.files; prefix = c.args.prefix } in
    IfOk-weaker c.words_of.result (λ (words : String Global). string_bytes words ≡ fault_sentence naming None c.args.fault.now)
    (λ (words : String Global). TellsIn c.args.files.now c.args.prefix.now c.args.fault.now (string_bytes words))
    (λ words told. (naming, refl, refl, told)) c.words_of.ensures
