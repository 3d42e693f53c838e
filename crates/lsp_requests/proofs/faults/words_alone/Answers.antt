-- The answers to the goals of `faults::words_alone`.
use Rattle.std.proofs.Common.{String, string_bytes, subst}
use Rattle.std.specs.Prelude.{IfOk}
use Rattle.std.specs.declared.alloc.Global.{Global}
use Rattle.lsp_requests.specs.Faults.{TellsIn}
use Rattle.lsp_requests.proofs.faults.words_alone.Goals as goal

pub returns : goal.returns
returns c =
    subst (λ files. IfOk c.words_in.result (λ (words : String Global). TellsIn files c.args.prefix.now c.args.fault.now (string_bytes words)))
    c.new-files.ensures c.words_in.ensures
