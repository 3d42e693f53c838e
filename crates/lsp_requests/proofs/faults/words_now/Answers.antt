-- The answers to the goals of `faults::words_now`.
use Rattle.std.proofs.Common.{String, string_bytes, subst}
use Rattle.std.specs.FinMap as map
use Rattle.std.specs.declared.alloc.Global.{Global}
use Rattle.std.proofs.lemmas.Result.{IfOk-weaker}
use Rattle.history_machine.specs.declared.event.Reply.TheVariants.{Looked, Refused}
use Rattle.lsp_requests.specs.Faults.{TellsFault, TellsIn}
use Rattle.lsp_requests.proofs.faults.words_now.Goals as goal

pub returns-in-Ok : goal.returns-in-Ok
returns-in-Ok g c =
    IfOk-weaker c.words_in.result
    (λ (words : String Global). TellsIn c.files_of.result.now c.args.prefix.now c.args.fault.now (string_bytes words))
    (λ (words : String Global). TellsFault g.D.Desk.steps c.args.desk.now c.args.prefix.now c.args.fault.now (string_bytes words) c.look.new.self)
    (λ words told. (
      Looked c.in-Ok.view,
      c.in-Ok.ensures.step,
      subst (λ files. TellsIn files c.args.prefix.now c.args.fault.now (string_bytes words)) c.files_of.ensures told,
    )) c.words_in.ensures

pub returns : goal.returns
returns g c =
    IfOk-weaker c.words_alone.result (λ (words : String Global). TellsIn map.empty c.args.prefix.now c.args.fault.now (string_bytes words))
    (λ (words : String Global). TellsFault g.D.Desk.steps c.args.desk.now c.args.prefix.now c.args.fault.now (string_bytes words) c.look.new.self)
    (λ words told. (Refused c.in-Err.field-0, c.in-Err.ensures.step, told)) c.words_alone.ensures
