-- The answers to the goals of `recovery::read_run`.
use Rattle.std.proofs.Common.{◌∙◌, ap}
use Rattle.tool_text.specs.Journal.{bare_texts}
use Rattle.tool_disk.proofs.RunJournals.{no_text, read_from}
use Rattle.tool_disk.proofs.recovery.read_run.Goals as goal

pub returns-in-Some : goal.returns-in-Some
returns-in-Some c =
    let told = rw c.in-Some.is at c.in_ok-texts.ensures in
    read_from c.args.text.now (bare_texts c.in-Some.texts.items) c.run_of.result
    (told ∙ (ap bare_texts c.as_slice.ensures.value ∙ c.in_ok-lines.ensures)) c.run_of.ensures

pub returns : goal.returns
returns c =
    let told = rw c.in-None.is at c.in_ok-texts.ensures in
    no_text c.args.text.now c.as_slice.result.now (ap bare_texts c.as_slice.ensures.value ∙ c.in_ok-lines.ensures) told
