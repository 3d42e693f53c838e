-- The answers to the goals of `paths::folder_and_name`.
use Rattle.tool_disk.proofs.RunJournals.{split_last, split_none}
use Rattle.tool_disk.proofs.paths.folder_and_name.Goals as goal

pub returns-in-Some : goal.returns-in-Some
returns-in-Some c =
    split_last c.args.path.now c.in-Some.front.now c.in-Some.name.now c.folder_before_slash.result.now c.in-Some.ensures.cases c.folder_before_slash.ensures

pub returns-in-None : goal.returns-in-None
returns-in-None c = split_none c.args.path.now c.in-None.ensures.cases
