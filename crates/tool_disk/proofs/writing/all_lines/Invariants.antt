-- The paths of the files that were passed can stand in a line.
use Rattle.std.proofs.Common.{take}
use Rattle.tool_disk.specs.RunJournals.{HaveLinePaths}
use Rattle.tool_disk.proofs.writing.all_lines.Given as goal

abbrev pub invariant-loop-file : goal.invariant-loop-file
invariant-loop-file l = HaveLinePaths (take l.file-index l.files)
