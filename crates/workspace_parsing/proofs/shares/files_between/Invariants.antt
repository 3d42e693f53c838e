-- The part has the files that were passed.
use Rattle.workspace_parsing.proofs.Parts.{IsPartBeside}
use Rattle.workspace_parsing.proofs.shares.files_between.Given as goal

abbrev pub invariant-loop-path : goal.invariant-loop-path
invariant-loop-path l = IsPartBeside l.files l.low l.high l.path-iterator l.part
