-- The graph has the files of the shares that were passed.
use Rattle.workspace_parsing.specs.Shares.{IsPartBetween}
use Rattle.workspace_parsing.proofs.together.all_shares.Given as goal

abbrev pub invariant-loop-number : goal.invariant-loop-number
invariant-loop-number l = IsPartBetween l.files 0 l.number l.graph
