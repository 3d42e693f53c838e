-- The answers to the goals of `verdicts::targets_swap`.
use Rattle.law_moves.proofs.Swapped.{free_swap, same_target}
use Rattle.law_moves.proofs.verdicts.targets_swap.Goals as goal

pub returns-clause-free : goal.returns-clause-free
returns-clause-free c = free_swap

pub returns-clause-same : goal.returns-clause-same
returns-clause-same c = same_target
