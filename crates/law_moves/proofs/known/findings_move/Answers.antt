-- The answers to the goals of `known::findings_move`.
use Rattle.law_moves.proofs.MovedVerdictsLaws.{findings}
use Rattle.law_moves.proofs.known.findings_move.Goals as goal

pub returns : goal.returns
returns c = findings
