-- What was found in the inputs is right of the workspace.
use Rattle.std.proofs.Common.{sym, subst}
use Rattle.workspace_check.specs.Found.{KnowsVerdicts}
use Rattle.build_carry.proofs.LearnedVerdicts.{found_here}
use Rattle.build_carry.proofs.learning.learned.Goals as goal

pub returns-then-is_empty : goal.returns-then-is_empty
returns-then-is_empty c = subst (KnowsVerdicts c.args.files.now) (sym c.in_ok-same.ensures.cases) c.requires.own

pub with_verdicts-requires : goal.with_verdicts-requires
with_verdicts-requires c = record {
  own = c.requires.own;
  found = found_here c.args.files.now c.args.built.now.inputs c.requires.closures c.found-found.result.now c.found-found.ensures;
}
