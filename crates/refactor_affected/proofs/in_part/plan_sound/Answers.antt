-- What is proposed is the rename in the part.
use Rattle.std.proofs.Common.{refl, sym, subst}
use Rattle.base_files.specs.Workspace.{Workspace}
use Rattle.workspace_check.specs.Found.{KnowsVerdicts}
use Rattle.refactor_affected.proofs.in_part.plan_sound.Goals as goal

pub plan_found-requires-clause-proposed : goal.plan_found-requires-clause-proposed
plan_found-requires-clause-proposed c = record {
  proposed = record {
    same = c.requires.same;
    known = subst (λ (w : Workspace). KnowsVerdicts w c.args.renaming.now.part.now.found.known) (sym c.requires.same) c.requires.part.part_found.verdicts;
  };
  snapshot = refl;
  file = refl;
  offset = refl;
}
