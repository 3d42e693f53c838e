-- The part, with what it leaves out.
use Rattle.refactor_affected.proofs.rename.plan_without.Goals as goal

pub plan_in_part-requires : goal.plan_in_part-requires
plan_in_part-requires c = record {
  found = c.requires.found;
  asked = c.requires.asked;
  part = c.in_ok-part.ensures.part;
  part_found = c.in_ok-part.ensures.found;
  left = c.requires.left;
}
