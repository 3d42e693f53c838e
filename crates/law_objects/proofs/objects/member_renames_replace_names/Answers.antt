-- The answer to the goal of `objects::member_renames_replace_names`.
use Rattle.law_objects.proofs.Laws.{members}
use Rattle.law_objects.proofs.objects.member_renames_replace_names.Goals as goal

pub returns : goal.returns
returns c = members
