-- The answers to the goals of `sides::all_unbroken`.
use Rattle.std.proofs.Common.{◌∙◌}
use Rattle.types_stmt.specs.Sides.{is_unbroken}
use Rattle.types_stmt.specs.View.{target_of}
use Rattle.types_stmt.proofs.Lists.{list_all_map}
use Rattle.types_stmt.proofs.sides.all_unbroken.Goals as goal

pub returns : goal.returns
returns c = c.each_unbroken.ensures ∙ list_all_map is_unbroken target_of c.args.targets.now
