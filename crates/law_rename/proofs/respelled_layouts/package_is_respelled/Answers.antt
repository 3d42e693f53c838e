-- The answer to the goal of `respelled_layouts::package_is_respelled`.
use Rattle.law_rename.proofs.Laid.{package_respelled}
use Rattle.law_rename.proofs.respelled_layouts.package_is_respelled.Goals as goal

pub returns : goal.returns
returns c = package_respelled
