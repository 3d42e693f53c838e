-- The answer to the goal of `respelled_layouts::layout_stays`.
use Rattle.law_rename.proofs.Laid.{layout_stays as stays}
use Rattle.law_rename.proofs.respelled_layouts.layout_stays.Goals as goal

pub returns : goal.returns
returns c = stays
