-- Each step leaves fewer.
use Rattle.types_members.specs.SearchSteps.{steps_to_go}
use Rattle.types_members.proofs.search.DepthSearch.begin.Given as goal

abbrev pub decreases-loop-top : goal.decreases-loop-top
decreases-loop-top l = steps_to_go l.self.turns.items l.self.path.items
