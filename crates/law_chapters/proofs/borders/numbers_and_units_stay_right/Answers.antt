-- By the lemmas of numbers and units.
use Rattle.law_chapters.proofs.Leading.{finished_stay_current, numbers_rise_over_borders}
use Rattle.law_chapters.proofs.borders.numbers_and_units_stay_right.Goals as goal

pub returns-clause-numbers : goal.returns-clause-numbers
returns-clause-numbers c = numbers_rise_over_borders

pub returns-clause-units : goal.returns-clause-units
returns-clause-units c = finished_stay_current
