-- The Job that is taken brings the inputs of its package in the last files that are shown.
use Rattle.server_shared.proofs.SeenLaws.{takes_shown}
use Rattle.server_shared.proofs.locked.Locked.take_and_show.Goals as goal

pub returns-clause-brings : goal.returns-clause-brings
returns-clause-brings g c = takes_shown _ _ c.take_job-taken.result _ c.show_files-shown.result c.take_job-taken.ensures.taken c.show_files-shown.ensures.shown
