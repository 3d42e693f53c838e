-- What was judged is of the snapshot's files.
use Rattle.server_shared.proofs.shared.Shared.judge.Goals as goal

pub learn_ahead-requires : goal.learn_ahead-requires
learn_ahead-requires g c = c.in-Ok.ensures
