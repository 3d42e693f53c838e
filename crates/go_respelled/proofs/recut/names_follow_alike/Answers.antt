-- The answers to the goals of `recut::names_follow_alike`.
use Rattle.go_respelled.proofs.Single.{follow_alike}
use Rattle.go_respelled.proofs.recut.names_follow_alike.Goals as goal

pub returns : goal.returns
returns c = follow_alike
