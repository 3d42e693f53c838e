-- The answers to the goals of `laws::may_follow`.
use Rattle.go_scanner.proofs.ContextLemmas.{may_follow}
use Rattle.go_scanner.proofs.laws.may_follow.Goals as goal

pub returns : goal.returns
returns c = may_follow
