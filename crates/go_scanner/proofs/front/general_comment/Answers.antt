-- The answers to the goals of `front::general_comment`.
use Rattle.go_scanner.proofs.FrontLemmas.{general_comment_stands}
use Rattle.go_scanner.proofs.front.general_comment.Goals as goal

pub returns-in-Some : goal.returns-in-Some
returns-in-Some c = general_comment_stands c.args.bytes.now c.in-Some.size c.requires c.in-Some.ensures
