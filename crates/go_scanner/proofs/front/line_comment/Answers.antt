-- The answers to the goals of `front::line_comment`.
use Rattle.go_scanner.proofs.FrontLemmas.{line_comment_stands}
use Rattle.go_scanner.proofs.front.line_comment.Goals as goal

pub returns : goal.returns
returns c = line_comment_stands c.args.bytes.now c.line_comment_len.result c.requires c.line_comment_len.ensures
