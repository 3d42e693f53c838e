-- The answers to the goals of `trivia::general_comment_len`.
use Rattle.std.proofs.lemmas.List.{take_rest}
use Rattle.go_scanner.proofs.CommentLemmas.{comment_unclosed, comment_closed}
use Rattle.go_scanner.proofs.trivia.general_comment_len.Goals as goal

pub returns-in-None : goal.returns-in-None
returns-in-None c = comment_unclosed c.args.bytes.now _ (take_rest c.args.bytes.now 2) c.requires c.in-None.ensures

pub returns-in-Some : goal.returns-in-Some
returns-in-Some c = comment_closed c.args.bytes.now _ _ (take_rest c.args.bytes.now 2) c.requires c.in-Some.ensures
