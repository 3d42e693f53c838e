-- The answers to the goals of `parse::parse_command`.
use Rattle.server_read.proofs.LineWords.{split_line}
use Rattle.server_read.proofs.parse.parse_command.Goals as goal

pub returns-in-Some : goal.returns-in-Some
returns-in-Some c =
    split_line c.args.text.now c.in-Some.verb.now c.in-Some.words.now c.parse_verb.result c.in-Some.ensures.0 c.in-Some.ensures.1 c.parse_verb.ensures
