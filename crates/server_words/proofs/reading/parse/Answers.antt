-- The answers to the goals of `reading::parse`.
use Rattle.server_words.proofs.Parsed.{fails_in, found_in, free_line, simple_line}
use Rattle.server_words.proofs.reading.parse.Goals as goal

pub returns-clause-found : goal.returns-clause-found
returns-clause-found c = found_in c.in_ok-line.line _ _ _ c.in_ok-line.ensures simple_line c.try_get_matches_from.ensures.matches

pub returns-clause-fails : goal.returns-clause-fails
returns-clause-fails c = fails_in c.in_ok-line.line _ _ _ c.in_ok-line.ensures free_line c.try_get_matches_from.ensures.kinds
