-- The answers to the goals of `quoted::pieces_before_a_literal_stay`.
use Rattle.go_respelled.proofs.Quotes.{before_stays}
use Rattle.law_rename.proofs.quoted.pieces_before_a_literal_stay.Goals as goal

pub returns : goal.returns
returns c = before_stays
