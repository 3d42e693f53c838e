-- The answers to the goals of `requests::optional_number`.
use Rattle.std.proofs.Common.{◌∙◌, sym}
use Rattle.clap.specs.Words.{found_of, rows_of}
use Rattle.clap.proofs.WalkLemmas.{first_value-rows}
use Rattle.server_words.proofs.Numbers.{not_given}
use Rattle.server_words.proofs.requests.optional_number.Goals as goal

pub returns-in_err-number-in-Some : goal.returns-in_err-number-in-Some
returns-in_err-number-in-Some c = rw c.from_residual.ensures
    (not_given c.args.option.now (rows_of (found_of c.args.matches.now)) c.in-Some.field-0.now
    (c.in-Some.ensures ∙ first_value-rows (found_of c.args.matches.now) c.args.option.now) c.in_err-number-in-Some.ensures)

pub returns-in-None : goal.returns-in-None
returns-in-None c = sym (c.in-None.ensures ∙ first_value-rows (found_of c.args.matches.now) c.args.option.now)
