-- The answers to the goals of `new_name::is_word`.
use Rattle.std.proofs.Common.{◌∙◌, sym}
use Rattle.std.proofs.lemmas.Bool.{false≢true}
use Rattle.refactor_rename.proofs.Words.{word_of, word_begins, word_continues}
use Rattle.refactor_rename.proofs.new_name.is_word.Goals as goal

pub returns-then-starts_with_letter : goal.returns-then-starts_with_letter
returns-then-starts_with_letter c = (
  (λ e. word_of c.args.name.now c.utf8.name (sym c.starts_with_letter.ensures ∙ c.if-starts_with_letter.true) (sym c.all_continue.ensures ∙ e)),
  (λ w. c.all_continue.ensures ∙ word_continues c.args.name.now c.utf8.name w),
)

pub returns-else-starts_with_letter : goal.returns-else-starts_with_letter
returns-else-starts_with_letter c = (
  (λ e. absurd (false≢true (sym c.if-starts_with_letter.false ∙ e))),
  (λ w. c.starts_with_letter.ensures ∙ word_begins c.args.name.now c.utf8.name w),
)
