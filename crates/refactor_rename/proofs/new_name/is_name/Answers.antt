-- The answers to the goals of `new_name::is_name`.
use Rattle.std.proofs.Common.{◌∙◌, sym}
use Rattle.refactor_rename.proofs.Words.{no_keyword, all_other}
use Rattle.refactor_rename.proofs.new_name.is_name.Goals as goal

pub returns-then-is_word : goal.returns-then-is_word
returns-then-is_word c = (
  (λ e. (c.is_word.ensures.0 c.if-is_word.true, no_keyword c.args.name.now (sym c.is_no_keyword.ensures ∙ e))),
  (λ is. c.is_no_keyword.ensures ∙ all_other c.args.name.now is.1),
)
