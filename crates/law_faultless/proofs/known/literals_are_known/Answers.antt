-- The answers to the goals of `known::literals_are_known`.
use Rattle.std.proofs.Common.{sym, subst}
use Rattle.types_expr.specs.World.{no_locals}
use Rattle.types_info.specs.Worlds.{is_init}
use Rattle.law_faultless.specs.QuestionAnswers.{IsKnown}
use Rattle.law_faultless.proofs.Literals.{integer_asked, text_asked}
use Rattle.law_faultless.proofs.known.literals_are_known.Goals as goal

pub returns-clause-integers : goal.returns-clause-integers
returns-clause-integers c = λ p files_of file f s is source g at there n a.
    subst (λ z. IsKnown z) (sym (is.number n)) (integer_asked s.world (is_init f) f g no_locals at n source there a)

pub returns-clause-texts : goal.returns-clause-texts
returns-clause-texts c = λ p files_of file f s is source g at there n a. text_asked s.world (is_init f) f g no_locals at n (s.text n) source there a (is.text n)
