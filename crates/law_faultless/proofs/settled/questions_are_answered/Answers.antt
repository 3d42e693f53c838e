-- The answers to the goals of `settled::questions_are_answered`.
use Rattle.law_faultless.proofs.SettledQuestions.{function_held, question_known}
use Rattle.law_faultless.proofs.settled.questions_are_answered.Goals as goal

pub returns : goal.returns
returns c = λ w sound known right arity arities p is files_of below file f at s source g before here q a.
    let held = function_held here in
    question_known w sound known right arity arities p is files_of below file f at s source held.0 g held.1.0 held.1.1 before here q a
