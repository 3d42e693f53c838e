-- The answers to the goals of `settled::questions_are_settled`.
use Rattle.go_ast.specs.Tree.{FuncDecl}
use Rattle.law_faultless.proofs.Lists.{contained}
use Rattle.law_faultless.proofs.SettledQuestions.{question_settled}
use Rattle.law_faultless.proofs.settled.questions_are_settled.Goals as goal

pub returns : goal.returns
returns c = λ w sound known right arity arities p is files_of below file f at s source g here before q a.
    question_settled w sound known right arity arities p is files_of below file f at s source here.0 g here.1.0
    (contained f.tree.decls (FuncDecl here.0 g here.1.0) here.1.1) before q a
