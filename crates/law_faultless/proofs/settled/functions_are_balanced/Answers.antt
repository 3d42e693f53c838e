-- The answers to the goals of `settled::functions_are_balanced`.
use Rattle.go_ast.specs.Tree.{FuncDecl}
use Rattle.law_faultless.proofs.Lists.{contained}
use Rattle.law_faultless.proofs.SettledQuestions.{function_settled}
use Rattle.law_faultless.proofs.settled.functions_are_balanced.Goals as goal

pub returns : goal.returns
returns c = λ w sound known right arity arities p is files_of below file f at s source g here.
    function_settled w sound known right arity arities p is files_of below file f at s source here.0 g here.1.0
    (contained f.tree.decls (FuncDecl here.0 g here.1.0) here.1.1)
