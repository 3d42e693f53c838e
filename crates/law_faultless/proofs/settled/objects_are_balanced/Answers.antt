-- The answers to the goals of `settled::objects_are_balanced`.
use Rattle.build_object.specs.Objects.{FunctionOf}
use Rattle.law_faultless.specs.Stack.{IsBalanced}
use Rattle.law_faultless.proofs.Objects.{object_good}
use Rattle.law_faultless.proofs.SettledQuestions.{function_settled}
use Rattle.law_faultless.proofs.settled.objects_are_balanced.Goals as goal

pub returns : goal.returns
returns c = λ w sound known right arity arities p is files_of below o object fn here.
    object_good (λ lines. IsBalanced arity 0 lines 0) p files_of o object
    (λ file f at s source k g c held name. function_settled w sound known right arity arities p is files_of below file f at s source k g c held) (FunctionOf fn)
    here
