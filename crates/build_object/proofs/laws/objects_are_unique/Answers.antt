-- The answers to the goals of `laws::objects_are_unique`.
use Rattle.build_object.proofs.OneObject.{one_object, one_text}
use Rattle.build_object.proofs.laws.objects_are_unique.Goals as goal

pub returns-clause-object : goal.returns-clause-object
returns-clause-object c = λ p formed rising files_of a b h k. one_object p formed rising files_of a b h k

pub returns-clause-text : goal.returns-clause-text
returns-clause-text c = λ p formed rising files_of v w h k. one_text p formed rising files_of v w h k
