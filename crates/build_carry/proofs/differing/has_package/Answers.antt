-- A number is found exactly where there is a package.
use Rattle.std.proofs.Common.{refl}
use Rattle.std.proofs.lemmas.Bool.{false≢true}
use Rattle.workspace_graph.proofs.ByPath.{at_contains}
use Rattle.build_carry.proofs.differing.has_package.Goals as goal

pub returns-in-None : goal.returns-in-None
returns-in-None c = (λ t. absurd (false≢true t), λ has. absurd (c.in-None.ensures has))

pub returns-in-Some : goal.returns-in-Some
returns-in-Some c = (λ t. at_contains c.args.graph.now c.in-Some.field-0 c.args.path.now c.in-Some.ensures, λ has. refl)
