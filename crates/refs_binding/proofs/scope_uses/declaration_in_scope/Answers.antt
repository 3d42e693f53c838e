-- The answers to the goals of `scope_uses::declaration_in_scope`.
use Rattle.types_declared.specs.PackageView.{package_of}
use Rattle.refs_binding.proofs.Bound.{unbound}
use Rattle.refs_binding.proofs.scope_uses.declaration_in_scope.Goals as goal

pub returns-in-None : goal.returns-in-None
returns-in-None c = unbound (package_of c.args.unit) c.args.u c.in-None.ensures

pub returns-in_ok-numbered-in-Some : goal.returns-in_ok-numbered-in-Some
returns-in_ok-numbered-in-Some c = c.in_ok-numbered-in-Some.ensures c.args.u c.in-Some.ensures
