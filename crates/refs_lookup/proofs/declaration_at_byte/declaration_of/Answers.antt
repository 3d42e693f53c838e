-- The answers to the goals of `declaration_at_byte::declaration_of`.
use Rattle.std.proofs.Common.{subst}
use Rattle.types_declared.specs.PackageView.{package_of}
use Rattle.refs_binding.specs.Binding.{BindsByScope, by_scope}
use Rattle.refs_binding.specs.Steps.{IsDeclarationResult}
use Rattle.refs_lookup.proofs.declaration_at_byte.declaration_of.Goals as goal

pub returns-in-Some : goal.returns-in-Some
returns-in-Some c = by_scope (subst (IsDeclarationResult (BindsByScope (package_of c.args.of.now.unit) c.args.u)) c.in-Some.is c.in_ok-declaration.ensures)

pub declaration_beyond-requires-clause-unbound : goal.declaration_beyond-requires-clause-unbound
declaration_beyond-requires-clause-unbound c = subst (IsDeclarationResult (BindsByScope (package_of c.args.of.now.unit) c.args.u)) c.in-None.is
    c.in_ok-declaration.ensures
