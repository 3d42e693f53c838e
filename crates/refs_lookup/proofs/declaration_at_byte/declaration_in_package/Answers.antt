-- The answers to the goals of `declaration_at_byte::declaration_in_package`.
use Rattle.std.proofs.Common.{sym, subst}
use Rattle.types_declared.specs.PackageView.{package_of}
use Rattle.refs_binding.specs.Steps.{IsDeclarationResult}
use Rattle.refs_binding.specs.Uses.{IsBoundToDeclaration}
use Rattle.refs_binding.specs.Workspaces.{known_in}
use Rattle.refs_lookup.proofs.declaration_at_byte.declaration_in_package.Goals as goal

pub returns-in-None-2 : goal.returns-in-None-2
returns-in-None-2 c =
    let w = c.args.workspace.now.graph in
    let known = known_in c.args.workspace.now.findings in
    let p = package_of c.args.of.now.unit in
    let none = subst (IsDeclarationResult (IsBoundToDeclaration w known p c.named_by-name.result)) c.in-None-2.is c.in_ok-declaration_of-in-Some.ensures in
    (c.in-Some.u, (c.in-Some.ensures, λ d h. none d (subst (λ v. IsBoundToDeclaration w known p v d) (sym c.named_by-name.ensures.named) h)))
