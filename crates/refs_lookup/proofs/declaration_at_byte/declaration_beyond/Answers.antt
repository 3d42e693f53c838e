-- The answers to the goals of `declaration_at_byte::declaration_beyond`.
use Rattle.std.proofs.Common.{subst}
use Rattle.std.proofs.lemmas.Result.{IfOk-weaker}
use Rattle.types_declared.specs.PackageView.{package_of}
use Rattle.refs_binding.specs.Binding.{BindsQualified, by_package}
use Rattle.refs_binding.specs.Steps.{IsDeclarationResult}
use Rattle.refs_binding.specs.Uses.{IsCheckedPackage}
use Rattle.refs_binding.specs.Workspaces.{known_in}
use Rattle.refs_binding.proofs.Exporting.{last_kind}
use Rattle.refs_lookup.proofs.declaration_at_byte.declaration_beyond.Goals as goal

pub returns-in-Some : goal.returns-in-Some
returns-in-Some c =
    by_package (subst (IsDeclarationResult
    (BindsQualified (IsCheckedPackage c.args.workspace.now.graph (known_in c.args.workspace.now.findings)) (package_of c.args.of.now.unit) c.args.u))
    c.in-Some.is c.in_ok-declaration.ensures)

pub returns-in-None : goal.returns-in-None
returns-in-None c =
    let P = IsCheckedPackage c.args.workspace.now.graph (known_in c.args.workspace.now.findings) in
    let p = package_of c.args.of.now.unit in
    IfOk-weaker c.member_declaration.result _ _
    (λ o h. last_kind P p c.args.u c.requires.unbound (subst (IsDeclarationResult (BindsQualified P p c.args.u)) c.in-None.is c.in_ok-declaration.ensures) o h)
    c.member_declaration.ensures
