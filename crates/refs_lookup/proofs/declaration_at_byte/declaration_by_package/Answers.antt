-- The answers to the goals of `declaration_at_byte::declaration_by_package`.
use Rattle.std.proofs.Common.{subst}
use Rattle.std.proofs.lemmas.Result.{IfOk-weaker}
use Rattle.types_declared.specs.PackageView.{package_of}
use Rattle.refs_binding.specs.Steps.{IsDeclarationResult}
use Rattle.refs_binding.specs.Workspaces.{known_in, ExportsAs}
use Rattle.refs_binding.proofs.Exporting.{behind_none, by_path}
use Rattle.refs_lookup.proofs.declaration_at_byte.declaration_by_package.Goals as goal

pub returns-in-None : goal.returns-in-None
returns-in-None c = behind_none c.args.workspace.now.graph (known_in c.args.workspace.now.findings) (package_of c.args.unit) c.args.u c.in-None.ensures

pub returns-in-Some : goal.returns-in-Some
returns-in-Some c =
    let w = c.args.workspace.now.graph in
    let known = known_in c.args.workspace.now.findings in
    let p = package_of c.args.unit in
    let path = c.in-Some.path.now in
    IfOk-weaker c.exported_declaration.result _ _
    (λ o h. by_path w known p c.args.u path c.in-Some.ensures.0 c.in-Some.ensures.1 o
    (subst (λ n. IsDeclarationResult (ExportsAs w known path n) o) c.name.ensures h))
    c.exported_declaration.ensures
