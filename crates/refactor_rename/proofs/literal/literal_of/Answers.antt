-- The answers to the goals of `literal::literal_of`.
use Rattle.std.proofs.Common.{◌≡◌, List, ap, sym, subst, ◌∙◌}
use Rattle.std.specs.Prelude.{Some}
use Rattle.std.proofs.lemmas.Option.{same_Some}
use Rattle.std.proofs.lemmas.Result.{IfOk-weaker}
use Rattle.types_declared.specs.PackageView.{package_of}
use Rattle.refs_binding.specs.declared.declaration.Declaration.{Declaration}
use Rattle.refs_binding.specs.declared.declaration.Declaration.TheVariants.{Declared}
use Rattle.refs_binding.specs.Uses.{IsCheckedPackage}
use Rattle.refs_binding.specs.Workspaces.{home_path, known_in}
use Rattle.refactor_rename.specs.Literals.{IsPathLiteralIn, IsPathLiteralOf, IsLiteralFound}
use Rattle.refactor_rename.proofs.Literals.{found_in}
use Rattle.refactor_rename.proofs.literal.literal_of.Goals as goal

pub returns-in-Declared : goal.returns-in-Declared
returns-in-Declared c =
    let w = c.args.at.workspace.now.graph in
    let known = known_in c.args.at.workspace.now.findings in
    let p = package_of c.args.unit in
    let path = c.in-Declared.field-0 in
    let d = c.in-Declared.d in
    let home : path ≡ p.path = same_Some path p.path (subst (λ (x : Declaration). home_path x ≡ Some p.path) c.in-Declared.is c.requires.home) in
    rw c.in-Declared.is
    (IfOk-weaker c.literal_in.result (IsLiteralFound (IsPathLiteralIn p d)) (IsLiteralFound (IsPathLiteralOf (IsCheckedPackage w known) (Declared path d)))
    (found_in w known c.args.at.number p path d c.requires.unit (c.requires.unit.has_number ∙ ap Some (sym home))) c.literal_in.ensures)
