-- The answers to the goals of `naming::refuse_in_unit`.
use Rattle.types_declared.specs.PackageView.{package_of}
use Rattle.refs_binding.specs.declared.declaration.Declaration.TheVariants.{Declared}
use Rattle.refs_binding.specs.DeclaredNames.{HasDeclaredNameIn}
use Rattle.refactor_rename.specs.Naming.{IsMainIn, IsTopLevelIn}
use Rattle.refactor_rename.specs.NewName.{IsReserved}
use Rattle.refactor_rename.proofs.Refusing.{or_lacks}
use Rattle.refactor_rename.proofs.naming.refuse_in_unit.Goals as goal

pub returns-in-Declared : goal.returns-in-Declared
returns-in-Declared c =
    let p = package_of c.args.unit in
    let d = c.in-Declared.d in
    let at = Declared c.in-Declared.field-0 d in
    let name = c.args.name.now in
    rw c.in-Declared.is
    (or_lacks (IsMainIn p at) (IsTopLevelIn p at × IsReserved name) (HasDeclaredNameIn p at name) c.refuse_number.result c.refuse_number.ensures)
