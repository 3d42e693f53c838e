-- The answers to the goals of `recursion::held_as`.
use Rattle.std.proofs.Common.{ap, sym, subst}
use Rattle.go_ast.specs.View.{type_view}
use Rattle.types_declared.specs.PackageView.{package_of}
use Rattle.types_members.specs.Recursion.{IsBareName}
use Rattle.types_members.proofs.Holding.{IsOneHeld, held_by_name, no_import_held, no_pointer_held, no_slice_held}
use Rattle.types_members.proofs.recursion.held_as.Goals as goal

pub returns-in-Local : goal.returns-in-Local
unfolding type_view
returns-in-Local c =
    subst (λ w. IsOneHeld (package_of c.args.pkg) c.args.file w c.local_definition.result) (sym (ap type_view c.in-Local.is))
    (held_by_name (package_of c.args.pkg) c.args.file c.in-Local.name c.local_definition.result c.local_definition.ensures)

pub returns-in-Imported : goal.returns-in-Imported
unfolding type_view
returns-in-Imported c = λ r h. no_import_held (package_of c.args.pkg) c.args.file _ _ _ r
    (subst (λ w. IsBareName (package_of c.args.pkg) c.args.file w r) (ap type_view c.in-Imported.is) h)

pub returns-in-Pointer : goal.returns-in-Pointer
unfolding type_view
returns-in-Pointer c = λ r h. no_pointer_held (package_of c.args.pkg) c.args.file _ r _
    (subst (λ w. IsBareName (package_of c.args.pkg) c.args.file w r) (ap type_view c.in-Pointer.is) h)

pub returns-in-Slice : goal.returns-in-Slice
unfolding type_view
returns-in-Slice c = λ r h. no_slice_held (package_of c.args.pkg) c.args.file _ _ r _
    (subst (λ w. IsBareName (package_of c.args.pkg) c.args.file w r) (ap type_view c.in-Slice.is) h)
