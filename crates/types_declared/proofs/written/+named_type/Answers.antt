-- The answers to the goals of `written::named_type`.
use Rattle.std.proofs.Common.{ap, sym, subst, ◌∙◌}
use Rattle.std.specs.Prelude.{None, Some, IfOk, option_map}
use Rattle.go_ast.specs.Tree.{Pointer, Slice}
use Rattle.go_ast.specs.View.{type_view}
use Rattle.types_expr.specs.Types.{Pointer as PointerType, Slice as SliceType}
use Rattle.types_expr.specs.View.{type_of}
use Rattle.types_declared.specs.PackageView.{package_of}
use Rattle.types_declared.specs.Written.{NamesExport}
use Rattle.types_declared.specs.WrittenView.{IsNamedBy}
use Rattle.types_declared.proofs.WrittenTypes.{named_import, named_pointer, named_slice}
use Rattle.types_declared.proofs.written.+named_type.Goals as goal

pub returns-in-Local : goal.returns-in-Local
unfolding type_view
returns-in-Local t c =
    subst (λ w. IfOk c.local_type.result (λ o. IsNamedBy (package_of c.args.pkg) c.args.file w (option_map type_of o))) (sym (ap type_view c.in-Local.is))
    c.local_type.ensures

pub returns-in-None : goal.returns-in-None
unfolding type_view
returns-in-None t c =
    subst (λ w. IsNamedBy (package_of c.args.pkg) c.args.file w None) (sym (ap type_view c.in-Imported.is))
    (named_import (package_of c.args.pkg) c.args.file c.in-Imported.«package» c.in-Imported.dot c.in-Imported.name None c.in-None.ensures)

pub returns-in_ok-copy-in-Some : goal.returns-in_ok-copy-in-Some
unfolding type_view
returns-in_ok-copy-in-Some t c =
    subst (λ w. IsNamedBy (package_of c.args.pkg) c.args.file w (Some (type_of c.in_ok-copy-in-Some.field-0))) (sym (ap type_view c.in-Imported.is))
    (named_import (package_of c.args.pkg) c.args.file c.in-Imported.«package» c.in-Imported.dot c.in-Imported.name
    (Some (type_of c.in_ok-copy-in-Some.field-0))
    (subst (NamesExport (package_of c.args.pkg) c.args.file c.in-Imported.«package» c.in-Imported.name) (sym c.in_ok-copy-in-Some.ensures) c.in-Some.ensures))

pub returns-in-None-2 : goal.returns-in-None-2
unfolding type_view
returns-in-None-2 t c =
    subst (λ w. IsNamedBy (package_of c.args.pkg) c.args.file w None)
    (ap (λ x. Pointer c.in-Pointer.star (type_view x)) c.deref.ensures ∙ sym (ap type_view c.in-Pointer.is))
    (named_pointer (package_of c.args.pkg) c.args.file c.in-Pointer.star (type_view c.deref.result.now) None
    (subst (λ o. IsNamedBy (package_of c.args.pkg) c.args.file (type_view c.deref.result.now) (option_map type_of o)) c.in-None-2.is
    c.in_ok-named_type-in-Pointer.ensures))

pub returns-in_ok-new-in-Some-2 : goal.returns-in_ok-new-in-Some-2
unfolding type_view type_of
returns-in_ok-new-in-Some-2 t c =
    let p = package_of c.args.pkg in
    let inner : IsNamedBy p c.args.file (type_view c.deref.result.now) (Some (type_of c.in-Some-2.target)) =
    subst (λ o. IsNamedBy p c.args.file (type_view c.deref.result.now) (option_map type_of o)) c.in-Some-2.is c.in_ok-named_type-in-Pointer.ensures in
    subst (λ x. IsNamedBy p c.args.file (type_view c.args.written.now) (Some (PointerType (type_of x)))) (sym c.in_ok-new-in-Some-2.ensures.ok)
    (subst (λ w. IsNamedBy p c.args.file w (Some (PointerType (type_of c.in-Some-2.target))))
    (ap (λ x. Pointer c.in-Pointer.star (type_view x)) c.deref.ensures ∙ sym (ap type_view c.in-Pointer.is))
    (named_pointer p c.args.file c.in-Pointer.star (type_view c.deref.result.now) (Some (type_of c.in-Some-2.target)) inner))

pub returns-in-None-3 : goal.returns-in-None-3
unfolding type_view
returns-in-None-3 t c =
    subst (λ w. IsNamedBy (package_of c.args.pkg) c.args.file w None)
    (ap (λ x. Slice c.in-Slice.«open» c.in-Slice.close (type_view x)) c.deref-in-Slice.ensures ∙ sym (ap type_view c.in-Slice.is))
    (named_slice (package_of c.args.pkg) c.args.file c.in-Slice.«open» c.in-Slice.close (type_view c.deref-in-Slice.result.now) None
    (subst (λ o. IsNamedBy (package_of c.args.pkg) c.args.file (type_view c.deref-in-Slice.result.now) (option_map type_of o)) c.in-None-3.is
    c.in_ok-named_type-in-Slice.ensures))

pub returns-in_ok-new-in-Some-3 : goal.returns-in_ok-new-in-Some-3
unfolding type_view type_of
returns-in_ok-new-in-Some-3 t c =
    let p = package_of c.args.pkg in
    let inner : IsNamedBy p c.args.file (type_view c.deref-in-Slice.result.now) (Some (type_of c.in-Some-3.element)) =
    subst (λ o. IsNamedBy p c.args.file (type_view c.deref-in-Slice.result.now) (option_map type_of o)) c.in-Some-3.is c.in_ok-named_type-in-Slice.ensures in
    subst (λ x. IsNamedBy p c.args.file (type_view c.args.written.now) (Some (SliceType (type_of x)))) (sym c.in_ok-new-in-Some-3.ensures.ok)
    (subst (λ w. IsNamedBy p c.args.file w (Some (SliceType (type_of c.in-Some-3.element))))
    (ap (λ x. Slice c.in-Slice.«open» c.in-Slice.close (type_view x)) c.deref-in-Slice.ensures ∙ sym (ap type_view c.in-Slice.is))
    (named_slice p c.args.file c.in-Slice.«open» c.in-Slice.close (type_view c.deref-in-Slice.result.now) (Some (type_of c.in-Some-3.element)) inner))
