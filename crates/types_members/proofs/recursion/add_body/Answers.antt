-- The answers to the goals of `recursion::add_body`.
use Rattle.std.proofs.Common.{sym, subst, [], ◌∷◌}
use Rattle.std.specs.Prelude.{OnOk}
use Rattle.std.proofs.lemmas.Result.{on_ok_weaker}
use Rattle.go_ast.specs.View.{type_view}
use Rattle.go_ast.specs.FileView.{body_view}
use Rattle.types_declared.specs.PackageView.{package_of}
use Rattle.types_declared.specs.Written.{contained_types}
use Rattle.types_members.specs.Recursion.{AddsItems, IsBareName, HasBareName}
use Rattle.types_declared.proofs.Mentioning.{field_types}
use Rattle.types_members.proofs.Holding.{items_as, items_none, one_of_none, one_alone, alone_one}
use Rattle.types_members.proofs.recursion.add_body.Goals as goal

pub returns-in-Type : goal.returns-in-Type
unfolding body_view
returns-in-Type c =
    let p = package_of c.args.pkg in
    let file = c.args.file in
    let t = type_view c.in-Type.written in
    subst (λ b. OnOk c.add_type.result (AddsItems c.args.found.now.items c.add_type.new.found.items (HasBareName p file (contained_types (body_view b)))))
    (sym c.in-Type.is)
    (on_ok_weaker c.add_type.result (λ h. items_as c.args.found.now.items c.add_type.new.found.items (IsBareName p file t) (HasBareName p file (t ∷ []))
    (alone_one p file t) (one_alone p file t) h)
    c.add_type.ensures)

pub returns-in-Struct : goal.returns-in-Struct
unfolding body_view
returns-in-Struct c =
    let p = package_of c.args.pkg in
    let file = c.args.file in
    subst (λ b. OnOk c.add_fields.result (AddsItems c.args.found.now.items c.add_fields.new.found.items (HasBareName p file (contained_types (body_view b)))))
    (sym c.in-Struct.is)
    (subst (λ fs. OnOk c.add_fields.result (AddsItems c.args.found.now.items c.add_fields.new.found.items (HasBareName p file (field_types fs))))
    c.deref.ensures.value c.add_fields.ensures)

pub returns-in-Interface : goal.returns-in-Interface
unfolding body_view
returns-in-Interface c =
    let p = package_of c.args.pkg in
    let file = c.args.file in
    items_none c.args.found.now.items (HasBareName p file (contained_types (body_view c.args.body.now)))
    (λ r h. one_of_none p file r (subst (λ b. HasBareName p file (contained_types (body_view b)) r) c.in-Interface.is h))
