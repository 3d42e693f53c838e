-- The answers to the goals of `broken::note_definition`.
use Rattle.std.proofs.Common.{sym, subst, [], ◌∷◌}
use Rattle.std.specs.Prelude.{OnOk}
use Rattle.std.proofs.lemmas.Result.{on_ok_weaker}
use Rattle.go_ast.specs.View.{type_view}
use Rattle.go_ast.specs.FileView.{body_view}
use Rattle.types_declared.specs.PackageView.{package_of}
use Rattle.types_declared.specs.Written.{written_types}
use Rattle.types_declared.specs.Broken.{AddsLinks, IsTarget, IsTargetOfSome}
use Rattle.types_declared.proofs.Mentioning.{field_types, method_list, adds_as, some_one, one_some}
use Rattle.types_declared.proofs.broken.note_definition.Goals as goal

pub returns-in-Type : goal.returns-in-Type
unfolding body_view
returns-in-Type c =
    let p = package_of c.args.pkg in
    let file = c.args.definition.now.file in
    let t = type_view c.in-Type.written in
    subst (λ b. OnOk c.note_type.result (AddsLinks c.args.links.now.items c.note_type.new.links.items c.args.rank
    (IsTargetOfSome p file (written_types (body_view b))))) (sym c.in-Type.is)
    (on_ok_weaker c.note_type.result
    (λ h. adds_as c.args.links.now.items c.note_type.new.links.items c.args.rank (IsTarget p file t) (IsTargetOfSome p file (t ∷ [])) (one_some p file t)
    (some_one p file t) h) c.note_type.ensures)

pub returns-in-Struct : goal.returns-in-Struct
unfolding body_view
returns-in-Struct c =
    let p = package_of c.args.pkg in
    let file = c.args.definition.now.file in
    subst (λ b. OnOk c.note_fields.result (AddsLinks c.args.links.now.items c.note_fields.new.links.items c.args.rank
    (IsTargetOfSome p file (written_types (body_view b))))) (sym c.in-Struct.is)
    (subst (λ fs. OnOk c.note_fields.result (AddsLinks c.args.links.now.items c.note_fields.new.links.items c.args.rank
    (IsTargetOfSome p file (field_types fs)))) c.deref.ensures.value c.note_fields.ensures)

pub returns-in-Interface : goal.returns-in-Interface
unfolding body_view
returns-in-Interface c =
    let p = package_of c.args.pkg in
    let file = c.args.definition.now.file in
    subst (λ b. OnOk c.note_methods.result (AddsLinks c.args.links.now.items c.note_methods.new.links.items c.args.rank
    (IsTargetOfSome p file (written_types (body_view b))))) (sym c.in-Interface.is)
    (subst (λ ms. OnOk c.note_methods.result (AddsLinks c.args.links.now.items c.note_methods.new.links.items c.args.rank
    (IsTargetOfSome p file (method_list ms)))) c.deref-in-Interface.ensures.value c.note_methods.ensures)
