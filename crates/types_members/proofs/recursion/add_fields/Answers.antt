-- The answers to the goals of `recursion::add_fields`.
use Rattle.std.proofs.Common.{◌≡◌, ◌+◌, take, ◌++◌, ◌∷◌, [], arith}
use Rattle.go_ast.specs.View.{type_view}
use Rattle.types_declared.specs.PackageView.{package_of}
use Rattle.types_members.specs.Recursion.{IsBareName, HasBareName}
use Rattle.types_declared.proofs.Mentioning.{field_types, fields_next}
use Rattle.types_members.proofs.Holding.{items_none, items_then, one_of_none, one_push, one_cases}
use Rattle.types_members.proofs.recursion.add_fields.Goals as goal

pub loop-field-init : goal.loop-field-init
loop-field-init c = items_none c.args.found.now.items _ (one_of_none (package_of c.args.pkg) c.args.file)

pub loop-field-preserved : goal.loop-field-preserved
loop-field-preserved c =
    let p = package_of c.args.pkg in
    let file = c.args.file in
    let i = c.loop-field.field-index in
    let before = field_types (take i c.args.fields.now) in
    let after = field_types (take (i + 1) c.args.fields.now) in
    let t = type_view c.field-item.result.value.field_type in
    let e : after ≡ before ++ (t ∷ []) = fields_next c.args.fields.now i c.field-item.result (omega arith) c.field-item.is in
    items_then c.args.found.now.items c.loop-field.found.items c.add_type.new.found.items (HasBareName p file before) (IsBareName p file t)
    (HasBareName p file after) c.loop-field.invariant
    c.in_ok-add_type.ensures (λ r h. one_push p file before after t r e h) (λ r s. one_cases p file before after t r e s)
