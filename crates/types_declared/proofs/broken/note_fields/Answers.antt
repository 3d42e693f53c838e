-- The answers to the goals of `broken::note_fields`.
use Rattle.std.proofs.Common.{◌≡◌, ◌+◌, take, ◌++◌, ◌∷◌, [], arith}
use Rattle.go_ast.specs.View.{type_view}
use Rattle.types_declared.specs.PackageView.{package_of}
use Rattle.types_declared.specs.Broken.{IsTarget, IsTargetOfSome}
use Rattle.types_declared.proofs.Mentioning.{field_types, fields_next, adds_then, some_push, some_cases}
use Rattle.types_declared.proofs.broken.note_fields.Goals as goal

pub loop-field-preserved : goal.loop-field-preserved
loop-field-preserved c =
    let p = package_of c.args.pkg in
    let file = c.args.at.file in
    let i = c.loop-field.field-index in
    let before = field_types (take i c.args.fields.now) in
    let after = field_types (take (i + 1) c.args.fields.now) in
    let t = type_view c.field-item.result.value.field_type in
    let e : after ≡ before ++ (t ∷ []) = fields_next c.args.fields.now i c.field-item.result (omega arith) c.field-item.is in
    adds_then c.args.links.now.items c.loop-field.links.items c.note_type.new.links.items c.args.at.rank (IsTargetOfSome p file before) (IsTarget p file t)
    (IsTargetOfSome p file after) c.loop-field.invariant
    c.in_ok-note_type.ensures (λ a h. some_push p file before after t a e h) (λ a s. some_cases p file before after t a e s)
