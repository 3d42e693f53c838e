-- The answers to the goals of `field_marks::struct_names`.
use Rattle.std.proofs.Common.{◌≡◌, length, arith, subst, sym, ap, ◌∙◌}
use Rattle.std.proofs.Math.ListN.{length-map}
use Rattle.types_declared.specs.Package.{spelled}
use Rattle.types_declared.specs.Definitions.{package_fields}
use Rattle.types_members.specs.FieldsView.{field_of, IsFieldNamed}
use Rattle.types_members.specs.MemberNames.{is_noted, AreNamesBelow}
use Rattle.types_declared.specs.PackageView.{package_of}
use Rattle.types_declared.proofs.Items.{item_at}
use Rattle.types_members.proofs.Noting.{names_none, names_next}
use Rattle.types_members.proofs.FieldNames.{field_named, one_name}
use Rattle.types_members.proofs.field_marks.struct_names.Goals as goal

pub loop-field-init : goal.loop-field-init
loop-field-init c = names_none (IsFieldNamed (package_of c.args.pkg)) (is_noted c.new-names.result) c.new-names.ensures

pub loop-field-preserved : goal.loop-field-preserved
loop-field-preserved c =
    let p = package_of c.args.pkg in
    let rank = c.loop-field.field-index in
    let f = field_of c.field-item.result in
    let at = item_at field_of c.args.fields.now (package_fields p) rank c.field-item.result c.requires (omega arith) c.field-item.is in
    names_next (IsFieldNamed p) rank f.definition (spelled p f.file f.name) (is_noted c.loop-field.names) (is_noted c.note_field.new.names)
    (field_named p rank f at) (one_name p rank f at)
    c.in_ok-note_field.ensures.noted c.loop-field.invariant

pub returns : goal.returns
returns c =
    let p = package_of c.args.pkg in
    let end : c.loop-field.field-index ≡ length c.args.fields.now = omega arith in
    subst (λ n. AreNamesBelow (IsFieldNamed p) n (is_noted c.loop-field.names)) (end ∙ sym (length-map c.args.fields.now field_of) ∙ ap length c.requires)
    c.loop-field.invariant
