-- The answers to the goals of `field_marks::counting_fields`.
use Rattle.std.proofs.Common.{◌≡◌, length, arith, sym, ap, ◌∙◌}
use Rattle.std.proofs.Math.ListN.{length-map}
use Rattle.types_declared.specs.Package.{spelled}
use Rattle.types_declared.specs.Definitions.{package_fields}
use Rattle.types_members.specs.FieldsView.{field_of, IsFieldNamed}
use Rattle.types_members.specs.MemberNames.{is_noted}
use Rattle.types_declared.specs.PackageView.{package_of}
use Rattle.types_declared.proofs.Items.{item_at}
use Rattle.types_members.proofs.Marking.{marks_none, marks_next}
use Rattle.types_members.proofs.Noting.{IsFirstNamed, names_none, names_next, first_if_new}
use Rattle.types_members.proofs.FieldNames.{field_named, one_name, are_counting}
use Rattle.types_members.proofs.field_marks.counting_fields.Goals as goal

pub loop-field-init : goal.loop-field-init
loop-field-init c =
    let K = IsFieldNamed (package_of c.args.pkg) in
    record {
      names = names_none K (is_noted c.new-names.result) c.new-names.ensures;
      marks =
          marks_none (IsFirstNamed K) c.new-marks.result.items c.new-marks.ensures.items;
    }

pub loop-field-preserved : goal.loop-field-preserved
loop-field-preserved c =
    let p = package_of c.args.pkg in
    let K = IsFieldNamed p in
    let rank = c.loop-field.field-index in
    let f = field_of c.field-item.result in
    let name = spelled p f.file f.name in
    let at = item_at field_of c.args.fields.now (package_fields p) rank c.field-item.result c.requires (omega arith) c.field-item.is in
    let is = field_named p rank f at in
    let only = one_name p rank f at in
    record {
      names = names_next K rank f.definition name (is_noted c.loop-field.names) (is_noted c.note_field.new.names) is only c.in_ok-counts.ensures.noted
          c.loop-field.invariant.names;
      marks = marks_next (IsFirstNamed K) c.loop-field.marks.items c.push.new.self.items rank _ c.in_ok-push.ensures.items
          (first_if_new K rank f.definition name (is_noted c.loop-field.names) _ is only c.in_ok-counts.ensures.added c.loop-field.invariant.names)
          c.loop-field.invariant.marks;
    }

pub returns : goal.returns
returns c =
    let p = package_of c.args.pkg in
    let end : c.loop-field.field-index ≡ length c.args.fields.now = omega arith in
    are_counting p c.loop-field.marks.items c.loop-field.field-index (end ∙ sym (length-map c.args.fields.now field_of) ∙ ap length c.requires)
    c.loop-field.invariant.marks
