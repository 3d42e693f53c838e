-- The answers to the goals of `faults::add_fields`.
use Rattle.std.proofs.Common.{◌≡◌, ◌<◌, length, arith, sym, ap, ◌∙◌}
use Rattle.std.specs.Prelude.{slice_index_or, false}
use Rattle.std.proofs.Math.ListN.{length-map}
use Rattle.types_declared.proofs.ItemFaults.{below_none, below_next}
use Rattle.types_declared.specs.Definitions.{package_fields}
use Rattle.types_members.specs.FieldsView.{field_of}
use Rattle.types_declared.specs.PackageView.{package_of}
use Rattle.types_declared.proofs.Items.{item_at}
use Rattle.types_members.proofs.Displacing.{by_test, field_fault, of_field_fault, all_field_faults, IsFieldFault}
use Rattle.types_members.proofs.faults.add_fields.Goals as goal

pub loop-rank-init : goal.loop-rank-init
loop-rank-init c = below_none (IsFieldFault (package_of c.args.pkg)) c.args.found.now.items

pub loop-rank-preserved : goal.loop-rank-preserved
loop-rank-preserved c =
    let p = package_of c.args.pkg in
    let rank = c.loop-rank.rank in
    let x = field_of c.index-fields-rank.result in
    let at = item_at field_of c.args.fields.now (package_fields p) rank c.index-fields-rank.result c.requires.fields (omega arith) c.index-fields-rank.is in
    let within : rank < length (package_fields p) = omega (arith, length-map c.args.fields.now field_of, ap length c.requires.fields) in
    let counts = slice_index_or c.args.counting.now rank false in
    let says = c.requires.counting.each rank within in
    below_next (IsFieldFault p) c.args.found.now.items c.loop-rank.found.items c.push_if.new.found.items rank c.loop-rank.invariant
    (by_test c.loop-rank.found.items c.push_if.new.found.items _ _ (IsFieldFault p rank) c.in_ok-push_if.ensures (field_fault p rank x counts at says)
    (of_field_fault p rank x counts at says))

pub returns : goal.returns
returns c =
    let end : c.loop-rank.rank ≡ length c.args.fields.now = omega arith in
    all_field_faults (package_of c.args.pkg) c.args.found.now.items c.loop-rank.found.items c.loop-rank.rank
    (end ∙ sym (length-map c.args.fields.now field_of) ∙ ap length c.requires.fields) c.loop-rank.invariant
