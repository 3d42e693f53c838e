-- The answers to the goals of `own_names::field_places`.
use Rattle.std.proofs.Common.{◌≡◌, ◌∙◌, ◌<◌, length, ap, sym, subst, arith}
use Rattle.std.proofs.Math.ListN.{length-map}
use Rattle.types_declared.specs.Definitions.{package_fields}
use Rattle.types_members.specs.FieldsView.{field_of}
use Rattle.types_declared.specs.PackageView.{package_of}
use Rattle.types_declared.proofs.Items.{item_at}
use Rattle.refs_binding.specs.Binding.{IsFieldAt}
use Rattle.refs_binding.proofs.NamedPlaces.{no_places, next_place, all_places, field_within, marked_field, found_place, mark_is}
use Rattle.refs_binding.proofs.own_names.field_places.Goals as goal

pub loop-rank-init : goal.loop-rank-init
loop-rank-init c = no_places (IsFieldAt (package_of c.args.unit)) c.new-places.result.items c.new-places.ensures.items

pub loop-rank-preserved : goal.loop-rank-preserved
loop-rank-preserved c =
    let p = package_of c.args.unit in
    let fields = c.in_ok-fields.fields.items in
    let rank = c.loop-rank.rank in
    let lt : rank < length fields = omega (arith, c.loop-rank-test.true, c.len-rank-end.ensures) in
    let at = item_at field_of fields (package_fields p) rank c.index-field.result.now c.in_ok-fields.ensures lt c.index-field.ensures in
    let within : rank < length (package_fields p) = subst (λ n. rank < n) (sym (length-map fields field_of) ∙ ap length c.in_ok-fields.ensures) lt in
    next_place (IsFieldAt p) rank c.loop-rank.places.items c.push.new.self.items c.marked.result c.in_ok-push.ensures.items
    (found_place (IsFieldAt p rank) c.marked.result _ c.marked.ensures
    (marked_field p rank (field_of c.index-field.result.now) _ at
    (mark_is c.in_ok-marks.marks.items rank c.index.result.now _ (subst (λ n. rank < n) (sym c.in_ok-marks.ensures.all) within) c.index.ensures
    (c.in_ok-marks.ensures.each rank within)))) c.loop-rank.invariant

pub returns : goal.returns
returns c =
    let p = package_of c.args.unit in
    let fields = c.in_ok-fields.fields.items in
    let end : c.loop-rank.rank ≡ length fields = omega (arith, c.len-rank-end.ensures) in
    let size : c.loop-rank.rank ≡ length (package_fields p) = end ∙ sym (length-map fields field_of) ∙ ap length c.in_ok-fields.ensures in
    all_places (IsFieldAt p) c.loop-rank.rank c.loop-rank.places.items (λ rank at is. subst (λ n. rank < n) (sym size) (field_within p rank at is))
    c.loop-rank.invariant
