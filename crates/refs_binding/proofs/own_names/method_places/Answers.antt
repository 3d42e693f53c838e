-- The answers to the goals of `own_names::method_places`.
use Rattle.std.proofs.Common.{◌≡◌, ◌∙◌, ◌<◌, length, ap, sym, subst, arith}
use Rattle.std.proofs.Math.ListN.{length-map}
use Rattle.go_ast.specs.FileView.{func_view}
use Rattle.types_declared.specs.DeclaredView.{function_of}
use Rattle.types_declared.specs.Package.{package_functions}
use Rattle.types_declared.specs.PackageView.{package_of}
use Rattle.types_declared.proofs.Items.{item_at}
use Rattle.refs_binding.specs.Binding.{IsMethodAt}
use Rattle.refs_binding.proofs.NamedPlaces.{no_places, next_place, all_places, method_within, marked_method, found_place, mark_is}
use Rattle.refs_binding.proofs.own_names.method_places.Goals as goal

pub loop-rank-init : goal.loop-rank-init
loop-rank-init c = no_places (IsMethodAt (package_of c.args.unit)) c.new-places.result.items c.new-places.ensures.items

pub loop-rank-preserved : goal.loop-rank-preserved
unfolding func_view
loop-rank-preserved c =
    let p = package_of c.args.unit in
    let functions = c.args.index.now.declared.functions.items in
    let rank = c.loop-rank.rank in
    let lt : rank < length functions = omega (arith, c.loop-rank-test.true, c.len-rank-end.ensures) in
    let at = item_at function_of functions (package_functions p) rank c.index-function.result.now c.requires.functions lt c.index-function.ensures in
    let within : rank < length (package_functions p) = subst (λ n. rank < n) (sym (length-map functions function_of) ∙ ap length c.requires.functions) lt in
    next_place (IsMethodAt p) rank c.loop-rank.places.items c.push.new.self.items c.marked.result c.in_ok-push.ensures.items
    (found_place (IsMethodAt p rank) c.marked.result _ c.marked.ensures
    (marked_method p rank (function_of c.index-function.result.now) _ at
    (mark_is c.in_ok-marks.marks.items rank c.index.result.now _ (subst (λ n. rank < n) (sym c.in_ok-marks.ensures.all) within) c.index.ensures
    (c.in_ok-marks.ensures.each rank within)))) c.loop-rank.invariant

pub returns : goal.returns
returns c =
    let p = package_of c.args.unit in
    let functions = c.args.index.now.declared.functions.items in
    let end : c.loop-rank.rank ≡ length functions = omega (arith, c.len-rank-end.ensures) in
    let size : c.loop-rank.rank ≡ length (package_functions p) = end ∙ sym (length-map functions function_of) ∙ ap length c.requires.functions in
    all_places (IsMethodAt p) c.loop-rank.rank c.loop-rank.places.items (λ rank at is. subst (λ n. rank < n) (sym size) (method_within p rank at is))
    c.loop-rank.invariant
