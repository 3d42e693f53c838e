-- The answers to the goals of `faults::add_methods`.
use Rattle.std.proofs.Common.{◌≡◌, ◌<◌, length, arith, sym, ap, ◌∙◌}
use Rattle.std.specs.Prelude.{None, slice_index_or, false}
use Rattle.std.proofs.Math.ListN.{length-map}
use Rattle.go_ast.specs.FileView.{func_view}
use Rattle.types_declared.proofs.ItemFaults.{below_none, below_next}
use Rattle.types_declared.specs.Package.{package_functions}
use Rattle.types_declared.specs.DeclaredView.{function_of}
use Rattle.types_declared.specs.PackageView.{package_of}
use Rattle.types_declared.proofs.Items.{item_at}
use Rattle.types_members.proofs.Displacing.{by_test, method_fault, of_method_fault, all_method_faults, IsMethodFault}
use Rattle.types_members.proofs.faults.add_methods.Goals as goal

pub loop-rank-init : goal.loop-rank-init
loop-rank-init c = below_none (IsMethodFault (package_of c.args.pkg)) c.args.found.now.items

pub loop-rank-preserved : goal.loop-rank-preserved
unfolding func_view
loop-rank-preserved c =
    let p = package_of c.args.pkg in
    let items = c.args.index.now.declared.functions.items in
    let rank = c.loop-rank.rank in
    let x = function_of c.index-function.result.now in
    let here : rank < length items = omega (arith, c.loop-rank-test.true, c.len-rank-end.ensures) in
    let at = item_at function_of items (package_functions p) rank c.index-function.result.now c.requires.index.functions here c.index-function.ensures in
    let within : rank < length (package_functions p) = omega (arith, length-map items function_of, ap length c.requires.index.functions) in
    let counts = slice_index_or c.args.counting.now rank false in
    let owner = slice_index_or c.args.owners.now rank None in
    let says = c.requires.counting.each rank within in
    let has = c.requires.owners.each rank within in
    below_next (IsMethodFault p) c.args.found.now.items c.loop-rank.found.items c.push_if.new.found.items rank c.loop-rank.invariant
    (by_test c.loop-rank.found.items c.push_if.new.found.items _ _ (IsMethodFault p rank) c.in_ok-push_if.ensures
    (λ t. method_fault p rank x owner counts at has says (sym c.is_displaced.ensures ∙ t))
    (λ f k. let parts = of_method_fault p rank x owner counts at has says f k in (c.is_displaced.ensures ∙ parts.0, parts.1)))

pub returns : goal.returns
returns c =
    let items = c.args.index.now.declared.functions.items in
    let end : c.loop-rank.rank ≡ length items = omega (arith, c.len-rank-end.ensures) in
    all_method_faults (package_of c.args.pkg) c.is_well_formed.ensures c.args.found.now.items c.loop-rank.found.items c.loop-rank.rank
    (end ∙ sym (length-map items function_of) ∙ ap length c.requires.index.functions) c.loop-rank.invariant
