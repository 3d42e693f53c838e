-- The answers to the goals of `faults::add_recursive`.
use Rattle.std.proofs.Common.{◌≡◌, ◌<◌, length, arith, ◌∙◌}
use Rattle.std.specs.Prelude.{slice_index_or, false}
use Rattle.go_ast.specs.FileView.{type_spec_view}
use Rattle.types_declared.proofs.ItemFaults.{below_none, below_next}
use Rattle.types_declared.specs.Package.{package_types}
use Rattle.types_declared.specs.DeclaredView.{type_of}
use Rattle.types_declared.specs.PackageView.{package_of}
use Rattle.types_declared.proofs.Breaking.{definition_count}
use Rattle.types_declared.proofs.Items.{item_at}
use Rattle.types_members.proofs.Displacing.{by_test, recursion_fault, of_recursion_fault, all_recursion_faults, IsRecursionFault}
use Rattle.types_members.proofs.faults.add_recursive.Goals as goal

pub loop-rank-init : goal.loop-rank-init
loop-rank-init c = below_none (IsRecursionFault (package_of c.args.pkg)) c.args.found.now.items

pub loop-rank-preserved : goal.loop-rank-preserved
unfolding type_spec_view
loop-rank-preserved c =
    let p = package_of c.args.pkg in
    let items = c.args.index.now.declared.types.items in
    let rank = c.loop-rank.rank in
    let x = type_of c.index-definition.result.now in
    let here : rank < length items = omega (arith, c.loop-rank-test.true, c.len-rank-end.ensures) in
    let at = item_at type_of items (package_types p) rank c.index-definition.result.now c.requires.index.types here c.index-definition.ensures in
    let within : rank < length (package_types p) = omega (arith, definition_count p items c.requires.index.types) in
    let marked = slice_index_or c.args.recursive.now rank false in
    let says = c.requires.recursive.each rank within in
    below_next (IsRecursionFault p) c.args.found.now.items c.loop-rank.found.items c.push_if.new.found.items rank c.loop-rank.invariant
    (by_test c.loop-rank.found.items c.push_if.new.found.items _ _ (IsRecursionFault p rank) c.in_ok-push_if.ensures (recursion_fault p rank x marked at says)
    (of_recursion_fault p rank x marked at says))

pub returns : goal.returns
returns c =
    let p = package_of c.args.pkg in
    let items = c.args.index.now.declared.types.items in
    let end : c.loop-rank.rank ≡ length items = omega (arith, c.len-rank-end.ensures) in
    all_recursion_faults p c.args.found.now.items c.loop-rank.found.items c.loop-rank.rank (end ∙ definition_count p items c.requires.index.types)
    c.loop-rank.invariant
