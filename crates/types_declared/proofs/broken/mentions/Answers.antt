-- The answers to the goals of `broken::mentions`.
use Rattle.std.proofs.Common.{◌≡◌, length, arith, suc}
use Rattle.go_ast.specs.FileView.{type_spec_view}
use Rattle.types_declared.specs.DeclaredView.{type_of}
use Rattle.types_declared.specs.Package.{package_types}
use Rattle.types_declared.specs.PackageView.{package_of}
use Rattle.types_declared.proofs.Breaking.{none_below, one_more, all_mentions, definition_count}
use Rattle.types_declared.proofs.Items.{item_at}
use Rattle.types_declared.proofs.broken.mentions.Goals as goal

pub loop-rank-init : goal.loop-rank-init
loop-rank-init c =
    let p = package_of c.args.pkg in
    let items = c.args.index.now.declared.types.items in
    let count : length items ≡ length (package_types p) = definition_count p items c.requires.types in
    let n : c.len.result ≡ length items = omega (arith, c.len.ensures) in
    let size : length c.in_ok-links.links.items ≡ suc (length (package_types p)) = omega (arith, c.in_ok-links.ensures.size) in
    none_below p c.in_ok-links.links.items size c.in_ok-links.ensures.none

pub loop-rank-preserved : goal.loop-rank-preserved
unfolding type_spec_view
loop-rank-preserved c =
    let p = package_of c.args.pkg in
    let items = c.args.index.now.declared.types.items in
    one_more p c.loop-rank.links.items c.note_definition.new.links.items c.loop-rank.rank (type_of c.index.result.now)
    (item_at type_of items (package_types p) c.loop-rank.rank c.index.result.now c.requires.types
    (omega (arith, c.loop-rank-test.true, c.len-rank-end.ensures)) c.index.ensures) c.in_ok-note_definition.ensures
    c.loop-rank.invariant

pub returns : goal.returns
returns c =
    let p = package_of c.args.pkg in
    let items = c.args.index.now.declared.types.items in
    let count : length items ≡ length (package_types p) = definition_count p items c.requires.types in
    let n : c.len-rank-end.result ≡ length items = omega (arith, c.len-rank-end.ensures) in
    all_mentions p c.loop-rank.links.items c.loop-rank.rank (omega arith) c.loop-rank.invariant
