-- The answers to the goals of `recursion::held`.
use Rattle.std.proofs.Common.{◌≡◌, length, arith}
use Rattle.go_ast.specs.FileView.{type_spec_view}
use Rattle.types_declared.specs.DeclaredView.{type_of}
use Rattle.types_declared.specs.Package.{package_types}
use Rattle.types_declared.specs.PackageView.{package_of}
use Rattle.types_declared.proofs.Breaking.{definition_count}
use Rattle.types_declared.proofs.Items.{item_at}
use Rattle.types_members.proofs.Holding.{held_none, held_next, held_all}
use Rattle.types_members.proofs.recursion.held.Goals as goal

pub loop-rank-init : goal.loop-rank-init
loop-rank-init c = held_none (package_of c.args.pkg) c.new-links.result.items c.new-links.ensures.items

pub loop-rank-preserved : goal.loop-rank-preserved
unfolding type_spec_view
loop-rank-preserved c =
    let p = package_of c.args.pkg in
    let items = c.args.index.now.declared.types.items in
    held_next p c.loop-rank.links.items c.push.new.self.items c.loop-rank.rank _ (type_of c.index-definition.result.now) c.in_ok-push.ensures.items
    (item_at type_of items (package_types p) c.loop-rank.rank c.index-definition.result.now c.requires.types
    (omega (arith, c.loop-rank-test.true, c.len-rank-end.ensures)) c.index-definition.ensures) c.in_ok-held_by.ensures c.loop-rank.invariant

pub returns : goal.returns
returns c =
    let p = package_of c.args.pkg in
    let items = c.args.index.now.declared.types.items in
    let count : length items ≡ length (package_types p) = definition_count p items c.requires.types in
    let n : c.len-rank-end.result ≡ length items = omega (arith, c.len-rank-end.ensures) in
    held_all p c.loop-rank.links.items c.loop-rank.rank (omega arith) c.loop-rank.invariant
