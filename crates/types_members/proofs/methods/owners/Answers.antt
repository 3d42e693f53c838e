-- The answers to the goals of `methods::owners`.
use Rattle.std.proofs.Common.{◌≡◌, length, arith, sym, ap, ◌∙◌}
use Rattle.std.proofs.Math.ListN.{length-map}
use Rattle.types_declared.specs.DeclaredView.{function_of}
use Rattle.types_declared.specs.Package.{package_functions}
use Rattle.types_declared.specs.PackageView.{package_of}
use Rattle.types_declared.proofs.Items.{item_at}
use Rattle.types_members.proofs.Owning.{has_owner, owners_none, owners_next, all_owners}
use Rattle.types_members.proofs.methods.owners.Goals as goal

pub loop-rank-init : goal.loop-rank-init
loop-rank-init c = owners_none (package_of c.args.pkg) c.new-owners.result.items c.new-owners.ensures.items

pub loop-rank-preserved : goal.loop-rank-preserved
loop-rank-preserved c =
    let p = package_of c.args.pkg in
    let items = c.args.index.now.declared.functions.items in
    let rank = c.loop-rank.rank in
    let at = item_at function_of items (package_functions p) rank c.index-function.result.now c.requires.functions
    (omega (arith, c.loop-rank-test.true, c.len-rank-end.ensures)) c.index-function.ensures in
    owners_next p c.loop-rank.owners.items c.push.new.self.items rank c.owner.result c.in_ok-push.ensures.items
    (has_owner p rank (function_of c.index-function.result.now) c.owner.result at c.owner.ensures)
    c.loop-rank.invariant

pub returns : goal.returns
returns c =
    let items = c.args.index.now.declared.functions.items in
    let end : c.loop-rank.rank ≡ length items = omega (arith, c.len-rank-end.ensures) in
    all_owners (package_of c.args.pkg) c.loop-rank.owners.items c.loop-rank.rank
    (end ∙ sym (length-map items function_of) ∙ ap length c.requires.functions) c.loop-rank.invariant
