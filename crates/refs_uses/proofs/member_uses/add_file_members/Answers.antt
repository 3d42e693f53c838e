-- The answers to the goals of `member_uses::add_file_members`.
use Rattle.std.proofs.Common.{◌≡◌, ◌∙◌, length, sym, arith}
use Rattle.std.specs.Prelude.{map}
use Rattle.std.proofs.Math.ListN.{length-map}
use Rattle.types_expr.specs.Found.{use_of}
use Rattle.types_declared.specs.PackageView.{package_of}
use Rattle.refs_binding.specs.Members.{definitions_seen, IsMemberUseAt}
use Rattle.refs_binding.proofs.Adding.{below_none, below_next}
use Rattle.refs_binding.proofs.MemberPlaces.{use_at, one_ranked, all_ranked}
use Rattle.refs_uses.proofs.member_uses.add_file_members.Goals as goal

pub loop-k-init : goal.loop-k-init
loop-k-init c = below_none (IsMemberUseAt (definitions_seen c.args.of.now.unit c.args.of.now.own.now) (package_of c.args.of.now.unit) c.args.file
    c.args.declaration.now
    (map use_of c.args.uses.now)) c.args.found.now.items

pub loop-k-preserved : goal.loop-k-preserved
loop-k-preserved c =
    let ds = definitions_seen c.args.of.now.unit c.args.of.now.own.now in
    let p = package_of c.args.of.now.unit in
    let uses = map use_of c.args.uses.now in
    let k = c.loop-k.k in
    let x = c.index-uses-k.result in
    below_next (IsMemberUseAt ds p c.args.file c.args.declaration.now uses) c.args.found.now.items c.loop-k.found.items c.add_member_use.new.found.items k
    c.loop-k.invariant
    (one_ranked ds p c.args.file c.args.declaration.now uses k (use_of x) c.loop-k.found.items c.add_member_use.new.found.items
    (use_at c.args.uses.now k x (omega arith) c.index-uses-k.is) c.in_ok-add_member_use.ensures)

pub returns : goal.returns
returns c =
    let uses = map use_of c.args.uses.now in
    let e : c.loop-k.k ≡ length c.args.uses.now = omega arith in
    all_ranked (definitions_seen c.args.of.now.unit c.args.of.now.own.now) (package_of c.args.of.now.unit) c.args.file c.args.declaration.now uses c.loop-k.k
    c.args.found.now.items c.loop-k.found.items
    (e ∙ sym (length-map c.args.uses.now use_of)) c.loop-k.invariant
