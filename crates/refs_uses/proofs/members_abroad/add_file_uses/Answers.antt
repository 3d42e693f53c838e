-- The answers to the goals of `members_abroad::add_file_uses`.
use Rattle.std.proofs.Common.{◌≡◌, ◌∙◌, length, sym, arith}
use Rattle.std.specs.Prelude.{map}
use Rattle.std.proofs.Math.ListN.{length-map}
use Rattle.types_expr.specs.Found.{use_of}
use Rattle.refs_binding.specs.Members.{definitions_known}
use Rattle.refs_binding.proofs.Adding.{below_none, below_next}
use Rattle.refs_binding.proofs.MemberPlaces.{use_at}
use Rattle.refs_uses.proofs.SomeMembers.{IsUseOfSomeAt, among_some, ranked_some}
use Rattle.refs_uses.proofs.members_abroad.add_file_uses.Goals as goal

pub loop-k-init : goal.loop-k-init
loop-k-init c = λ w known p is named.
    below_none (IsUseOfSomeAt (definitions_known c.args.of.now.types) p c.args.file c.args.sought.now.set.now (map use_of c.args.uses.now))
    c.args.spots.now.items

pub loop-k-preserved : goal.loop-k-preserved
loop-k-preserved c = λ w known p is named.
    let ds = definitions_known c.args.of.now.types in
    let uses = map use_of c.args.uses.now in
    let k = c.loop-k.k in
    let x = c.index-uses-k.result in
    let a = c.loop-k.spots.items in
    let b = c.add_use.new.spots.items in
    below_next (IsUseOfSomeAt ds p c.args.file c.args.sought.now.set.now uses) c.args.spots.now.items a b k (c.loop-k.invariant w known p is named)
    (ranked_some ds p c.args.file c.args.sought.now.set.now uses k (use_of x) a b (use_at c.args.uses.now k x (omega arith) c.index-uses-k.is)
    (c.in_ok-add_use.ensures w known p is named))

pub returns : goal.returns
returns c = λ w known p is named.
    let uses = map use_of c.args.uses.now in
    let e : c.loop-k.k ≡ length c.args.uses.now = omega arith in
    among_some (definitions_known c.args.of.now.types) p c.args.file c.args.sought.now.set.now uses c.loop-k.k c.args.spots.now.items
    c.loop-k.spots.items
    (e ∙ sym (length-map c.args.uses.now use_of)) (c.loop-k.invariant w known p is named)
