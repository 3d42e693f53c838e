-- The answers to the goals of `judged_uses::judge_file`.
use Rattle.std.proofs.Common.{◌≡◌, ◌<◌, length, arith}
use Rattle.std.specs.Prelude.{map, slice_get, Some}
use Rattle.std.proofs.Math.ListN.{length-map}
use Rattle.std.proofs.lemmas.Option.{slice_get_within, get_or_from_slice_get}
use Rattle.types_expr.specs.Found.{use_of}
use Rattle.refs_binding.specs.Members.{definitions_known}
use Rattle.refs_binding.proofs.MemberPlaces.{use_at}
use Rattle.refactor_conflict.specs.Conflicts.{IsMemberConflict, IsMemberConflictIn, UseStays, UsesStay}
use Rattle.refactor_conflict.proofs.Conflicts.{among}
use Rattle.refactor_conflict.proofs.MembersStay.{RankStays, rank_stays}
use Rattle.refactor_members.specs.Renames.{by, packages_before, rename_revision}
use Rattle.refactor_members.proofs.Judged.{judged_begin, judged_next, judged_all, judged_as}
use Rattle.refactor_members.proofs.judged_uses.judge_file.Goals as goal

pub loop-k-init : goal.loop-k-init
loop-k-init c = λ edits p known us.
    let m = by c.args.m.now edits in
    let ds = definitions_known c.args.of.now.types in
    let uses = map use_of c.args.uses.now in
    judged_begin m (IsMemberConflictIn (packages_before m.of) (rename_revision m) ds p c.args.file uses)
    (RankStays (packages_before m.of) (rename_revision m) ds p c.args.file uses) c.args.first.now

pub loop-k-preserved : goal.loop-k-preserved
loop-k-preserved c = λ edits p known us.
    let m = by c.args.m.now edits in
    let Known = packages_before m.of in
    let r = rename_revision m in
    let ds = definitions_known c.args.of.now.types in
    let file = c.args.file in
    let uses = map use_of c.args.uses.now in
    let k = c.loop-k.k in
    let x = c.index-uses-k.result in
    let a = c.loop-k.first in
    let b = c.judge_use.new.first in
    let P = IsMemberConflictIn Known r ds p file uses in
    let K = RankStays Known r ds p file uses in
    let at : slice_get uses k ≡ Some (use_of x) = use_at c.args.uses.now k x (omega arith) c.index-uses-k.is in
    judged_next m P K k c.args.first.now a b (c.loop-k.invariant edits p known us)
    (judged_as m (IsMemberConflict Known r ds p file (use_of x)) P (UseStays Known r ds p file (use_of x)) (K k) a b
    (λ knows. among Known r ds p file uses k (use_of x) at) (λ knows. rank_stays Known r ds p file uses k (use_of x) at)
    (c.in_ok-judge_use.ensures edits p known (record {
      uses = uses;
      judged = us;
      among = (k, slice_get_within uses k (use_of x) at, get_or_from_slice_get uses k (use_of x) (use_of x) at);
    })))

pub returns : goal.returns
returns c = λ edits p known us.
    let m = by c.args.m.now edits in
    let Known = packages_before m.of in
    let r = rename_revision m in
    let ds = definitions_known c.args.of.now.types in
    let file = c.args.file in
    let uses = map use_of c.args.uses.now in
    let size : length uses ≡ length c.args.uses.now = length-map c.args.uses.now use_of in
    let end : c.loop-k.k ≡ length c.args.uses.now = omega arith in
    judged_all m (IsMemberConflictIn Known r ds p file uses) (RankStays Known r ds p file uses) c.loop-k.k c.args.first.now c.loop-k.first
    (UsesStay Known r ds p file uses) (λ knows place h. h)
    (λ knows k place le x at. let lt : k < length uses = slice_get_within uses k x at in absurd (omega (arith, lt, size, end, le)))
    (c.loop-k.invariant edits p known us)
