-- The answers to the goals of `judged_uses::judge_files`.
use Rattle.std.proofs.Common.{◌≡◌, ◌≤◌, List, length, refl, sym, subst, arith}
use Rattle.std.specs.Prelude.{map, slice_get, Some}
use Rattle.std.specs.Global.{Vec}
use Rattle.types_expr.specs.declared.found.MemberUse.{MemberUse as FoundUse}
use Rattle.std.proofs.lemmas.Option.{slice_get_read}
use Rattle.types_expr.specs.Found.{use_of}
use Rattle.types_info.specs.MemberUses.{AreUsesIn}
use Rattle.workspace_check.proofs.OnePackage.{layout_formed}
use Rattle.refs_binding.specs.Members.{definitions_known}
use Rattle.refs_binding.proofs.MemberParts.{file_uses}
use Rattle.refactor_conflict.specs.Conflicts.{IsConflictIn, IsMemberConflictIn, UsesStay}
use Rattle.refactor_conflict.specs.Staying.{MembersStayIn}
use Rattle.refactor_conflict.proofs.Conflicts.{member_in}
use Rattle.refactor_conflict.proofs.MembersStay.{FileStays, file_stays, no_file_stays}
use Rattle.refactor_members.specs.Judging.{Judges}
use Rattle.refactor_members.specs.Renames.{by, packages_before, rename_revision, verdicts_in, workspace_before}
use Rattle.refactor_members.proofs.Judged.{judged_begin, judged_next, judged_all, judged_as}
use Rattle.refactor_members.proofs.judged_uses.judge_files.Goals as goal

pub loop-file-init : goal.loop-file-init
loop-file-init c = λ edits p known.
    let m = by c.args.m.now edits in
    judged_begin m (IsConflictIn (workspace_before m.of) (verdicts_in m.of) (rename_revision m) p) (FileStays (workspace_before m.of) (verdicts_in m.of)
    (rename_revision m) p)
    c.args.first.now

pub loop-file-preserved : goal.loop-file-preserved
loop-file-preserved c = λ edits p known.
    let m = by c.args.m.now edits in
    let w = workspace_before m.of in
    let v = verdicts_in m.of in
    let r = rename_revision m in
    let Known = packages_before m.of in
    let ds = definitions_known c.args.of.now.types in
    let members = c.args.of.now.members.now in
    let is = known.is_package in
    let formed = layout_formed w v p.path p is.is_checked in
    let file = c.loop-file.file in
    let uses = c.index-of-file.result in
    let at : slice_get members file ≡ Some uses = slice_get_read members (length members) file uses refl (omega arith) c.index-of-file.is in
    let a = c.loop-file.first in
    let b = c.judge_if_concerned.new.first in
    let P = IsConflictIn w v r p in
    let K = FileStays w v r p in
    let judged = file_uses p members known.members file uses at in
    let Told : List FoundUse → Type 0 = λ l. AreUsesIn p file (map use_of l) → Judges m (IsMemberConflictIn Known r ds p file (map use_of l))
    (UsesStay Known r ds p file (map use_of l)) a b in
    let here : Told uses.items =
    subst (λ (x : Vec FoundUse). Told x.items) (sym c.index-of-file.is) (subst Told c.deref.ensures.value (c.in_ok-judge_if_concerned.ensures edits p known)) in
    judged_next m P K file c.args.first.now a b (c.loop-file.invariant edits p known)
    (judged_as m (IsMemberConflictIn Known r ds p file (map use_of uses.items)) P (UsesStay Known r ds p file (map use_of uses.items)) (K file) a b
    (λ knows. member_in w v r p formed ds known.definitions members known.members file uses at)
    (λ knows. file_stays w v r p is formed ds known.definitions members known.members file uses at) (here judged))

pub returns : goal.returns
returns c = λ edits p known.
    let m = by c.args.m.now edits in
    let w = workspace_before m.of in
    let v = verdicts_in m.of in
    let r = rename_revision m in
    let ds = definitions_known c.args.of.now.types in
    let members = c.args.of.now.members.now in
    let is = known.is_package in
    let formed = layout_formed w v p.path p is.is_checked in
    let count = c.loop-file.file in
    let end : count ≡ length members = omega arith in
    judged_all m (IsConflictIn w v r p) (FileStays w v r p) count c.args.first.now c.loop-file.first (MembersStayIn w v r p)
    (λ knows place h u begins. h (p.layout.place u).file u begins refl)
    (λ knows file place le. no_file_stays w v r p is formed ds known.definitions members known.members file place
    (let more : count ≤ file = le in omega (arith, end, more)))
    (c.loop-file.invariant edits p known)
