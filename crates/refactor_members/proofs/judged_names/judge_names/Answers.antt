-- The answers to the goals of `judged_names::judge_names`.
use Rattle.std.proofs.Common.{◌≡◌, ◌≤◌, length, arith}
use Rattle.std.specs.Prelude.{None, slice_get}
use Rattle.std.proofs.lemmas.Option.{slice_get_past}
use Rattle.refactor_conflict.specs.Conflicts.{IsConflictIn}
use Rattle.refactor_conflict.specs.Staying.{DeclaringNamesStayIn}
use Rattle.refactor_members.specs.Judging.{NamesStayOf}
use Rattle.refactor_members.specs.Renames.{by, rename_revision, verdicts_in, workspace_before}
use Rattle.refactor_members.proofs.Faultless.{all_count}
use Rattle.refactor_members.proofs.Judged.{judged_begin, judged_next, judged_all}
use Rattle.refactor_members.proofs.NamesStay.{names_stay, no_fields_past, no_methods_past}
use Rattle.refactor_members.proofs.judged_names.judge_names.Goals as goal

pub loop-rank-init : goal.loop-rank-init
loop-rank-init c = λ edits p is.
    let m = by c.args.m.now edits in
    judged_begin m (IsConflictIn (workspace_before m.of) (verdicts_in m.of) (rename_revision m) p) (NamesStayOf m p) c.args.first.now

pub loop-rank-preserved : goal.loop-rank-preserved
loop-rank-preserved c = λ edits p is.
    let m = by c.args.m.now edits in
    judged_next m (IsConflictIn (workspace_before m.of) (verdicts_in m.of) (rename_revision m) p) (NamesStayOf m p) c.loop-rank.rank c.args.first.now
    c.loop-rank.first
    c.judge_if_concerned.new.first (c.loop-rank.invariant edits p is) (c.in_ok-judge_if_concerned.ensures edits p is (c.own_of-own.ensures p is))

pub returns : goal.returns
returns c = λ edits p is.
    let m = by c.args.m.now edits in
    let w = workspace_before m.of in
    let v = verdicts_in m.of in
    let r = rename_revision m in
    let own = c.own_of-own.result.now in
    let are = c.own_of-own.ensures p is in
    let all = all_count w m.of.workspace.now.findings c.has_no_faults.ensures p is.is_package in
    let count = c.loop-rank.rank in
    let end : count ≡ length own = omega arith in
    judged_all m (IsConflictIn w v r p) (NamesStayOf m p) count c.args.first.now c.loop-rank.first (DeclaringNamesStayIn w v r p)
    (λ knows place h. names_stay m knows p is.is_package place h)
    (λ knows k place le.
    let past : slice_get own k ≡ None = slice_get_past own k (let more : count ≤ k = le in omega (arith, more, end)) in
    (no_fields_past m p all own are k past place, no_methods_past m p all own are k past place))
    (c.loop-rank.invariant edits p is)
