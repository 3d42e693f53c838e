-- The answers to the goals of `judged_names::judge_member`.
use Rattle.refactor_conflict.specs.Conflicts.{IsConflictIn}
use Rattle.refactor_conflict.proofs.KeepingFirst.{call_both}
use Rattle.refactor_members.specs.Judging.{NewNameCounts}
use Rattle.refactor_members.specs.Renames.{by, rename_revision, verdicts_in, workspace_before}
use Rattle.refactor_members.proofs.Judged.{judged_none}
use Rattle.refactor_members.proofs.NamesStay.{lost_unless}
use Rattle.refactor_members.proofs.judged_names.judge_member.Goals as goal

pub returns-then-counts : goal.returns-then-counts
returns-then-counts c = λ edits p is home counts.
    let m = by c.args.d.now.rename.now edits in
    judged_none m (IsConflictIn (workspace_before m.of) (verdicts_in m.of) (rename_revision m) p) (NewNameCounts m p c.args.member.now) c.args.first.now
    (λ knows place at. (counts knows).0 c.if-counts.true)

pub returns : goal.returns
returns c =
    call_both c.lose.result (λ takes behind edits p is home counts.
    let m = by c.args.d.now.rename.now edits in
    lost_unless m p c.args.member.now c.args.first.now c.lose.new.first c.args.counts c.if-counts.false counts (takes p is home) (behind p is home))
    c.lose.ensures.takes c.lose.ensures.behind
