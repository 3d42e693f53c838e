-- The answers to the goals of `first::judge_members`.
use Rattle.std.proofs.lemmas.Result.{on_ok_weaker}
use Rattle.refactor_conflict.specs.Conflicts.{IsConflictIn}
use Rattle.refactor_conflict.specs.Staying.{MembersStayIn, DeclaringNamesStayIn}
use Rattle.refactor_members.specs.Judging.{MembersStayThere}
use Rattle.refactor_members.specs.Renames.{by, rename_revision, verdicts_in, workspace_before}
use Rattle.refactor_members.proofs.Judged.{judged_both}
use Rattle.refactor_members.proofs.first.judge_members.Goals as goal

pub returns : goal.returns
returns c =
    on_ok_weaker c.judge_names.result (λ names edits p is.
    let m = by c.args.m.now edits in
    let w = workspace_before m.of in
    let v = verdicts_in m.of in
    let r = rename_revision m in
    judged_both m (IsConflictIn w v r p) (MembersStayIn w v r p) (DeclaringNamesStayIn w v r p) (MembersStayThere m p)
    c.args.first.now c.judge_uses.new.first c.judge_names.new.first (λ knows place h k. (h, k)) (c.in_ok-judge_uses.ensures edits p is) (names edits p is))
    c.judge_names.ensures
