-- The answers to the goals of `first::judge_package`.
use Rattle.std.proofs.Common.{sym, ◌∙◌}
use Rattle.std.proofs.lemmas.Bool.{false≢true}
use Rattle.refactor_conflict.specs.Conflicts.{IsConflictIn}
use Rattle.refactor_members.specs.Judging.{MembersStayThere}
use Rattle.refactor_members.specs.Renames.{by, rename_revision, verdicts_in, workspace_before}
use Rattle.refactor_members.proofs.Judged.{judged_none}
use Rattle.refactor_members.proofs.first.judge_package.Goals as goal

pub returns-else-is_marked : goal.returns-else-is_marked
returns-else-is_marked c = λ edits p is.
    let m = by c.args.m.now edits in
    judged_none m (IsConflictIn (workspace_before m.of) (verdicts_in m.of) (rename_revision m) p) (MembersStayThere m p) c.args.first.now
    (λ knows place. knows.others c.args.number (λ marked. false≢true (sym c.if-is_marked.false ∙ c.is_marked.ensures.1 marked)) place p is)
