-- The answers to the goals of `judged_uses::judge_uses`.
use Rattle.std.proofs.Common.{ap, sym, ◌∙◌}
use Rattle.types_declared.specs.Package.{Package}
use Rattle.workspace_check.proofs.OnePackage.{one_sources}
use Rattle.refactor_conflict.specs.Conflicts.{IsConflictIn}
use Rattle.refactor_conflict.specs.Staying.{MembersStayIn}
use Rattle.refactor_members.specs.Renames.{by, rename_revision, verdicts_in, workspace_before}
use Rattle.refactor_members.proofs.Unconcerned.{uncalled_stay}
use Rattle.refactor_members.proofs.Judged.{judged_none}
use Rattle.refactor_members.proofs.judged_uses.judge_uses.Goals as goal

pub returns-else-concerns : goal.returns-else-concerns
returns-else-concerns c = λ edits p is.
    let m = by c.args.m.now edits in
    let w = workspace_before m.of in
    let v = verdicts_in m.of in
    let r = rename_revision m in
    let checked = is.is_package.is_checked in
    let files = one_sources (c.trees.ensures p.path is.has_number) checked.parsed ∙ sym (ap (λ (x : Package). x.files) checked.is_package.is_package) in
    judged_none m (IsConflictIn w v r p) (MembersStayIn w v r p) c.args.first.now
    (λ knows place. uncalled_stay m knows p is.is_package c.members_of.result.now (c.members_of.ensures p is) _ files
    (c.concerns.ensures c.if-concerns.false) place)
