-- The answers to the goals of `judged_names::judge_methods`.
use Rattle.std.proofs.Common.{subst}
use Rattle.std.proofs.lemmas.Result.{on_ok_weaker}
use Rattle.refactor_conflict.specs.MembersFound.{IsRankFound}
use Rattle.refactor_conflict.specs.Conflicts.{IsConflictIn}
use Rattle.refactor_members.specs.Judging.{ListedMethodStays, MethodsStayOf}
use Rattle.refactor_members.specs.Naming.{HasMethod, IsFirstOld, IsRenamedMethod}
use Rattle.refactor_members.specs.Renames.{by, rename_revision, verdicts_in, workspace_before}
use Rattle.refactor_members.proofs.Judged.{judged_both}
use Rattle.refactor_members.proofs.NamesStay.{methods_stay}
use Rattle.refactor_members.proofs.Renamed.{method_is_named, old_method_named}
use Rattle.refactor_members.proofs.judged_names.judge_methods.Goals as goal

pub returns : goal.returns
returns c =
    on_ok_weaker c.judge_method-2.result (λ second edits p is of.
    let m = by c.args.d.now.rename.now edits in
    let s = c.args.d.now.of.now in
    let old = c.old_method.result in
    let also = c.renamed_method.result in
    let k = is.is_package in
    let was = c.old_method.ensures.old p k of in
    judged_both m (IsConflictIn (workspace_before m.of) (verdicts_in m.of) (rename_revision m) p) (ListedMethodStays m p old) (ListedMethodStays m p also)
    (MethodsStayOf m p s.rank) c.args.first.now c.judge_method.new.first c.judge_method-2.new.first
    (λ knows place. methods_stay m p k s.package of s.rank old also was c.renamed_method.ensures knows place)
    (c.in_ok-judge_method.ensures edits p is of
    (λ knows rank e. old_method_named m knows p k s.rank rank (subst (IsFirstOld (HasMethod p s.rank m.of.name.now)) e was).has))
    (second edits p is of
    (λ knows rank e. method_is_named m knows p k s.package of s.rank rank (subst (IsRankFound (IsRenamedMethod m.of s)) e c.renamed_method.ensures))))
    c.judge_method-2.ensures
