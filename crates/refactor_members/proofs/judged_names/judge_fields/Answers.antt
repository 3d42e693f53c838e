-- The answers to the goals of `judged_names::judge_fields`.
use Rattle.std.proofs.Common.{subst}
use Rattle.std.proofs.lemmas.Result.{on_ok_weaker}
use Rattle.refactor_conflict.specs.MembersFound.{IsRankFound}
use Rattle.refactor_conflict.specs.Conflicts.{IsConflictIn}
use Rattle.refactor_members.specs.Judging.{ListedFieldStays, FieldsStayOf}
use Rattle.refactor_members.specs.Naming.{HasField, IsFirstOld, IsRenamedField}
use Rattle.refactor_members.specs.Renames.{by, rename_revision, verdicts_in, workspace_before}
use Rattle.refactor_members.proofs.Judged.{judged_both}
use Rattle.refactor_members.proofs.NamesStay.{fields_stay}
use Rattle.refactor_members.proofs.Renamed.{field_is_named, old_field_named}
use Rattle.refactor_members.proofs.judged_names.judge_fields.Goals as goal

pub returns : goal.returns
returns c =
    on_ok_weaker c.judge_field-2.result (λ second edits p is of.
    let m = by c.args.d.now.rename.now edits in
    let s = c.args.d.now.of.now in
    let old = c.old_field.result in
    let also = c.renamed_field.result in
    let k = is.is_package in
    let was = c.old_field.ensures.old p k of in
    judged_both m (IsConflictIn (workspace_before m.of) (verdicts_in m.of) (rename_revision m) p) (ListedFieldStays m p old) (ListedFieldStays m p also)
    (FieldsStayOf m p s.rank) c.args.first.now c.judge_field.new.first c.judge_field-2.new.first
    (λ knows place. fields_stay m p k s.package of s.rank old also was c.renamed_field.ensures knows place)
    (c.in_ok-judge_field.ensures edits p is of
    (λ knows rank e. old_field_named m knows p k s.rank rank (subst (IsFirstOld (HasField p s.rank m.of.name.now)) e was).has))
    (second edits p is of
    (λ knows rank e. field_is_named m knows p k s.package of s.rank rank (subst (IsRankFound (IsRenamedField m.of s)) e c.renamed_field.ensures))))
    c.judge_field-2.ensures
