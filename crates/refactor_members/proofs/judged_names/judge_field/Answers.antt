-- The answers to the goals of `judged_names::judge_field`.
use Rattle.std.proofs.Common.{◌≡◌, ap, sym, subst, ◌∙◌}
use Rattle.std.specs.Prelude.{◌↔◌, IsTrue, Some}
use Rattle.std.proofs.lemmas.Option.{none-some}
use Rattle.std.proofs.lemmas.Result.{on_ok_weaker}
use Rattle.types_expr.specs.declared.symbol.Symbol.{Symbol}
use Rattle.refs_binding.specs.declared.declaration.Declaration.{Declaration}
use Rattle.refs_binding.specs.declared.declaration.Declaration.TheVariants.{Field}
use Rattle.refactor_conflict.specs.MembersAfter.{CountsAfter}
use Rattle.refactor_conflict.specs.OldPlaces.{field_at}
use Rattle.refactor_conflict.specs.Conflicts.{IsConflictIn}
use Rattle.refactor_members.specs.Judging.{JudgesIn, ListedFieldStays, NewNameCounts}
use Rattle.refactor_members.specs.Renames.{by, packages_before, rename_revision, verdicts_in, workspace_before}
use Rattle.refactor_members.proofs.Counting.{field_counts}
use Rattle.refactor_members.proofs.Judged.{judged_as, judged_none}
use Rattle.refactor_members.proofs.NamesStay.{listed_field}
use Rattle.refactor_members.proofs.judged_names.judge_field.Goals as goal

pub returns-in-None : goal.returns-in-None
returns-in-None c = λ edits p is of named.
    let m = by c.args.d.now.rename.now edits in
    judged_none m (IsConflictIn (workspace_before m.of) (verdicts_in m.of) (rename_revision m) p) (ListedFieldStays m p c.args.listed) c.args.first.now
    (λ knows place rank e. absurd (none-some rank (sym c.in-None.is ∙ e)))

pub returns-in_ok-symbol-in-Some : goal.returns-in_ok-symbol-in-Some
returns-in_ok-symbol-in-Some c =
    on_ok_weaker c.judge_member.result (λ h edits p is of named.
    let m = by c.args.d.now.rename.now edits in
    let s = c.args.d.now.of.now in
    let rank = c.in-Some.rank in
    let a = c.args.first.now in
    let b = c.judge_member.new.first in
    let same : Field c.in_ok-symbol-in-Some.field-0 ≡ field_at s.package rank = ap Field c.in_ok-symbol-in-Some.ensures in
    let P = IsConflictIn (workspace_before m.of) (verdicts_in m.of) (rename_revision m) p in
    judged_as m P P (NewNameCounts m p (field_at s.package rank)) (ListedFieldStays m p c.args.listed) a b (λ knows x k. k)
    (λ knows place. listed_field m p s.package of c.args.listed rank c.in-Some.is place)
    (subst (λ (d : Declaration). JudgesIn m p (NewNameCounts m p d) a b) same
    (h edits p is (ap Some (ap (λ (x : Symbol). x.package) c.in_ok-symbol-in-Some.ensures ∙ sym of))
    (λ knows. subst (λ (d : Declaration). IsTrue c.is_rank-counts.result ↔ CountsAfter (packages_before m.of) (rename_revision m) d) (sym same)
    (field_counts m knows p is.is_package s.package of s.rank rank (named knows rank c.in-Some.is) c.first_field.result (c.first_field.ensures edits knows)
    c.is_rank-counts.result c.is_rank-counts.ensures))))) c.judge_member.ensures
