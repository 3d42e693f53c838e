-- The answers to the goals of `judged_names::judge_definition`.
use Rattle.std.proofs.Common.{◌≡◌, ap, sym, subst, ◌∙◌}
use Rattle.std.proofs.lemmas.Result.{on_ok_weaker}
use Rattle.types_expr.specs.declared.symbol.Symbol.{Symbol}
use Rattle.refactor_conflict.specs.Conflicts.{IsConflictIn}
use Rattle.refactor_members.specs.Judging.{JudgesIn, FieldsStayOf, MethodsStayOf, NamesStayOf}
use Rattle.refactor_members.specs.Renames.{by, rename_revision, verdicts_in, workspace_before}
use Rattle.refactor_members.proofs.Judged.{judged_both}
use Rattle.refactor_members.proofs.judged_names.judge_definition.Goals as goal

pub returns : goal.returns
returns c =
    on_ok_weaker c.judge_methods.result (λ methods edits p is.
    let m = by c.args.m.now edits in
    let rank = c.args.rank in
    let a = c.args.first.now in
    let b = c.judge_fields.new.first in
    let e = c.judge_methods.new.first in
    let of : Symbol = c.in_ok-of.of in
    let path : p.path ≡ of.package = sym (ap (λ (s : Symbol). s.package) c.in_ok-of.ensures ∙ c.path_of.ensures p.path is.has_number) in
    let ranks : of.rank ≡ rank = ap (λ (s : Symbol). s.rank) c.in_ok-of.ensures in
    judged_both m (IsConflictIn (workspace_before m.of) (verdicts_in m.of) (rename_revision m) p) (FieldsStayOf m p rank) (MethodsStayOf m p rank)
    (NamesStayOf m p rank)
    a b e (λ knows place h k. (h, k))
    (subst (λ n. JudgesIn m p (FieldsStayOf m p n) a b) ranks (c.in_ok-judge_fields.ensures edits p is path))
    (subst (λ n. JudgesIn m p (MethodsStayOf m p n) b e) ranks (methods edits p is path))) c.judge_methods.ensures
