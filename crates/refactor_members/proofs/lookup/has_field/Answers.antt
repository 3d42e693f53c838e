-- The answers to the goals of `lookup::has_field`.
use Rattle.std.proofs.Common.{subst, sym, ◌∙◌}
use Rattle.std.proofs.lemmas.Bool.{false≢true}
use Rattle.refactor_conflict.proofs.FieldsAfter.{has_no_field, has_the_field}
use Rattle.refactor_conflict.specs.MembersAfter.{IsFieldIn}
use Rattle.refactor_conflict.specs.MembersFound.{IsRankFound}
use Rattle.refactor_members.specs.Renames.{by, packages_before, rename_revision, workspace_before, verdicts_in}
use Rattle.refactor_members.proofs.lookup.has_field.Goals as goal

pub returns-in-None : goal.returns-in-None
returns-in-None c = λ edits knows p is e.
    let m = by c.args.m.now edits in (
      (λ yes. absurd (false≢true yes)),
      (λ k. absurd (has_no_field (workspace_before m.of) (verdicts_in m.of) (rename_revision m) p is c.args.of.now.rank m.of.name.now (c.in-None.ensures p
          is e) k)),
    )

pub returns-in-Some : goal.returns-in-Some
returns-in-Some c = λ edits knows p is e.
    let m = by c.args.m.now edits in
    let n = m.of.name.now in
    let s = c.in-Some.symbol.now in
    let found = subst (λ q. IsRankFound (IsFieldIn (packages_before m.of) (rename_revision m) q n s) c.field.result) (c.path.ensures ∙ sym e)
    (c.field.ensures edits knows) in
    has_the_field (workspace_before m.of) (verdicts_in m.of) (rename_revision m) p is c.args.of.now.rank n s (c.in-Some.ensures p is e) c.field.result found
    c.is_some.result c.is_some.ensures
