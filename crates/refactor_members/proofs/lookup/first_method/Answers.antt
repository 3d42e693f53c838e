-- The answers to the goals of `lookup::first_method`.
use Rattle.std.proofs.Common.{sym, ◌∙◌}
use Rattle.std.proofs.lemmas.Bool.{false≢true}
use Rattle.refactor_conflict.proofs.FieldsAfter.{method_first}
use Rattle.refactor_members.specs.Renames.{by, packages_before, rename_revision}
use Rattle.refactor_members.proofs.lookup.first_method.Goals as goal

pub returns-then-has_field : goal.returns-then-has_field
returns-then-has_field c = λ edits knows rank k. k.holds.no_field ((c.has_field.ensures edits knows k.inside k.is_package k.of_path).0 c.if-has_field.true)

pub returns-else-has_field : goal.returns-else-has_field
returns-else-has_field c = λ edits knows.
    let m = by c.args.m.now edits in
    let s = c.args.of.now in
    method_first (packages_before m.of) (rename_revision m) s.package s.rank m.of.name.now
    (λ p is e f. false≢true (sym c.if-has_field.false ∙ (c.has_field.ensures edits knows p is e).1 f)) c.own_method.result (c.own_method.ensures edits knows)
