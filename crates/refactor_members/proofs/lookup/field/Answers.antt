-- The answers to the goals of `lookup::field`.
use Rattle.std.proofs.Common.{sym, ◌∙◌}
use Rattle.refactor_conflict.proofs.FieldsAfter.{field_seen, field_unseen}
use Rattle.refactor_members.specs.Renames.{by, packages_before, rename_revision}
use Rattle.refactor_members.proofs.lookup.field.Goals as goal

pub returns-then-is_seen_from : goal.returns-then-is_seen_from
returns-then-is_seen_from c = λ edits knows.
    let m = by c.args.m.now edits in
    let seen = sym c.is_seen_from.ensures ∙ c.if-is_seen_from.true in
    field_seen (packages_before m.of) (rename_revision m) c.args.own.now m.of.name.now c.args.of.now seen c.first_field.result (c.first_field.ensures edits
    knows)

pub returns-else-is_seen_from : goal.returns-else-is_seen_from
returns-else-is_seen_from c = λ edits knows.
    let m = by c.args.m.now edits in
    let unseen = sym c.is_seen_from.ensures ∙ c.if-is_seen_from.false in
    field_unseen (packages_before m.of) (rename_revision m) c.args.own.now m.of.name.now c.args.of.now unseen
