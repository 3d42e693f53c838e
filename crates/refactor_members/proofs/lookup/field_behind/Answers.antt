-- The answers to the goals of `lookup::field_behind`.
use Rattle.std.proofs.lemmas.Result.{IfOk-weaker}
use Rattle.types_expr.specs.View.{type_of}
use Rattle.types_expr.specs.WorldView.{underlying_in}
use Rattle.refactor_conflict.proofs.FieldsAfter.{no_field_behind, field_behind}
use Rattle.refactor_members.specs.Renames.{by, packages_before, rename_revision}
use Rattle.refactor_members.proofs.lookup.field_behind.Goals as goal

pub returns-in-None : goal.returns-in-None
returns-in-None c = λ edits knows.
    let m = by c.args.m.now edits in
    no_field_behind (packages_before m.of) (rename_revision m) c.args.own.now m.of.name.now (underlying_in c.args.world.now) (type_of c.args.before.now)
    c.in-None.ensures

pub returns-in-Some : goal.returns-in-Some
returns-in-Some c =
    IfOk-weaker c.field_of.result _ _ (λ found e edits knows.
    let m = by c.args.m.now edits in
    field_behind (packages_before m.of) (rename_revision m) c.args.own.now m.of.name.now (underlying_in c.args.world.now) (type_of c.args.before.now)
    c.in-Some.of.now
    c.in-Some.ensures
    c.field.result (c.field.ensures edits knows) found e) c.field_of.ensures
