-- The answers to the goals of `lookup::method_behind`.
use Rattle.std.proofs.lemmas.Result.{IfOk-weaker}
use Rattle.types_expr.specs.View.{type_of}
use Rattle.refactor_conflict.proofs.FieldsAfter.{no_method_behind, method_behind}
use Rattle.refactor_members.specs.Renames.{by, packages_before, rename_revision}
use Rattle.refactor_members.proofs.lookup.method_behind.Goals as goal

pub returns-in-None : goal.returns-in-None
returns-in-None c = λ edits knows.
    let m = by c.args.m.now edits in
    no_method_behind (packages_before m.of) (rename_revision m) c.args.own.now m.of.name.now (type_of c.args.before.now) c.in-None.ensures

pub returns-in-Some : goal.returns-in-Some
returns-in-Some c =
    IfOk-weaker c.method_of.result _ _ (λ found e edits knows.
    let m = by c.args.m.now edits in
    method_behind (packages_before m.of) (rename_revision m) c.args.own.now m.of.name.now (type_of c.args.before.now) c.in-Some.of.now c.in-Some.ensures
    c.method.result (c.method.ensures edits knows) found e) c.method_of.ensures
