-- The answers to the goals of `lookup::member`.
use Rattle.std.proofs.Common.{subst}
use Rattle.std.proofs.lemmas.Result.{IfOk-weaker}
use Rattle.types_expr.specs.View.{type_of}
use Rattle.types_expr.specs.WorldView.{underlying_in}
use Rattle.refs_binding.specs.Steps.{IsDeclarationResult}
use Rattle.refactor_conflict.specs.MembersFound.{SelectsField}
use Rattle.refactor_conflict.proofs.FieldsAfter.{method_is_member, field_is_member}
use Rattle.refactor_members.specs.Renames.{by, packages_before, rename_revision}
use Rattle.refactor_members.proofs.lookup.member.Goals as goal

pub returns-in-None : goal.returns-in-None
returns-in-None c =
    IfOk-weaker c.method_behind.result _ _ (λ found h edits knows.
    let m = by c.args.m.now edits in
    let Known = packages_before m.of in
    let r = rename_revision m in
    let own = c.args.own.now in
    let u = underlying_in c.args.world.now in
    let t = type_of c.args.before.now in
    method_is_member Known r own m.of.name.now u t
    (subst (IsDeclarationResult (SelectsField Known r own m.of.name.now u t)) c.in-None.is (c.in_ok-field_behind.ensures edits knows)) found (h edits knows))
    c.method_behind.ensures

pub returns-in-Some : goal.returns-in-Some
returns-in-Some c = λ edits knows.
    let m = by c.args.m.now edits in
    let Known = packages_before m.of in
    let r = rename_revision m in
    let own = c.args.own.now in
    let u = underlying_in c.args.world.now in
    let t = type_of c.args.before.now in
    field_is_member Known r own m.of.name.now u t c.in-Some.field
    (subst (IsDeclarationResult (SelectsField Known r own m.of.name.now u t)) c.in-Some.is (c.in_ok-field_behind.ensures edits knows))
