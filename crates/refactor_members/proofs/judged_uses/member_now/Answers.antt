-- The answers to the goals of `judged_uses::member_now`.
use Rattle.std.proofs.Common.{subst}
use Rattle.std.proofs.lemmas.Result.{IfOk-weaker}
use Rattle.types_expr.specs.View.{type_of}
use Rattle.types_expr.specs.declared.symbol.Symbol.{Symbol}
use Rattle.types_expr.specs.Types.{Underlying}
use Rattle.refs_binding.specs.Members.{definitions_known}
use Rattle.refs_binding.specs.Steps.{IsDeclarationResult}
use Rattle.refactor_conflict.specs.MembersAfter.{IsMemberAfter}
use Rattle.refactor_members.specs.Renames.{by, packages_before, rename_revision}
use Rattle.refactor_members.proofs.judged_uses.member_now.Goals as goal

pub returns : goal.returns
returns c =
    IfOk-weaker c.member.result _ _ (λ found h edits knows.
    let m = by c.args.m.now edits in
    let types : Symbol → Underlying = λ s. (definitions_known c.args.types s).underlying in
    subst (λ own. IsDeclarationResult (IsMemberAfter (packages_before m.of) (rename_revision m) own m.of.name.now types (type_of c.args.before.now)) found)
    c.path.ensures
    (subst (λ d. IsDeclarationResult (IsMemberAfter (packages_before m.of) (rename_revision m) c.path.result.now m.of.name.now d (type_of
    c.args.before.now)) found)
    c.known_world-world.ensures (h edits knows))) c.member.ensures
