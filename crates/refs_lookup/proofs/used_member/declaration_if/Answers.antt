-- The answers to the goals of `used_member::declaration_if`.
use Rattle.std.proofs.lemmas.Result.{IfOk-weaker}
use Rattle.types_expr.specs.Found.{use_of}
use Rattle.types_declared.specs.PackageView.{package_of}
use Rattle.refs_binding.specs.Members.{definitions_seen}
use Rattle.refs_binding.proofs.MemberPlaces.{at_token}
use Rattle.refs_lookup.proofs.used_member.declaration_if.Goals as goal

pub returns-then-found-token : goal.returns-then-found-token
returns-then-found-token c =
    IfOk-weaker c.member_declaration.result _ _
    (λ o e. at_token (definitions_seen c.args.unit c.args.own.now) (package_of c.args.unit) c.args.file c.args.token (use_of c.args.found.now)
    c.if-found-token.true o e) c.member_declaration.ensures
