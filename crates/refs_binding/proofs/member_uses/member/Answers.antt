-- The answers to the goals of `member_uses::member`.
use Rattle.std.proofs.Common.{◌≡◌, subst}
use Rattle.std.specs.Prelude.{option_map, slice_get}
use Rattle.types_expr.specs.View.{type_of}
use Rattle.types_expr.specs.World.{member_by}
use Rattle.types_expr.specs.WorldView.{member_of, token_spelling}
use Rattle.refs_binding.specs.Members.{definitions_by}
use Rattle.refs_binding.proofs.member_uses.member.Goals as goal

pub returns : goal.returns
returns c =
    let path = c.args.unit.path.now in
    subst (λ imported. option_map member_of c.known_member.result ≡
    member_by (definitions_by path c.args.own.now imported) path (token_spelling (slice_get c.args.names.now 0)) (type_of c.args.before.now))
    c.definitions.ensures c.known_member.ensures
