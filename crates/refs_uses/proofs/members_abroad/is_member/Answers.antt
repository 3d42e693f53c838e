-- The answers to the goals of `members_abroad::is_member`.
use Rattle.std.proofs.Common.{◌≡◌, ℕ, false, List, subst}
use Rattle.std.specs.Prelude.{IsTrue, ◌↔◌, option_map, slice_get}
use Rattle.types_expr.specs.View.{type_of}
use Rattle.types_expr.specs.World.{member_by}
use Rattle.types_expr.specs.WorldView.{member_of, token_spelling}
use Rattle.refs_binding.specs.Binding.{declaration_of}
use Rattle.refs_binding.specs.Members.{definitions_known}
use Rattle.refs_uses.specs.SoughtMembers.{IsBoundToSome}
use Rattle.refs_uses.proofs.SomeMembers.{bound_to_none, bound_to_one}
use Rattle.refs_uses.proofs.members_abroad.is_member.Goals as goal

pub returns-in-None : goal.returns-in-None
returns-in-None c =
    let types = c.args.types in
    let denoted = λ (name : List ℕ). member_by (definitions_known types) types.path.now name (type_of c.args.before.now) in
    let By : List ℕ → Type 0 = λ name. IsTrue false ↔ IsBoundToSome c.args.set.now (option_map declaration_of (denoted name)) in
    let same : token_spelling (slice_get c.as_slice.result.now 0) ≡ c.args.spelling.now = search in
    subst By same (bound_to_none c.args.set.now (denoted (token_spelling (slice_get c.as_slice.result.now 0))) c.in-None.ensures)

pub returns-in-Some : goal.returns-in-Some
returns-in-Some c =
    let types = c.args.types in
    let denoted = λ (name : List ℕ). member_by (definitions_known types) types.path.now name (type_of c.args.before.now) in
    let By : List ℕ → Type 0 = λ name. IsTrue c.is_one_of.result ↔ IsBoundToSome c.args.set.now (option_map declaration_of (denoted name)) in
    let same : token_spelling (slice_get c.as_slice.result.now 0) ≡ c.args.spelling.now = search in
    subst By same
    (bound_to_one c.args.set.now (denoted (token_spelling (slice_get c.as_slice.result.now 0))) (member_of c.in-Some.member) c.is_one_of.result
    c.in-Some.ensures c.is_one_of.ensures)
