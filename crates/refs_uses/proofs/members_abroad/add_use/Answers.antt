-- The answers to the goals of `members_abroad::add_use`.
use Rattle.std.proofs.Common.{sym, subst, ◌∙◌}
use Rattle.std.specs.Prelude.{slice_get}
use Rattle.std.proofs.lemmas.Bool.{false≢true}
use Rattle.std.proofs.lemmas.Result.{on_ok_weaker}
use Rattle.go_scope.specs.declared.model.Position.{Position}
use Rattle.types_expr.specs.Found.{use_of}
use Rattle.refs_binding.specs.Identifiers.{NameBegins}
use Rattle.refs_binding.specs.Members.{definitions_known, IsMemberUseOf}
use Rattle.refs_binding.specs.Steps.{AddsPlaces}
use Rattle.refs_binding.proofs.Adding.{adds_as, adds_none}
use Rattle.refs_binding.proofs.Tokens.{Begins, begins_token}
use Rattle.refs_uses.specs.SoughtMembers.{IsPlaceOfSome}
use Rattle.refs_uses.proofs.NameTokens.{name_at_token}
use Rattle.refs_uses.proofs.members_abroad.add_use.Goals as goal

pub returns-then-is_use : goal.returns-then-is_use
returns-then-is_use c =
    let m = use_of c.args.member.now in
    let a = c.args.spots.now.items in
    let b = c.add_place.new.found.items in
    let at : Position = record { file = c.args.file; index = m.place } in
    on_ok_weaker c.add_place.result (λ adds w known p is named.
    let here : AddsPlaces a b (Begins p at) =
    subst (λ fs. AddsPlaces a b (λ place. NameBegins (slice_get fs at.file) at.index place.path place.offset)) is.files adds in
    let bound = (c.is_use.ensures w known p is named).0 c.if-is_use.true in
    adds_as a b (Begins p at) (IsPlaceOfSome c.args.sought.now.set.now (λ d. IsMemberUseOf (definitions_known c.args.of.now.types) p c.args.file d m))
    (λ place begins. record {
      declaration = bound.declaration;
      among = bound.among;
      holds = record { at = name_at_token w known p.path p is.is_package.is_checked at place begins; is_member = bound.is_found };
    })
    (λ place u. begins_token p at place u.holds.at) here) c.add_place.ensures

pub returns-else-is_use : goal.returns-else-is_use
returns-else-is_use c = λ w known p is named.
    adds_none c.args.spots.now.items
    (IsPlaceOfSome c.args.sought.now.set.now (λ d. IsMemberUseOf (definitions_known c.args.of.now.types) p c.args.file d (use_of c.args.member.now)))
    (λ place u. false≢true (sym c.if-is_use.false ∙ (c.is_use.ensures w known p is named).1
    (record { declaration = u.declaration; among = u.among; is_found = u.holds.is_member })))
