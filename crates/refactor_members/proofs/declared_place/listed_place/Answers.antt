-- The answers to the goals of `declared_place::listed_place`.
use Rattle.std.proofs.Common.{sym, subst}
use Rattle.refs_binding.specs.DeclaringPlaces.{HasDeclarationAt}
use Rattle.refactor_members.proofs.declared_place.listed_place.Goals as goal

pub returns-in_ok-clone-in-Some : goal.returns-in_ok-clone-in-Some
returns-in_ok-clone-in-Some c = λ p are.
    let place = c.in-Some.place.now in
    subst (λ q. HasDeclarationAt p c.args.declaration.now (record { path = q; offset = place.offset })) (sym c.in_ok-clone-in-Some.ensures.cases)
    (c.in-Some.ensures p are)
