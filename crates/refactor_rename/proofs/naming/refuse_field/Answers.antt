-- The answers to the goals of `naming::refuse_field`.
use Rattle.std.proofs.Common.{◌≡◌, ap, sym, subst, ◌∙◌}
use Rattle.std.specs.Prelude.{None, MatchOption, slice_index_or}
use Rattle.go_scope.specs.declared.model.Position.{Position}
use Rattle.types_declared.specs.PackageView.{package_of}
use Rattle.refs_binding.specs.Binding.{IsFieldAt}
use Rattle.refs_binding.proofs.NamedPlaces.{one_field_place}
use Rattle.refactor_rename.proofs.Refusing.{member_refused}
use Rattle.refactor_rename.proofs.naming.refuse_field.Goals as goal

pub returns : goal.returns
returns c =
    let p = package_of c.args.unit in
    let rank = c.args.symbol.now.rank in
    let same : slice_index_or c.in_ok-places.places.items rank None ≡ c.place_at.result =
    sym (c.place_at.ensures ∙ ap (λ l. slice_index_or l rank None) c.deref.ensures.value) in
    member_refused (IsFieldAt p) p rank c.args.name.now (one_field_place p rank) c.place_at.result c.refuse_at.result
    (subst (λ o. MatchOption o ((at : Position) → IsFieldAt p rank at → ⊥) (λ at. IsFieldAt p rank at)) same (c.in_ok-places.ensures rank)) c.refuse_at.ensures
