-- The answers to the goals of `declared_place::field_name_place`.
use Rattle.std.proofs.Common.{ap, subst, ◌∙◌}
use Rattle.std.specs.Prelude.{None, slice_index_or}
use Rattle.std.proofs.lemmas.Result.{IfOk-weaker}
use Rattle.types_declared.specs.PackageView.{package_of}
use Rattle.refs_binding.specs.Steps.{AtFound}
use Rattle.refs_places.specs.DeclaredPlaces.{IsChoice}
use Rattle.refactor_members.proofs.Homes.{field_name}
use Rattle.refactor_members.proofs.declared_place.field_name_place.Goals as goal

pub returns : goal.returns
returns c =
    let p = package_of c.args.unit in
    let rank = c.args.rank in
    IfOk-weaker c.found_beginning.result _ _
    (λ found h.
    field_name p rank _ (c.in_ok-places.ensures rank) found (subst (λ o. IsChoice (AtFound p o) found) (c.place_of.ensures ∙ ap
    (λ l. slice_index_or l rank None) c.deref.ensures.value) h))
    c.found_beginning.ensures
