-- The answers to the goals of `own_names::add_named`.
use Rattle.std.proofs.Common.{sym, subst, ◌∙◌}
use Rattle.std.specs.Prelude.{OnOk}
use Rattle.types_declared.specs.PackageView.{package_of}
use Rattle.refs_binding.specs.Steps.{AddsPlaces, AtFound}
use Rattle.refs_binding.proofs.Adding.{adds_none}
use Rattle.refs_uses.proofs.own_names.add_named.Goals as goal

pub returns-in-None : goal.returns-in-None
returns-in-None c =
    subst (λ o. AddsPlaces c.args.found.now.items c.args.found.now.items (AtFound (package_of c.args.unit) o)) (sym c.in-None.is ∙ c.place_of.ensures)
    (adds_none c.args.found.now.items (λ place. ⊥) (λ place h. h))

pub returns-in-Some : goal.returns-in-Some
returns-in-Some c =
    subst (λ o. OnOk c.add_token.result (AddsPlaces c.args.found.now.items c.add_token.new.found.items (AtFound (package_of c.args.unit) o)))
    (sym c.in-Some.is ∙ c.place_of.ensures) c.add_token.ensures
