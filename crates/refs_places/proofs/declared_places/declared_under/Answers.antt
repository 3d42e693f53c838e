-- The answers to the goals of `declared_places::declared_under`.
use Rattle.std.proofs.Common.{◌≡◌, length, ap, sym, subst, ◌∙◌}
use Rattle.std.specs.Prelude.{Some, Contains, slice_get}
use Rattle.std.proofs.lemmas.Option.{slice_get-get_or}
use Rattle.base_lemmas.proofs.Tests.{not_below}
use Rattle.base_files.specs.Packages.{package_paths}
use Rattle.refs_binding.specs.DeclaringPlaces.{HasDeclarationAt}
use Rattle.refs_binding.proofs.PackageNumbers.{no_package}
use Rattle.refs_places.proofs.Declared.{place_under, no_places_there}
use Rattle.refs_places.proofs.declared_places.declared_under.Goals as goal

pub returns-in-None : goal.returns-in-None
returns-in-None c = λ known are place h.
    no_package c.args.workspace.now.graph known c.args.path.now (λ p. HasDeclarationAt p c.args.declaration.now place)
    (subst (λ q. Contains (package_paths c.args.workspace.now.graph) q → ⊥) c.path.ensures c.in-None.ensures) h

pub returns-in-None-get : goal.returns-in-None-get
returns-in-None-get c = λ known are place h.
    let at : slice_get (package_paths c.args.workspace.now.graph) c.in-Some.number ≡ Some c.args.path.now = c.in-Some.ensures ∙ ap Some c.path.ensures in
    no_places_there c.args.workspace.now.graph known c.in-Some.number c.args.path.now c.args.all.now are at
    (not_below c.in-Some.number (length c.args.all.now) c.in-None-get.ensures.lookup.2)

pub returns-in-Some-get : goal.returns-in-Some-get
returns-in-Some-get c = λ known are.
    let all = c.args.all.now in
    let n = c.in-Some.number in
    let places = c.in-Some-get.places.now in
    let at : slice_get (package_paths c.args.workspace.now.graph) n ≡ Some c.args.path.now = c.in-Some.ensures ∙ ap Some c.path.ensures in
    place_under c.args.workspace.now.graph known n c.args.path.now c.args.declaration.now all places c.at.result are at
    (slice_get-get_or all n places c.in-Some-get.ensures.lookup.3.0 ∙ ap Some (sym c.in-Some-get.ensures.lookup.1)) c.at.ensures
