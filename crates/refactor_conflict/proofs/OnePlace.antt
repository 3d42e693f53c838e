-- A declaration of a workspace has one place, by its scopes.
use Rattle.std.proofs.Common.{ℕ, ◌≡◌, List, sym, subst, ◌∙◌}
use Rattle.std.specs.Prelude.{slice_get}
use Rattle.base_files.specs.Workspace.{Workspace}
use Rattle.base_files.specs.declared.place.Place.{Place}
use Rattle.types_declared.specs.Package.{Package}
use Rattle.refs_binding.specs.declared.declaration.Declaration.{Declaration}
use Rattle.refs_binding.specs.declared.declaration.Declaration.TheVariants.{Predeclared, Declared, Field, Method}
use Rattle.refactor_conflict.specs.ScopedPackages.{IsScopedIn}
use Rattle.refs_binding.specs.DeclaringPlaces.{InPackage, TokenAt, HasDeclarationAt, IsDeclaredAt}
use Rattle.refs_places.proofs.Declared.{one_scope_place}
use Rattle.refs_places.proofs.Starts.{token_once}
use Rattle.refactor_conflict.proofs.OneScoped.{one_scoped}
use Rattle.refactor_conflict.specs.ScopesAfter.{IsBindable}

-- A declaration has one place.
one_under : (w : Workspace) (path : List ℕ) (d : ℕ) (a b : Place) → InPackage (IsScopedIn w) path (λ p. HasDeclarationAt p (Declared path d) a) →
    InPackage (IsScopedIn w) path (λ p. HasDeclarationAt p (Declared path d) b) → a ≡ b
one_under w path d a b h k =
    let same : h.inside ≡ k.inside = one_scoped w h.inside k.inside h.is_package k.is_package (h.of_path ∙ sym k.of_path) in
    let p = k.inside in
    let x : HasDeclarationAt p (Declared path d) a = subst (λ (q : Package). HasDeclarationAt q (Declared path d) a) same h.holds in
    let y = k.holds in
    token_once (slice_get p.files y.at.file) y.at.index a b
    (subst (λ at. TokenAt p at a) (one_scope_place p d x.at y.at x.is_at y.is_at) x.begins) y.begins

pub only_place : (w : Workspace) (e : Declaration) → IsBindable w e → (a b : Place) → IsDeclaredAt (IsScopedIn w) e a → IsDeclaredAt (IsScopedIn w) e b → a ≡ b
only_place w (Predeclared n) counts a b h k = absurd h
only_place w (Declared path d) counts a b h k = one_under w path d a b h k
only_place w (Field s) counts a b h k = absurd counts
only_place w (Method s) counts a b h k = absurd counts
