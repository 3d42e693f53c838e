-- The bindings of packages that a change does not affect.
use Rattle.std.proofs.Common.{ℕ, ◌≡◌, List, sym, ap, subst, ◌∙◌}
use Rattle.std.specs.Prelude.{Some, Contains, slice_get}
use Rattle.std.proofs.lemmas.Option.{same_Some}
use Rattle.base_files.specs.Packages.{package_paths}
use Rattle.base_files.specs.Path.{folder}
use Rattle.base_files.specs.Workspace.{Workspace}
use Rattle.base_files.specs.declared.place.Place.{Place}
use Rattle.workspace_check.specs.Verdicts.{Verdicts, AreVerdicts}
use Rattle.refs_binding.specs.declared.declaration.Declaration.{Declaration}
use Rattle.refs_binding.specs.declared.declaration.Declaration.TheVariants.{Predeclared, Declared, Field, Method}
use Rattle.refs_binding.specs.Uses.{IsCheckedPackage, IsUseOf}
use Rattle.refs_binding.specs.DeclaringPlaces.{InPackage, HasDeclarationAt, IsDeclaredAt}
use Rattle.refs_lookup.specs.Within.{IsDeclaredWithin}
use Rattle.refs_binding.proofs.Folders.{begins_in_folder, file_in_folder}
use Rattle.refs_lookup.proofs.Standing.{token_file, bound_within}
use Rattle.refs_places.specs.Outside.{declaring_path}

-- A declaration of a package is in a file of its folder.
pub record StandsInFolder (w : Workspace) (path : List ℕ) (place : Place) : Type 0 where
  pub in_folder : folder place.path ≡ path
  pub of_workspace : Contains (package_paths w) path

module _ (w : Workspace) (known : Verdicts) (place : Place) where
  package_folder : (path : List ℕ) (d : Declaration) → InPackage (IsCheckedPackage w known) path (λ p. HasDeclarationAt p d place) → StandsInFolder w path place
  package_folder path d h =
      let c = h.inside in
      let f = token_file (slice_get c.files h.holds.at.file) h.holds.at.index place h.holds.begins in
      record {
        in_folder = ap folder (sym f.1.1) ∙ file_in_folder w known c h.is_package h.holds.at.file f.0 f.1.0 ∙ h.of_path;
        of_workspace = subst (Contains (package_paths w)) h.of_path h.is_package.of_workspace;
      }

  pub declared_folder : (d : Declaration) (path : List ℕ) → declaring_path d ≡ Some path → IsDeclaredAt (IsCheckedPackage w known) d place →
      StandsInFolder w path place
  declared_folder (Predeclared n) path e h = absurd h
  declared_folder (Declared q n) path e h = subst (λ p. StandsInFolder w p place) (same_Some q path e) (package_folder q (Declared q n) h)
  declared_folder (Field s) path e h = subst (λ p. StandsInFolder w p place) (same_Some s.package path e) (package_folder s.package (Field s) h)
  declared_folder (Method s) path e h = subst (λ p. StandsInFolder w p place) (same_Some s.package path e) (package_folder s.package (Method s) h)

-- A use is in a file of its package's folder, and is bound to a declaration in the closure of that package.
module _ (w : Workspace) (known : Verdicts) (right : AreVerdicts w known) where
  pub of_use : (d : Declaration) (place : Place) → IsUseOf w known d place → Contains (package_paths w) (folder place.path)
  of_use d place h =
      subst (Contains (package_paths w)) (begins_in_folder w known h.used_in h.is_package place.path place.offset h.user h.begins) h.is_package.of_workspace

  pub use_within : (d : Declaration) (place : Place) → IsUseOf w known d place → IsDeclaredWithin w known (folder place.path) d
  use_within d place h =
      subst (λ p. IsDeclaredWithin w known p d) (begins_in_folder w known h.used_in h.is_package place.path place.offset h.user h.begins)
      (bound_within w known right h.used_in h.is_package h.user d h.bound)
