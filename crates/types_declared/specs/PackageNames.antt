-- The names of imported packages, and the scope table in which imports without a name declare them.
use Rattle.std.specs.Prelude.{ℕ, ◌≡◌, ◌<◌, true, List, Option, None}
use Rattle.go_ast.specs.SourceFile.{SourceFile}
use Rattle.go_scope.specs.Named.{is_unnamed_import, with_names}
use Rattle.go_scope.specs.Packages.{ScopedPackage}
use Rattle.types_declared.specs.Laid.{Laid, laid_in, IsPathOf}

-- name is the name of the package that the import u imports; none where it isn't known or u has no path
pub record IsPackageName (files : List SourceFile) (name_of : (path : List ℕ) → Option (List ℕ)) (p : Laid) (u : ℕ) (name : Option (List ℕ)) : Type 0 where
  pub known : (path : List ℕ) → IsPathOf files p u path → name ≡ name_of path
  pub unknown : ((path : List ℕ) → IsPathOf files p u path → ⊥) → name ≡ None

-- names gives for each import without a name the name of its package
abbrev pub ArePackageNames : List SourceFile → ((path : List ℕ) → Option (List ℕ)) → Laid → (ℕ → Option (List ℕ)) → Type 0
ArePackageNames files name_of p names = (u : ℕ) → u < p.size → is_unnamed_import (p.layout.role u) ≡ true → IsPackageName files name_of p u (names u)

-- In the table laid each import without a name declares the name of its package, if it is known. All else is as in plain.
pub record IsLaidOver (files : List SourceFile) (name_of : (path : List ℕ) → Option (List ℕ)) (plain laid : ScopedPackage) : Type 0 where
  pub names : ℕ → Option (List ℕ)
  pub are_names : ArePackageNames files name_of (laid_in plain) names
  pub is_named : laid ≡ with_names names plain
