-- The qualified identifiers of a package: names `N` in `p.N`, where p is bound to an import.
use Rattle.std.specs.Prelude.{ℕ, suc, ◌≡◌, ◌<◌, ◌⊎◌, ◌↔◌, List, Option, Some, MatchOption}
use Rattle.std.specs.Borrow.{Bor}
use Rattle.go_scope.specs.declared.model.Position.{Position}
use Rattle.go_scope.specs.declared.model.Role.TheVariants.{NotLexical}
use Rattle.go_scope.specs.declared.model.Purpose.TheVariants as purpose
use Rattle.types_declared.specs.Package.{Package}
use Rattle.types_declared.specs.Written.{BindsToken, DeclaresImport}
use Rattle.types_info.specs.declared.lists.Qualified.{Qualified}
use Rattle.types_info.specs.declared.lists.Lists.{Lists}
use Rattle.types_info.specs.Lists.{IsListedUnder, path_for, AreWithin}

-- the name at the token is bound to an import of this path
pub record NamesPackage (p : Package) (file token : ℕ) (path : List ℕ) : Type 0 where
  pub import : ℕ
  pub binds : BindsToken p file token import
  pub imports : DeclaresImport p import path

-- u is the name in `p.u`, where p is bound to an import of this path
pub record IsQualifiedByPath (p : Package) (u : ℕ) (path : List ℕ) : Type 0 where
  pub selected : p.layout.role u ≡ NotLexical purpose.Selected
  pub before : ℕ
  pub behind_dot : (p.layout.place u).index ≡ suc (suc before)
  pub named : NamesPackage p (p.layout.place u).file before path

-- found is the only path with the property P, or none where no path has it
abbrev pub IsOnePath : (List ℕ → Type 0) → Option (Bor (List ℕ)) → Type 0
IsOnePath P found = MatchOption found ((path : List ℕ) → P path → ⊥) (λ path. P path.now × ((other : List ℕ) → P other → other ≡ path.now))

-- Found is the declaration to which x is bound in `x.u`: u is qualified by the package that this declaration imports. Where found is none,
-- no package qualifies u.
abbrev pub IsQualifierFound : Package → ℕ → Option ℕ → Type 0
IsQualifierFound p u found =
    MatchOption found ((path : List ℕ) → IsQualifiedByPath p u path → ⊥) (λ d. (path : List ℕ) → IsQualifiedByPath p u path ↔ DeclaresImport p d path)

-- an identifier below n is at the position and is qualified by the package of this path
pub record IsQualifiedAt (p : Package) (n : ℕ) (path : List ℕ) (at : Position) : Type 0 where
  pub identifier : ℕ
  pub below : identifier < n
  pub is_at : p.layout.place identifier ≡ at
  pub behind : IsQualifiedByPath p identifier path

-- the lists have exactly the positions of the qualified identifiers below n, under the paths of the qualifying packages
abbrev pub AreQualifiedBelow : Package → ℕ → List Qualified → Type 0
AreQualifiedBelow p n all = (path : List ℕ) (at : Position) → IsListedUnder all path at ↔ IsQualifiedAt p n path at

-- The lists have exactly the positions of the package's qualified identifiers, under the paths of the qualifying packages.
abbrev pub AreQualified : Package → List Qualified → Type 0
AreQualified p all = AreQualifiedBelow p p.size all

-- each declaration below n that imports a path, and no other, has a list, with this path
pub record AreListsBelow (p : Package) (n : ℕ) (lists : Lists) : Type 0 where
  pub within : AreWithin lists
  pub paths : (d : ℕ) (path : List ℕ) → d < n → (path_for lists d ≡ Some path) ↔ DeclaresImport p d path

-- the position of u was listed, if u is a qualified identifier, and nothing else was
pub record ListsIdentifier (p : Package) (u : ℕ) (old new : Lists) : Type 0 where
  pub lists : AreListsBelow p p.size new
  pub listed : (path : List ℕ) (at : Position) →
      IsListedUnder new.all.items path at ↔ (IsListedUnder old.all.items path at ⊎ (IsQualifiedByPath p u path × (p.layout.place u ≡ at)))
