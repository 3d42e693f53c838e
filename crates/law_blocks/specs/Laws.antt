-- The laws: blocks, scopes and bindings of a package are those that ranges of tokens give.
use Rattle.std.specs.Prelude.{ℕ, ◌≡◌, ◌<◌, ◌↔◌, ◌⊎◌, List, map, Option, None, true}
use Rattle.go_scope.specs.declared.model.Block.{Block}
use Rattle.go_scope.specs.declared.model.Block.TheVariants.{Package, File}
use Rattle.go_scope.specs.declared.model.Scope.{Scope}
use Rattle.go_scope.specs.Bindings.{Layout, Names, MayDeclare, IsLeftName, IsBoundTo, is_use, block_of, start_of, scope_of}
use Rattle.go_scope.specs.FileSites.{SpelledFile, package_sites}
use Rattle.go_scope.specs.Named.{named_sites, with_names}
use Rattle.go_scope.specs.Packages.{scoped, layout_in, names_in, IsBoundIn}
use Rattle.go_scope.specs.SpelledFiles.{spelled_file}
use Rattle.go_ast.specs.SourceFile.{FileParts}
use Rattle.go_scope.specs.Scopes.{Holds, IsInside}
use Rattle.go_scope.specs.Site.{sites_layout}
use Rattle.go_scope.specs.Trees.{IsNumbered, AreNumbered}
use Rattle.law_blocks.specs.Ranges.{file_blocks}
use Rattle.law_blocks.specs.Lookup.{NestOrAreApart, IsBlockAt, IsBlockOf, IsStartOf, IsScopeOf}

-- The layout of the identifiers of these files, where an import without a name declares the one that `imported` gives for its number, if
-- any.
abbrev pub layout_for : (ℕ → Option (List ℕ)) → List SpelledFile → Layout
layout_for imported fs = sites_layout (named_sites imported (package_sites fs))

-- Where no import is given a name, the layout is that of the files alone.
abbrev pub PlainFilesAreLaid : Type 0
PlainFilesAreLaid = (fs : List SpelledFile) → layout_for (λ u. None) fs ≡ sites_layout (package_sites fs)

-- Each declaration has the block that ranges give to its token, and no other.
abbrev pub BlocksAreRanges : Type 0
BlocksAreRanges = (imported : ℕ → Option (List ℕ)) (fs : List SpelledFile) → AreNumbered fs → (d : ℕ) → MayDeclare (layout_for imported fs) d → (b : Block) →
    (block_of ((layout_for imported fs).role d) ≡ b) ↔ IsBlockOf fs (layout_for imported fs) d b

-- The scope of each declaration begins at the token that ranges give, and at no other.
abbrev pub StartsAreEndsOfSpecs : Type 0
StartsAreEndsOfSpecs = (imported : ℕ → Option (List ℕ)) (fs : List SpelledFile) → AreNumbered fs → (d : ℕ) → MayDeclare (layout_for imported fs) d → (k : ℕ) →
    (start_of ((layout_for imported fs).role d) ≡ k) ↔ IsStartOf fs (layout_for imported fs) d k

-- So each declaration has the scope that ranges give.
abbrev pub ScopesAreRanges : Type 0
ScopesAreRanges = (imported : ℕ → Option (List ℕ)) (fs : List SpelledFile) → AreNumbered fs → (d : ℕ) → MayDeclare (layout_for imported fs) d → (s : Scope) →
    (scope_of ((layout_for imported fs).role d) ≡ s) ↔ IsScopeOf fs (layout_for imported fs) d s

-- Of any two blocks of a file one ends before the other begins, or surrounds it.
abbrev pub BlocksNestOrAreApart : Type 0
BlocksNestOrAreApart = (f : SpelledFile) → IsNumbered f → NestOrAreApart (file_blocks f.tree)

-- Each token of a file has one block, and no other.
abbrev pub TokensHaveOneBlock : Type 0
TokensHaveOneBlock = (rank : ℕ) (f : SpelledFile) → IsNumbered f → (t : ℕ) →
    (b : Block) × (IsBlockAt rank f.tree t b × ((c : Block) → IsBlockAt rank f.tree t c → c ≡ b))

-- Bindings by ranges. Of the roles of identifiers only their kinds count: a use, a declaration, a left name of `:=`, a predeclared name.

-- d and e are declared in one block
abbrev pub ShareBlock : List SpelledFile → Layout → ℕ → ℕ → Type 0
ShareBlock fs l d e = (b : Block) × (IsBlockOf fs l d b × IsBlockOf fs l e b)

-- the identifier u is in the scope of the declaration d
abbrev pub LiesInScope : List SpelledFile → Layout → ℕ → ℕ → Type 0
LiesInScope fs l d u = (s : Scope) × (IsScopeOf fs l d s × Holds s (l.place u))

-- d declares. A left name of `:=` does so unless it is in the scope of a declaration of its name in the same block.
pub record DeclaresByRanges (fs : List SpelledFile) (l : Layout) (names : Names) (d : ℕ) : Type 0 where
  pub may : MayDeclare l d
  pub is_new : IsLeftName l d → (e : ℕ) → MayDeclare l e → ShareBlock fs l e d → names e ≡ names d → LiesInScope fs l e d → ⊥

-- e keeps d from counting: e comes first in the same block, or d is an import and e is in the package block
abbrev pub DisplacesByRanges : List SpelledFile → Layout → ℕ → ℕ → Type 0
DisplacesByRanges fs l e d =
    (ShareBlock fs l e d × (e < d)) ⊎ (IsBlockOf fs l e Package × ((f : ℕ) × IsBlockOf fs l d (File f)))

-- d declares, and no other declaration of its name displaces it
pub record CountsByRanges (fs : List SpelledFile) (l : Layout) (names : Names) (d : ℕ) : Type 0 where
  pub declares : DeclaresByRanges fs l names d
  pub first : (e : ℕ) → DeclaresByRanges fs l names e → names e ≡ names d → DisplacesByRanges fs l e d → ⊥

-- The name at the identifier u is that of the declaration d, whose scope `scope` holds u. The scope of every other declaration of the name
-- that counts and holds u includes it.
pub record IsNearestRange (fs : List SpelledFile) (l : Layout) (names : Names) (name : List ℕ) (u d : ℕ) : Type 0 where
  pub counts : CountsByRanges fs l names d
  pub named : names d ≡ name
  pub scope : Scope
  pub ranged : IsScopeOf fs l d scope
  pub holds : Holds scope (l.place u)
  pub innermost : (e : ℕ) (s : Scope) → CountsByRanges fs l names e → names e ≡ name → IsScopeOf fs l e s →
      Holds s (l.place u) → IsInside scope s

-- u is a use, or a left name of `:=` that declares nothing
abbrev pub IsUseByRanges : List SpelledFile → Layout → Names → ℕ → Type 0
IsUseByRanges fs l names u = (is_use (l.role u) ≡ true) ⊎ (IsLeftName l u × (DeclaresByRanges fs l names u → ⊥))

-- u is a use of the declaration d by the ranges, or d itself
abbrev pub IsBoundByRanges : List SpelledFile → Layout → Names → ℕ → ℕ → Type 0
IsBoundByRanges fs l names u d = (IsUseByRanges fs l names u × IsNearestRange fs l names (names u) u d) ⊎ ((u ≡ d) × CountsByRanges fs l names d)

-- An identifier is bound to a declaration exactly if the ranges of tokens say so.
abbrev pub BindingsAreRanges : Type 0
BindingsAreRanges = (imported : ℕ → Option (List ℕ)) (fs : List SpelledFile) → AreNumbered fs → (names : Names) → (u d : ℕ) →
    IsBoundTo (layout_for imported fs) names u d ↔ IsBoundByRanges fs (layout_for imported fs) names u d

-- So it is in a package, some of whose imports without a name are given one.
abbrev pub PackagesAreBoundByRanges : Type 0
PackagesAreBoundByRanges = (imported : ℕ → Option (List ℕ)) (files : List FileParts) → AreNumbered (map spelled_file files) → (u d : ℕ) →
    let p = with_names imported (scoped files) in
    IsBoundIn p u d ↔ IsBoundByRanges (map spelled_file files) (layout_in p) (names_in p) u d
