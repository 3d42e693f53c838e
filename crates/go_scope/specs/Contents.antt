-- The contents of a package's table: which identifiers declare, and to which declaration each is bound.
use Rattle.std.specs.Prelude.{ℕ, ◌≡◌, ◌<◌, ◌↔◌, List, length, Option, Bool, IsTrue, MatchOption, slice_index_or}
use Rattle.go_scope.specs.Bindings.{Layout, Names, Declares, IsBoundTo}
use Rattle.go_scope.specs.ByToken.{Numbers, AreIdentifiers}
use Rattle.go_scope.specs.Leading.{IsLead}
use Rattle.go_scope.specs.Packages.{ScopedPackage, layout_in, names_in}
use Rattle.go_scope.specs.Numbering.{numerals}
use Rattle.go_scope.specs.OpenBlocks.{AreNameLinks}
use Rattle.go_scope.specs.Table.{layout_of}
use Rattle.go_scope.specs.declared.model.Identifier.{Identifier}
use Rattle.go_scope.specs.declared.declaring.DeclaredIn.{DeclaredIn}

-- `marks` has n items; item d is true exactly if d satisfies P
pub record AreExactMarks (P : ℕ → Type 0) (n : ℕ) (marks : List Bool) : Type 0 where
  pub sized : length marks ≡ n
  pub exact : (d : ℕ) (x : Bool) → d < n → IsTrue (slice_index_or marks d x) ↔ P d

-- `declared` is right for the first n identifiers: their links, which of them declare, and which are the first declaration of their name in
-- their block. `numbers` gives their names' numbers.
pub record AreDeclaredUpTo (xs : List Identifier) (numbers : List ℕ) (n : ℕ) (declared : DeclaredIn) : Type 0 where
  pub links : AreNameLinks xs numbers n declared.links
  pub marks : AreExactMarks (Declares (layout_of xs) (numerals numbers)) n declared.declaring.items
  pub firsts : AreExactMarks (IsLead (layout_of xs) (numerals numbers)) n declared.leading.items

-- `declared` is right for all identifiers
abbrev pub AreDeclared : List Identifier → List ℕ → DeclaredIn → Type 0
AreDeclared xs numbers declared = AreDeclaredUpTo xs numbers (length xs) declared

-- `bound` is the declaration to which u is bound, or none
abbrev pub IsBinding : Layout → Names → ℕ → Option ℕ → Type 0
IsBinding l names u bound = MatchOption bound ((d : ℕ) → IsBoundTo l names u d → ⊥) (λ d. IsBoundTo l names u d)

-- `bindings` gives for each of n identifiers the declaration to which it is bound, or none
pub record AreBindings (l : Layout) (names : Names) (n : ℕ) (bindings : List (Option ℕ)) : Type 0 where
  pub sized : length bindings ≡ n
  pub each : (u : ℕ) (x : Option ℕ) → u < n → IsBinding l names u (slice_index_or bindings u x)

-- `declaring` marks which of n identifiers declare, and `bound` gives the declaration to which each is bound
pub record AreBound (l : Layout) (names : Names) (n : ℕ) (declaring : List Bool) (bound : List (Option ℕ)) : Type 0 where
  pub marks : AreExactMarks (Declares l names) n declaring
  pub bindings : AreBindings l names n bound

-- the contents of a package's table are right: which identifiers declare, the declaration to which each is bound, and the identifier of
-- each token
pub record AreTableContents (p : ScopedPackage) (declaring : List Bool) (bound : List (Option ℕ)) (noted : Numbers) : Type 0 where
  pub known : AreBound (layout_in p) (names_in p) (length p.sites) declaring bound
  pub numbers : AreIdentifiers (layout_in p) (length p.sites) noted
