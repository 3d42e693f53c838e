-- Several imports of a package get one new name at once, on a fixed layout.
use Rattle.std.specs.Prelude.{ℕ, ◌≡◌, ◌<◌, ◌⊎◌, ◌↔◌, Bool, true, List}
use Rattle.go_scope.specs.Bindings.{Layout, Names, AllCount, Declares, IsBoundTo, IsImport}
use Rattle.go_scope.specs.Numbering.{IsLexical}
use Rattle.go_scope.specs.WellFormed.{WellFormed}
use Rattle.law_rename.specs.Renaming.{AreUsesBound, HasNoConflict, HasNoConflictAt, HasSameBindings, IsCaptured, IsLost, WouldCapture, WouldLose}

-- `after` are the names after the imports of which `D` holds got the name `y`. Each identifier bound to one of them has it. All others whose
-- names are looked up keep theirs.
pub record AreRenamedTo (l : Layout) (names : Names) (D : ℕ → Type 0) (y : List ℕ) (after : Names) : Type 0 where
  pub renamed : (u d : ℕ) → D d → IsBoundTo l names u d → after u ≡ y
  pub kept : (u : ℕ) → IsLexical l u → ((d : ℕ) → D d → IsBoundTo l names u d → ⊥) → after u ≡ names u

-- The imports of which `D` holds get the name `y`, which none of them has, in a package without repeated declarations. So each file has at
-- most one such import.
--
--   // file a.go
--   import "shapes"
--   var a = shapes.Area()    // becomes areas.Area()
--
--   // file b.go
--   import "shapes"
--   var b = shapes.Area()    // becomes areas.Area()
pub record RenamesImports (l : Layout) (before : Names) (D : ℕ → Type 0) (y : List ℕ) (after : Names) : Type 0 where
  pub well_formed : WellFormed l
  pub all_count : AllCount l before
  pub uses_bound : AreUsesBound l before
  pub size : ℕ
  pub within : (d : ℕ) → D d → d < size
  pub decided : (d : ℕ) → D d ⊎ (D d → ⊥)
  pub imports : (d : ℕ) → D d → IsImport l d
  pub declared : (d : ℕ) → D d → Declares l before d
  pub other_name : (d : ℕ) → D d → before d ≡ y → ⊥
  pub alike : (d e : ℕ) → D d → D e → before d ≡ before e
  pub renaming : AreRenamedTo l before D y after

-- The statement holds wherever imports that are marked are renamed so.
abbrev pub OfImportsRenamed : (Layout → Names → (ℕ → Type 0) → List ℕ → Names → Type 0) → Type 0
OfImportsRenamed K = (l : Layout) (before : Names) (marks : ℕ → Bool) (y : List ℕ) (after : Names) →
    RenamesImports l before (λ d. marks d ≡ true) y after → K l before (λ d. marks d ≡ true) y after

-- An identifier that was bound stays bound exactly where no rename of one of the imports alone would capture or lose it.
abbrev pub ImportsKeepAt : Type 0
ImportsKeepAt = OfImportsRenamed (λ l before D y after. (u e : ℕ) → IsBoundTo l before u e →
    IsBoundTo l after u e ↔ ((d : ℕ) → D d → HasNoConflictAt l before d y u))

-- All bindings are the same exactly where no rename of one of the imports alone would capture or lose any identifier.
abbrev pub ImportsKeepBindings : Type 0
ImportsKeepBindings = OfImportsRenamed (λ l before D y after. HasSameBindings l before after ↔ ((d : ℕ) → D d → HasNoConflict l before d y))

-- An identifier is captured exactly where the rename of one of the imports alone would capture it.
abbrev pub ImportsCapture : Type 0
ImportsCapture = OfImportsRenamed (λ l before D y after. (u c : ℕ) →
    IsCaptured l before after u c ↔ ((d : ℕ) × (D d × WouldCapture l before d y u c)))

-- An identifier that the rename of one of the imports alone would lose is lost.
abbrev pub ImportsLose : Type 0
ImportsLose = OfImportsRenamed (λ l before D y after. (u d : ℕ) → D d → WouldLose l before d y u → IsLost l before after u)
