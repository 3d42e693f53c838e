-- The rename of a declaration on a fixed layout, and its conflicts, which depend on the old names alone.
use Rattle.std.specs.Prelude.{ℕ, ◌≡◌, ◌↔◌, List}
use Rattle.go_scope.specs.WellFormed.{WellFormed}
use Rattle.go_scope.specs.Table.{Precedes}
use Rattle.go_scope.specs.Bindings.{Layout, Names, IsLeftName, SameBlock, InScope, IsImport, Displaces, Declares, AllCount, BindsAt, IsUse, IsBoundTo}

-- `after` are the names after the rename: each identifier bound to `d` has the name `y`, and all others keep their names.
pub record IsRenaming (l : Layout) (names : Names) (d : ℕ) (y : List ℕ) (after : Names) : Type 0 where
  pub renamed : (u : ℕ) → IsBoundTo l names u d → after u ≡ y
  pub kept : (u : ℕ) → (IsBoundTo l names u d → ⊥) → after u ≡ names u

-- The declaration `d` is renamed to `y`, which is not its name, in a package without repeated declarations.
pub record Renames (l : Layout) (before : Names) (d : ℕ) (y : List ℕ) (after : Names) : Type 0 where
  pub well_formed : WellFormed l
  pub all_count : AllCount l before
  pub declared : Declares l before d
  pub other_name : before d ≡ y → ⊥
  pub renaming : IsRenaming l before d y after

-- Each identifier that is bound stays bound to its declaration.
abbrev pub KeepsScopeBindings : Layout → Names → Names → Type 0
KeepsScopeBindings l before after = (u e : ℕ) → IsBoundTo l before u e → IsBoundTo l after u e

-- Each identifier that is bound stays bound to its declaration, except for those that declare imports.
abbrev pub KeepsOtherBindings : Layout → Names → Names → Type 0
KeepsOtherBindings l before after = (u e : ℕ) → (IsImport l u → ⊥) → IsBoundTo l before u e → IsBoundTo l after u e

-- Each identifier stays bound to its declaration, and each unbound one stays unbound.
abbrev pub HasSameBindings : Layout → Names → Names → Type 0
HasSameBindings l before after = (u e : ℕ) → IsBoundTo l before u e ↔ IsBoundTo l after u e

-- `u` was bound, and after the rename it is bound to nothing.
pub record IsLost (l : Layout) (before after : Names) (u : ℕ) : Type 0 where
  pub old : ℕ
  pub was : IsBoundTo l before u old
  pub bound_to_none : (c : ℕ) → IsBoundTo l after u c → ⊥

-- `u` was bound to another declaration than `c`, and after the rename it is bound to `c`.
pub record IsCaptured (l : Layout) (before after : Names) (u c : ℕ) : Type 0 where
  pub old : ℕ
  pub was : IsBoundTo l before u old
  pub other : c ≡ old → ⊥
  pub now_bound : IsBoundTo l after u c

-- `u` was unbound, and after the rename it is bound to `c`.
pub record IsBoundAnew (l : Layout) (before after : Names) (u c : ℕ) : Type 0 where
  pub was_unbound : (e : ℕ) → IsBoundTo l before u e → ⊥
  pub now_bound : IsBoundTo l after u c

-- By the old names alone: with `d` renamed to `y`, the left name `x` of a `:=`, which declared before, assigns to `c`.
--
-- Renaming the declaration of `a` to `b`:
--
--   a := 1
--   b, c := 2, 3    // assigns to the renamed variable (to_renamed)
--
--   b := 1
--   a, c := 2, 3    // the renamed variable is not declared, but b assigned (to_other)
pub data WouldAssign (l : Layout) (names : Names) (d : ℕ) (y : List ℕ) : ℕ → ℕ → Type 0 where
  -- The left name is `y`, in the block and the scope of `d`.
  to_renamed : {e : ℕ} → Declares l names e → names e ≡ y → IsLeftName l e → SameBlock l d e → InScope l d e → WouldAssign l names d y e d
  -- The left name is `d`, in the block and the scope of a declaration of `y`.
  to_other : {e : ℕ} → Declares l names e → names e ≡ y → IsLeftName l d → SameBlock l e d → InScope l e d → WouldAssign l names d y d e

-- By the old names alone: with `d` renamed to `y`, `u` is bound to `c`, and was bound to another declaration.
--
-- Renaming the first `a` of each example to `b`:
--
--   var b = 1
--   func f() int {
--       a := 2
--       return b    // this b would be bound to the renamed variable (new_name)
--   }
--
--   var a = 1
--   func f() int {
--       b := 2
--       return a    // renamed to b, this would be bound to the local variable (own_use)
--   }
pub data WouldCapture (l : Layout) (names : Names) (d : ℕ) (y : List ℕ) : ℕ → ℕ → Type 0 where
  -- `u` is a use of `y`, and `d` precedes the declaration to which it is bound.
  new_name : {u e : ℕ} → IsUse l names u → names u ≡ y → BindsAt l names y u e → InScope l d u → Precedes l d e → WouldCapture l names d y u d
  -- `u` is a use of `d`, and the declaration to which `y` is bound there precedes `d`.
  own_use : {u e : ℕ} → IsUse l names u → BindsAt l names (names u) u d → BindsAt l names y u e → Precedes l e d → WouldCapture l names d y u e
  -- `u` is a left name of `:=` that no longer declares.
  assigned : {x c : ℕ} → WouldAssign l names d y x c → WouldCapture l names d y x c

-- By the old names alone: with `d` renamed to `y`, `u` still declares, but another declaration displaces it.
--
-- Renaming `a` to `b`:
--
--   var a = 1
--   var b = 2    // b would be declared twice in the package block
pub data WouldLose (l : Layout) (names : Names) (d : ℕ) (y : List ℕ) : ℕ → Type 0 where
  -- `u` is a declaration of `y`, which `d` displaces.
  repeats : {e : ℕ} → Declares l names e → names e ≡ y → Displaces l d e → (IsLeftName l e → InScope l d e → ⊥) → WouldLose l names d y e
  -- `u` is `d`, which a declaration of `y` displaces.
  own_repeats : {e : ℕ} → Declares l names e → names e ≡ y → Displaces l e d → (IsLeftName l d → InScope l e d → ⊥) → WouldLose l names d y d

-- By the old names alone: with `d` renamed to `y`, `u` is bound to `d`, and was unbound. It is a use of `y` in the scope of `d`.
pub record WouldBind (l : Layout) (names : Names) (d : ℕ) (y : List ℕ) (u : ℕ) : Type 0 where
  pub uses : IsUse l names u
  pub named : names u ≡ y
  pub unbound : (e : ℕ) → BindsAt l names y u e → ⊥
  pub in_scope : InScope l d u

-- Renaming `d` to `y` neither captures nor loses the identifier `u`.
pub record HasNoConflictAt (l : Layout) (names : Names) (d : ℕ) (y : List ℕ) (u : ℕ) : Type 0 where
  pub not_captured : (c : ℕ) → WouldCapture l names d y u c → ⊥
  pub not_lost : WouldLose l names d y u → ⊥

-- Renaming `d` to `y` captures and loses no identifier.
abbrev pub HasNoConflict : Layout → Names → ℕ → List ℕ → Type 0
HasNoConflict l names d y = (u : ℕ) → HasNoConflictAt l names d y u

-- No import is unused: some use is bound to each import that declares.
abbrev pub AreImportsUsed : Layout → Names → Type 0
AreImportsUsed l names = (i : ℕ) → IsImport l i → Declares l names i → ((u : ℕ) → IsUse l names u → IsBoundTo l names u i → ⊥) → ⊥

-- No lexical use is unbound.
abbrev pub AreUsesBound : Layout → Names → Type 0
AreUsesBound l names = (u : ℕ) → IsUse l names u → ((e : ℕ) → IsBoundTo l names u e → ⊥) → ⊥
