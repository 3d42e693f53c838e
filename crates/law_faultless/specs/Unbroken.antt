-- Worlds in which nothing is broken.
use Rattle.std.specs.Prelude.{ℕ, ◌≡◌, true, Some}
use Rattle.types_expr.specs.declared.symbol.Symbol.{Symbol}
use Rattle.types_expr.specs.Types.{PlainType, ValueKind, Value}
use Rattle.types_expr.specs.World.{World, Means, BrokenVariable, BrokenFunction, BrokenType, ABrokenMethod}
use Rattle.law_typing.specs.Operators.{IsUntyped}

-- In the world w no name is bound to a broken type, variable or function, and no member is a broken method. Each value that can be assigned
-- has a type.
pub record IsUnbroken (w : World) : Type 0 where
  pub types : (n : ℕ) → w.bound n ≡ BrokenType → ⊥
  pub variables : (n : ℕ) → w.bound n ≡ BrokenVariable → ⊥
  pub functions : (n : ℕ) → w.bound n ≡ BrokenFunction → ⊥
  pub methods : (n : ℕ) (t : PlainType) (s : Symbol) → w.member n t ≡ Some (ABrokenMethod s) → ⊥
  pub typed : (n : ℕ) (k : ValueKind) → w.bound n ≡ Means (Value k true) → IsUntyped k → ⊥
