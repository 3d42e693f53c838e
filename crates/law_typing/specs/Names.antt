-- The meanings of names, and the types that are written.
use Rattle.std.specs.Prelude.{◌≡◌, ℕ, Some, true}
use Rattle.go_ast.specs.Tree.{TypeTree}
use Rattle.go_ast.specs.Tree as tree
use Rattle.types_expr.specs.Types.{PlainType, Pointer, Slice, Typed, Meaning, Value, TypeName, Package, Broken}
use Rattle.types_expr.specs.World.{World, Locals, Local, Means}

-- the meaning m is not broken
abbrev pub IsNotBroken : Meaning → Type 0
IsNotBroken m = m ≡ Broken → ⊥

-- The name at token `name` has this meaning: that of a local variable with a type, or of anything else that it is bound to. A name that is
-- bound to nothing, or whose declaration is broken, has none.
pub data NameMeans (w : World) (locals : Locals) (name : ℕ) : Meaning → Type 0 where
  a_local : {declaration : ℕ} {t : PlainType} → w.bound name ≡ Local declaration → locals declaration ≡ Some t → NameMeans w locals name (Value (Typed t) true)
  a_bound : {m : Meaning} → w.bound name ≡ Means m → IsNotBroken m → NameMeans w locals name m

-- The written type denotes type t: by the name of a type, by a qualified identifier of one, or as `*T` or `[]T`.
pub data IsType (w : World) : TypeTree → PlainType → Type 0 where
  named : {n : ℕ} {t : PlainType} → w.bound n ≡ Means (TypeName t) → IsType w (tree.Local n) t
  imported : {p d n : ℕ} {t : PlainType} → w.bound p ≡ Means Package → w.bound n ≡ Means (TypeName t) → IsType w (tree.Imported p d n) t
  pointer : {s : ℕ} {x : TypeTree} {t : PlainType} → IsType w x t → IsType w (tree.Pointer s x) (Pointer t)
  slice : {o c : ℕ} {x : TypeTree} {t : PlainType} → IsType w x t → IsType w (tree.Slice o c x) (Slice t)
