-- Looking up members of types under their new names.
use Rattle.std.specs.Prelude.{ℕ, ◌≡◌, List, Option, MatchOption}
use Rattle.types_expr.specs.declared.symbol.Symbol.{Symbol}
use Rattle.types_expr.specs.Types.{PlainType, Underlying}
use Rattle.types_expr.specs.World.{struct_of, field_owner, owner}
use Rattle.types_declared.specs.Package.{Package}
use Rattle.types_declared.specs.Definitions.{IsUnderlyingOf}
use Rattle.refs_binding.specs.declared.declaration.Declaration.{Declaration}
use Rattle.refs_binding.specs.declared.declaration.Declaration.TheVariants.{Predeclared, Declared, Field, Method}
use Rattle.base_edits.specs.Revisions.{Revision}
use Rattle.refactor_conflict.specs.MembersAfter.{IsFieldOfStruct, IsMethodOfOwner}

-- A rank of which `K` holds, or `None` where it holds of none.
abbrev pub IsRankFound : (ℕ → Type 0) → Option ℕ → Type 0
IsRankFound K found = MatchOption found ((rank : ℕ) → K rank → ⊥) (λ rank. K rank)

-- The struct that is the underlying type of the type definition of this rank, or `None` where it is no struct.
abbrev pub IsStructFound : Package → ℕ → Option Symbol → Type 0
IsStructFound p rank found = (u : Underlying) × (IsUnderlyingOf p rank u × (found ≡ struct_of u))

-- The name, written in the package `own`, selects this field of the struct of the type `t`.
abbrev pub SelectsField : (Package → Type 0) → Revision → (own name : List ℕ) → (definition : Symbol → Underlying) → PlainType → Declaration → Type 0
SelectsField Known r own name definition t (Predeclared n) = ⊥
SelectsField Known r own name definition t (Declared path d) = ⊥
SelectsField Known r own name definition t (Field s) = IsFieldOfStruct Known r own name (field_owner definition t) s
SelectsField Known r own name definition t (Method s) = ⊥

-- The name, written in the package `own`, selects this method of the type definition of the type `t`.
abbrev pub SelectsMethod : (Package → Type 0) → Revision → (own name : List ℕ) → PlainType → Declaration → Type 0
SelectsMethod Known r own name t (Predeclared n) = ⊥
SelectsMethod Known r own name t (Declared path d) = ⊥
SelectsMethod Known r own name t (Field s) = ⊥
SelectsMethod Known r own name t (Method s) = IsMethodOfOwner Known r own name (owner t) s
