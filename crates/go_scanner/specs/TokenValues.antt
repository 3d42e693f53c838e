-- The values of tokens.
use Rattle.std.specs.Prelude.{◌≡◌, ◌⊎◌, ℕ, List, Option, Some, None, Vec}
use Rattle.go_scanner.specs.declared.piece.Class.{Class}
use Rattle.go_scanner.specs.declared.piece.Class.TheVariants.{InterpretedString, RawString}
use Rattle.go_scanner.specs.StringValues.{HasStringValue}

-- the class is that of string literals, interpreted or raw
abbrev pub IsStringClass : Class → Type 0
IsStringClass class = (class ≡ InterpretedString) ⊎ (class ≡ RawString)

-- `Some value` is the value of a token that is a string literal; `None` says that the token is none
abbrev pub HasTokenValue : {Z : Type 0} → Class → List ℕ → Option (Vec ℕ Z) → Type 0
HasTokenValue class bytes (Some value) = IsStringClass class × HasStringValue bytes value.items
HasTokenValue class bytes None = IsStringClass class → ⊥
