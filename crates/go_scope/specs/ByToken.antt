-- Tables of numbers by file and token.
use Rattle.std.specs.Prelude.{ℕ, ◌≡◌, ◌<◌, List, [], Option, Some, None, slice_get, slice_index_or, MatchOption}
use Rattle.std.specs.Global.{Vec}
use Rattle.go_scope.specs.declared.model.Position.{Position}
use Rattle.go_scope.specs.Bindings.{Layout, IsIdentifier}
use Rattle.go_scope.specs.Table.{LiesAt, IsFirstOf}
use Rattle.go_scope.specs.declared.by_token.ByToken.{ByToken}

-- a number, or none, for each file and token index
abbrev pub Numbers : Type 0
Numbers = (file token : ℕ) → Option ℕ

-- the number of a token in the row of its file
abbrev pub row_number : List (Option ℕ) → ℕ → Option ℕ
row_number row token = slice_index_or row token None

-- the items of an optional row
abbrev pub row_at : Option (Vec (Option ℕ)) → List (Option ℕ)
row_at None = []
row_at (Some row) = row.items

-- the numbers of the program's table
abbrev pub numbers_in : ByToken → Numbers
numbers_in b file token = row_number (row_at (slice_get b.rows.items file)) token

-- in a file's row the number of one token is set, and all others stay
pub record SetsToken (old new : ℕ → Option ℕ) (token number : ℕ) : Type 0 where
  pub here : new token ≡ Some number
  pub elsewhere : (t : ℕ) → (t ≡ token → ⊥) → new t ≡ old t

-- the number of one position is set, and all others stay
pub record Sets (old new : Numbers) (place : Position) (number : ℕ) : Type 0 where
  pub here : new place.file place.index ≡ Some number
  pub elsewhere : (f t : ℕ) → (f ≡ place.file → t ≡ place.index → ⊥) → new f t ≡ old f t

-- the number of one position is set unless it has one, and all others stay
pub data SetsIfUnset (old new : Numbers) (place : Position) (number : ℕ) : Type 0 where
  first : old place.file place.index ≡ None → Sets old new place number → SetsIfUnset old new place number
  later : {earlier : ℕ} → old place.file place.index ≡ Some earlier → ((f t : ℕ) → new f t ≡ old f t) → SetsIfUnset old new place number

-- the identifier u is entered at its position; a predeclared name changes nothing
pub data EntersIdentifier (l : Layout) (u : ℕ) (old new : Numbers) : Type 0 where
  stands : IsIdentifier l u → SetsIfUnset old new (l.place u) u → EntersIdentifier l u old new
  stands_nowhere : (IsIdentifier l u → ⊥) → ((f t : ℕ) → new f t ≡ old f t) → EntersIdentifier l u old new

-- `found` is the first number below n that satisfies P, or none where no such number does
abbrev pub IsFirstBelow : (ℕ → Type 0) → ℕ → Option ℕ → Type 0
IsFirstBelow P n found = MatchOption found ((u : ℕ) → u < n → P u → ⊥) (λ u. IsFirstOf P n u)

-- `found` gives for each token its first identifier below n, or none
abbrev pub AreIdentifiers : Layout → ℕ → Numbers → Type 0
AreIdentifiers l n found = (file token : ℕ) → IsFirstBelow (LiesAt l (record { file = file; index = token })) n (found file token)
