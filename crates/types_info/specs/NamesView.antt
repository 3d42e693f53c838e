-- The names of a file and their meanings, as the program has them.
use Rattle.std.specs.Prelude.{ℕ, ◌≡◌, ◌<◌, List, [], Option, Some, None, length, slice_get, MatchOption}
use Rattle.go_scanner.specs.declared.piece.Piece.{Piece}
use Rattle.go_scanner.specs.CutText.{tokens_in}
use Rattle.go_ast.specs.SourceFile.{SourceFile}
use Rattle.go_scope.specs.declared.model.Role.TheVariants.{NotLexical}
use Rattle.go_scope.specs.declared.model.Purpose.TheVariants as purpose
use Rattle.go_scope.specs.Table.{IsFoundAt}
use Rattle.types_expr.specs.declared.world.Bound.{Bound}
use Rattle.types_expr.specs.declared.world.Name.{Name}
use Rattle.types_expr.specs.World as plain
use Rattle.types_expr.specs.WorldView.{bound_at, bound_index, bound_or_broken, token_spelling}
use Rattle.types_declared.specs.Package.{Package, spelled}
use Rattle.types_declared.specs.Written.{BindsToken}
use Rattle.types_declared.specs.MeaningOf.{IsMeaningOf}
use Rattle.types_info.specs.Worlds.{IsName}

-- the tokens of a file; none where there is no file
abbrev pub tokens_at : Option SourceFile → List Piece
tokens_at None = []
tokens_at (Some s) = tokens_in s.cut

-- the meaning at an index of the list; Broken where there is no index
abbrev pub bound_by : List Bound → Option ℕ → plain.Bound
bound_by list place = bound_or_broken (bound_at list place)

-- the token is a name after a dot
pub record IsNameAfterDot (p : Package) (file token : ℕ) : Type 0 where
  pub identifier : ℕ
  pub found : IsFoundAt p.layout p.size (record { file = file; index = token }) identifier
  pub selected : p.layout.role identifier ≡ NotLexical purpose.Selected

-- scopes bind the name at the token to a declaration with the meaning b
pub record IsBoundInScope (p : Package) (file token : ℕ) (b : plain.Bound) : Type 0 where
  pub declaration : ℕ
  pub binds : BindsToken p file token declaration
  pub means : IsMeaningOf p declaration b

-- found is the meaning to which scopes bind the name at the token, or none where there is none
abbrev pub IsScopeFound : Package → (file token : ℕ) → Option plain.Bound → Type 0
IsScopeFound p file token found = MatchOption found ((b : plain.Bound) → IsBoundInScope p file token b → ⊥) (λ b. IsBoundInScope p file token b)

-- place is the index in the list of the meaning of the name at the token
pub record IsPlaced (p : Package) (file token : ℕ) (list : List Bound) (place : Option ℕ) : Type 0 where
  pub bound : IsName p file token (bound_by list place)
  pub within : (i : ℕ) → place ≡ Some i → i < length list

-- the program's name has the spelling and the meaning of the token
pub record IsNameAt (p : Package) (file token : ℕ) (list : List Bound) (name : Name) : Type 0 where
  pub placed : IsPlaced p file token list name.bound
  pub spelling : name.spelling.now ≡ spelled p file token

-- the names are those at all tokens of the file
pub record AreNames (p : Package) (file : ℕ) (list : List Bound) (names : List Name) : Type 0 where
  pub bound : (token : ℕ) → IsName p file token (bound_by list (bound_index (slice_get names token)))
  pub spelling : (token : ℕ) → token_spelling (slice_get names token) ≡ spelled p file token
