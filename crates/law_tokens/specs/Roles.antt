-- The roles of identifiers that the tokens next to them decide.
use Rattle.std.specs.Prelude.{ℕ, suc, ◌≡◌, ◌↔◌, Some, slice_get}
use Rattle.go_scanner.specs.CutText.{CutText}
use Rattle.go_ast.specs.declared.syntax.Kind.{Kind}
use Rattle.go_ast.specs.declared.syntax.Kind.TheVariants.{Dot, Colon}
use Rattle.go_ast.specs.declared.syntax.Token.{Token}
use Rattle.go_ast.specs.Kinds.{kinds_of}
use Rattle.go_scope.specs.declared.model.Purpose.TheVariants.{Selected, Key}
use Rattle.go_scope.specs.declared.model.Role.{Role}
use Rattle.go_scope.specs.declared.model.Role.TheVariants.{NotLexical}

-- There is a token of index `i`, and it is of kind `k`.
abbrev pub IsOfKind : CutText → ℕ → Kind → Type 0
IsOfKind c i k = (t : Token) × ((slice_get (kinds_of c) i ≡ Some t) × (t.kind ≡ k))

-- The token before that of the index is a dot.
abbrev pub FollowsDot : CutText → ℕ → Type 0
FollowsDot c index = (i : ℕ) × ((suc i ≡ index) × IsOfKind c i Dot)

-- The role is that of a selector exactly if a dot is before the token. It is that of a composite literal key exactly if a colon is behind
-- it.
pub record FitsTokens (c : CutText) (index : ℕ) (role : Role) : Type 0 where
  pub selected : (role ≡ NotLexical Selected) ↔ FollowsDot c index
  pub key : (role ≡ NotLexical Key) ↔ IsOfKind c (suc index) Colon
