-- The verdict on a token list: a file within the limit of nesting, or its first fault.
use Rattle.std.specs.Prelude.{ℕ, ◌≤◌, List, [], ◌∷◌}
use Rattle.std.specs.List.{All}
use Rattle.go_ast.specs.declared.syntax.Token.{Token}
use Rattle.go_ast.specs.declared.syntax.TokenFaultKind.{TokenFaultKind}
use Rattle.go_ast.specs.declared.syntax.TokenFaultKind.TheVariants.{Syntax, Nesting}
use Rattle.go_ast.specs.Grammar.{A, File}
use Rattle.go_ast.specs.Language.{Derives, IsSyntaxFault, IsTooDeep, levels}

-- the number of levels of nesting that may be open at once
abbrev pub limit : ℕ
limit = 200

-- a whole file, or a fault of this kind with this number of tokens left, the one at fault among them
pub data FileVerdict : Type 0 where
  Whole : FileVerdict
  Faulty : TokenFaultKind → ℕ → FileVerdict

-- the tokens are a file, and none of them opens a level over the limit
pub record IsWhole (ts : List Token) : Type 0 where
  pub derived : Derives (A File ∷ []) ts
  pub shallow : (x : Derives (A File ∷ []) ts) → All (λ l. l ≤ limit) (levels 0 x)

-- the verdict is right for the token list
abbrev pub IsFileVerdict : List Token → FileVerdict → Type 0
IsFileVerdict ts Whole = IsWhole ts
IsFileVerdict ts (Faulty Syntax left) = IsSyntaxFault (A File ∷ []) limit 0 ts left
IsFileVerdict ts (Faulty Nesting left) = IsTooDeep (A File ∷ []) limit 0 ts left
