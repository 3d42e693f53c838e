-- Syntax trees whose tokens are numbered in order, from which identifiers are taken.
use Rattle.std.specs.Prelude.{ℕ, suc, ◌≤◌, List, [], ◌∷◌}
use Rattle.std.specs.List.{All}
use Rattle.go_ast.specs.declared.syntax.Token.{Token}
use Rattle.go_ast.specs.Flatten.{flatten}
use Rattle.go_ast.specs.WellFormed.{IsFile}
use Rattle.go_scope.specs.FileSites.{SpelledFile}

-- the token indices rise, from n or above
abbrev pub AreRising : ℕ → List Token → Type 0
AreRising n [] = Unit {0}
AreRising n (t ∷ ts) = (n ≤ t.place) × AreRising (suc t.place) ts

-- the file is a tree of the grammar, and its token indices rise
pub record IsNumbered (f : SpelledFile) : Type 0 where
  pub grouped : IsFile f.tree
  pub rising : AreRising 0 (flatten f.tree)

-- each file is a tree of the grammar, and its token indices rise
abbrev pub AreNumbered : List SpelledFile → Type 0
AreNumbered fs = All IsNumbered fs
