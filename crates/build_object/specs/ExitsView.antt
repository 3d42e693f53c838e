-- The targets of jumps out of statements as the program keeps them, the code of statement lists, and the code behind an `else`.
use Rattle.std.specs.Prelude.{ℕ, ◌≡◌, ◌≤◌, ◌-◌, Bool, true, false, List, [], ◌∷◌, ◌++◌, Option, Some, None, is_some, length}
use Rattle.go_ast.specs.FileView.{stmt_view}
use Rattle.go_ast.specs.declared.tree.BlockItem.{BlockItem}
use Rattle.build_object.specs.declared.code.Code.{Code}
use Rattle.build_object.specs.declared.statements.JumpMarks.{JumpMarks}
use Rattle.build_object.specs.Lines.{CodeLine, Jump}
use Rattle.build_object.specs.LineView.{lines_in}
use Rattle.build_object.specs.Source.{Source}
use Rattle.build_object.specs.Statements.{Exits, further, statement_lines}

-- The exits of a statement behind which n lines stand. `marks` counts the lines from the targets of `continue` and `break` to the end.
abbrev pub exits_of : JumpMarks → ℕ → Exits
exits_of marks n = record { next = n - marks.next; out = n - marks.out }

-- Both targets stand within the last n lines.
pub record AreExitsWithin (marks : JumpMarks) (n : ℕ) : Type 0 where
  pub next : marks.next ≤ n
  pub out : marks.out ≤ n

-- The lines of a list of statements. The exits of each statement pass the lines of the later ones.
unfoldable pub lines_of_each : Source → (slots : List ℕ) → (results : ℕ) → Exits → List BlockItem → List CodeLine
lines_of_each s slots results x [] = []
lines_of_each s slots results x (i ∷ is) =
    statement_lines s slots results (further (length (lines_of_each s slots results x is)) x) (stmt_view i.statement) ++ lines_of_each s slots results x is

-- The jump over the n lines behind `else`, if there is an `else`.
abbrev pub else_jump : (has_else : Bool) → ℕ → List CodeLine
else_jump true n = Jump n ∷ []
else_jump false n = []

-- The lines, and none where there are no lines.
abbrev pub lines_or_none : Option (List CodeLine) → List CodeLine
lines_or_none None = []
lines_or_none (Some lines) = lines

-- The lines behind an `else` are put before the code, if there is an `else`.
pub record PutsElse (lines : Option (List CodeLine)) (has_else : Bool) (old new : Code) : Type 0 where
  pub has : has_else ≡ is_some lines
  pub put : lines_in new ≡ lines_or_none lines ++ lines_in old
