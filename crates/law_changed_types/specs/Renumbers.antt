-- Judging commutes with new numbers of tokens.
use Rattle.std.specs.Prelude.{ℕ, ◌≡◌, Bool, List}
use Rattle.go_ast.specs.Tree.{ExprTree, StatementTree, FileTree}
use Rattle.types_expr.specs.World.{World, Locals}
use Rattle.types_expr.specs.Judge.{judge}
use Rattle.types_stmt.specs.Checked.{FoundSoFar}
use Rattle.types_stmt.specs.Sides.{Target}
use Rattle.types_stmt.specs.Statements.{check_statement}
use Rattle.types_stmt.specs.Declarations.{check_file}
use Rattle.law_rename.specs.Renumbered.{expr_by, statement_by, renumbered}
use Rattle.law_changed_types.specs.Renumbering.{IsRenumbering, IsRenumberedWorld, AreRenumberedLocals, IsRenumberedCheck, renumbered_found}

-- What is found of an expression with the new numbers is what was found of the old one, with the new numbers.
abbrev pub ExpressionsRenumber : Type 0
ExpressionsRenumber = (t : ℕ → ℕ) → IsRenumbering t → (v w : World) → IsRenumberedWorld t v w → (locals later : Locals) →
    AreRenumberedLocals t locals later → (e : ExprTree) → judge w later (expr_by t e) ≡ renumbered_found t (judge v locals e)

-- That holds of statements. `s` and `z` are what was found before the statement.
abbrev pub StatementsRenumber : Type 0
StatementsRenumber = (t : ℕ → ℕ) → IsRenumbering t → (v w : World) → IsRenumberedWorld t v w → (results : List Target) (s z : FoundSoFar) →
    IsRenumberedCheck t s z → (x : StatementTree) → IsRenumberedCheck t (check_statement v results s x) (check_statement w results z (statement_by t x))

-- And of files, where names stay `init` or not.
abbrev pub FilesRenumber : Type 0
FilesRenumber = (t : ℕ → ℕ) → IsRenumbering t → (v w : World) → IsRenumberedWorld t v w → (is_init is_init' : ℕ → Bool) →
    ((token : ℕ) → is_init' (t token) ≡ is_init token) → (f : FileTree) →
    IsRenumberedCheck t (check_file v is_init f) (check_file w is_init' (renumbered t f))
