-- Judging commutes with moves of packages. It reads a symbol in three ways: by comparing it with another, by its underlying type, and by which
-- types implement it.
use Rattle.std.specs.Prelude.{ℕ, ◌≡◌, Bool, List, Contains, option_map, map}
use Rattle.go_ast.specs.Tree.{ExprTree, StatementTree, DeclTree, FileTree}
use Rattle.types_expr.specs.declared.symbol.Symbol.{Symbol}
use Rattle.types_expr.specs.World.{World, Locals}
use Rattle.types_expr.specs.Judge.{MemberUse, Noted, OfMember, judge}
use Rattle.types_stmt.specs.Checked.{FoundSoFar}
use Rattle.types_stmt.specs.Sides.{Target}
use Rattle.types_stmt.specs.Statements.{check_statement}
use Rattle.types_stmt.specs.Declarations.{check_file}
use Rattle.law_changed_types.specs.MemberUses.{AgreesOnInit}
use Rattle.law_changed_types.specs.Moved.{PathMap, IsInjective, moved_symbol, moved_type, moved_underlying, moved_bound, moved_member, moved_locals}
use Rattle.law_changed_types.specs.Moved.{moved_found, moved_target, moved_checked}
use Rattle.types_expr.specs.Types.{PlainType}

-- At these uses in the world v, w has the moved members for the moved types.
abbrev pub MembersMove : PathMap → List Noted → World → World → Type 0
MembersMove g uses v w = (u : MemberUse) → Contains uses (OfMember u) →
    w.member u.place (moved_type g u.before) ≡ option_map (moved_member g) (v.member u.place u.before)

-- The world w is v after the move. Names are bound to what was moved, and moved symbols have the moved underlying types. Moved types implement
-- the moved interfaces, and these uses denote the moved members.
pub record IsMovedWorld (g : PathMap) (uses : List Noted) (v w : World) : Type 0 where
  pub bound : (token : ℕ) → w.bound token ≡ moved_bound g (v.bound token)
  pub definition : (s : Symbol) → w.definition (moved_symbol g s) ≡ moved_underlying g (v.definition s)
  pub implements : (t : PlainType) (s : Symbol) → w.implements (moved_type g t) (moved_symbol g s) ≡ v.implements t s
  pub members : MembersMove g uses v w

-- What is found of an expression in the moved world is what was found in the old one, moved.
abbrev pub ExpressionsMove : Type 0
ExpressionsMove = (g : PathMap) → IsInjective g → (v w : World) (locals : Locals) (e : ExprTree) → IsMovedWorld g (judge v locals e).uses v w →
    judge w (moved_locals g locals) e ≡ moved_found g (judge v locals e)

-- That holds of statements, in a function whose results are moved too. `s` is what was found before the statement.
abbrev pub StatementsMove : Type 0
StatementsMove = (g : PathMap) → IsInjective g → (v w : World) (results : List Target) (s : FoundSoFar) (x : StatementTree) →
    IsMovedWorld g (check_statement v results s x).uses v w →
    check_statement w (map (moved_target g) results) (moved_checked g s) x ≡ moved_checked g (check_statement v results s x)

-- And of files. Their functions have to stay `init` or not.
abbrev pub FilesMove : Type 0
FilesMove = (g : PathMap) → IsInjective g → (v w : World) (is_init is_init' : ℕ → Bool) (f : FileTree) →
    ((d : DeclTree) → Contains f.decls d → AgreesOnInit is_init is_init' d) → IsMovedWorld g (check_file v is_init f).uses v w →
    check_file w is_init' f ≡ moved_checked g (check_file v is_init f)
