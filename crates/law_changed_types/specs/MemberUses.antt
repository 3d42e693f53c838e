-- Two worlds that agree on all that judging asks of them. Judging asks for the member at a token only for the type that stands before it,
-- and it reports each such use. What a token's name would be for another type may differ: so the worlds need not be equal.
use Rattle.std.specs.Prelude.{ℕ, ◌≡◌, Bool, List, Contains, None}
use Rattle.go_ast.specs.Tree.{ExprTree, DeclTree, VarDecl, TypeDecl, FuncDecl, FileTree}
use Rattle.types_expr.specs.declared.symbol.Symbol.{Symbol}
use Rattle.types_expr.specs.World.{World, Locals}
use Rattle.types_expr.specs.Judge.{MemberUse, Noted, OfMember, judge}
use Rattle.types_stmt.specs.Declarations.{check_file}
use Rattle.types_expr.specs.Types.{PlainType}

-- v and w have the same members at the tokens and types of these uses.
abbrev pub AgreeAt : List Noted → World → World → Type 0
AgreeAt uses v w = (u : MemberUse) → Contains uses (OfMember u) → w.member u.place u.before ≡ v.member u.place u.before

-- v and w bind each name to the same and have the same definitions. In both the same types implement the same interfaces. They have the same
-- members at these uses.
pub record IsAlike (uses : List Noted) (v w : World) : Type 0 where
  pub bound : (token : ℕ) → w.bound token ≡ v.bound token
  pub definition : (s : Symbol) → w.definition s ≡ v.definition s
  pub implements : (t : PlainType) (s : Symbol) → w.implements t s ≡ v.implements t s
  pub members : AgreeAt uses v w

-- What is found of an expression is the same in a world that is alike at the uses that are found in it.
abbrev pub ExpressionsAskForTheirUses : Type 0
ExpressionsAskForTheirUses = (v w : World) (locals : Locals) (e : ExprTree) → IsAlike (judge v locals e).uses v w → judge w locals e ≡ judge v locals e

-- `old` and `new` agree on whether the name of a declaration is `init`, where that matters: at a function without a receiver.
abbrev pub AgreesOnInit : (old new : ℕ → Bool) → DeclTree → Type 0
AgreesOnInit old new (VarDecl k g s) = Unit {0}
AgreesOnInit old new (TypeDecl k g s) = Unit {0}
AgreesOnInit old new (FuncDecl k f s) = f.receiver ≡ None → new f.name ≡ old f.name

-- What is found of a file is the same in a world that is alike at the uses that are found in it. Its functions have to stay `init` or not.
abbrev pub FilesAskForTheirUses : Type 0
FilesAskForTheirUses = (v w : World) (is_init is_init' : ℕ → Bool) (f : FileTree) →
    ((d : DeclTree) → Contains f.decls d → AgreesOnInit is_init is_init' d) → IsAlike (check_file v is_init f).uses v w →
    check_file w is_init' f ≡ check_file v is_init f
