-- The types of lists of type expressions, as the program has them.
use Rattle.std.specs.Prelude.{ℕ, List, Option, map, MatchOption}
use Rattle.std.specs.Borrow.{Bor}
use Rattle.std.specs.Global.{Vec}
use Rattle.go_ast.specs.declared.tree.TypeExpr.{TypeExpr}
use Rattle.go_ast.specs.Tree.{TypeTree}
use Rattle.go_ast.specs.View.{type_view}
use Rattle.types_expr.specs.declared.types.GoType.{GoType}
use Rattle.types_expr.specs.Types.{PlainType}
use Rattle.types_expr.specs.View.{type_of}
use Rattle.types_declared.specs.Package.{Package}
use Rattle.types_declared.specs.MeaningOf.{AreTypesOf}

-- the program's type expression, as the definitions see it
abbrev pub tree_of : Bor TypeExpr → TypeTree
tree_of t = type_view t.now

-- the types in a list of the program
abbrev pub plain_types : Vec GoType → List PlainType
plain_types ts = map type_of ts.items

-- found has the types of the type expressions, or is none where one of them has no type
abbrev pub AreTypesFound : Package → ℕ → List TypeTree → Option (List PlainType) → Type 0
AreTypesFound p file trees found = MatchOption found ((ts : List PlainType) → AreTypesOf p file trees ts → ⊥) (λ ts. AreTypesOf p file trees ts)
