-- Well-formedness of lists while the parser reads them item by item.
use Rattle.std.specs.Prelude.{ℕ, ◌≡◌, ◌≢◌, ◌⊎◌, Bool, true, false, List, [], ◌∷◌, Option, None, IsSome}
use Rattle.std.specs.List.{All}
use Rattle.go_ast.specs.Tree.{Item, ExprTree, SimpleTree}
use Rattle.go_ast.specs.declared.tree.TypeExpr.{TypeExpr}
use Rattle.go_ast.specs.declared.tree.Values.{Values}
use Rattle.go_parser.specs.declared.token_classes.Setting.{Setting}
use Rattle.go_parser.specs.declared.token_classes.Setting.TheVariants as setting
use Rattle.go_ast.specs.View.{option_view, type_view}
use Rattle.go_ast.specs.FileView.{values_view}
use Rattle.go_ast.specs.WellFormed.{IsList, IsExprIn, IsSimple, IsPost, IsNoneOr}
use Rattle.go_parser.specs.Grouping.{Each}

-- the list has at least one item; each but the last has its separator, which f gives, and the last has none
abbrev pub IsJoinedBy : {X : Type 0} → (X → Option ℕ) → List X → Type 0
IsJoinedBy f [] = ⊥
IsJoinedBy f (x ∷ []) = f x ≡ None
IsJoinedBy f (x ∷ (y ∷ ys)) = IsSome (f x) × IsJoinedBy f (y ∷ ys)

-- Each item so far satisfies P. If more items must follow, each has its separator; else each but the last has one.
pub record IsListed {X Y : Type 0} (P : Y → Type 0) (item : X → Item Y) (more : Bool) (xs : List X) : Type 0 where
  pub each : All (λ x. P (item x).value) xs
  pub complete : more ≡ true → Each (λ x. IsSome (item x).separator) xs
  pub joined : more ≡ false → IsJoinedBy (λ x. (item x).separator) xs

-- the simple statement is well formed and allowed at this position
abbrev pub IsSimpleIn : Setting → SimpleTree → Type 0
IsSimpleIn setting.Plain s = IsSimple false s
IsSimpleIn setting.Head s = IsSimple true s
IsSimpleIn setting.Post s = IsPost s

-- a declaration of local variables has a type, values, or both, and the values are well formed
pub record HasTypeOrValues (type_use : Option TypeExpr) (values : Option Values) : Type 0 where
  pub told : option_view type_view type_use ≡ None → option_view values_view values ≢ None
  pub formed : IsNoneOr (λ v. IsList (IsExprIn false) v.1) (option_view values_view values)

-- a `return` has no values, or a well-formed list of them
abbrev pub AreReturnValues : List (Item ExprTree) → Type 0
AreReturnValues es = (es ≡ []) ⊎ IsList (IsExprIn false) es
