-- The types in the headers of functions.
use Rattle.std.proofs.Common.{◌≡◌, ◌∷◌, ◌++◌, [], List, ap, refl, map}
use Rattle.go_ast.specs.declared.tree.Item.{Item}
use Rattle.go_ast.specs.declared.tree.TypeExpr.{TypeExpr}
use Rattle.go_ast.specs.View.{list_view, type_view}
use Rattle.types_expr.specs.World.{World}
use Rattle.build_object.specs.Objects.{all_written, written}
use Rattle.build_object.proofs.TypeParts.{for_results}

-- several results, by their Types
pub several_results : (w : World) (xs : List (Item TypeExpr)) → for_results w xs ≡ all_written w (map (λ i. i.value) (list_view type_view xs))
several_results w [] = refl
several_results w (x ∷ xs) = ap (λ z. written w (type_view x.value) ++ z) (several_results w xs)
