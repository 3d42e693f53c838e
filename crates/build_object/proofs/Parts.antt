-- What the parts of lists of src/ add to places, code and texts.
use Rattle.std.proofs.Common.{ℕ, ◌≡◌, ◌∷◌, ◌++◌, [], List, ap, refl, map}
use Rattle.std.specs.Prelude.{option_to_list}
use Rattle.std.specs.List.{flat_map}
use Rattle.go_ast.specs.declared.tree.Item.{Item}
use Rattle.go_ast.specs.declared.tree.Ident.{Ident}
use Rattle.go_ast.specs.declared.tree.ExprItem.{ExprItem}
use Rattle.go_ast.specs.declared.tree.Param.{Param}
use Rattle.go_ast.specs.declared.tree.LocalSpec.{LocalSpec}
use Rattle.go_ast.specs.View.{list_view, ident_view, exprs_view}
use Rattle.go_ast.specs.FileView.{param_view, local_view}
use Rattle.types_expr.specs.World.{World}
use Rattle.types_stmt.specs.Sides.{ident_place, named, defined_name}
use Rattle.build_object.specs.Source.{Source}
use Rattle.build_object.specs.Statements.{local_lines}
use Rattle.build_object.specs.Slots.{parameter_places, local_places}

-- places

abbrev pub name_places : List (Item Ident) → List ℕ
name_places xs = flat_map (λ n. ident_place n.value ∷ []) (list_view ident_view xs)

abbrev pub param_places : List (Item Param) → List ℕ
param_places xs = parameter_places (list_view param_view xs)

abbrev pub named_places : List (Item Ident) → List ℕ
named_places xs = flat_map (λ i. option_to_list (named i.value)) (list_view ident_view xs)

abbrev pub local_list_places : List (Item LocalSpec) → List ℕ
local_list_places xs = flat_map (λ i. local_places (local_view i.value)) xs

abbrev pub defined_places : World → List ExprItem → List ℕ
defined_places w xs = flat_map (λ i. option_to_list (defined_name w i.value)) (exprs_view xs)

-- the declarations of a `var` with parentheses

pub several_places : (xs : List (Item LocalSpec)) → local_list_places xs ≡ flat_map local_places (map (λ x. x.value) (list_view local_view xs))
several_places [] = refl
several_places (x ∷ xs) = ap (λ z. local_places (local_view x.value) ++ z) (several_places xs)

pub several_lines : (s : Source) (slots : List ℕ) (xs : List (Item LocalSpec)) →
    flat_map (λ i. local_lines s slots i.value) (list_view local_view xs) ≡ flat_map (local_lines s slots) (map (λ x. x.value) (list_view local_view xs))
several_lines s slots [] = refl
several_lines s slots (x ∷ xs) = ap (λ z. local_lines s slots (local_view x.value) ++ z) (several_lines s slots xs)
