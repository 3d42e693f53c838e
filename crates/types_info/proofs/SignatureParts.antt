-- The type expressions of parameters and results, part by part as the program goes over them.
use Rattle.std.proofs.Common.{◌≡◌, List, [], ◌∷◌, ◌++◌, ap, ◌∙◌, refl}
use Rattle.std.specs.Prelude.{map}
use Rattle.std.specs.List.{flat_map}
use Rattle.go_ast.specs.declared.tree.Item.{Item}
use Rattle.go_ast.specs.declared.tree.Ident.{Ident}
use Rattle.go_ast.specs.declared.tree.Param.{Param}
use Rattle.go_ast.specs.declared.tree.TypeExpr.{TypeExpr}
use Rattle.go_ast.specs.Tree.{TypeTree}
use Rattle.go_ast.specs.View.{item_view, ident_view, list_view, type_view}
use Rattle.go_ast.specs.FileView.{param_view}
use Rattle.types_declared.specs.MeaningOf.{parameter_types}

abbrev pub ident_part : TypeExpr → Item Ident → List TypeTree
ident_part t name = type_view t ∷ []

abbrev pub param_part : Item Param → List TypeTree
param_part item = map (λ n. (param_view item.value).type_use) (param_view item.value).names

abbrev pub type_part : Item TypeExpr → List TypeTree
type_part item = type_view item.value ∷ []

names_from : (t : TypeExpr) (names : List (Item Ident)) → flat_map (ident_part t) names ≡ map (λ n. type_view t) (map (item_view ident_view) names)
names_from t [] = refl
names_from t (n ∷ ns) = ap (λ z. type_view t ∷ z) (names_from t ns)

pub param_from : (param : Param) (names : List (Item Ident)) → names ≡ param.names.items →
    flat_map (ident_part param.param_type) names ≡ map (λ n. (param_view param).type_use) (param_view param).names
unfolding param_view
param_from param names e = ap (flat_map (ident_part param.param_type)) e ∙ names_from param.param_type param.names.items

pub params_from : (params : List (Item Param)) → flat_map param_part params ≡ parameter_types (list_view param_view params)
params_from [] = refl
params_from (x ∷ xs) = ap (λ z. param_part x ++ z) (params_from xs)

pub types_from : (items : List (Item TypeExpr)) → flat_map type_part items ≡ map (λ i. i.value) (list_view type_view items)
types_from [] = refl
types_from (x ∷ xs) = ap (λ z. type_view x.value ∷ z) (types_from xs)
