-- What the parts of headers and of structs add to lists of types.
use Rattle.std.proofs.Common.{ℕ, List, map}
use Rattle.std.specs.List.{flat_map}
use Rattle.go_ast.specs.declared.tree.Item.{Item}
use Rattle.go_ast.specs.declared.tree.Ident.{Ident}
use Rattle.go_ast.specs.declared.tree.Param.{Param}
use Rattle.go_ast.specs.declared.tree.FieldDecl.{FieldDecl}
use Rattle.go_ast.specs.declared.tree.TypeExpr.{TypeExpr}
use Rattle.go_ast.specs.Tree.{TypeTree}
use Rattle.go_ast.specs.View.{list_view, ident_view, type_view}
use Rattle.go_ast.specs.FileView.{param_view, field_view, same_index}
use Rattle.types_expr.specs.Types.{PlainType}
use Rattle.types_expr.specs.World.{World}
use Rattle.types_declared.specs.MeaningOf.{parameter_types}
use Rattle.build_object.specs.Objects.{written, all_written, field_types}

-- one type for each name
abbrev pub for_names : World → TypeTree → List (Item Ident) → List PlainType
for_names w t xs = all_written w (map (λ n. t) (list_view ident_view xs))

abbrev pub for_fields : World → TypeTree → List (Item ℕ) → List PlainType
for_fields w t xs = flat_map (λ n. written w t) (list_view same_index xs)

-- the types of parameters, of several results and of fields
abbrev pub for_params : World → List (Item Param) → List PlainType
for_params w xs = all_written w (parameter_types (list_view param_view xs))

abbrev pub for_results : World → List (Item TypeExpr) → List PlainType
for_results w xs = flat_map (λ i. written w i.value) (list_view type_view xs)

abbrev pub for_struct : World → List (Item FieldDecl) → List PlainType
for_struct w xs = field_types w (list_view field_view xs)
