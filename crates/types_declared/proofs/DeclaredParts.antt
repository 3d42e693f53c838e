-- The declarations of files, part by part as the program goes over them.
use Rattle.std.proofs.Common.{ℕ, ◌≡◌, List, [], ◌∷◌, ◌++◌, ap, sym, ◌∙◌, refl}
use Rattle.std.specs.Prelude.{map}
use Rattle.std.specs.List.{flat_map}
use Rattle.std.proofs.lemmas.List.Concat.{flat_map_single}
use Rattle.std.proofs.lemmas.List.Folds.{flat_map-map}
use Rattle.go_ast.specs.declared.tree.Item.{Item}
use Rattle.go_ast.specs.declared.tree.Group.{Group}
use Rattle.go_ast.specs.declared.tree.Group.TheVariants as group
use Rattle.go_ast.specs.declared.tree.VarSpec.{VarSpec}
use Rattle.go_ast.specs.declared.tree.TypeSpec.{TypeSpec}
use Rattle.go_ast.specs.declared.tree.File.{File}
use Rattle.go_ast.specs.declared.tree.Decl.{Decl}
use Rattle.go_ast.specs.Tree.{DeclTree}
use Rattle.go_ast.specs.View.{item_view, group_view, type_view}
use Rattle.go_ast.specs.FileView.{same_index, global_view, type_spec_view, decl_view, file_view}
use Rattle.go_ast.specs.SourceFile.{FileParts, source_of}
use Rattle.types_declared.specs.Files.{group_items}
use Rattle.types_declared.specs.Package.{PlacedVariable, PlacedType, variables_of, placed_type}

abbrev pub name_part : ℕ → VarSpec → Item ℕ → List PlacedVariable
name_part file spec name = record { file = file; name = name.value; type_use = type_view spec.var_type } ∷ []

abbrev pub spec_part : ℕ → Item VarSpec → List PlacedVariable
spec_part file item = variables_of file (global_view item.value)

abbrev pub type_part : ℕ → Item TypeSpec → List PlacedType
type_part file item = placed_type file (type_spec_view item.value) ∷ []

names_of_items : (file : ℕ) (spec : VarSpec) (xs : List (Item ℕ)) →
    flat_map (name_part file spec) xs ≡ map (λ i. record { file = file; name = i.value; type_use = type_view spec.var_type }) (map (item_view same_index) xs)
names_of_items file spec [] = refl
names_of_items file spec (x ∷ xs) = ap (λ z. record { file = file; name = x.value; type_use = type_view spec.var_type } ∷ z) (names_of_items file spec xs)

pub names_from : (file : ℕ) (spec : VarSpec) (xs : List (Item ℕ)) → xs ≡ spec.names.items →
    flat_map (name_part file spec) xs ≡ variables_of file (global_view spec)
unfolding global_view
names_from file spec xs e = ap (flat_map (name_part file spec)) e ∙ names_of_items file spec spec.names.items

items_from : {X Y Z : Type 0} (f : Y → List Z) (v : X → Y) (xs : List (Item X)) →
    flat_map (λ x. f (v x.value)) xs ≡ flat_map f (map (λ x. x.value) (map (item_view v) xs))
items_from f v [] = refl
items_from f v (x ∷ xs) = ap (λ z. f (v x.value) ++ z) (items_from f v xs)

-- the specifications in parentheses
pub several_from : {X Y Z : Type 0} (f : Y → List Z) (v : X → Y) (g : Group X) (o : ℕ) (items : _) (c : ℕ) (xs : List (Item X)) →
    g ≡ group.Several o items c → xs ≡ items.items →
    flat_map (λ x. f (v x.value)) xs ≡ flat_map f (group_items (group_view v g))
unfolding group_view
several_from f v g o items c xs eg ex = ap (flat_map (λ x. f (v x.value))) ex ∙ items_from f v items.items ∙
    ap (λ z. flat_map f (group_items (group_view v z))) (sym eg)

pub types_from : (file : ℕ) (g : Group TypeSpec) (o : ℕ) (items : _) (c : ℕ) (xs : List (Item TypeSpec)) → g ≡ group.Several o items c → xs ≡ items.items →
    flat_map (type_part file) xs ≡ map (placed_type file) (group_items (group_view type_spec_view g))
types_from file g o items c xs eg ex =
    several_from (λ t. placed_type file t ∷ []) type_spec_view g o items c xs eg ex ∙
    flat_map_single (placed_type file) (group_items (group_view type_spec_view g))

-- the declarations of a file, from its top-level declarations
pub decls_from : {Z : Type 0} (f : DeclTree → List Z) (tree : File) (ds : List Decl) (file : FileParts) → tree ≡ file.file → ds ≡ tree.decls.items →
    flat_map (λ d. f (decl_view d)) ds ≡ flat_map f (source_of file).tree.decls
unfolding file_view
decls_from f tree ds file et ed = ap (flat_map (λ d. f (decl_view d))) (ed ∙ ap (λ t. t.decls.items) et) ∙ sym (flat_map-map f decl_view file.file.decls.items)
