-- The fields of a package, part by part as the program goes over them.
use Rattle.std.proofs.Common.{ℕ, suc, ◌≡◌, ◌+◌, List, [], ◌∷◌, ◌++◌, ap, sym, ◌∙◌, refl, arith}
use Rattle.std.specs.Prelude.{map}
use Rattle.std.specs.List.{flat_map, enumerate_from}
use Rattle.go_ast.specs.declared.tree.Item.{Item}
use Rattle.go_ast.specs.declared.tree.FieldDecl.{FieldDecl}
use Rattle.go_ast.specs.declared.tree.MethodSpec.{MethodSpec}
use Rattle.go_ast.specs.declared.tree.TypeBody.{TypeBody}
use Rattle.go_ast.specs.declared.tree.TypeBody.TheVariants as body
use Rattle.go_ast.specs.View.{item_view, list_view, type_view}
use Rattle.go_ast.specs.FileView.{same_index, field_view, method_view, body_view}
use Rattle.types_declared.specs.Package.{PlacedType}
use Rattle.types_declared.specs.Definitions.{OfType, PlacedField, body_fields, fields_from}
use Rattle.types_members.specs.FieldsView.{field_names, asked_method}

abbrev pub name_part : ℕ → ℕ → FieldDecl → Item ℕ → List PlacedField
name_part definition file field name = record { definition = definition; file = file; name = name.value; form = OfType (type_view field.field_type) } ∷ []

abbrev pub field_part : ℕ → ℕ → Item FieldDecl → List PlacedField
field_part definition file item = field_names definition file (field_view item.value)

abbrev pub ranked_part : ℕ × PlacedType → List PlacedField
ranked_part r = body_fields r.0 r.1.file r.1.spec.body

names_of_items : (definition file : ℕ) (field : FieldDecl) (xs : List (Item ℕ)) →
    flat_map (name_part definition file field) xs ≡ map
    (λ n. record { definition = definition; file = file; name = n.value; form = OfType (type_view field.field_type) }) (map (item_view same_index) xs)
names_of_items definition file field [] = refl
names_of_items definition file field (x ∷ xs) =
    ap (λ z. record { definition = definition; file = file; name = x.value; form = OfType (type_view field.field_type) } ∷ z)
    (names_of_items definition file field xs)

pub names_from : (definition file : ℕ) (field : FieldDecl) (xs : List (Item ℕ)) → xs ≡ field.names.items →
    flat_map (name_part definition file field) xs ≡ field_names definition file (field_view field)
unfolding field_view
names_from definition file field xs e = ap (flat_map (name_part definition file field)) e ∙ names_of_items definition file field field.names.items

fields_of_items : (definition file : ℕ) (xs : List (Item FieldDecl)) →
    flat_map (field_part definition file) xs ≡ flat_map (λ i. field_names definition file i.value) (list_view field_view xs)
fields_of_items definition file [] = refl
fields_of_items definition file (x ∷ xs) = ap (λ z. field_part definition file x ++ z) (fields_of_items definition file xs)

-- the fields of a struct
pub struct_from : (definition file : ℕ) (b : TypeBody) (k o : ℕ) (fs : _) (c : ℕ) (xs : List (Item FieldDecl)) → b ≡ body.Struct k o fs c → xs ≡ fs.items →
    flat_map (field_part definition file) xs ≡ body_fields definition file (body_view b)
unfolding body_view
struct_from definition file b k o fs c xs eb ex =
    ap (flat_map (field_part definition file)) ex ∙ fields_of_items definition file fs.items ∙ ap (λ z. body_fields definition file (body_view z)) (sym eb)

-- a definition that is no struct has no fields
pub none_from : (definition file : ℕ) (b : TypeBody) (t : _) → b ≡ body.Type t → [] ≡ body_fields definition file (body_view b)
unfolding body_view
none_from definition file b t e = ap (λ z. body_fields definition file (body_view z)) (sym e)

-- the methods that an interface asks for
abbrev pub asked_part : ℕ → ℕ → Item MethodSpec → List PlacedField
asked_part definition file item = asked_method definition file (method_view item.value) ∷ []

asked_of_items : (definition file : ℕ) (xs : List (Item MethodSpec)) →
    flat_map (asked_part definition file) xs ≡ map (λ i. asked_method definition file i.value) (list_view method_view xs)
asked_of_items definition file [] = refl
asked_of_items definition file (x ∷ xs) = ap (λ z. asked_method definition file (method_view x.value) ∷ z) (asked_of_items definition file xs)

pub asked_from : (definition file : ℕ) (xs : List (Item MethodSpec)) →
    flat_map (asked_part definition file) xs ≡ map (λ i. asked_method definition file i.value) (list_view method_view xs)
asked_from definition file xs = asked_of_items definition file xs

pub interface_from : (definition file : ℕ) (b : TypeBody) (k o : ℕ) (ms : _) (c : ℕ) (xs : List (Item MethodSpec)) → b ≡ body.Interface k o ms c →
    xs ≡ ms.items → map (λ i. asked_method definition file i.value) (list_view method_view xs) ≡ body_fields definition file (body_view b)
unfolding body_view
interface_from definition file b k o ms c xs eb ex =
    ap (λ z. map (λ i. asked_method definition file i.value) (list_view method_view z)) ex ∙ ap (λ z. body_fields definition file (body_view z)) (sym eb)

pub ranked_fields : (rank : ℕ) (ds : List PlacedType) → flat_map ranked_part (enumerate_from rank ds) ≡ fields_from rank ds
ranked_fields rank [] = refl
ranked_fields rank (d ∷ ds) =
    ap (λ z. body_fields rank d.file d.spec.body ++ z)
    (ap (λ k. flat_map ranked_part (enumerate_from k ds)) (let e : rank + 1 ≡ suc rank = omega arith in e) ∙ ranked_fields (suc rank) ds)
