-- What the parts of files add to the text of an object.
use Rattle.std.proofs.Common.{ℕ, suc, zero, ◌≡◌, ◌+◌, ◌<◌, ◌≤◌, ◌∷◌, ◌++◌, [], List, Option, Some, None, ap, sym, ◌∙◌, refl, append_assoc, append-nil}
use Rattle.std.proofs.Common.{length, drop, map, get_or, arith}
use Rattle.std.specs.Prelude.{slice_get, slice_index_or}
use Rattle.std.specs.List.{flat_map}
use Rattle.std.proofs.lemmas.Grind.{flat_map-append}
use Rattle.std.proofs.lemmas.List.{drop_more}
use Rattle.std.proofs.Math.ListN.{drop_of_length-le}
use Rattle.go_ast.specs.declared.tree.Item.{Item}
use Rattle.go_ast.specs.declared.tree.TypeSpec.{TypeSpec}
use Rattle.go_ast.specs.declared.tree.VarSpec.{VarSpec}
use Rattle.go_ast.specs.declared.tree.BasicLit.{BasicLit}
use Rattle.go_ast.specs.declared.tree.Decl.{Decl}
use Rattle.go_ast.specs.Tree as tree
use Rattle.go_ast.specs.View.{list_view}
use Rattle.go_ast.specs.FileView.{basic_view, same_index, type_spec_view, global_view, decl_view}
use Rattle.types_expr.specs.Types.{PlainType}
use Rattle.types_expr.proofs.Items.{next_item}
use Rattle.types_declared.specs.MeaningOf.{result_types}
use Rattle.build_object.specs.declared.source.Source.{Source}
use Rattle.build_object.specs.Source as pure
use Rattle.build_object.specs.Lines.{FunctionName, CodeLine}
use Rattle.build_object.specs.SourceView.{source_of}
use Rattle.build_object.specs.PackagesView.{type_in}
use Rattle.build_object.specs.Slots.{slots_of}
use Rattle.build_object.specs.Statements.{body_lines}
use Rattle.build_object.specs.Objects.{Initial, FunctionOf, declared_type, global_variables, declared_in, declared_by, first_initial, other_initials}
use Rattle.build_object.specs.Objects.{function_of, initials_of, names_behind, names_behind_all}
use Rattle.build_object.specs.Objects.{parameters_of, results_of, known_variable, variable_declarations}
use Rattle.build_object.specs.Text.{code_text, ended}
use Rattle.build_object.specs.ObjectText.{declaration_text, header_text}
use Rattle.build_object.specs.DeclarationsView.{literal_value_at}

-- Types

abbrev pub type_spec_text : Source → Item TypeSpec → List ℕ
type_spec_text s x = flat_map (declaration_text (type_in s.packages.now)) (declared_type (source_of s) (type_spec_view x.value))

abbrev pub type_specs_text : Source → List (Item TypeSpec) → List ℕ
type_specs_text s xs = flat_map (declaration_text (type_in s.packages.now)) (flat_map (λ i. declared_type (source_of s) (type_spec_view i.value)) xs)

pub type_specs_more : (s : Source) (x : Item TypeSpec) (xs : List (Item TypeSpec)) → type_specs_text s (x ∷ xs) ≡ type_spec_text s x ++ type_specs_text s xs
type_specs_more s x xs =
    flat_map-append (declaration_text (type_in s.packages.now)) (declared_type (source_of s) (type_spec_view x.value))
    (flat_map (λ i. declared_type (source_of s) (type_spec_view i.value)) xs)

-- Variables

abbrev pub var_spec_text : Source → Item VarSpec → List ℕ
var_spec_text s x = flat_map (declaration_text (type_in s.packages.now)) (global_variables (source_of s) (global_view x.value))

abbrev pub var_specs_text : Source → List (Item VarSpec) → List ℕ
var_specs_text s xs = flat_map (declaration_text (type_in s.packages.now)) (flat_map (λ i. global_variables (source_of s) (global_view i.value)) xs)

pub var_specs_more : (s : Source) (x : Item VarSpec) (xs : List (Item VarSpec)) → var_specs_text s (x ∷ xs) ≡ var_spec_text s x ++ var_specs_text s xs
var_specs_more s x xs =
    flat_map-append (declaration_text (type_in s.packages.now)) (global_variables (source_of s) (global_view x.value))
    (flat_map (λ i. global_variables (source_of s) (global_view i.value)) xs)

-- variables of no known type are none
pub no_variables : (s : pure.Source) (ns : List (tree.Item ℕ)) (values : List (Option Initial)) → variable_declarations s None ns values ≡ []
unfolding variable_declarations
no_variables s [] values = refl
no_variables s (n ∷ ns) values = no_variables s ns (other_initials values)

abbrev pub variables_text : Source → PlainType → List (Item ℕ) → List (Option Initial) → List ℕ
variables_text s own ns values = flat_map (declaration_text (type_in s.packages.now)) (variable_declarations (source_of s) (Some own) (list_view same_index
    ns) values)

first_at : (values : List (Option Initial)) (i : ℕ) → first_initial (drop i values) ≡ slice_index_or values i None
first_at [] zero = refl
first_at [] (suc i) = refl
first_at (v ∷ vs) zero = refl
first_at (v ∷ vs) (suc i) = first_at vs i

others_behind : (values : List (Option Initial)) (i : ℕ) → other_initials (drop i values) ≡ drop (suc i) values
others_behind [] zero = refl
others_behind [] (suc i) = refl
others_behind (v ∷ vs) zero = refl
others_behind (v ∷ vs) (suc i) = others_behind vs i

others_at : (values : List (Option Initial)) (i : ℕ) → other_initials (drop i values) ≡ drop (i + 1) values
others_at values i = let e : suc i ≡ i + 1 = omega arith in others_behind values i ∙ ap (λ k. drop k values) e

-- the value of the literal of a number
pub literal_beside : (s : pure.Source) (xs : List (Item BasicLit)) (i : ℕ) →
    literal_value_at s (slice_get xs i) ≡ slice_index_or (initials_of s (list_view basic_view xs)) i None
literal_beside s [] i = refl
literal_beside s (x ∷ xs) zero = refl
literal_beside s (x ∷ xs) (suc i) = literal_beside s xs i

pub variables_step : (s : Source) (own : PlainType) (values : List (Option Initial)) (now new total : List ℕ) (ns : List (Item ℕ)) (i : ℕ) (d : Item ℕ)
    (value : Option Initial) → i < length ns →
    now ++ variables_text s own (drop i ns) (drop i values) ≡ total →
    new ≡ now ++ flat_map (declaration_text (type_in s.packages.now)) (known_variable (Some own) ((source_of s).global (get_or ns i d).value) value) →
    value ≡ slice_index_or values i None →
    new ++ variables_text s own (drop (i + 1) ns) (drop (i + 1) values) ≡ total
unfolding variable_declarations
variables_step s own values now new total ns i d value lt h e is =
    ap (λ z. z ++ variables_text s own (drop (i + 1) ns) (drop (i + 1) values)) e
    ∙ (append_assoc now (flat_map (declaration_text (type_in s.packages.now)) (known_variable (Some own) ((source_of s).global (get_or ns i d).value) value))
    (variables_text s own (drop (i + 1) ns) (drop (i + 1) values))
    ∙ (ap (λ vs. now ++ (flat_map (declaration_text (type_in s.packages.now)) (known_variable (Some own) ((source_of s).global (get_or ns i d).value) value) ++
    variables_text s own (drop (i + 1) ns) vs)) (sym (others_at values i))
    ∙ (ap (λ v. now ++ (flat_map (declaration_text (type_in s.packages.now)) (known_variable (Some own) ((source_of s).global (get_or ns i d).value) v) ++
    variables_text s own (drop (i + 1) ns) (other_initials (drop i values))))
    (is ∙ sym (first_at values i))
    ∙ (ap (λ z. now ++ z) (sym (flat_map-append (declaration_text (type_in s.packages.now))
    (known_variable (Some own) ((source_of s).global (get_or ns i d).value) (first_initial (drop i values)))
    (variable_declarations (source_of s) (Some own) (list_view same_index (drop (i + 1) ns)) (other_initials (drop i values)))))
    ∙ (ap (λ ys. now ++ variables_text s own ys (drop i values)) (sym (drop_more ns i d lt)) ∙ h)))))

pub variables_end : (s : Source) (own : PlainType) (values : List (Option Initial)) (now total : List ℕ) (ns : List (Item ℕ)) (i : ℕ) → length ns ≤ i →
    now ++ variables_text s own (drop i ns) (drop i values) ≡ total → now ≡ total
unfolding variable_declarations
variables_end s own values now total ns i all h = sym (append-nil now) ∙
    (ap (λ ys. now ++ variables_text s own ys (drop i values)) (sym (drop_of_length-le ns all)) ∙ h)

-- Functions

pub function_put : (s : Source) (f : tree.FuncTree) (name called : FunctionName) (old new : List ℕ) (slots : List ℕ) (code : List CodeLine)
    (parameters results : List PlainType) (count : ℕ) →
    slots ≡ slots_of (source_of s).world f → code ≡ body_lines (source_of s) slots (length (result_types f.result)) f.body →
    called ≡ name → parameters ≡ parameters_of (source_of s).world f → results ≡ results_of (source_of s).world f →
    count ≡ length slots →
    new ≡ old ++ (ended (header_text (type_in s.packages.now) called parameters results count (length code)) ++ code_text (type_in s.packages.now) code) →
    new ≡ old ++ declaration_text (type_in s.packages.now) (FunctionOf (function_of (source_of s) f name))
unfolding declaration_text
function_put s f name called old new slots code parameters results count is_slots is_code is_called are_parameters are_results is_count e =
    let names = type_in s.packages.now in
    let lines : code ≡ body_lines (source_of s) (slots_of (source_of s).world f) (length (result_types f.result)) f.body = is_code ∙
    ap (λ xs. body_lines (source_of s) xs (length (result_types f.result)) f.body) is_slots in
    e ∙ (ap (λ n. old ++ (ended (header_text names n parameters results count (length code)) ++ code_text names code)) is_called
    ∙ (ap (λ k. old ++ (ended (header_text names name parameters results k (length code)) ++ code_text names code)) (is_count ∙ ap length is_slots)
    ∙ (ap (λ ps. old ++ (ended (header_text names name ps results (length (slots_of (source_of s).world f)) (length code)) ++ code_text names code))
    are_parameters
    ∙ (ap (λ rs. old ++ (ended (header_text names name (parameters_of (source_of s).world f) rs (length (slots_of (source_of s).world f)) (length code)) ++
    code_text names code)) are_results
    ∙ ap (λ ls. old ++ (ended (header_text names name (parameters_of (source_of s).world f) (results_of (source_of s).world f)
    (length (slots_of (source_of s).world f)) (length ls)) ++ code_text names ls)) lines))))

-- Files

abbrev pub decls_text : Source → List FunctionName → List Decl → List ℕ
decls_text s names xs = flat_map (declaration_text (type_in s.packages.now)) (declared_in (source_of s) names (map decl_view xs))

pub no_decls : (s : Source) (names : List FunctionName) → decls_text s names [] ≡ []
unfolding declared_in
no_decls s names = refl

decls_more : (s : Source) (names : List FunctionName) (x : Decl) (xs : List Decl) →
    decls_text s names (x ∷ xs) ≡ flat_map (declaration_text (type_in s.packages.now)) (declared_by (source_of s) names (decl_view x)) ++ decls_text s
    (names_behind names (decl_view x)) xs
unfolding declared_in
decls_more s names x xs = flat_map-append (declaration_text (type_in s.packages.now)) (declared_by (source_of s) names (decl_view x))
    (declared_in (source_of s) (names_behind names (decl_view x)) (map decl_view xs))

pub decls_step : (s : Source) (names others : List FunctionName) (now new total : List ℕ) (xs : List Decl) (i : ℕ) (x : Decl) → i < length xs →
    x ≡ get_or xs i x → now ++ decls_text s names (drop i xs) ≡ total →
    new ≡ now ++ flat_map (declaration_text (type_in s.packages.now)) (declared_by (source_of s) names (decl_view x)) →
    others ≡ names_behind names (decl_view x) → new ++ decls_text s others (drop (i + 1) xs) ≡ total
decls_step s names others now new total xs i x lt is h e behind =
    ap (λ z. z ++ decls_text s others (drop (i + 1) xs)) e
    ∙ (append_assoc now (flat_map (declaration_text (type_in s.packages.now)) (declared_by (source_of s) names (decl_view x)))
    (decls_text s others (drop (i + 1) xs))
    ∙ (ap (λ ns. now ++ (flat_map (declaration_text (type_in s.packages.now)) (declared_by (source_of s) names (decl_view x)) ++ decls_text s ns
    (drop (i + 1) xs))) behind
    ∙ (ap (λ z. now ++ z) (sym (ap (decls_text s names) (next_item xs i x lt is) ∙ decls_more s names x (drop (i + 1) xs))) ∙ h)))

pub names_behind_step : (names others total : List FunctionName) (xs : List Decl) (i : ℕ) (x : Decl) → i < length xs → x ≡ get_or xs i x →
    names_behind_all names (map decl_view (drop i xs)) ≡ total →
    others ≡ names_behind names (decl_view x) → names_behind_all others (map decl_view (drop (i + 1) xs)) ≡ total
unfolding names_behind_all
names_behind_step names others total xs i x lt is h behind =
    ap (λ ns. names_behind_all ns (map decl_view (drop (i + 1) xs))) behind ∙
    (sym (ap (λ ys. names_behind_all names (map decl_view ys)) (next_item xs i x lt is)) ∙ h)

pub names_behind_end : (names total : List FunctionName) (xs : List Decl) (i : ℕ) → length xs ≤ i →
    names_behind_all names (map decl_view (drop i xs)) ≡ total → names ≡ total
unfolding names_behind_all
names_behind_end names total xs i all h = ap (λ ys. names_behind_all names (map decl_view ys)) (sym (drop_of_length-le xs all)) ∙ h
