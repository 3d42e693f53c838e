-- No two fields and no two functions of a package are declared at one token, and no field at that of a function.
use Rattle.std.proofs.Common.{ℕ, zero, suc, ◌≡◌, ◌+◌, ◌≤◌, List, [], ◌∷◌, ◌++◌, map, append_assoc, ap, sym, ◌∙◌, refl, subst, arith}
use Rattle.std.specs.Prelude.{Some, slice_get}
use Rattle.std.specs.List.{flat_map, enumerate_from}
use Rattle.go_ast.specs.declared.syntax.Kind.TheVariants as kind
use Rattle.go_ast.specs.Flatten.{sign, sign_if, tokens_if, all_tokens, item_tokens, list_tokens, group_tokens, name_tokens, type_tokens, field_tokens}
use Rattle.go_ast.specs.Flatten.{body_tokens, type_spec_tokens, receiver_tokens, param_tokens, result_tokens, block_tokens, func_tokens}
use Rattle.go_ast.specs.Flatten.{method_tokens, decl_tokens}
use Rattle.go_ast.specs.SourceFile.{SourceFile}
use Rattle.go_ast.specs.Tree.{Item, Group, single, several, TypeTree, FieldTree, MethodTree, BodyTree, Other, Struct, Interface, TypeSpecTree}
use Rattle.go_ast.specs.Tree.{DeclTree, VarDecl, TypeDecl, FuncDecl}
use Rattle.go_scope.proofs.Rising.{Rises, rises_le, rises_split}
use Rattle.types_declared.specs.Files.{group_items}
use Rattle.types_declared.specs.Definitions.{OfType, OfSignature, PlacedField, body_fields, fields_from}
use Rattle.types_declared.specs.Package.{PlacedType, PlacedFunction, placed_type, decl_types, decl_functions, types_in, functions_in, declared_types}
use Rattle.types_declared.specs.Package.{declared_functions, function_place}
use Rattle.types_info.specs.Uniqueness.{TokensRise}
use Rattle.types_info.proofs.DeclKinds.{decls_rise}
use Rattle.refs_binding.specs.Binding.{field_place}
use Rattle.refs_lookup.proofs.Apart.{Disjoint, disjoint_none, disjoint_append, disjoint_got, Apart, apart_append, one_rank, RiseIn, rise_down, rise_up}
use Rattle.refs_lookup.proofs.Apart.{rise_append, rise_lies, lies_before, lies_behind, rise_apart, FromFile, rise_in_file, file_before, file_behind}
use Rattle.refs_lookup.proofs.Apart.{file_first}

-- the fields of a file stand at its tokens, in their order

abbrev named_field : (definition file : ℕ) → TypeTree → Item ℕ → PlacedField
named_field definition file t n = record { definition = definition; file = file; name = n.value; form = OfType t }

names_rise : (definition file : ℕ) (t : TypeTree) (ns : List (Item ℕ)) (a b : ℕ) → Rises a (list_tokens kind.Comma name_tokens ns) b →
    RiseIn field_place file a (map (named_field definition file t) ns) b
unfolding all_tokens
names_rise definition file t [] a b r = r
names_rise definition file t (n ∷ ns) a b r =
    let s = rises_split a (item_tokens kind.Comma name_tokens n) (list_tokens kind.Comma name_tokens ns) b r in (
      refl,
      s.1.0.0,
      rise_down field_place file (suc n.value) s.0 (map (named_field definition file t) ns) b
          (rises_le (suc n.value) (sign_if kind.Comma n.separator) s.0 s.1.0.1) (names_rise definition file t ns s.0 b s.1.1),
    )

abbrev fields_of : (definition file : ℕ) → Item FieldTree → List PlacedField
fields_of definition file i = map (named_field definition file i.value.type_use) i.value.names

fields_rise : (definition file : ℕ) (fs : List (Item FieldTree)) (a b : ℕ) → Rises a (list_tokens kind.Semicolon field_tokens fs) b →
    RiseIn field_place file a (flat_map (fields_of definition file) fs) b
unfolding all_tokens field_tokens
fields_rise definition file [] a b r = r
fields_rise definition file (f ∷ fs) a b r =
    let s = rises_split a (item_tokens kind.Semicolon field_tokens f) (list_tokens kind.Semicolon field_tokens fs) b r in
    let own = rises_split a (field_tokens f.value) (sign_if kind.Semicolon f.separator) s.0 s.1.0 in
    let names = rises_split a (list_tokens kind.Comma name_tokens f.value.names) (type_tokens f.value.type_use) own.0 own.1.0 in
    let behind : names.0 ≤ own.0 = rises_le names.0 (type_tokens f.value.type_use) own.0 names.1.1 in
    let further : own.0 ≤ s.0 = rises_le own.0 (sign_if kind.Semicolon f.separator) s.0 own.1.1 in
    rise_append field_place file a (fields_of definition file f) s.0 (flat_map (fields_of definition file) fs) b
    (rise_up field_place file a (fields_of definition file f) names.0 s.0 (omega arith)
    (names_rise definition file f.value.type_use f.value.names a names.0 names.1.0))
    (fields_rise definition file fs s.0 b s.1.1)

abbrev asked_field : (definition file : ℕ) → Item MethodTree → PlacedField
asked_field definition file i = record { definition = definition; file = file; name = i.value.name; form = OfSignature i.value.params i.value.result }

asked_rise : (definition file : ℕ) (ms : List (Item MethodTree)) (a b : ℕ) → Rises a (list_tokens kind.Semicolon method_tokens ms) b →
    RiseIn field_place file a (map (asked_field definition file) ms) b
unfolding all_tokens method_tokens
asked_rise definition file [] a b r = r
asked_rise definition file (m ∷ ms) a b r =
    let s = rises_split a (item_tokens kind.Semicolon method_tokens m) (list_tokens kind.Semicolon method_tokens ms) b r in
    let own = rises_split a (method_tokens m.value) (sign_if kind.Semicolon m.separator) s.0 s.1.0 in
    let behind : suc m.value.name ≤ own.0 = rises_le (suc m.value.name) (sign kind.LeftParen m.value.lparen ∷ (list_tokens kind.Comma param_tokens
    m.value.params ++ (sign kind.RightParen m.value.rparen ∷ result_tokens m.value.result))) own.0 own.1.0.1 in
    let further : own.0 ≤ s.0 = rises_le own.0 (sign_if kind.Semicolon m.separator) s.0 own.1.1 in (
      refl,
      own.1.0.0,
      rise_down field_place file (suc m.value.name) s.0 (map (asked_field definition file) ms) b (omega arith) (asked_rise definition file ms s.0 b s.1.1),
    )

body_rises : (definition file : ℕ) (t : BodyTree) (a b : ℕ) → Rises a (body_tokens t) b → RiseIn field_place file a (body_fields definition file t) b
unfolding body_tokens
body_rises definition file (Other t) a b r = rises_le a (type_tokens t) b r
body_rises definition file (Struct k o fs c) a b r =
    let s = rises_split (suc o) (list_tokens kind.Semicolon field_tokens fs) (sign kind.RightBrace c ∷ []) b r.1.1 in
    let first : a ≤ k = r.0 in
    let second : suc k ≤ o = r.1.0 in
    rise_down field_place file a (suc o) (flat_map (fields_of definition file) fs) b (omega arith)
    (rise_up field_place file (suc o) (flat_map (fields_of definition file) fs) s.0 b (rises_le s.0 (sign kind.RightBrace c ∷ []) b s.1.1)
    (fields_rise definition file fs (suc o) s.0 s.1.0))
body_rises definition file (Interface k o ms c) a b r =
    let s = rises_split (suc o) (list_tokens kind.Semicolon method_tokens ms) (sign kind.RightBrace c ∷ []) b r.1.1 in
    let first : a ≤ k = r.0 in
    let second : suc k ≤ o = r.1.0 in
    rise_down field_place file a (suc o) (map (asked_field definition file) ms) b (omega arith)
    (rise_up field_place file (suc o) (map (asked_field definition file) ms) s.0 b (rises_le s.0 (sign kind.RightBrace c ∷ []) b s.1.1)
    (asked_rise definition file ms (suc o) s.0 s.1.0))

spec_rises : (definition file : ℕ) (t : TypeSpecTree) (a b : ℕ) → Rises a (type_spec_tokens t) b →
    RiseIn field_place file a (body_fields definition file t.body) b
unfolding type_spec_tokens
spec_rises definition file t a b r =
    let first : a ≤ t.name = r.0 in
    rise_down field_place file a (suc t.name) (body_fields definition file t.body) b (omega arith)
    (body_rises definition file t.body (suc t.name) b r.1)

abbrev specs_of : List (Item TypeSpecTree) → List TypeSpecTree
specs_of ts = map (λ x. x.value) ts

specs_rise : (definition file : ℕ) (ts : List (Item TypeSpecTree)) (a b : ℕ) → Rises a (list_tokens kind.Semicolon type_spec_tokens ts) b →
    RiseIn field_place file a (fields_from definition (map (placed_type file) (specs_of ts))) b
unfolding all_tokens
specs_rise definition file [] a b r = r
specs_rise definition file (t ∷ ts) a b r =
    let s = rises_split a (item_tokens kind.Semicolon type_spec_tokens t) (list_tokens kind.Semicolon type_spec_tokens ts) b r in
    let own = rises_split a (type_spec_tokens t.value) (sign_if kind.Semicolon t.separator) s.0 s.1.0 in
    rise_append field_place file a (body_fields definition file t.value.body) s.0 (fields_from (suc definition) (map (placed_type file) (specs_of ts))) b
    (rise_up field_place file a (body_fields definition file t.value.body) own.0 s.0 (rises_le own.0 (sign_if kind.Semicolon t.separator) s.0 own.1.1)
    (spec_rises definition file t.value a own.0 own.1.0))
    (specs_rise (suc definition) file ts s.0 b s.1.1)

group_rises : (definition file : ℕ) (g : Group TypeSpecTree) (a b : ℕ) → Rises a (group_tokens type_spec_tokens g) b →
    RiseIn field_place file a (fields_from definition (map (placed_type file) (group_items g))) b
unfolding group_tokens
group_rises definition file (single t) a b r =
    rise_append field_place file a (body_fields definition file t.body) b [] b (spec_rises definition file t a b r) (omega arith)
group_rises definition file (several o ts c) a b r =
    let fs = fields_from definition (map (placed_type file) (specs_of ts)) in
    let s = rises_split (suc o) (list_tokens kind.Semicolon type_spec_tokens ts) (sign kind.RightParen c ∷ []) b r.1 in
    let first : a ≤ o = r.0 in
    rise_down field_place file a (suc o) fs b (omega arith)
    (rise_up field_place file (suc o) fs s.0 b (rises_le s.0 (sign kind.RightParen c ∷ []) b s.1.1) (specs_rise definition file ts (suc o) s.0 s.1.0))

decl_fields_rise : (definition file : ℕ) (d : DeclTree) (a b : ℕ) → Rises a (decl_tokens d) b →
    RiseIn field_place file a (fields_from definition (decl_types file d)) b
unfolding decl_tokens
decl_fields_rise definition file (VarDecl k g s) a b r = rises_le a (decl_tokens (VarDecl k g s)) b r
decl_fields_rise definition file (TypeDecl k g s) a b r =
    let fs = fields_from definition (map (placed_type file) (group_items g)) in
    let h = rises_split (suc k) (group_tokens type_spec_tokens g) (sign kind.Semicolon s ∷ []) b r.1 in
    let first : a ≤ k = r.0 in
    rise_down field_place file a (suc k) fs b (omega arith)
    (rise_up field_place file (suc k) fs h.0 b (rises_le h.0 (sign kind.Semicolon s ∷ []) b h.1.1) (group_rises definition file g (suc k) h.0 h.1.0))
decl_fields_rise definition file (FuncDecl k f s) a b r = rises_le a (decl_tokens (FuncDecl k f s)) b r

-- so do its functions

decl_functions_rise : (file : ℕ) (d : DeclTree) (a b : ℕ) → Rises a (decl_tokens d) b → RiseIn function_place file a (decl_functions file d) b
unfolding decl_tokens func_tokens
decl_functions_rise file (VarDecl k g s) a b r = rises_le a (decl_tokens (VarDecl k g s)) b r
decl_functions_rise file (TypeDecl k g s) a b r = rises_le a (decl_tokens (TypeDecl k g s)) b r
decl_functions_rise file (FuncDecl k f s) a b r =
    let more =
    sign kind.LeftParen f.lparen ∷ (list_tokens kind.Comma param_tokens f.params ++
    (sign kind.RightParen f.rparen ∷ (result_tokens f.result ++ block_tokens f.body))) in
    let h = rises_split (suc k) (func_tokens f) (sign kind.Semicolon s ∷ []) b r.1 in
    let own = rises_split (suc k) (tokens_if receiver_tokens f.receiver) (sign kind.Name f.name ∷ more) h.0 h.1.0 in
    let first : a ≤ k = r.0 in
    let second : suc k ≤ own.0 = rises_le (suc k) (tokens_if receiver_tokens f.receiver) own.0 own.1.0 in
    let third : own.0 ≤ f.name = own.1.1.0 in
    let fourth : suc f.name ≤ h.0 = rises_le (suc f.name) more h.0 own.1.1.1 in
    let fifth : h.0 ≤ b = rises_le h.0 (sign kind.Semicolon s ∷ []) b h.1.1 in (refl, omega arith, omega arith)

-- of all declarations of a file

fields_split : (k : ℕ) (xs ys : List PlacedType) → (j : ℕ) × (fields_from k (xs ++ ys) ≡ fields_from k xs ++ fields_from j ys)
fields_split k [] ys = (k, refl)
fields_split k (x ∷ xs) ys =
    let s = fields_split (suc k) xs ys in
    let own = body_fields k x.file x.spec.body in
    (s.0, ap (λ l. own ++ l) s.1 ∙ sym (append_assoc own (fields_from (suc k) xs) (fields_from s.0 ys)))

decls_fields_rise : (definition file : ℕ) (ds : List DeclTree) (a b : ℕ) → Rises a (all_tokens decl_tokens ds) b →
    RiseIn field_place file a (fields_from definition (flat_map (decl_types file) ds)) b
unfolding all_tokens
decls_fields_rise definition file [] a b r = r
decls_fields_rise definition file (d ∷ ds) a b r =
    let s = rises_split a (decl_tokens d) (all_tokens decl_tokens ds) b r in
    let j = fields_split definition (decl_types file d) (flat_map (decl_types file) ds) in
    subst (λ l. RiseIn field_place file a l b) (sym j.1)
    (rise_append field_place file a (fields_from definition (decl_types file d)) s.0 (fields_from j.0 (flat_map (decl_types file) ds)) b
    (decl_fields_rise definition file d a s.0 s.1.0) (decls_fields_rise j.0 file ds s.0 b s.1.1))

decls_functions_rise : (file : ℕ) (ds : List DeclTree) (a b : ℕ) → Rises a (all_tokens decl_tokens ds) b →
    RiseIn function_place file a (flat_map (decl_functions file) ds) b
unfolding all_tokens
decls_functions_rise file [] a b r = r
decls_functions_rise file (d ∷ ds) a b r =
    let s = rises_split a (decl_tokens d) (all_tokens decl_tokens ds) b r in
    rise_append function_place file a (decl_functions file d) s.0 (flat_map (decl_functions file) ds) b (decl_functions_rise file d a s.0 s.1.0)
    (decls_functions_rise file ds s.0 b s.1.1)

decl_disjoint : (definition file : ℕ) (d : DeclTree) → Disjoint field_place function_place (fields_from definition (decl_types file d)) (decl_functions file d)
decl_disjoint definition file (VarDecl k g s) = tt
decl_disjoint definition file (TypeDecl k g s) = disjoint_none field_place function_place (fields_from definition (decl_types file (TypeDecl k g s)))
decl_disjoint definition file (FuncDecl k f s) = tt

decls_disjoint : (definition file : ℕ) (ds : List DeclTree) (a b : ℕ) → Rises a (all_tokens decl_tokens ds) b →
    Disjoint field_place function_place (fields_from definition (flat_map (decl_types file) ds)) (flat_map (decl_functions file) ds)
unfolding all_tokens
decls_disjoint definition file [] a b r = tt
decls_disjoint definition file (d ∷ ds) a b r =
    let s = rises_split a (decl_tokens d) (all_tokens decl_tokens ds) b r in
    let j = fields_split definition (decl_types file d) (flat_map (decl_types file) ds) in
    let fs = fields_from definition (decl_types file d) in
    let more = fields_from j.0 (flat_map (decl_types file) ds) in
    let ms = decl_functions file d in
    let others = flat_map (decl_functions file) ds in
    let own = rise_lies field_place file a fs s.0 (decl_fields_rise definition file d a s.0 s.1.0) in
    let later = rise_lies field_place file s.0 more b (decls_fields_rise j.0 file ds s.0 b s.1.1) in
    let named = rise_lies function_place file a ms s.0 (decl_functions_rise file d a s.0 s.1.0) in
    let behind = rise_lies function_place file s.0 others b (decls_functions_rise file ds s.0 b s.1.1) in
    subst (λ l. Disjoint field_place function_place l (ms ++ others)) (sym j.1)
    (disjoint_append field_place function_place fs more ms others (decl_disjoint definition file d)
    (lies_before field_place function_place file a s.0 b fs others own behind)
    (lies_behind field_place function_place file a s.0 b more ms later named) (decls_disjoint j.0 file ds s.0 b s.1.1))

-- of all files of a package

abbrev fields_in : (definition rank : ℕ) → List SourceFile → List PlacedField
fields_in definition rank files = fields_from definition (flat_map types_in (enumerate_from rank files))

abbrev functions_from : (rank : ℕ) → List SourceFile → List PlacedFunction
functions_from rank files = flat_map functions_in (enumerate_from rank files)

fields_apart : (definition rank : ℕ) (files : List SourceFile) → TokensRise files →
    Apart field_place (fields_in definition rank files) × FromFile field_place rank (fields_in definition rank files)
fields_apart definition rank [] h = (tt, tt)
fields_apart definition rank (s ∷ files) h =
    let t = decls_rise s.tree (h zero s refl) in
    let types = flat_map (decl_types rank) s.tree.decls in
    let j = fields_split definition types (flat_map types_in (enumerate_from (rank + 1) files)) in
    let own = fields_from definition types in
    let more = fields_in j.0 (rank + 1) files in
    let r = decls_fields_rise definition rank s.tree.decls t.0 t.1.0 t.1.1 in
    let here = rise_in_file field_place rank t.0 own t.1.0 r in
    let rest = fields_apart j.0 (rank + 1) files (λ k x e. h (suc k) x e) in (
      subst (Apart field_place) (sym j.1)
          (apart_append field_place own more (rise_apart field_place rank t.0 own t.1.0 r) rest.0
          (file_before field_place field_place rank own more here rest.1)),
      subst (FromFile field_place rank) (sym j.1) (file_first field_place rank own more here rest.1),
    )

functions_apart : (rank : ℕ) (files : List SourceFile) → TokensRise files →
    Apart function_place (functions_from rank files) × FromFile function_place rank (functions_from rank files)
functions_apart rank [] h = (tt, tt)
functions_apart rank (s ∷ files) h =
    let t = decls_rise s.tree (h zero s refl) in
    let own = flat_map (decl_functions rank) s.tree.decls in
    let more = functions_from (rank + 1) files in
    let r = decls_functions_rise rank s.tree.decls t.0 t.1.0 t.1.1 in
    let here = rise_in_file function_place rank t.0 own t.1.0 r in
    let rest = functions_apart (rank + 1) files (λ k x e. h (suc k) x e) in (
      apart_append function_place own more (rise_apart function_place rank t.0 own t.1.0 r) rest.0
          (file_before function_place function_place rank own more here rest.1),
      file_first function_place rank own more here rest.1,
    )

files_disjoint : (definition rank : ℕ) (files : List SourceFile) → TokensRise files →
    Disjoint field_place function_place (fields_in definition rank files) (functions_from rank files)
files_disjoint definition rank [] h = tt
files_disjoint definition rank (s ∷ files) h =
    let t = decls_rise s.tree (h zero s refl) in
    let types = flat_map (decl_types rank) s.tree.decls in
    let j = fields_split definition types (flat_map types_in (enumerate_from (rank + 1) files)) in
    let fs = fields_from definition types in
    let more = fields_in j.0 (rank + 1) files in
    let ms = flat_map (decl_functions rank) s.tree.decls in
    let others = functions_from (rank + 1) files in
    let named = rise_in_file field_place rank t.0 fs t.1.0 (decls_fields_rise definition rank s.tree.decls t.0 t.1.0 t.1.1) in
    let called = rise_in_file function_place rank t.0 ms t.1.0 (decls_functions_rise rank s.tree.decls t.0 t.1.0 t.1.1) in
    let tail : TokensRise files = λ k x e. h (suc k) x e in
    subst (λ l. Disjoint field_place function_place l (ms ++ others)) (sym j.1)
    (disjoint_append field_place function_place fs more ms others (decls_disjoint definition rank s.tree.decls t.0 t.1.0 t.1.1)
    (file_before field_place function_place rank fs others named (functions_apart (rank + 1) files tail).1)
    (file_behind field_place function_place rank more ms (fields_apart j.0 (rank + 1) files tail).1 called) (files_disjoint j.0 (rank + 1) files tail))

-- so by ranks

pub one_field : (files : List SourceFile) → TokensRise files → (k j : ℕ) (f g : PlacedField) → slice_get (fields_from 0 (declared_types files)) k ≡ Some f →
    slice_get (fields_from 0 (declared_types files)) j ≡ Some g → field_place f ≡ field_place g → k ≡ j
one_field files h k j f g at by e = one_rank field_place (fields_in 0 0 files) (fields_apart 0 0 files h).0 k j f g at by e

pub one_function : (files : List SourceFile) → TokensRise files → (k j : ℕ) (f g : PlacedFunction) → slice_get (declared_functions files) k ≡ Some f →
    slice_get (declared_functions files) j ≡ Some g → function_place f ≡ function_place g → k ≡ j
one_function files h k j f g at by e = one_rank function_place (functions_from 0 files) (functions_apart 0 files h).0 k j f g at by e

pub no_field_and_function : (files : List SourceFile) → TokensRise files → (k j : ℕ) (f : PlacedField) (g : PlacedFunction) →
    slice_get (fields_from 0 (declared_types files)) k ≡ Some f → slice_get (declared_functions files) j ≡ Some g → field_place f ≡ function_place g → ⊥
no_field_and_function files h k j f g at by e =
    disjoint_got field_place function_place (fields_in 0 0 files) (functions_from 0 files) (files_disjoint 0 0 files h) k j f g at by e
