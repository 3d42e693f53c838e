-- No two type definitions of a package stand at one token.
use Rattle.std.proofs.Common.{ℕ, zero, suc, ◌≡◌, ◌+◌, ◌≤◌, List, [], ◌∷◌, ◌++◌, map, refl, arith}
use Rattle.std.specs.Prelude.{Some, slice_get}
use Rattle.std.specs.List.{flat_map, enumerate_from}
use Rattle.go_ast.specs.declared.syntax.Kind.TheVariants as kind
use Rattle.go_ast.specs.Flatten.{sign, sign_if, all_tokens, item_tokens, list_tokens, group_tokens, body_tokens, type_spec_tokens, decl_tokens}
use Rattle.go_ast.specs.SourceFile.{SourceFile}
use Rattle.go_ast.specs.Tree.{Item, Group, single, several, TypeSpecTree, DeclTree, VarDecl, TypeDecl, FuncDecl}
use Rattle.go_scope.proofs.Rising.{Rises, rises_le, rises_split}
use Rattle.types_declared.specs.Files.{group_items}
use Rattle.types_declared.specs.Package.{PlacedType, placed_type, decl_types, types_in, declared_types, type_place}
use Rattle.types_info.specs.Uniqueness.{TokensRise}
use Rattle.types_info.proofs.DeclKinds.{decls_rise}
use Rattle.refs_lookup.proofs.Apart.{Apart, apart_append, one_rank, RiseIn, rise_down, rise_up, rise_append, rise_apart, FromFile, rise_in_file, file_before}
use Rattle.refs_lookup.proofs.Apart.{file_first}

-- the type definitions of a file stand at its tokens, in their order

abbrev placed_in : (file : ℕ) → List (Item TypeSpecTree) → List PlacedType
placed_in file ts = map (placed_type file) (map (λ x. x.value) ts)

specs_stand : (file : ℕ) (ts : List (Item TypeSpecTree)) (a b : ℕ) → Rises a (list_tokens kind.Semicolon type_spec_tokens ts) b →
    RiseIn type_place file a (placed_in file ts) b
unfolding all_tokens type_spec_tokens
specs_stand file [] a b r = r
specs_stand file (t ∷ ts) a b r =
    let s = rises_split a (item_tokens kind.Semicolon type_spec_tokens t) (list_tokens kind.Semicolon type_spec_tokens ts) b r in
    let own = rises_split a (type_spec_tokens t.value) (sign_if kind.Semicolon t.separator) s.0 s.1.0 in
    let behind : suc t.value.name ≤ own.0 = rises_le (suc t.value.name) (body_tokens t.value.body) own.0 own.1.0.1 in
    let further : own.0 ≤ s.0 = rises_le own.0 (sign_if kind.Semicolon t.separator) s.0 own.1.1 in (
      refl,
      own.1.0.0,
      rise_down type_place file (suc t.value.name) s.0 (placed_in file ts) b (omega arith) (specs_stand file ts s.0 b s.1.1),
    )

group_stands : (file : ℕ) (g : Group TypeSpecTree) (a b : ℕ) → Rises a (group_tokens type_spec_tokens g) b →
    RiseIn type_place file a (map (placed_type file) (group_items g)) b
unfolding group_tokens type_spec_tokens
group_stands file (single t) a b r = (refl, r.0, rises_le (suc t.name) (body_tokens t.body) b r.1)
group_stands file (several o ts c) a b r =
    let s = rises_split (suc o) (list_tokens kind.Semicolon type_spec_tokens ts) (sign kind.RightParen c ∷ []) b r.1 in
    let first : a ≤ o = r.0 in
    rise_down type_place file a (suc o) (placed_in file ts) b (omega arith)
    (rise_up type_place file (suc o) (placed_in file ts) s.0 b (rises_le s.0 (sign kind.RightParen c ∷ []) b s.1.1) (specs_stand file ts (suc o) s.0 s.1.0))

decl_stands : (file : ℕ) (d : DeclTree) (a b : ℕ) → Rises a (decl_tokens d) b → RiseIn type_place file a (decl_types file d) b
unfolding decl_tokens
decl_stands file (VarDecl k g s) a b r = rises_le a (decl_tokens (VarDecl k g s)) b r
decl_stands file (TypeDecl k g s) a b r =
    let ts = map (placed_type file) (group_items g) in
    let h = rises_split (suc k) (group_tokens type_spec_tokens g) (sign kind.Semicolon s ∷ []) b r.1 in
    let first : a ≤ k = r.0 in
    rise_down type_place file a (suc k) ts b (omega arith)
    (rise_up type_place file (suc k) ts h.0 b (rises_le h.0 (sign kind.Semicolon s ∷ []) b h.1.1) (group_stands file g (suc k) h.0 h.1.0))
decl_stands file (FuncDecl k f s) a b r = rises_le a (decl_tokens (FuncDecl k f s)) b r

decls_stand : (file : ℕ) (ds : List DeclTree) (a b : ℕ) → Rises a (all_tokens decl_tokens ds) b → RiseIn type_place file a (flat_map (decl_types file) ds) b
unfolding all_tokens
decls_stand file [] a b r = r
decls_stand file (d ∷ ds) a b r =
    let s = rises_split a (decl_tokens d) (all_tokens decl_tokens ds) b r in
    rise_append type_place file a (decl_types file d) s.0 (flat_map (decl_types file) ds) b (decl_stands file d a s.0 s.1.0) (decls_stand file ds s.0 b s.1.1)

-- so do those of all files

abbrev types_behind : (rank : ℕ) → List SourceFile → List PlacedType
types_behind rank files = flat_map types_in (enumerate_from rank files)

types_apart : (rank : ℕ) (files : List SourceFile) → TokensRise files →
    Apart type_place (types_behind rank files) × FromFile type_place rank (types_behind rank files)
types_apart rank [] h = (tt, tt)
types_apart rank (s ∷ files) h =
    let t = decls_rise s.tree (h zero s refl) in
    let own = flat_map (decl_types rank) s.tree.decls in
    let more = types_behind (rank + 1) files in
    let r = decls_stand rank s.tree.decls t.0 t.1.0 t.1.1 in
    let here = rise_in_file type_place rank t.0 own t.1.0 r in
    let rest = types_apart (rank + 1) files (λ k x e. h (suc k) x e) in (
      apart_append type_place own more (rise_apart type_place rank t.0 own t.1.0 r) rest.0 (file_before type_place type_place rank own more here rest.1),
      file_first type_place rank own more here rest.1,
    )

pub one_type_place : (files : List SourceFile) → TokensRise files → (k j : ℕ) (t s : PlacedType) → slice_get (declared_types files) k ≡ Some t →
    slice_get (declared_types files) j ≡ Some s → type_place t ≡ type_place s → k ≡ j
one_type_place files h k j t s at by e = one_rank type_place (types_behind 0 files) (types_apart 0 files h).0 k j t s at by e
