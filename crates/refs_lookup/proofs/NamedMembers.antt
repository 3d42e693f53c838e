-- The declaring identifiers of fields and methods: no scope binds them, and none is `N` in a qualified identifier `q.N`.
use Rattle.std.proofs.Common.{ℕ, zero, suc, ◌≡◌, ◌+◌, ◌<◌, inl, inr, List, [], ◌∷◌, map, ap, sym, subst, refl, ◌∙◌, arith}
use Rattle.std.specs.Prelude.{Contains, Some, slice_get}
use Rattle.std.proofs.lemmas.List.Elements.{Contains-append_right}
use Rattle.base_files.specs.Workspace.{Workspace}
use Rattle.go_ast.specs.SourceFile.{SourceFile, source_of}
use Rattle.go_ast.specs.Tree.{Item, Group, single, several, FieldTree, MethodTree, BodyTree, Other, Struct, Interface, TypeSpecTree, ReceiverTree}
use Rattle.go_ast.specs.Tree.{DeclTree, VarDecl, TypeDecl, FuncDecl}
use Rattle.go_scope.specs.declared.model.Position.{Position}
use Rattle.go_scope.specs.declared.model.Purpose.TheVariants as purpose
use Rattle.go_scope.specs.declared.model.Role.TheVariants.{NotLexical}
use Rattle.go_scope.specs.Table.{LiesAt}
use Rattle.law_tokens.specs.MemberNames.{in_group, field_name_tokens, body_members, method_name, decl_members, member_names}
use Rattle.law_tokens.proofs.Lexical.{never_bound}
use Rattle.law_tokens.proofs.Members.{named_member_stands}
use Rattle.law_tokens.proofs.OwnPaths.{package_sources, part_at}
use Rattle.types_declared.specs.Files.{RankedSource, ranked_files, group_items}
use Rattle.types_declared.specs.Definitions.{OfType, OfSignature, PlacedField, body_fields, fields_from, package_fields}
use Rattle.types_declared.specs.Package.{Package, PlacedType, PlacedFunction, placed_type, decl_types, decl_functions, types_in, functions_in, package_types}
use Rattle.types_declared.specs.Package.{package_functions, function_place}
use Rattle.types_info.proofs.DeclKinds.{Holds, holds_got, holds_append, holds_flat, holds_map, holds_ranked, held_flat, held_map}
use Rattle.workspace_check.specs.Verdicts.{Verdicts, IsPackageIn}
use Rattle.refs_binding.specs.declared.declaration.Declaration.{Declaration}
use Rattle.refs_binding.specs.declared.declaration.Declaration.TheVariants.{Predeclared, Declared, Field, Method}
use Rattle.refs_binding.specs.Binding.{BindsByScope, BindsQualified, DeclaresMember, IsNameOf, IsFieldAt, IsMethodAt, field_place}
use Rattle.refs_binding.proofs.Excluding.{number_bound, exported_as}
use Rattle.refs_lookup.proofs.OnePlace.{names_of, same_layout, same_size, same_files}

contained : {X : Type 0} (xs : List X) (x : X) → Holds xs x → Contains xs x
contained [] x h = absurd h
contained (y ∷ ys) x h = elim h [
  | inl e ↦ subst (λ z. Contains (y ∷ ys) z) e (zero, (omega arith), refl)
  | inr r ↦ Contains-append_right (y ∷ []) ys x (contained ys x r)
]

-- by the trees of files

pub record IsMemberIn (files : List SourceFile) (at : Position) : Type 0 where
  source : SourceFile
  of_rank : slice_get files at.file ≡ Some source
  member : Contains (member_names source.tree) at.index

body_field : (definition file : ℕ) (b : BodyTree) (f : PlacedField) → Holds (body_fields definition file b) f → (file ≡ f.file) × Holds (body_members b) f.name
body_field definition file (Other t) f h = absurd h
body_field definition file (Struct k o fs c) f h =
    let x = holds_flat (λ (i : Item FieldTree). map
    (λ (n : Item ℕ). record { definition = definition; file = file; name = n.value; form = OfType i.value.type_use }) i.value.names) fs f h in
    let n = holds_map (λ (n : Item ℕ). record {
      definition = definition;
      file = file;
      name = n.value;
      form = OfType x.0.value.type_use;
    }) x.0.value.names f x.1.1 in (
      ap (λ (z : PlacedField). z.file) n.1.1,
      held_flat (λ (i : Item FieldTree). field_name_tokens i.value) fs x.0 f.name x.1.0
          (subst (λ q. Holds (field_name_tokens x.0.value) q) (ap (λ (z : PlacedField). z.name) n.1.1)
          (held_map (λ (i : Item ℕ). i.value) x.0.value.names n.0 n.1.0)),
    )
body_field definition file (Interface k o ms c) f h =
    let asked : Item MethodTree → PlacedField =
    λ i. record { definition = definition; file = file; name = i.value.name; form = OfSignature i.value.params i.value.result } in
    let x = holds_map asked ms f h in (
      ap (λ (z : PlacedField). z.file) x.1.1,
      held_flat (λ (i : Item MethodTree). i.value.name ∷ []) ms x.0 f.name x.1.0 (inl (ap (λ (z : PlacedField). z.name) x.1.1)),
    )

type_of_field : (rank : ℕ) (ds : List PlacedType) (f : PlacedField) → Holds (fields_from rank ds) f → (d : PlacedType) ×
    (Holds ds d × ((d.file ≡ f.file) × Holds (body_members d.spec.body) f.name))
type_of_field rank [] f h = absurd h
type_of_field rank (d ∷ ds) f h = elim (holds_append (body_fields rank d.file d.spec.body) (fields_from (suc rank) ds) f h) [
  | inl a ↦ (d, (inl refl, body_field rank d.file d.spec.body f a))
  | inr b ↦ (let r = type_of_field (suc rank) ds f b in (r.0, (inr r.1.0, r.1.1)))
]

in_items : (f : TypeSpecTree → List ℕ) (g : Group TypeSpecTree) (t : TypeSpecTree) (n : ℕ) → Holds (group_items g) t → Holds (f t) n → Holds (in_group f g) n
in_items f (single x) t n h k = elim h [ inl e ↦ subst (λ q. Holds (f q) n) (sym e) k | inr z ↦ absurd z ]
in_items f (several o xs c) t n h k =
    let i = holds_map (λ (i : Item TypeSpecTree). i.value) xs t h in
    held_flat (λ (i : Item TypeSpecTree). f i.value) xs i.0 n i.1.0 (subst (λ q. Holds (f q) n) (sym i.1.1) k)

type_members : (file : ℕ) (decl : DeclTree) (d : PlacedType) (n : ℕ) → Holds (decl_types file decl) d → Holds (body_members d.spec.body) n →
    (file ≡ d.file) × Holds (decl_members decl) n
type_members file (VarDecl k g s) d n h m = absurd h
type_members file (TypeDecl k g s) d n h m =
    let t = holds_map (placed_type file) (group_items g) d h in (
      ap (λ (z : PlacedType). z.file) t.1.1,
      in_items (λ (x : TypeSpecTree). body_members x.body) g t.0 n t.1.0 (subst (λ (z : PlacedType). Holds (body_members z.spec.body) n) (sym t.1.1) m),
    )
type_members file (FuncDecl k f s) d n h m = absurd h

method_members : (file : ℕ) (decl : DeclTree) (f : PlacedFunction) (r : ReceiverTree) → Holds (decl_functions file decl) f → f.function.receiver ≡ Some r →
    (file ≡ f.file) × Holds (decl_members decl) f.function.name
method_members file (VarDecl k g s) f r h e = absurd h
method_members file (TypeDecl k g s) f r h e = absurd h
method_members file (FuncDecl k x s) f r h e = elim h [
  | inl is ↦
      let same : x ≡ f.function = ap (λ (z : PlacedFunction). z.function) is in
      let here : Holds (method_name (Some r) f.function.name) f.function.name = inl refl in
      let own : Holds (method_name f.function.receiver f.function.name) f.function.name =
      subst (λ o. Holds (method_name o f.function.name) f.function.name) (sym e) here in
      (ap (λ (z : PlacedFunction). z.file) is, subst (λ y. Holds (method_name y.receiver y.name) f.function.name) (sym same) own)
  | inr z ↦ absurd z
]

in_tree : (files : List SourceFile) (r : RankedSource) (decl : DeclTree) (at : Position) → Holds (ranked_files files) r → Holds r.1.tree.decls decl →
    r.0 ≡ at.file →
    Holds (decl_members decl) at.index →
    IsMemberIn files at
in_tree files r decl at hr hd e m =
    let i = holds_ranked 0 files r hr in
    let same : i.0 ≡ at.file = (let z : r.0 ≡ 0 + i.0 = i.1.0 in omega arith) in
    record {
      source = r.1;
      of_rank = subst (λ k. slice_get files k ≡ Some r.1) same i.1.1;
      member = contained (member_names r.1.tree) at.index (held_flat decl_members r.1.tree.decls decl at.index hd m);
    }

pub field_in_tree : (p : Package) (rank : ℕ) (f : PlacedField) → slice_get (package_fields p) rank ≡ Some f → IsMemberIn p.files (field_place f)
field_in_tree p rank f is =
    let d = type_of_field 0 (package_types p) f (holds_got (package_fields p) rank f is) in
    let r = holds_flat types_in (ranked_files p.files) d.0 d.1.0 in
    let decl = holds_flat (decl_types r.0.0) r.0.1.tree.decls d.0 r.1.1 in
    let m = type_members r.0.0 decl.0 d.0 f.name decl.1.1 d.1.1.1 in
    in_tree p.files r.0 decl.0 (field_place f) r.1.0 decl.1.0 (m.0 ∙ d.1.1.0) m.1

pub method_in_tree : (p : Package) (rank : ℕ) (f : PlacedFunction) (x : ReceiverTree) → slice_get (package_functions p) rank ≡ Some f →
    f.function.receiver ≡ Some x → IsMemberIn p.files (function_place f)
method_in_tree p rank f x is e =
    let r = holds_flat functions_in (ranked_files p.files) f (holds_got (package_functions p) rank f is) in
    let decl = holds_flat (decl_functions r.0.0) r.0.1.tree.decls f r.1.1 in
    let m = method_members r.0.0 decl.0 f x decl.1.1 e in
    in_tree p.files r.0 decl.0 (function_place f) r.1.0 decl.1.0 m.0 m.1

-- their roles

pub role_of : (w : Workspace) (known : Verdicts) (path : List ℕ) (p : Package) → IsPackageIn w known path p → (at : Position) → IsMemberIn p.files at →
    (u : ℕ) → u < p.size →
    LiesAt p.layout at u → p.layout.role u ≡ NotLexical purpose.Member
role_of w known path p h at m u lt stands =
    let t = part_at h.files at.file m.source (subst (λ fs. slice_get fs at.file ≡ Some m.source) (same_files w known path p h) m.of_rank) in
    let layout = same_layout w known path p h in
    let member : Contains (member_names (source_of t.0).tree) at.index =
    subst (λ (s : SourceFile). Contains (member_names s.tree) at.index) (sym t.1.1) m.member in
    let role = named_member_stands (names_of w known path p h) h.files (package_sources w path h.files h.parsed) at t.0 t.1.0 member u
    (subst (λ n. u < n) (same_size w known path p h) lt) (subst (λ l. LiesAt l at u) layout stands) in
    subst (λ l. l.role u ≡ NotLexical purpose.Member) (sym layout) role

pub field_member : (w : Workspace) (known : Verdicts) (path : List ℕ) (p : Package) → IsPackageIn w known path p → (u rank : ℕ) → u < p.size →
    IsNameOf (IsFieldAt p) p u rank →
    p.layout.role u ≡ NotLexical purpose.Member
field_member w known path p h u rank lt n =
    let counts = n.is_at.counts in
    let there = field_in_tree p rank counts.field counts.counting.is_field.has_rank in
    role_of w known path p h n.at (subst (λ a. IsMemberIn p.files a) n.is_at.named_at there) u lt n.stands

pub method_member : (w : Workspace) (known : Verdicts) (path : List ℕ) (p : Package) → IsPackageIn w known path p → (u rank : ℕ) → u < p.size →
    IsNameOf (IsMethodAt p) p u rank →
    p.layout.role u ≡ NotLexical purpose.Member
method_member w known path p h u rank lt n =
    let counts = n.is_at.counts in
    let is = counts.counting.is_method in
    let there = method_in_tree p rank counts.method is.receiver is.has_rank is.received in
    role_of w known path p h n.at (subst (λ a. IsMemberIn p.files a) n.is_at.named_at there) u lt n.stands

pub name_member : (w : Workspace) (known : Verdicts) (path : List ℕ) (p : Package) → IsPackageIn w known path p → (u : ℕ) (d : Declaration) → u < p.size →
    DeclaresMember p u d →
    p.layout.role u ≡ NotLexical purpose.Member
name_member w known path p h u (Predeclared n) lt b = absurd b
name_member w known path p h u (Declared q n) lt b = absurd b
name_member w known path p h u (Field s) lt b = field_member w known path p h u s.rank lt b.1
name_member w known path p h u (Method s) lt b = method_member w known path p h u s.rank lt b.1

-- so this way excludes two others

pub name_not_scope : (w : Workspace) (known : Verdicts) (path : List ℕ) (p : Package) → IsPackageIn w known path p → (u : ℕ) (d e : Declaration) → u < p.size →
    DeclaresMember p u d → BindsByScope p u e → ⊥
name_not_scope w known path p h u d e lt b k =
    let n = number_bound p u e k in
    never_bound p.layout p.names u n.0 purpose.Member (name_member w known path p h u d lt b) n.1

pub name_not_package : (w : Workspace) (known : Verdicts) (path : List ℕ) (p : Package) → IsPackageIn w known path p →
    (I : Package → Type 0) (u : ℕ) (d e : Declaration) → u < p.size →
    DeclaresMember p u d → BindsQualified I p u e → ⊥
name_not_package w known path p h I u d e lt b k =
    let n = exported_as I p u e k in
    let same : NotLexical purpose.Member ≡ NotLexical purpose.Selected = sym (name_member w known path p h u d lt b) ∙ n.1.1.1.behind.selected in
    let z : ⊥ = cc in z
