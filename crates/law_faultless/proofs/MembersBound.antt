-- In a workspace without faults no name by which a field or a method is declared is bound to nothing.
use Rattle.std.proofs.Common.{ℕ, suc, ◌≡◌, ◌+◌, inl, inr, List, [], ◌∷◌, ◌++◌, map, sym, subst, refl, arith}
use Rattle.std.specs.Prelude.{Some, slice_get}
use Rattle.base_files.specs.Workspace.{Workspace}
use Rattle.go_ast.specs.SourceFile.{SourceFile}
use Rattle.go_ast.specs.Tree.{Item, FieldTree, MethodTree, BodyTree, Other, Struct, Interface, DeclTree, VarDecl, TypeDecl, FuncDecl}
use Rattle.go_scope.specs.declared.model.Purpose.TheVariants as purpose
use Rattle.go_scope.specs.declared.model.Role.TheVariants.{NotLexical}
use Rattle.types_declared.specs.Files.{RankedSource, ranked_files, group_items}
use Rattle.types_declared.specs.Definitions.{PlacedField, body_fields, fields_from, package_fields, OfType, OfSignature}
use Rattle.types_declared.specs.Package.{Package, PlacedType, PlacedFunction, placed_type, decl_types, decl_functions, types_in, functions_in, package_types}
use Rattle.types_declared.specs.Package.{package_functions, spelled}
use Rattle.types_info.proofs.DeclKinds.{Holds, held_left, held_right, held_flat, held_map}
use Rattle.workspace_check.specs.FaultLists.{ListsFaults}
use Rattle.workspace_check.specs.Verdicts.{Verdicts, AreVerdicts}
use Rattle.refs_binding.specs.declared.declaration.Declaration.{Declaration}
use Rattle.refs_binding.specs.Identifiers.{IsInFiles}
use Rattle.refs_binding.specs.Uses.{IsCheckedPackage, IsBoundToDeclaration}
use Rattle.refs_lookup.proofs.DeclaredMembers.{field_bound, method_bound}
use Rattle.law_faultless.proofs.GlobalsDecided.{held_ranked, held_number}
use Rattle.law_faultless.proofs.LinksBound.{at_number}
use Rattle.law_faultless.proofs.WholeBound.{method_of}
use Rattle.law_faultless.proofs.Bound.{source_at}
use Rattle.law_faultless.proofs.MembersDeclared.{IsFieldIn, IsMemberIn, members_in}
use Rattle.law_faultless.proofs.PackageWorlds.{have_worlds}

-- one of the declarations declares a member there
abbrev IsMember : List DeclTree → ℕ → Type 0
IsMember ds i = (d : DeclTree) × (Holds ds d × IsMemberIn d i)

-- a field of a definition is one of the package's

abbrev IsNamed : (file i : ℕ) → List PlacedField → Type 0
IsNamed file i fs = (f : PlacedField) × (Holds fs f × ((f.file ≡ file) × (f.name ≡ i)))

body_named : (definition file i : ℕ) (b : BodyTree) → IsFieldIn b i → IsNamed file i (body_fields definition file b)
body_named definition file i (Other t) h = absurd h
body_named definition file i (Interface k o ms c) h =
    let asked : Item MethodTree → PlacedField =
    λ y. record { definition = definition; file = file; name = y.value.name; form = OfSignature y.value.params y.value.result } in
    (asked h.0, (held_map asked ms h.0 h.1.0, (refl, h.1.1)))
body_named definition file i (Struct k o fs c) h =
    let x = h.0 in
    let n = h.1.1.0 in
    let one : Item FieldTree → Item ℕ → PlacedField =
    λ y m. record { definition = definition; file = file; name = m.value; form = OfType y.value.type_use } in (
      one x n,
      (
        held_flat (λ y. map (one y) y.value.names) fs x (one x n) h.1.0 (held_map (one x) x.value.names n h.1.1.1.0),
        (refl, h.1.1.1.1),
      ),
    )

more_named : (file i : ℕ) (fs gs : List PlacedField) → IsNamed file i gs → IsNamed file i (fs ++ gs)
more_named file i fs gs h = (h.0, (held_right fs gs h.0 h.1.0, h.1.1))

first_named : (file i : ℕ) (fs gs : List PlacedField) → IsNamed file i fs → IsNamed file i (fs ++ gs)
first_named file i fs gs h = (h.0, (held_left fs gs h.0 h.1.0, h.1.1))

fields_named : (rank i : ℕ) (ds : List PlacedType) (d : PlacedType) → Holds ds d → IsFieldIn d.spec.body i →
    IsNamed d.file i (fields_from rank ds)
fields_named rank i [] d h f = absurd h
fields_named rank i (e ∷ ds) d h f = elim h [
  | inl same ↦ subst (λ (z : PlacedType). IsNamed z.file i (fields_from rank (e ∷ ds))) same
      (first_named e.file i (body_fields rank e.file e.spec.body) (fields_from (suc rank) ds)
      (body_named rank e.file i e.spec.body (subst (λ (z : PlacedType). IsFieldIn z.spec.body i) (sym same) f)))
  | inr later ↦ more_named d.file i (body_fields rank e.file e.spec.body) (fields_from (suc rank) ds) (fields_named (suc rank) i ds d later f)
]

ranked_here : (p : Package) (file : ℕ) (s : SourceFile) → slice_get p.files file ≡ Some s → Holds (ranked_files p.files) (file, s)
ranked_here p file s at =
    let k = held_ranked 0 p.files file s at in
    let same : k.0 ≡ file = let z : k.0 ≡ 0 + file = k.1.0 in omega arith in subst (λ n. Holds (ranked_files p.files) (n, s)) same k.1.1

module _ (w : Workspace) (sound : ListsFaults w []) (known : Verdicts) (right : AreVerdicts w known) (p : Package) (is : IsCheckedPackage w known p) (u : ℕ)
    (stands : IsInFiles p u) (unbound : (d : Declaration) → IsBoundToDeclaration w known p u d → ⊥) where
  abbrev file : ℕ
  file = (p.layout.place u).file

  abbrev index : ℕ
  index = (p.layout.place u).index

  by_decl : (s : SourceFile) → slice_get p.files file ≡ Some s → (d : DeclTree) → Holds s.tree.decls d → IsMemberIn d index → ⊥
  by_decl s at (VarDecl k g c) i h = h
  by_decl s at (TypeDecl k g c) i h =
      let r : RankedSource = (file, s) in
      let d = placed_type file h.0 in
      let there : Holds (package_types p) d =
      held_flat types_in (ranked_files p.files) r d (ranked_here p file s at)
      (held_flat (decl_types file) s.tree.decls (TypeDecl k g c) d i (held_map (placed_type file) (group_items g) h.0 h.1.0)) in
      let f = fields_named 0 index (package_types p) d there h.1.1 in
      let n = held_number (package_fields p) f.0 f.1.0 in
      field_bound w sound known right p is n.0 f.0 n.1 u (stands.1, sym f.1.1.0, sym f.1.1.1) unbound
  by_decl s at (FuncDecl k x c) i h =
      let r : RankedSource = (file, s) in
      let f : PlacedFunction = record { file = file; function = x } in
      let there : Holds (package_functions p) f =
      held_flat functions_in (ranked_files p.files) r f (ranked_here p file s at) (held_flat (decl_functions file) s.tree.decls (FuncDecl k x c) f i (inl
      refl)) in
      let n = held_number (package_functions p) f there in
      let m = method_of w sound known right p is (have_worlds w sound known right p is) n.0 f n.1 h.0 h.1.0 in
      method_bound w sound known right p is m.0 n.0 (spelled p file x.name) f m.1 u (stands.1, refl, sym h.1.1) unbound

  pub no_member_unbound : p.layout.role u ≡ NotLexical purpose.Member → ⊥
  no_member_unbound role =
      let s = source_at w sound known right p is u stands in
      let m = at_number w known p.path p is.is_checked (λ i r. r ≡ NotLexical purpose.Member → IsMember s.0.tree.decls i) purpose.Member refl
      (λ e. let z : ⊥ = cc in z) u stands role s.0 s.1
      (λ source. members_in (IsMember s.0.tree.decls) source s.0.tree (λ d h i k. (d, (h, k)))) refl in
      by_decl s.0 s.1 m.0 m.1.0 m.1.1
