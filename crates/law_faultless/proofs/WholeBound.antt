-- In a package of a workspace without faults nothing that is declared is broken, and each function with a receiver is a method.
use Rattle.std.proofs.Common.{ℕ, ◌≡◌, ◌+◌, inl, inr, List, [], ◌∷◌, ◌++◌, map, ap, sym, subst, refl, arith}
use Rattle.std.specs.Prelude.{Some, slice_get}
use Rattle.std.specs.List.{AllByRecursion}
use Rattle.base_lemmas.proofs.EachElement.{all_append, all_front, all_back}
use Rattle.base_files.specs.Workspace.{Workspace}
use Rattle.go_ast.specs.SourceFile.{SourceFile, spelling_of}
use Rattle.go_ast.specs.Tree.{Item, TypeTree, TypeSpecTree, GlobalTree, ReceiverTree, ParamTree, FuncTree, DeclTree}
use Rattle.go_ast.specs.Tree as tree
use Rattle.types_declared.specs.Files.{RankedSource, ranked_files, group_items}
use Rattle.go_scope.specs.Site.{TokenSpellings}
use Rattle.types_expr.specs.declared.symbol.Symbol.{Symbol}
use Rattle.types_expr.specs.Types.{PlainType, Defined, Signature}
use Rattle.types_expr.specs.World.{World}
use Rattle.types_expr.specs.Judge.{members_of}
use Rattle.types_stmt.specs.Declarations.{check_file}
use Rattle.types_declared.specs.MeaningOf.{AreTypesOf, parameter_types, result_types, HasSignature}
use Rattle.types_declared.specs.Definitions.{IsMethodOf}
use Rattle.types_declared.specs.Package.{Package, PlacedType, PlacedVariable, PlacedFunction, package_types, package_variables, package_functions}
use Rattle.types_declared.specs.Package.{variables_of, placed_type, decl_types, decl_variables, decl_functions, types_in, variables_in, functions_in}
use Rattle.types_declared.specs.Package.{declared_types, declared_variables, declared_functions, spelled}
use Rattle.types_declared.specs.Written.{BindsToken, DeclaresType, DenotesType, predeclared, defined}
use Rattle.types_declared.specs.Written.{written_types, IsWrittenIn, IsBroken, by_itself, through, IsTypeOf}
use Rattle.types_info.proofs.DeclKinds.{Holds, holds_got, holds_flat, held_flat, holds_map, held_map, holds_ranked}
use Rattle.types_info.specs.Worlds.{IsWorldOf, is_init}
use Rattle.workspace_check.specs.FaultLists.{ListsFaults}
use Rattle.workspace_check.specs.Verdicts.{Verdicts, AreVerdicts}
use Rattle.refs_binding.specs.Uses.{IsCheckedPackage}
use Rattle.law_faultless.specs.Worlds.{HaveWorlds}
use Rattle.law_faultless.proofs.NoFaults.{no_fault_in}
use Rattle.law_faultless.proofs.LinksBound.{source_is}
use Rattle.law_faultless.proofs.Lists.{contained, all_held}
use Rattle.law_faultless.proofs.Sound.{types_of, IsSound, types_sound, receiver_sound}
use Rattle.law_faultless.proofs.Tight.{IsTight, types_tight}
use Rattle.law_faultless.proofs.TypesBound.{Kept, all_kept, type_named, receiver_named}
use Rattle.law_faultless.proofs.Uses.{OfType, types_in as types_kept, receiver_in}

abbrev HasType : Package → ℕ → TypeTree → Type 0
HasType p file x = (t : PlainType) × DenotesType p file x t

-- a declaration of a file of the package
record Declares (p : Package) (file : ℕ) (P : DeclTree → Type 0) : Type 0 where
  source : SourceFile
  in_file : slice_get p.files file ≡ Some source
  decl : DeclTree
  in_tree : Holds source.tree.decls decl
  is : P decl

declares : (p : Package) (file : ℕ) (P : DeclTree → Type 0) (r : RankedSource) (d : DeclTree) → Holds (ranked_files p.files) r → Holds r.1.tree.decls d →
    file ≡ r.0 →
    P d → Declares p file P
declares p file P r d hr hd e h =
    let i = holds_ranked 0 p.files r hr in
    let same : i.0 ≡ file = let z : r.0 ≡ 0 + i.0 = i.1.0 in omega (arith, z, e) in
    record { source = r.1; in_file = subst (λ k. slice_get p.files k ≡ Some r.1) same i.1.1; decl = d; in_tree = hd; is = h }

-- what it declares

type_in_decl : (file : ℕ) (d : DeclTree) (t : PlacedType) → Holds (decl_types file d) t → (file ≡ t.file) × ((x : TypeTree) →
    Holds (written_types t.spec.body) x →
    Holds (types_of d) x)
type_in_decl file (tree.VarDecl k g c) t h = absurd h
type_in_decl file (tree.TypeDecl k g c) t h =
    let s = holds_map (placed_type file) (group_items g) t h in (
      ap (λ (z : PlacedType). z.file) s.1.1,
      λ x i. held_flat (λ (z : TypeSpecTree). written_types z.body) (group_items g) s.0 x s.1.0
          (subst (λ (z : PlacedType). Holds (written_types z.spec.body) x) (sym s.1.1) i),
    )
type_in_decl file (tree.FuncDecl k f c) t h = absurd h

variable_in_decl : (file : ℕ) (d : DeclTree) (v : PlacedVariable) → Holds (decl_variables file d) v → (file ≡ v.file) × Holds (types_of d) v.type_use
variable_in_decl file (tree.VarDecl k g c) v h =
    let x = holds_flat (variables_of file) (group_items g) v h in
    let i = holds_map (λ (z : Item ℕ). record { file = file; name = z.value; type_use = x.0.type_use }) x.0.names v x.1.1 in (
      ap (λ (z : PlacedVariable). z.file) i.1.1,
      subst (λ z. Holds (map (λ (y : GlobalTree). y.type_use) (group_items g)) z) (ap (λ (z : PlacedVariable). z.type_use) i.1.1)
          (held_map (λ (y : GlobalTree). y.type_use) (group_items g) x.0 x.1.0),
    )
variable_in_decl file (tree.TypeDecl k g c) v h = absurd h
variable_in_decl file (tree.FuncDecl k f c) v h = absurd h

abbrev pub IsFunctionDecl : FuncTree → DeclTree → Type 0
IsFunctionDecl f d = (k : ℕ) × ((c : ℕ) × (d ≡ tree.FuncDecl k f c))

pub function_in_decl : (file : ℕ) (d : DeclTree) (f : PlacedFunction) → Holds (decl_functions file d) f → (file ≡ f.file) × IsFunctionDecl f.function d
function_in_decl file (tree.VarDecl k g c) f h = absurd h
function_in_decl file (tree.TypeDecl k g c) f h = absurd h
function_in_decl file (tree.FuncDecl k x c) f h = elim h [
  | inl e ↦ (ap (λ (z : PlacedFunction). z.file) e, (k, (c, ap (λ (z : PlacedFunction). tree.FuncDecl k z.function c) e)))
  | inr z ↦ absurd z
]

type_at : (p : Package) (rank : ℕ) (t : PlacedType) → slice_get (package_types p) rank ≡ Some t →
    Declares p t.file (λ d. (x : TypeTree) → Holds (written_types t.spec.body) x → Holds (types_of d) x)
type_at p rank t e =
    let r = holds_flat types_in (ranked_files p.files) t (holds_got (declared_types p.files) rank t e) in
    let d = holds_flat (decl_types r.0.0) r.0.1.tree.decls t r.1.1 in
    let n = type_in_decl r.0.0 d.0 t d.1.1 in
    declares p t.file (λ d. (x : TypeTree) → Holds (written_types t.spec.body) x → Holds (types_of d) x) r.0 d.0 r.1.0 d.1.0 (sym n.0) n.1

variable_at : (p : Package) (rank : ℕ) (v : PlacedVariable) → slice_get (package_variables p) rank ≡ Some v →
    Declares p v.file (λ d. Holds (types_of d) v.type_use)
variable_at p rank v e =
    let r = holds_flat variables_in (ranked_files p.files) v (holds_got (declared_variables p.files) rank v e) in
    let d = holds_flat (decl_variables r.0.0) r.0.1.tree.decls v r.1.1 in
    let n = variable_in_decl r.0.0 d.0 v d.1.1 in
    declares p v.file (λ d. Holds (types_of d) v.type_use) r.0 d.0 r.1.0 d.1.0 (sym n.0) n.1

function_at : (p : Package) (rank : ℕ) (f : PlacedFunction) → slice_get (package_functions p) rank ≡ Some f →
    Declares p f.file (IsFunctionDecl f.function)
function_at p rank f e =
    let r = holds_flat functions_in (ranked_files p.files) f (holds_got (declared_functions p.files) rank f e) in
    let d = holds_flat (decl_functions r.0.0) r.0.1.tree.decls f r.1.1 in
    let n = function_in_decl r.0.0 d.0 f d.1.1 in
    declares p f.file (IsFunctionDecl f.function) r.0 d.0 r.1.0 d.1.0 (sym n.0) n.1

-- a list of Types of which each has a type
types_for : (p : Package) (file : ℕ) (P : TypeTree → PlainType → Type 0) (xs : List TypeTree) → AllByRecursion (λ x. (t : PlainType) × IsTypeOf p file x t) xs →
    (ts : List PlainType) × AreTypesOf p file xs ts
types_for p file P [] h = ([], tt)
types_for p file P (x ∷ xs) h = let r = types_for p file P xs h.1 in (h.0.0 ∷ r.0, (h.0.1, r.1))

each_name : (P : TypeTree → Type 0) (x : TypeTree) {N : Type 0} (ns : List N) → P x → AllByRecursion P (map (λ n. x) ns)
each_name P x [] h = tt
each_name P x (n ∷ ns) h = (h, each_name P x ns h)

each_parameter : (P : TypeTree → Type 0) (ps : List (Item ParamTree)) → AllByRecursion P (map (λ i. i.value.type_use) ps) →
    AllByRecursion P (parameter_types ps)
each_parameter P [] h = tt
each_parameter P (i ∷ is) h =
    all_append P (map (λ n. i.value.type_use) i.value.names) (parameter_types is) (each_name P i.value.type_use i.value.names h.0) (each_parameter P is h.1)

module _ (w : Workspace) (sound : ListsFaults w []) (known : Verdicts) (right : AreVerdicts w known) (p : Package) (is : IsCheckedPackage w known p)
    (worlds : HaveWorlds p) where
  all_named : (file : ℕ) (v : World) (s : SourceFile) (judged : IsWorldOf p file s v) (source : TokenSpellings) (xs : List TypeTree) →
      AllByRecursion (IsSound v) xs → AllByRecursion IsTight xs → AllByRecursion (OfType source (Kept p file)) xs → AllByRecursion (HasType p file) xs
  all_named file v s judged source [] a b c = tt
  all_named file v s judged source (x ∷ xs) a b c =
      (type_named w known p.path p is.is_checked file v judged.names source x a.0 b.0 c.0, all_named file v s judged source xs a.1 b.1 c.1)

  -- the Types of a declaration name types
  decl_named : (file : ℕ) (s : SourceFile) → slice_get p.files file ≡ Some s → (d : DeclTree) → Holds s.tree.decls d →
      AllByRecursion (HasType p file) (types_of d)
  decl_named file s at d i =
      let v = worlds file s at in
      let uses = members_of (check_file v.0 (is_init s) s.tree).uses in
      let none = no_fault_in w sound known right p is file uses (record { source = s; in_file = at; world = v.0; judged_by = v.1; found = refl }) in
      let source : TokenSpellings = record { rank = file; spell = spelling_of s } in
      let k = all_kept w known p.path p is.is_checked file s at in
      all_named file v.0 s v.1 source (types_of d) (types_sound v.0 (is_init s) s.tree none d i)
      (types_tight s (source_is w known p.path p is.is_checked file s at) d i) (types_kept source (Kept p file) s.tree k d i)

  written_named : (rank file : ℕ) (x : TypeTree) → IsWrittenIn p rank file x → HasType p file x
  written_named rank file x h =
      let d = type_at p rank h.definition h.has_rank in
      subst (λ k. HasType p k x) h.in_file
      (all_held (HasType p h.definition.file) (types_of d.decl) x (decl_named h.definition.file d.source d.in_file d.decl d.in_tree)
      (d.is x (contained (written_types h.definition.spec.body) x h.written)))

  pub none_broken : (rank : ℕ) → IsBroken p rank → ⊥
  none_broken rank (by_itself {file} {t} h none) = let x = written_named rank file t h in none x.0 x.1
  none_broken rank (through {other} h m b) = none_broken other b

  valid_type : (file : ℕ) (x : TypeTree) → HasType p file x → (t : PlainType) × IsTypeOf p file x t
  valid_type file x h = (h.0, record { names = h.1; whole = λ rank m b. none_broken rank b })

  pub variable_whole : (rank : ℕ) (v : PlacedVariable) → slice_get (package_variables p) rank ≡ Some v → (t : PlainType) × IsTypeOf p v.file v.type_use t
  variable_whole rank v e =
      let d = variable_at p rank v e in
      valid_type v.file v.type_use (all_held (HasType p v.file) (types_of d.decl) v.type_use (decl_named v.file d.source d.in_file d.decl d.in_tree) d.is)

  all_whole : (file : ℕ) (xs : List TypeTree) → AllByRecursion (HasType p file) xs → AllByRecursion (λ x. (t : PlainType) × IsTypeOf p file x t) xs
  all_whole file [] h = tt
  all_whole file (x ∷ xs) h = (valid_type file x h.0, all_whole file xs h.1)

  pub function_whole : (rank : ℕ) (f : PlacedFunction) → slice_get (package_functions p) rank ≡ Some f → (s : Signature) × HasSignature p f s
  function_whole rank f e =
      let d = function_at p rank f e in
      let named = subst (λ z. AllByRecursion (HasType p f.file) (types_of z)) d.is.1.1 (decl_named f.file d.source d.in_file d.decl d.in_tree) in
      let params = map (λ (i : Item ParamTree). i.value.type_use) f.function.params in
      let results = result_types f.function.result in
      let P : TypeTree → Type 0 = λ x. (t : PlainType) × IsTypeOf p f.file x t in
      let all : AllByRecursion P (params ++ results) = all_whole f.file (params ++ results) named in
      let ps = types_for p f.file (IsTypeOf p f.file) (parameter_types f.function.params) (each_parameter P f.function.params
      (all_front P params results all)) in
      let rs = types_for p f.file (IsTypeOf p f.file) results (all_back P params results all) in
      (record { parameters = ps.0; results = rs.0 }, record { parameters = ps.1; results = rs.1 })

  -- methods

  named_definition : (f : PlacedFunction) (r : ReceiverTree) {t : PlainType} → DenotesType p f.file (tree.Local r.type_name) t → (s : Symbol) → t ≡ Defined s →
      (d : ℕ) × ((definition : ℕ) × (BindsToken p f.file r.type_name d × DeclaresType p d definition))
  named_definition f r (predeclared b binds is) s e = let z : ⊥ = cc in absurd z
  named_definition f r (defined {d} {rank} binds type_of) s e = (d, (rank, (binds, type_of)))

  pub method_of : (rank : ℕ) (f : PlacedFunction) → slice_get (package_functions p) rank ≡ Some f → (r : ReceiverTree) → f.function.receiver ≡ Some r →
      (definition : ℕ) × IsMethodOf p definition (spelled p f.file f.function.name) rank f
  method_of rank f has r e =
      let d = function_at p rank f has in
      let v = worlds f.file d.source d.in_file in
      let uses = members_of (check_file v.0 (is_init d.source) d.source.tree).uses in
      let none = no_fault_in w sound known right p is f.file uses
      (record { source = d.source; in_file = d.in_file; world = v.0; judged_by = v.1; found = refl }) in
      let held = subst (λ z. Holds d.source.tree.decls z) d.is.1.1 d.in_tree in
      let source : TokenSpellings = record { rank = f.file; spell = spelling_of d.source } in
      let k = all_kept w known p.path p is.is_checked f.file d.source d.in_file in
      let fine = receiver_sound v.0 (is_init d.source) d.source.tree none d.is.0 d.is.1.0 f.function held r e in
      let n = receiver_named w known p.path p is.is_checked f.file v.0 v.1.names source r fine
      (receiver_in source (Kept p f.file) d.source.tree k d.is.0 d.is.1.0 f.function held r e) in
      let x = named_definition f r n.1.0 n.1.1.0 n.1.1.1 in (
        x.1.0,
        record {
          has_rank = has;
          receiver = r;
          received = e;
          declaration = x.0;
          binds = x.1.1.0;
          of_type = x.1.1.1;
          named = refl;
        },
      )
