-- In a workspace without faults no two functions of a package are called alike, nor two methods that interfaces ask for, nor one of each.
use Rattle.std.proofs.Common.{ℕ, ◌≡◌, ◌+◌, ◌<◌, inl, inr, false, if◌then◌else◌, List, [], ◌∷◌, ◌++◌, map, ap, sym, subst}
use Rattle.std.proofs.Common.{refl, ◌∙◌, arith}
use Rattle.std.specs.Prelude.{Option, Some, None, slice_get, bytes_eq, codes}
use Rattle.std.specs.List.{AllByRecursion, flat_map}
use Rattle.std.proofs.lemmas.Bool.{true≢false, cases_lt, cases_eq}
use Rattle.std.proofs.lemmas.Option.{same_Some}
use Rattle.base_lemmas.proofs.EachElement.{all_front, all_back}
use Rattle.base_files.specs.Workspace.{Workspace}
use Rattle.base_files.specs.declared.fault_kind.FaultKind.TheVariants as fault_kind
use Rattle.types_declared.specs.declared.fault.Fault.{Fault}
use Rattle.go_ast.specs.SourceFile.{SourceFile, spelling_of}
use Rattle.go_ast.specs.Tree.{Item, Group, single, several, TypeSpecTree, Interface, MethodTree, ReceiverTree, FuncTree, DeclTree, VarDecl, TypeDecl}
use Rattle.go_ast.specs.Tree.{FuncDecl, FileTree}
use Rattle.go_scope.specs.declared.model.Block.TheVariants.{Universe, File}
use Rattle.go_scope.specs.declared.model.Block.TheVariants.{Package as PackageBlock}
use Rattle.go_scope.specs.declared.model.Position.{Position}
use Rattle.go_scope.specs.declared.model.Role.TheVariants.{Use, Declaring, NotLexical}
use Rattle.go_scope.specs.declared.model.Purpose.TheVariants as purpose
use Rattle.go_scope.specs.Bindings.{Declares, Counts, IsBoundTo, use_bound, own, IsPackageLevel, block_of, may_declare, is_implied, is_left_name}
use Rattle.go_scope.specs.FileSites.{imports_sites, decl_sites, file_sites, spec_sites, type_spec_sites, func_block, func_role, func_sites}
use Rattle.go_scope.specs.FileSites.{receiver_sites, param_sites, result_sites}
use Rattle.go_scope.specs.ExpressionSites.{sites_if, list_sites}
use Rattle.go_scope.specs.StatementSites.{ident_sites, separated_sites, group_sites, open_of, block_sites}
use Rattle.go_scope.specs.Site.{Site, TokenSpellings, site}
use Rattle.go_scope.specs.Table.{LiesAt}
use Rattle.types_declared.specs.Files.{ranked_files, group_items}
use Rattle.law_tokens.proofs.Ordered.{one_stands}
use Rattle.types_expr.specs.Types.{Defined, TypeName, Underlying, takes_no_methods}
use Rattle.types_expr.specs.Types.{Interface as InterfaceOf}
use Rattle.types_expr.specs.World.{World, Means, BrokenType}
use Rattle.types_expr.specs.Judge.{members_of}
use Rattle.types_stmt.specs.Headers.{judge_receiver}
use Rattle.types_stmt.specs.Declarations.{check_file}
use Rattle.types_declared.specs.Definitions.{PlacedField, package_fields, IsFieldOf, IsMethodOf, HasUnderlying, IsUnderlyingOf}
use Rattle.types_declared.specs.Definitions as by_definition
use Rattle.types_declared.specs.MeaningOf as meant
use Rattle.types_declared.specs.Package.{Package, PlacedType, PlacedFunction, placed_type, decl_types, types_in, package_types, package_functions}
use Rattle.types_declared.specs.Package.{type_place, function_place, spelled, spelled_at, symbol_in}
use Rattle.types_declared.specs.Written.{BindsToken, DeclaresType, IsBroken}
use Rattle.types_declared.proofs.OneUnderlying.{one_underlying}
use Rattle.types_declared.proofs.Ranking.{one_rank}
use Rattle.types_info.specs.Worlds.{IsWorldOf, is_bound, by_scope, is_init}
use Rattle.types_info.proofs.DeclKinds.{Holds, holds_got, holds_flat, holds_map, holds_ranked}
use Rattle.types_info.proofs.OneMeaning.{one_name}
use Rattle.workspace_check.specs.FaultLists.{ListsFaults}
use Rattle.workspace_check.specs.Verdicts.{Verdicts, AreVerdicts}
use Rattle.workspace_check.proofs.OnePackage.{layout_formed, files_in_order}
use Rattle.build_object.specs.Lines.{GlobalName, FunctionName, Method}
use Rattle.build_object.specs.Names.{spelled_in, name_of_type}
use Rattle.refs_binding.specs.Uses.{IsCheckedPackage}
use Rattle.refs_lookup.proofs.Faultless.{no_fault_later}
use Rattle.refs_lookup.proofs.MembersApart.{one_function}
use Rattle.law_faultless.proofs.Lists.{all_flat}
use Rattle.law_faultless.proofs.Scoped.{in_order}
use Rattle.law_faultless.proofs.TypesApart.{one_type_place}
use Rattle.law_faultless.proofs.TypesBound.{Kept, all_kept, received_takes}
use Rattle.law_faultless.proofs.AskedMembers.{IsAskedBy}
use Rattle.law_faultless.proofs.Fine.{world_unbroken}
use Rattle.law_faultless.proofs.NoFaults.{no_fault_in}
use Rattle.law_faultless.proofs.Sound.{receiver_sound}
use Rattle.law_faultless.proofs.WholeBound.{method_of}
use Rattle.law_faultless.proofs.Declared.{may_within}
use Rattle.law_faultless.proofs.MeaningfulNames.{declared_counts}
use Rattle.law_faultless.proofs.PackageWorlds.{have_worlds, have_all_worlds}
use Rattle.law_faultless.proofs.FunctionsSettled.{IsInFile, in_file_of, function_kept, function_name_kept, no_import_role, spelled_told}

-- the name of a type definition is one of the identifiers of its file

spec_kept : (K : Site → Type 0) (s : TokenSpellings) (x : TypeSpecTree) → AllByRecursion K (type_spec_sites s x) → K (site s x.name (Declaring PackageBlock 0))
unfolding type_spec_sites
spec_kept K s x h = h.0

specs_kept : (K : Site → Type 0) (s : TokenSpellings) (xs : List (Item TypeSpecTree)) (x : TypeSpecTree) →
    AllByRecursion K (flat_map (λ (y : Item TypeSpecTree). type_spec_sites s y.value) xs) → Holds (map (λ (y : Item TypeSpecTree). y.value) xs) x →
    K (site s x.name (Declaring PackageBlock 0))
specs_kept K s [] x h i = absurd i
specs_kept K s (y ∷ ys) x h i =
    let rest = flat_map (λ (z : Item TypeSpecTree). type_spec_sites s z.value) ys in
    elim i [
      | inl e ↦ subst (λ (z : TypeSpecTree). K (site s z.name (Declaring PackageBlock 0))) e
          (spec_kept K s y.value (all_front K (type_spec_sites s y.value) rest h))
      | inr r ↦ specs_kept K s ys x (all_back K (type_spec_sites s y.value) rest h) r
    ]

group_kept : (K : Site → Type 0) (s : TokenSpellings) (g : Group TypeSpecTree) (x : TypeSpecTree) → AllByRecursion K (spec_sites (type_spec_sites s) g) →
    Holds (group_items g) x → K (site s x.name (Declaring PackageBlock 0))
unfolding group_sites separated_sites
group_kept K s (single y) x h i = elim i [
  | inl e ↦ subst (λ (z : TypeSpecTree). K (site s z.name (Declaring PackageBlock 0))) e (spec_kept K s y h)
  | inr z ↦ absurd z
]
group_kept K s (several o xs c) x h i = specs_kept K s xs x h i

type_kept : (K : Site → Type 0) (s : TokenSpellings) (tree : FileTree) (k : ℕ) (g : Group TypeSpecTree) (c : ℕ) → AllByRecursion K (file_sites s tree) →
    Holds tree.decls (TypeDecl k g c) → (x : TypeSpecTree) → Holds (group_items g) x → K (site s x.name (Declaring PackageBlock 0))
unfolding file_sites decl_sites
type_kept K s tree k g c h held x i =
    group_kept K s g x
    (all_flat K (decl_sites s) tree.decls (TypeDecl k g c) (all_back K (flat_map (imports_sites s) tree.imports) (flat_map (decl_sites s) tree.decls) h.1)
    held)
    i

-- so is the name of a receiver's type
receiver_kept : (K : Site → Type 0) (s : TokenSpellings) (f : FuncTree) (r : ReceiverTree) → f.receiver ≡ Some r → AllByRecursion K (func_sites s f) →
    K (site s r.type_name Use)
unfolding func_sites receiver_sites
receiver_kept K s f r e h =
    let b = func_block s f in
    let o = open_of f.body in
    let front = all_front K (sites_if (receiver_sites s b o) f.receiver) (site s f.name (func_role f.receiver (s.spell f.name)) ∷
    (list_sites (param_sites s b o) f.params ++ (result_sites s f.result ++ block_sites s f.body))) h in
    let own_front : AllByRecursion K (ident_sites s (Declaring b o) r.name ++ (site s r.type_name Use ∷ [])) =
    subst (λ z. AllByRecursion K (sites_if (receiver_sites s b o) z)) e front in
    (all_back K (ident_sites s (Declaring b o) r.name) (site s r.type_name Use ∷ []) own_front).0

-- where a type is defined
pub record IsTypeInFile (p : Package) (t : PlacedType) : Type 0 where
  pub source : SourceFile
  pub in_file : slice_get p.files t.file ≡ Some source
  keyword : ℕ
  group : Group TypeSpecTree
  semicolon : ℕ
  in_tree : Holds source.tree.decls (TypeDecl keyword group semicolon)
  in_group : Holds (group_items group) t.spec

type_in_decl : (p : Package) (file : ℕ) (s : SourceFile) → slice_get p.files file ≡ Some s → (d : DeclTree) → Holds s.tree.decls d → (t : PlacedType) →
    Holds (decl_types file d) t → IsTypeInFile p t
type_in_decl p file s at (VarDecl k g c) held t h = absurd h
type_in_decl p file s at (FuncDecl k f c) held t h = absurd h
type_in_decl p file s at (TypeDecl k g c) held t h =
    let x = holds_map (placed_type file) (group_items g) t h in
    record {
      source = s;
      in_file = subst (λ n. slice_get p.files n ≡ Some s) (ap (λ (z : PlacedType). z.file) x.1.1) at;
      keyword = k;
      group = g;
      semicolon = c;
      in_tree = held;
      in_group = subst (λ z. Holds (group_items g) z) (ap (λ (z : PlacedType). z.spec) x.1.1) x.1.0;
    }

pub type_in_file : (p : Package) (rank : ℕ) (t : PlacedType) → slice_get (package_types p) rank ≡ Some t → IsTypeInFile p t
type_in_file p rank t e =
    let r = holds_flat types_in (ranked_files p.files) t (holds_got (package_types p) rank t e) in
    let d = holds_flat (decl_types r.0.0) r.0.1.tree.decls t r.1.1 in
    let i = holds_ranked 0 p.files r.0 r.1.0 in
    let at : i.0 ≡ r.0.0 = (let first : r.0.0 ≡ 0 + i.0 = i.1.0 in omega arith) in
    type_in_decl p r.0.0 r.0.1 (subst (λ n. slice_get p.files n ≡ Some r.0.1) at i.1.1) d.0 d.1.0 t d.1.1

-- in a workspace without faults
module _ (w : Workspace) (sound : ListsFaults w []) (known : Verdicts) (right : AreVerdicts w known) (p : Package) (is : IsCheckedPackage w known p) where
  -- what counts in the package's block is one by its name
  once : (d e : ℕ) → Counts p.layout p.names d → Counts p.layout p.names e → IsPackageLevel p.layout d → IsPackageLevel p.layout e → p.names d ≡ p.names e →
      d ≡ e
  once d e c k level also same = elim (cases_eq d e) [
    | inl one ↦ one
    | inr apart ↦ elim (cases_lt d e) [
      | inl less ↦ absurd (k.first d c.declares same (inl (level ∙ sym also, less)))
      | inr le ↦ absurd (c.first e k.declares (sym same) (inl (also ∙ sym level, (let less : e < d = omega (arith, apart) in less))))
    ]
  ]

  -- a declaration of a type stands in the package's block
  type_level : (d rank : ℕ) → Counts p.layout p.names d → DeclaresType p d rank → IsPackageLevel p.layout d
  type_level d rank c declares =
      let t = declares.item in
      let there = type_in_file p rank t declares.has_rank in
      let source : TokenSpellings = record { rank = t.file; spell = spelling_of there.source } in
      let kept = type_kept (Kept p t.file) source there.source.tree there.keyword there.group there.semicolon
      (all_kept w known p.path p is.is_checked t.file there.source there.in_file) there.in_tree t.spec there.in_group in
      let u = kept refl in
      let lt = may_within w known p.path p is.is_checked d c.declares.may in
      let same : u.0 ≡ d = one_stands p.layout p.size (in_order w known p.path p is.is_checked) (type_place t) u.0 d u.1.0 lt u.1.1.0 declares.stands in
      ap (λ n. block_of (p.layout.role n)) (sym same) ∙ ap block_of u.1.1.1

  -- the identifier that declares a type
  pub record HasOwnName (t : PlacedType) : Type 0 where
    pub number : ℕ
    pub within : number < p.size
    pub stands : LiesAt p.layout (type_place t) number
    pub level : IsPackageLevel p.layout number
    declares : Declares p.layout p.names number
    named : p.names number ≡ spelled_in p.files t.file t.spec.name

  pub own_name : (rank : ℕ) (t : PlacedType) → slice_get (package_types p) rank ≡ Some t → HasOwnName t
  own_name rank t has =
      let there = type_in_file p rank t has in
      let source : TokenSpellings = record { rank = t.file; spell = spelling_of there.source } in
      let kept = type_kept (Kept p t.file) source there.source.tree there.keyword there.group there.semicolon
      (all_kept w known p.path p is.is_checked t.file there.source there.in_file) there.in_tree t.spec there.in_group in
      let u = kept refl in
      let role : p.layout.role u.0 ≡ Declaring PackageBlock 0 = u.1.1.1 in
      let outer : (g : ℕ) → block_of (p.layout.role u.0) ≡ File g → ⊥ = λ g e. (let z : PackageBlock ≡ File g = sym (ap block_of role) ∙ e in cc) in
      let at : slice_get p.files (p.layout.place u.0).file ≡ Some there.source = ap (slice_get p.files) u.1.1.0.1 ∙ there.in_file in
      let spelt : spelled_in p.files t.file t.spec.name ≡ spelling_of there.source t.spec.name =
      ap (λ (o : Option SourceFile). spelled_at o t.spec.name) there.in_file in
      record {
        number = u.0;
        within = u.1.0;
        stands = u.1.1.0;
        level = ap block_of role;
        declares = record { may = ap may_declare role; is_new = λ left. absurd (true≢false (sym left ∙ ap is_left_name role)) };
        named = spelled_told w known p.path p is.is_checked u.0 u.1.0 (ap is_implied role) outer there.source at ∙
            (ap (spelling_of there.source) u.1.1.0.2 ∙ sym spelt);
      }

  -- two types that are called alike are one
  same_type : (a b n m : ℕ) (t s : PlacedType) → slice_get (package_types p) a ≡ Some t → slice_get (package_types p) b ≡ Some s →
      LiesAt p.layout (type_place t) n → LiesAt p.layout (type_place s) m → n ≡ m → a ≡ b
  same_type a b n m t s has also x y one =
      let there : LiesAt p.layout (type_place t) m = subst (LiesAt p.layout (type_place t)) one x in
      let place : type_place t ≡ type_place s =
      ap (λ (k : ℕ). let at : Position = record { file = k; index = t.spec.name } in at) (sym there.1 ∙ y.1) ∙
      ap (λ (k : ℕ). let at : Position = record { file = s.file; index = k } in at) (sym there.2 ∙ y.2) in
      one_type_place p.files (files_in_order w known p.path p is.is_checked) a b t s has also place

  types_one : (a b : ℕ) (t s : PlacedType) → slice_get (package_types p) a ≡ Some t → slice_get (package_types p) b ≡ Some s →
      spelled_in p.files t.file t.spec.name ≡ spelled_in p.files s.file s.spec.name → (a ≡ b → ⊥) → ⊥
  types_one a b t s has also same none =
      let x = own_name a t has in
      let y = own_name b s also in
      declared_counts w sound known right p is x.number x.within x.declares (λ c.
      declared_counts w sound known right p is y.number y.within y.declares (λ k.
      let one : x.number ≡ y.number = once x.number y.number c k x.level y.level (x.named ∙ same ∙ sym y.named) in
      none (same_type a b x.number y.number t s has also x.stands y.stands one)))

  -- two methods that interfaces ask for
  pub asked_apart : (a b : ℕ) (f g : PlacedField) (name : FunctionName) → a < b → slice_get (package_fields p) a ≡ Some f →
      slice_get (package_fields p) b ≡ Some g → IsAskedBy p.path p.files (package_types p) f name → IsAskedBy p.path p.files (package_types p) g name → ⊥
  asked_apart a b f g name less has also x y =
      let z : Method (name_of_type p.path p.files x.definition) (spelled_in p.files f.file f.name) ≡
      Method (name_of_type p.path p.files y.definition) (spelled_in p.files g.file g.name) = sym x.called ∙ y.called in
      let owner : name_of_type p.path p.files x.definition ≡ name_of_type p.path p.files y.definition = cc in
      let named : spelled_in p.files f.file f.name ≡ spelled_in p.files g.file g.name = cc in
      types_one f.definition g.definition x.definition y.definition x.is_definition y.is_definition (ap (λ (n : GlobalName). n.name) owner) (λ one.
      let first : IsFieldOf p g.definition (spelled p g.file g.name) a f = record { has_rank = has; of_struct = one; named = named } in
      let at : Fault = record { file = g.file; token = g.name; kind = fault_kind.Repeated } in
      no_fault_later w sound known right p is at
      (inr (
        (λ h inner. no_fault_later w sound known right p is h (inl inner)),
        inl (inl (record {
          definition = g.definition;
          name = spelled p g.file g.name;
          rank = b;
          field = g;
          is_field = record { has_rank = also; of_struct = refl; named = refl };
          displaced = λ counting. counting.first a f less first;
          at = refl;
        })),
      )))

  -- no receiver names an interface
  no_interface : (file : ℕ) (s : SourceFile) (v : World) → IsWorldOf p file s v → (r : ReceiverTree) → (judge_receiver v r).faults ≡ [] → (d rank : ℕ) →
      BindsToken p file r.type_name d → IsPackageLevel p.layout d → DeclaresType p d rank → (t : PlacedType) → slice_get (package_types p) rank ≡ Some t →
      (k o : ℕ) (ms : List (Item MethodTree)) (c : ℕ) → t.spec.body ≡ Interface k o ms c → ⊥
  no_interface file s v judged r fine d rank binds level declares t has k o ms c body =
      let n = r.type_name in
      let formed = layout_formed w known p.path p is.is_checked in
      let rising = files_in_order w known p.path p is.is_checked in
      let unbroken = world_unbroken w sound known right (have_all_worlds w sound known right) p is file s v judged in
      let whole : IsBroken p rank → ⊥ = λ broken. unbroken.types n
      (one_name p formed rising file n (v.bound n) BrokenType (judged.names n) (is_bound (by_scope binds (meant.broken_definition level declares broken)))) in
      let means : v.bound n ≡ Means (TypeName (Defined (symbol_in p rank))) =
      one_name p formed rising file n (v.bound n) (Means (TypeName (Defined (symbol_in p rank)))) (judged.names n)
      (is_bound (by_scope binds (meant.definition level declares whole))) in
      let takes = received_takes v r (symbol_in p rank) means fine in
      let defined = (judged.are_definitions.own rank t has).underlying in
      interface_takes (v.definition (symbol_in p rank)) ((judged.definitions (symbol_in p rank)).underlying) (judged.definition (symbol_in p rank))
      (of_interface rank ((judged.definitions (symbol_in p rank)).underlying) (by_definition.interface has body) defined) takes
    where
      of_interface : (rank : ℕ) (u : Underlying) → HasUnderlying p (Defined (symbol_in p rank)) (InterfaceOf (symbol_in p rank)) → IsUnderlyingOf p rank u →
          u ≡ InterfaceOf (symbol_in p rank)
      of_interface rank u known_one (by_definition.has {u = x} h) =
          one_underlying p (layout_formed w known p.path p is.is_checked) (Defined (symbol_in p rank)) x (InterfaceOf (symbol_in p rank)) h known_one
      of_interface rank _ known_one (by_definition.has_none none) = absurd (none (InterfaceOf (symbol_in p rank)) known_one)

      interface_takes : (a b : Underlying) → a ≡ b → b ≡ InterfaceOf (symbol_in p rank) → takes_no_methods a ≡ false → ⊥
      interface_takes a b e f h = true≢false (ap takes_no_methods (sym (e ∙ f)) ∙ h)

  module _ (rank : ℕ) (f : PlacedFunction) (has : slice_get (package_functions p) rank ≡ Some f) where
    abbrev there : IsInFile p f
    there = in_file_of p rank f has

    abbrev code : TokenSpellings
    code = record { rank = f.file; spell = spelling_of there.source }

    all_here : AllByRecursion (Kept p f.file) (func_sites code f.function)
    all_here = function_kept (Kept p f.file) code there.source.tree there.keyword f.function there.semicolon
        (all_kept w known p.path p is.is_checked f.file there.source there.in_file) there.in_tree

    -- a plain function
    record HasDeclared : Type 0 where
      number : ℕ
      within : number < p.size
      stands : LiesAt p.layout (function_place f) number
      level : IsPackageLevel p.layout number
      declares : Declares p.layout p.names number
      named : p.names number ≡ spelling_of there.source f.function.name

    func_plain : (r : Option ReceiverTree) (name : List ℕ) → r ≡ None → bytes_eq name (codes "init") ≡ false → func_role r name ≡ Declaring PackageBlock 0
    func_plain r name none other =
        ap (λ z. func_role z name) none ∙ ap (λ b. if b then NotLexical purpose.InitFunction else Declaring PackageBlock 0) other

    has_declared : f.function.receiver ≡ None → bytes_eq (spelling_of there.source f.function.name) (codes "init") ≡ false → HasDeclared
    has_declared none other =
        let name = spelling_of there.source f.function.name in
        let u = function_name_kept (Kept p f.file) code f.function all_here (no_import_role f.function.receiver name) in
        let role : p.layout.role u.0 ≡ Declaring PackageBlock 0 = u.1.1.1 ∙ func_plain f.function.receiver name none other in
        let outer : (g : ℕ) → block_of (p.layout.role u.0) ≡ File g → ⊥ = λ g e. (let z : PackageBlock ≡ File g = sym (ap block_of role) ∙ e in cc) in
        let at : slice_get p.files (p.layout.place u.0).file ≡ Some there.source = ap (slice_get p.files) u.1.1.0.1 ∙ there.in_file in
        record {
          number = u.0;
          within = u.1.0;
          stands = u.1.1.0;
          level = ap block_of role;
          declares = record { may = ap may_declare role; is_new = λ left. absurd (true≢false (sym left ∙ ap is_left_name role)) };
          named = spelled_told w known p.path p is.is_checked u.0 u.1.0 (ap is_implied role) outer there.source at ∙ ap (spelling_of there.source) u.1.1.0.2;
        }

    -- a method
    module _ (r : ReceiverTree) (e : f.function.receiver ≡ Some r) where
      abbrev Owned : Type 0
      Owned = (definition : ℕ) × IsMethodOf p definition (spelled p f.file f.function.name) rank f

      owned : Owned
      owned = method_of w sound known right p is (have_worlds w sound known right p is) rank f has r e

      record IsOfType (d : ℕ) : Type 0 where
        counts : Counts p.layout p.names d
        named : p.names d ≡ spelling_of there.source r.type_name

      by_use : (d u : ℕ) → u < p.size → LiesAt p.layout (record { file = f.file; index = r.type_name }) u → p.layout.role u ≡ Use →
          IsBoundTo p.layout p.names u d → IsOfType d
      by_use d u lt stands role (use_bound i b) =
          let outer : (g : ℕ) → block_of (p.layout.role u) ≡ File g → ⊥ = λ g k. (let z : Universe ≡ File g = sym (ap block_of role) ∙ k in cc) in
          let at : slice_get p.files (p.layout.place u).file ≡ Some there.source = ap (slice_get p.files) stands.1 ∙ there.in_file in
          record {
            counts = b.counts;
            named = b.named ∙ spelled_told w known p.path p is.is_checked u lt (ap is_implied role) outer there.source at ∙
                ap (spelling_of there.source) stands.2;
          }
      by_use d u lt stands role (own same counts) =
          absurd (true≢false (sym counts.declares.may ∙ ap (λ n. may_declare (p.layout.role n)) (sym same) ∙ ap may_declare role))

      of_type : (d : ℕ) → BindsToken p f.file r.type_name d → IsOfType d
      of_type d binds =
          let u = receiver_kept (Kept p f.file) code f.function r e all_here refl in
          let at : Position = record { file = f.file; index = r.type_name } in
          let same : u.0 ≡ binds.identifier =
          one_stands p.layout p.size (in_order w known p.path p is.is_checked) at u.0 binds.identifier u.1.0 binds.found.within u.1.1.0 binds.found.holds in
          by_use d binds.identifier binds.found.within binds.found.holds (subst (λ n. p.layout.role n ≡ Use) same u.1.1.1) binds.bound

      own_type : (m : Owned) → IsOfType m.1.declaration
      own_type m =
          let same : m.1.receiver ≡ r = same_Some m.1.receiver r (sym m.1.received ∙ e) in
          of_type m.1.declaration (subst (λ (z : ReceiverTree). BindsToken p f.file z.type_name m.1.declaration) same m.1.binds)

      -- the receiver's type is no interface
      pub receives_no_interface : (b : ℕ) (t : PlacedType) → slice_get (package_types p) b ≡ Some t →
          spelled_in p.files f.file r.type_name ≡ spelled_in p.files t.file t.spec.name →
          (k o : ℕ) (ms : List (Item MethodTree)) (c : ℕ) → t.spec.body ≡ Interface k o ms c → ⊥
      receives_no_interface b t at same k o ms c body =
          let m = owned in
          let of_m = own_type m in
          let level = type_level m.1.declaration m.0 of_m.counts m.1.of_type in
          let y = own_name b t at in
          let own : m.1.receiver ≡ r = same_Some m.1.receiver r (sym m.1.received ∙ e) in
          let spelt : spelled_in p.files f.file r.type_name ≡ spelling_of there.source r.type_name =
          ap (λ (o : Option SourceFile). spelled_at o r.type_name) there.in_file in
          declared_counts w sound known right p is y.number y.within y.declares (λ counts.
          let one : m.1.declaration ≡ y.number =
          once m.1.declaration y.number of_m.counts counts level y.level (of_m.named ∙ (sym spelt ∙ (same ∙ sym y.named))) in
          let item = m.1.of_type in
          let rank_is : m.0 ≡ b = same_type m.0 b m.1.declaration y.number item.item t item.has_rank at item.stands y.stands one in
          let v = have_worlds w sound known right p is f.file there.source there.in_file in
          let fine = receiver_sound v.0 (is_init there.source) there.source.tree
          (no_fault_in w sound known right p is f.file (members_of (check_file v.0 (is_init there.source) there.source.tree).uses)
          (record { source = there.source; in_file = there.in_file; world = v.0; judged_by = v.1; found = refl })) there.keyword there.semicolon f.function
          there.in_tree r e in
          no_interface f.file there.source v.0 v.1 r fine m.1.declaration m.0
          (subst (λ (z : ReceiverTree). BindsToken p f.file z.type_name m.1.declaration) own m.1.binds) level item t
          (subst (λ n. slice_get (package_types p) n ≡ Some t) (sym rank_is) at) k o ms c body)

  -- two of them

  module _ (a b : ℕ) (f g : PlacedFunction) (less : a < b) (has : slice_get (package_functions p) a ≡ Some f)
      (also : slice_get (package_functions p) b ≡ Some g) where
    abbrev here : IsInFile p f
    here = in_file_of p a f has

    abbrev other : IsInFile p g
    other = in_file_of p b g also

    pub plain_apart : f.function.receiver ≡ None → g.function.receiver ≡ None →
        bytes_eq (spelling_of here.source f.function.name) (codes "init") ≡ false → bytes_eq (spelling_of other.source g.function.name) (codes "init") ≡ false →
        spelling_of here.source f.function.name ≡ spelling_of other.source g.function.name → ⊥
    plain_apart none none_too plain plain_too same =
        let x = has_declared a f has none plain in
        let y = has_declared b g also none_too plain_too in
        declared_counts w sound known right p is x.number x.within x.declares (λ c.
        declared_counts w sound known right p is y.number y.within y.declares (λ k.
        let one : x.number ≡ y.number = once x.number y.number c k x.level y.level (x.named ∙ same ∙ sym y.named) in
        let there : LiesAt p.layout (function_place f) y.number = subst (LiesAt p.layout (function_place f)) one x.stands in
        let place : function_place f ≡ function_place g =
        ap (λ (n : ℕ). let at : Position = record { file = n; index = f.function.name } in at) (sym there.1 ∙ y.stands.1) ∙
        ap (λ (n : ℕ). let at : Position = record { file = g.file; index = n } in at) (sym there.2 ∙ y.stands.2) in
        let rank : a ≡ b = one_function p.files (files_in_order w known p.path p is.is_checked) a b f g has also place in omega arith))

    pub methods_apart : (r t : ReceiverTree) → f.function.receiver ≡ Some r → g.function.receiver ≡ Some t →
        spelling_of here.source r.type_name ≡ spelling_of other.source t.type_name → spelled p f.file f.function.name ≡ spelled p g.file g.function.name → ⊥
    methods_apart r t e k same named =
        let x = owned a f has r e in
        let y = owned b g also t k in
        let of_x = own_type a f has r e x in
        let of_y = own_type b g also t k y in
        let one : x.1.declaration ≡ y.1.declaration =
        once x.1.declaration y.1.declaration of_x.counts of_y.counts (type_level x.1.declaration x.0 of_x.counts x.1.of_type)
        (type_level y.1.declaration y.0 of_y.counts y.1.of_type) (of_x.named ∙ same ∙ sym of_y.named) in
        let definition : x.0 ≡ y.0 =
        one_rank type_place (package_types p) p.layout y.1.declaration x.0 y.0 (subst (λ d. DeclaresType p d x.0) one x.1.of_type) y.1.of_type in
        let first : IsMethodOf p y.0 (spelled p g.file g.function.name) a f =
        subst (λ n. IsMethodOf p y.0 n a f) named (subst (λ d. IsMethodOf p d (spelled p f.file f.function.name) a f) definition x.1) in
        let at : Fault = record { file = g.file; token = g.function.name; kind = fault_kind.Repeated } in
        no_fault_later w sound known right p is at
        (inr (
          (λ h inner. no_fault_later w sound known right p is h (inl inner)),
          inl (inr (inl (record {
            definition = y.0;
            name = spelled p g.file g.function.name;
            rank = b;
            method = g;
            is_method = y.1;
            displaced = λ counting. counting.first a f less first;
            at = refl;
          }))),
        ))
