-- The names that objects print move as package-level declarations, methods and selectors of qualified identifiers do.
use Rattle.std.proofs.Common.{ℕ, zero, suc, ◌≡◌, ◌<◌, ◌==◌, inl, inr, Bool, false, if◌then◌else◌, List, [], ◌∷◌, Option, Some, None, refl, ap, sym, subst}
use Rattle.std.proofs.Common.{◌∙◌}
use Rattle.std.specs.Prelude.{slice_get, Contains, codes, bytes_eq}
use Rattle.std.specs.Cmp.Lexicographic.{pointwise}
use Rattle.base_lemmas.proofs.Elements.{first_in, later_in}
use Rattle.base_edits.specs.EditSet.{FileChanges, edited}
use Rattle.base_files.specs.Workspace.{Workspace}
use Rattle.base_files.specs.declared.fault_kind.FaultKind.TheVariants as kind
use Rattle.go_ast.specs.SourceFile.{spelling_of}
use Rattle.go_ast.specs.Tree.{Item, ReceiverTree, ParamTree, ResultTree, FuncDecl}
use Rattle.go_scope.specs.declared.model.Block.TheVariants.{Package as PackageBlock}
use Rattle.go_scope.specs.declared.model.Role.TheVariants.{Declaring, NotLexical}
use Rattle.go_scope.specs.declared.model.Purpose.TheVariants as purpose
use Rattle.go_scope.specs.Bindings.{IsPackageLevel, Counts, block_of}
use Rattle.go_scope.specs.FileSites.{func_role}
use Rattle.go_scope.specs.Table.{LiesAt}
use Rattle.types_declared.specs.Laid.{init_name}
use Rattle.types_declared.specs.Package.{Package, PlacedType, PlacedFunction, package_types, package_functions, spelled, spelled_at}
use Rattle.types_declared.specs.Definitions.{PlacedField, OfSignature, package_fields}
use Rattle.types_declared.specs.Written.{BindsToken}
use Rattle.types_info.proofs.DeclKinds.{Holds}
use Rattle.types_resolve.specs.Scoping.{fault_at}
use Rattle.workspace_check.specs.FaultLists.{ListsFaults}
use Rattle.workspace_check.specs.Verdicts.{Verdicts, AreVerdicts}
use Rattle.workspace_check.proofs.OnePackage.{layout_formed}
use Rattle.refs_binding.specs.Uses.{IsCheckedPackage}
use Rattle.refs_lookup.proofs.Faultless.{no_fault_later}
use Rattle.build_object.specs.Lines.{Plain, Method}
use Rattle.build_object.specs.Names.{is_named_init, is_initializer, function_named, function_called}
use Rattle.build_object.specs.Sources.{HasQualifier}
use Rattle.law_faultless.proofs.Declared.{may_within}
use Rattle.law_faultless.proofs.FunctionsSettled.{IsInFile, in_file_of}
use Rattle.law_faultless.proofs.MembersWritten.{member_asked, asked_held}
use Rattle.law_changed_types.proofs.Alike.{Alike, of_bound, tokens}
use Rattle.law_renamed_workspaces.proofs.OwnNames.{counted}
use Rattle.law_renamed_workspaces.specs.VerdictsStay.{IsPackageAfter}
use Rattle.law_renamed_workspaces.proofs.DeclaredNames.{level_declares}
use Rattle.law_renamed_workspaces.proofs.Inits.{file_of_tree, same_tree, keep_inits}
use Rattle.law_objects.specs.Replaced.{Replaced}
use Rattle.law_objects.proofs.LevelNames.{level_spelled, own_spelled, type_stands, function_stands}
use Rattle.law_objects.proofs.NamesMoved.{named_at, AreNames, AskedMoves, MovesNames}

-- Each package-level declaration gets the name that is put in the place of its name.
abbrev pub LevelsMove : Replaced → Package → Package → Type 0
LevelsMove r p q = (u : ℕ) → IsPackageLevel p.layout u → Counts p.layout p.names u →
    r.global (record { path = p.path; name = p.names u }) ≡ record { path = p.path; name = q.names u }

-- So does each method, with the name of its type.
abbrev pub MethodsMove : Replaced → Package → Package → Type 0
MethodsMove r p q = (rank : ℕ) (f : PlacedFunction) (t : ReceiverTree) → slice_get (package_functions p) rank ≡ Some f → f.function.receiver ≡ Some t →
    r.function (Method (named_at p.path p f.file t.type_name) (spelled p f.file f.function.name))
    ≡ Method (named_at p.path q f.file t.type_name) (spelled q f.file f.function.name)

-- So does each method that an interface asks for, with the name of the interface's type.
abbrev pub AsksMove : Replaced → Package → Package → Type 0
AsksMove r p q = (rank : ℕ) (f : PlacedField) (ps : List (Item ParamTree)) (result : ResultTree) (t : PlacedType) →
    slice_get (package_fields p) rank ≡ Some f → f.form ≡ OfSignature ps result → slice_get (package_types p) f.definition ≡ Some t →
    r.function (Method (named_at p.path p t.file t.spec.name) (spelled p f.file f.name))
    ≡ Method (named_at p.path q t.file t.spec.name) (spelled q f.file f.name)

-- So does each selector of a qualified identifier.
abbrev pub QualifiedMove : Replaced → Package → Package → Type 0
QualifiedMove r p q = (file token : ℕ) (path : List ℕ) → HasQualifier p file token path → r.global (named_at path p file token) ≡ named_at path q file token

pub rank_of : {X : Type 0} (xs : List X) (x : X) → Holds xs x → (rank : ℕ) × (slice_get xs rank ≡ Some x)
rank_of [] x h = absurd h
rank_of (y ∷ ys) x h = elim h [ inl same ↦ (zero, ap Some same) | inr later ↦ (let r = rank_of ys x later in (suc r.0, r.1)) ]

held_in : {X : Type 0} (xs : List X) (x : X) → Holds xs x → Contains xs x
held_in [] x h = absurd h
held_in (y ∷ ys) x h = elim h [ inl same ↦ subst (Contains (y ∷ ys)) same (first_in y ys) | inr later ↦ later_in y ys x (held_in ys x later) ]

-- in a package without faults each package-level declaration counts
pub level_counts : (w : Workspace) → ListsFaults w [] → (known : Verdicts) → AreVerdicts w known → (p : Package) → IsCheckedPackage w known p → (u : ℕ) →
    IsPackageLevel p.layout u → Counts p.layout p.names u
level_counts w sound known right p is u level =
    let declares = level_declares p.layout (layout_formed w known p.path p is.is_checked) p.names u level in
    record {
      declares = declares;
      first = λ e also named displaces.
          let lt : u < p.size = may_within w known p.path p is.is_checked u declares.may in
          no_fault_later w sound known right p is (fault_at p.layout u kind.Repeated)
          (inl (inl (inl (u, lt, inr (inl (record { at = refl; repeats = inl (declares, λ counts. counts.first e also named displaces) }))))));
    }

-- a function that is no `init` is declared in the package's block
plain_role : (b : Bool) → b ≡ false → (if b then NotLexical purpose.InitFunction else Declaring PackageBlock 0) ≡ Declaring PackageBlock 0
plain_role b e = ap (λ z. if z then NotLexical purpose.InitFunction else Declaring PackageBlock 0) e

module _ (w : Workspace) (before after : Verdicts) (sound : ListsFaults w []) (right : AreVerdicts w before) (s : FileChanges) (p q : Package)
    (here : IsPackageAfter w before after s p q) (r : Replaced) (names : AreNames r) (levels : LevelsMove r p q) where
  abbrev x : Workspace
  x = edited s w

  abbrev a : Alike p q
  a = of_bound p q here.bound

  abbrev was : IsCheckedPackage w before p
  was = here.was

  level_now : (u : ℕ) → IsPackageLevel p.layout u → IsPackageLevel q.layout u
  level_now u level = subst (λ l. IsPackageLevel l u) (sym here.relaid.layout) level

  moved : (old new : List ℕ) (u : ℕ) → old ≡ p.names u → new ≡ q.names u → IsPackageLevel p.layout u → Counts p.layout p.names u →
      r.global (record { path = p.path; name = old }) ≡ record { path = p.path; name = new }
  moved old new u e k level counts =
      ap (λ n. r.global (record { path = p.path; name = n })) e ∙ levels u level counts ∙ ap (λ n. record { path = p.path; name = n }) (sym k)

  pub bound : (file token d : ℕ) → BindsToken p file token d → IsPackageLevel p.layout d →
      r.global (named_at p.path p file token) ≡ named_at p.path q file token
  bound file token d b level =
      moved (spelled p file token) (spelled q file token) d (level_spelled w before p was file token d b level)
      (level_spelled x after q here.is file token d (tokens p q a file token d b) (level_now d level)) level
      (counted p.layout p.names b.identifier d b.bound)

  stood : (file token u : ℕ) → u < p.size → LiesAt p.layout (record { file = file; index = token }) u → p.layout.role u ≡ Declaring PackageBlock 0 →
      r.global (named_at p.path p file token) ≡ named_at p.path q file token
  stood file token u lt lies role =
      let level : IsPackageLevel p.layout u = ap block_of role in
      moved (spelled p file token) (spelled q file token) u (own_spelled w before p was file token u lt lies level)
      (own_spelled x after q here.is file token u (subst (λ n. u < n) (sym here.relaid.size) lt)
      (subst (λ l. LiesAt l (record { file = file; index = token }) u) (sym here.relaid.layout) lies) (level_now u level)) level
      (level_counts w sound before right p was u level)

  pub types : (t : PlacedType) → Holds (package_types p) t → r.global (named_at p.path p t.file t.spec.name) ≡ named_at p.path q t.file t.spec.name
  types t held = let v = type_stands w before p was t held in stood t.file t.spec.name v.0 v.1.0 v.1.1.0 v.1.1.1

  in_file : (f : PlacedFunction) → Holds (package_functions p) f → IsInFile p f
  in_file f held = let k = rank_of (package_functions p) f held in in_file_of p k.0 f k.1

  same_init : (f : PlacedFunction) → IsInFile p f → f.function.receiver ≡ None →
      pointwise ◌==◌ (spelled q f.file f.function.name) init_name ≡ pointwise ◌==◌ (spelled p f.file f.function.name) init_name
  same_init f there none =
      let trees = here.relaid.trees in
      let g = file_of_tree q.files p.files (sym trees) f.file there.source there.in_file in
      let keep = keep_inits w x before after p q was.is_checked here.is.is_checked here.relaid.layout here.relaid.size f.file there.source g.0 there.in_file g.1
      (same_tree p.files q.files trees f.file there.source g.0 there.in_file g.1) (FuncDecl there.keyword f.function there.semicolon)
      (held_in there.source.tree.decls (FuncDecl there.keyword f.function there.semicolon) there.in_tree) none in
      ap (λ o. pointwise ◌==◌ (spelled_at o f.function.name) init_name) g.1
      ∙ keep
      ∙ ap (λ o. pointwise ◌==◌ (spelled_at o f.function.name) init_name) (sym there.in_file)

  initial : (f : PlacedFunction) → Holds (package_functions p) f → is_initializer q.files f ≡ is_initializer p.files f
  initial f held = by_receiver f.function.receiver refl
    where
      by_receiver : (o : Option ReceiverTree) → f.function.receiver ≡ o →
          is_named_init f.function.receiver (spelled q f.file f.function.name) ≡ is_named_init f.function.receiver (spelled p f.file f.function.name)
      by_receiver None e =
          ap (λ z. is_named_init z (spelled q f.file f.function.name)) e ∙ same_init f (in_file f held) e
          ∙ ap (λ z. is_named_init z (spelled p f.file f.function.name)) (sym e)
      by_receiver (Some t) e =
          ap (λ z. is_named_init z (spelled q f.file f.function.name)) e ∙ ap (λ z. is_named_init z (spelled p f.file f.function.name)) (sym e)

  plain_moves : (f : PlacedFunction) → IsInFile p f → f.function.receiver ≡ None → is_initializer p.files f ≡ false →
      r.global (named_at p.path p f.file f.function.name) ≡ named_at p.path q f.file f.function.name
  plain_moves f there none other =
      let v = function_stands w before p was f there in
      let named : bytes_eq (spelling_of there.source f.function.name) (codes "init") ≡ false =
      ap (λ o. bytes_eq (spelled_at o f.function.name) (codes "init")) (sym there.in_file)
      ∙ ap (λ z. is_named_init z (spelled p f.file f.function.name)) (sym none) ∙ other in
      stood f.file f.function.name v.0 v.1.0 v.1.1.0
      (v.1.1.1 ∙ ap (λ z. func_role z (spelling_of there.source f.function.name)) none
      ∙ plain_role (bytes_eq (spelling_of there.source f.function.name) (codes "init")) named)

  module _ (methods : MethodsMove r p q) where
    functions : (f : PlacedFunction) → Holds (package_functions p) f → is_initializer p.files f ≡ false →
        r.function (function_called p.path p.files f) ≡ function_called p.path q.files f
    functions f held other = by_receiver f.function.receiver refl
      where
        by_receiver : (o : Option ReceiverTree) → f.function.receiver ≡ o → r.function (function_called p.path p.files f) ≡ function_called p.path q.files f
        by_receiver None e =
            ap (λ z. r.function (function_named p.path p.files f.file z (spelled p f.file f.function.name))) e
            ∙ names.plain (named_at p.path p f.file f.function.name)
            ∙ ap Plain (plain_moves f (in_file f held) e other)
            ∙ ap (λ z. function_named p.path q.files f.file z (spelled q f.file f.function.name)) (sym e)
        by_receiver (Some t) e =
            let k = rank_of (package_functions p) f held in
            ap (λ z. r.function (function_named p.path p.files f.file z (spelled p f.file f.function.name))) e
            ∙ methods k.0 f t k.1 e
            ∙ ap (λ z. function_named p.path q.files f.file z (spelled q f.file f.function.name)) (sym e)

    -- by the types that ask
    asked : AsksMove r p q → (t : PlacedType) → Holds (package_types p) t → AskedMoves r p.path p.files q.files t
    asked asks t held k o c ms body i among =
        let n = rank_of (package_types p) t held in
        let f = member_asked n.0 t.file i in
        let at = rank_of (package_fields p) f (asked_held p n.0 t n.1 k o c ms body i among) in
        asks at.0 f i.value.params i.value.result t at.1 refl n.1

    pub moves : AsksMove r p q → QualifiedMove r p q → MovesNames r p q
    moves asks qualified = record { bound = bound; qualified = qualified; types = types; initial = initial; functions = functions; asked = asked asks }
