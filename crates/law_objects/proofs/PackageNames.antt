-- The names of declarations of packages without faults are legible, wherever objects print them.
use Rattle.std.proofs.Common.{◌≡◌, ◌∙◌, ◌<◌, inl, inr, ℕ, Bool, true, false}
use Rattle.std.proofs.Common.{if◌then◌else◌, List, [], ◌∷◌, map, Option, Some, None, refl, sym, ap, subst}
use Rattle.std.specs.Prelude.{Contains, slice_get}
use Rattle.std.specs.List.{AllByRecursion}
use Rattle.base_files.specs.Packages.{package_files, package_paths}
use Rattle.base_files.specs.Workspace.{Workspace}
use Rattle.go_ast.specs.declared.syntax.Kind.{Kind}
use Rattle.go_ast.specs.declared.syntax.Kind.TheVariants as kind
use Rattle.go_ast.specs.Flatten.{all_tokens, decl_tokens, func_tokens, ident_tokens, receiver_tokens, sign_if, tokens_if}
use Rattle.go_ast.specs.SourceFile.{SourceFile, IsSourceFile, spelling_of}
use Rattle.go_ast.specs.Tree.{DeclTree, FuncDecl, FuncTree, ReceiverTree}
use Rattle.go_scope.specs.declared.model.Purpose.TheVariants as purpose
use Rattle.go_scope.specs.Bindings.{IsPackageLevel, block_of}
use Rattle.types_declared.specs.Package.{Package, PlacedFunction, PlacedType, declared_functions}
use Rattle.types_declared.specs.Package.{declared_types, package_functions, package_types, spelled, spelled_at}
use Rattle.types_declared.specs.Definitions.{PlacedField, package_fields}
use Rattle.types_declared.specs.Written.{BindsToken}
use Rattle.types_info.proofs.DeclKinds.{Holds}
use Rattle.types_info.specs.QualifiedIdentifiers.{IsQualifiedByPath}
use Rattle.workspace_graph.specs.Parsed.{AreParsed}
use Rattle.workspace_check.specs.FaultLists.{ListsFaults}
use Rattle.workspace_check.specs.Verdicts.{Verdicts, AreVerdicts}
use Rattle.workspace_check.proofs.Closed.{to_package}
use Rattle.workspace_check.proofs.OnePackage.{all_read, one_sources}
use Rattle.refs_binding.specs.Binding.{IsQualifiedUse, by_scope, by_package, by_member, by_name}
use Rattle.refs_binding.specs.declared.declaration.Declaration.TheVariants.{Declared}
use Rattle.refs_binding.specs.Identifiers.{IsInFiles}
use Rattle.refs_binding.specs.Uses.{IsBoundToDeclaration, IsCheckedPackage}
use Rattle.refs_binding.proofs.Spelled.{selected_spelled}
use Rattle.refs_lookup.proofs.ExportedNames.{bound_behind}
use Rattle.refs_lookup.proofs.OnePlace.{same_files}
use Rattle.build_object.specs.Lines.{GlobalName, Initializer}
use Rattle.build_object.specs.Names.{function_called, function_named, function_names}
use Rattle.build_object.specs.Names.{functions_behind, initializers_with, is_initializer, name_of_type, type_names}
use Rattle.build_object.specs.Sources.{HasQualifier, IsGlobalAt}
use Rattle.build_object.specs.Sources as source
use Rattle.build_unit.specs.Units.{AreFilesSeen, beyond, within}
use Rattle.law_faultless.proofs.Declared.{may_within}
use Rattle.law_faultless.proofs.DeclaringNames.{AllOf, back, front}
use Rattle.law_faultless.proofs.FunctionsSettled.{IsInFile, in_file_of}
use Rattle.law_faultless.proofs.LinksBound.{source_is}
use Rattle.law_faultless.proofs.MembersWritten.{member_asked, asked_held}
use Rattle.law_faultless.proofs.Numbers.{OfKind, clause_named, file_kinds}
use Rattle.law_tokens.proofs.Lexical.{never_bound}
use Rattle.law_renamed_workspaces.proofs.NameTokens.{named_as_spelled}
use Rattle.law_renamed_workspaces.proofs.Packages.{package_there}
use Rattle.law_renamed_workspaces.proofs.RenamedMembersNameTokens.{field_name, named_token}
use Rattle.law_renamed_workspaces.proofs.OwnNames.{counted, member_is_none}
use Rattle.law_objects.proofs.LevelNames.{level_identifies, level_spelled, level_stands, own_spelled, type_stands}
use Rattle.law_objects.proofs.MovesFrom.{rank_of}
use Rattle.law_objects.proofs.Sourced.{of_decls}
use Rattle.law_objects.proofs.AskedLegible.{AskLegible, AsksLegibly, ask_legibly}
use Rattle.law_objects.specs.Legible.{IsLegible, IsLegibleFunction, IsLegibleGlobal}
use Rattle.law_objects.proofs.LegibleNames.{IsGood, good_legible, kind_good, token_good}

-- the tokens of functions

module _ (K : Kind → ℕ → Type 0) where
  in_decl : (ds : List DeclTree) (d : DeclTree) → AllOf K (all_tokens decl_tokens ds) → Holds ds d → AllOf K (decl_tokens d)
  unfolding all_tokens
  in_decl [] d h held = absurd held
  in_decl (x ∷ ds) d h held = elim held [
    | inl same ↦ subst (λ z. AllOf K (decl_tokens z)) same (front K (decl_tokens x) (all_tokens decl_tokens ds) h)
    | inr later ↦ in_decl ds d (back K (decl_tokens x) (all_tokens decl_tokens ds) h) later
  ]

  function_kind : (k : ℕ) (f : FuncTree) (s : ℕ) → AllOf K (decl_tokens (FuncDecl k f s)) → K kind.Name f.name
  unfolding decl_tokens func_tokens
  function_kind k f s h = (back K (tokens_if receiver_tokens f.receiver) _ (front K (func_tokens f) _ h.1)).0

  receiver_kind : (k : ℕ) (f : FuncTree) (s : ℕ) → AllOf K (decl_tokens (FuncDecl k f s)) → (r : ReceiverTree) → f.receiver ≡ Some r → K kind.Name r.type_name
  unfolding decl_tokens func_tokens receiver_tokens
  receiver_kind k f s h r e =
      let own = subst (λ o. AllOf K (tokens_if receiver_tokens o)) e (front K (tokens_if receiver_tokens f.receiver) _ (front K (func_tokens f) _ h.1)) in
      (back K (sign_if kind.Star r.star) _ (back K (ident_tokens r.name) _ own.1)).0

module _ (w : Workspace) (sound : ListsFaults w []) (known : Verdicts) (right : AreVerdicts w known)
    (paths : (p : List ℕ) → Contains (package_paths w) p → IsLegible p) where
  module _ (p : Package) (is : IsCheckedPackage w known p) where
    file_is : (file : ℕ) (s : SourceFile) → slice_get p.files file ≡ Some s → IsSourceFile s
    file_is file s at = source_is w known p.path p is.is_checked file s at

    level_good : (u : ℕ) → u < p.size → IsPackageLevel p.layout u → IsGood (p.names u)
    level_good u lt level =
        let st = level_stands w known p is u lt level in
        subst IsGood
        (sym (named_as_spelled w known p.path p is.is_checked u (lt, level_identifies w known p is u level) st.source st.of_rank st.is_name))
        (token_good st.source (file_is (p.layout.place u).file st.source st.of_rank) (p.layout.place u).index st.is_name)

    bound_good : (file token d : ℕ) → BindsToken p file token d → IsPackageLevel p.layout d → IsGood (spelled p file token)
    bound_good file token d b level =
        let counts = counted p.layout p.names b.identifier d b.bound in
        subst IsGood (sym (level_spelled w known p is file token d b level))
        (level_good d (may_within w known p.path p is.is_checked d counts.declares.may) level)

    types_good : (t : PlacedType) → Holds (package_types p) t → IsGood (spelled p t.file t.spec.name)
    types_good t held =
        let v = type_stands w known p is t held in
        let level : IsPackageLevel p.layout v.0 = ap block_of v.1.1.1 in
        subst IsGood (sym (own_spelled w known p is t.file t.spec.name v.0 v.1.0 v.1.1.0 level)) (level_good v.0 v.1.0 level)

    -- a token of a function's declaration
    declared_good : (f : PlacedFunction) (there : IsInFile p f) → (n : ℕ) → OfKind there.source.cut kind.Name n → IsGood (spelled p f.file n)
    declared_good f there n k =
        subst (λ o. IsGood (spelled_at o n)) (sym there.in_file) (kind_good there.source (file_is f.file there.source there.in_file) n k)

    kinds_of_decl : (f : PlacedFunction) (there : IsInFile p f) →
        AllOf (OfKind there.source.cut) (decl_tokens (FuncDecl there.keyword f.function there.semicolon))
    kinds_of_decl f there =
        in_decl (OfKind there.source.cut) there.source.tree.decls (FuncDecl there.keyword f.function there.semicolon)
        (of_decls (OfKind there.source.cut) there.source.tree (file_kinds there.source (file_is f.file there.source there.in_file))) there.in_tree

    function_good : (f : PlacedFunction) → IsInFile p f → IsGood (spelled p f.file f.function.name)
    function_good f there =
        declared_good f there f.function.name
        (function_kind (OfKind there.source.cut) there.keyword f.function there.semicolon (kinds_of_decl f there))

    receiver_good : (f : PlacedFunction) → IsInFile p f → (r : ReceiverTree) → f.function.receiver ≡ Some r → IsGood (spelled p f.file r.type_name)
    receiver_good f there r e =
        declared_good f there r.type_name
        (receiver_kind (OfKind there.source.cut) there.keyword f.function there.semicolon (kinds_of_decl f there) r e)

    own_path : IsLegible p.path
    own_path = paths p.path is.of_workspace

    in_file : (f : PlacedFunction) → Holds (package_functions p) f → IsInFile p f
    in_file f held = let k = rank_of (package_functions p) f held in in_file_of p k.0 f k.1

    called_legible : (f : PlacedFunction) → Holds (package_functions p) f → IsLegibleFunction (function_called p.path p.files f)
    called_legible f held = by_receiver f.function.receiver refl
      where
        name : IsLegible (spelled p f.file f.function.name)
        name = good_legible (spelled p f.file f.function.name) (function_good f (in_file f held))

        by_receiver : (o : Option ReceiverTree) → f.function.receiver ≡ o →
            IsLegibleFunction (function_named p.path p.files f.file o (spelled p f.file f.function.name))
        by_receiver None e = (own_path, name)
        by_receiver (Some r) e = ((own_path, good_legible (spelled p f.file r.type_name) (receiver_good f (in_file f held) r e)), name)

    each_function : (k : ℕ) (fs : List PlacedFunction) → ((f : PlacedFunction) → Holds fs f → IsLegibleFunction (function_called p.path p.files f)) →
        AllByRecursion IsLegibleFunction (functions_behind p.path p.files k fs)
    each_function k [] each = tt
    each_function k (f ∷ fs) each = (
      by_test (is_initializer p.files f) (each f (inl refl)),
      each_function (initializers_with p.files k f) fs (λ g held. each g (inr held)),
    )
      where
        by_test : (b : Bool) → IsLegibleFunction (function_called p.path p.files f) →
            IsLegibleFunction (if b then Initializer p.path k else function_called p.path p.files f)
        by_test true h = own_path
        by_test false h = h

    each_type : (ts : List PlacedType) → ((t : PlacedType) → Holds ts t → IsGood (spelled p t.file t.spec.name)) →
        AllByRecursion IsLegibleGlobal (map (name_of_type p.path p.files) ts)
    each_type [] each = tt
    each_type (t ∷ ts) each = (
      (own_path, good_legible (spelled p t.file t.spec.name) (each t (inl refl))),
      each_type ts (λ u held. each u (inr held)),
    )

    pub functions_legible : AllByRecursion IsLegibleFunction (function_names p.path p.files)
    functions_legible = each_function 0 (declared_functions p.files) called_legible

    pub types_legible : AllByRecursion IsLegibleGlobal (type_names p.path p.files)
    types_legible = each_type (declared_types p.files) types_good

    -- methods that interfaces ask for
    member_good : (rank : ℕ) (f : PlacedField) → slice_get (package_fields p) rank ≡ Some f → IsGood (spelled p f.file f.name)
    member_good rank f at =
        let h = field_name p rank f at in
        let source = file_is f.file h.source h.in_file in
        subst (λ o. IsGood (spelled_at o f.name)) (sym h.in_file) (token_good h.source source f.name (named_token h.source source f.name h.named))

    asked_legible : (t : PlacedType) → Holds (package_types p) t → AsksLegibly p.path p.files t
    asked_legible t held k o c ms body i among =
        let n = rank_of (package_types p) t held in
        let f = member_asked n.0 t.file i in
        let at = rank_of (package_fields p) f (asked_held p n.0 t n.1 k o c ms body i among) in (
          (own_path, good_legible (spelled p t.file t.spec.name) (types_good t held)),
          good_legible (spelled p t.file i.value.name) (member_good at.0 f at.1),
        )

    pub asks_legible : AskLegible p.path p.files
    asks_legible = ask_legibly p.path p.files asked_legible

  -- selectors of qualified identifiers

  module _ (p : Package) (was : IsCheckedPackage w known p) (file token : ℕ) (path : List ℕ) (h : HasQualifier p file token path) where
    abbrev number : ℕ
    number = h.identifier

    stands : IsInFiles p number
    stands = (h.found.within, h.found.holds.0)

    behind : IsQualifiedByPath p number path
    behind = record {
      selected = h.selected;
      before = h.before;
      behind_dot = h.found.holds.2 ∙ h.behind_dot;
      named = record {
        import = h.import;
        binds = subst (λ k. BindsToken p k h.before h.import) (sym h.found.holds.1) h.binds;
        imports = h.of_path;
      };
    }

    declared : (e : ℕ) × IsBoundToDeclaration w known p number (Declared path e)
    declared = bound_behind w sound known right p was number stands path behind

    use_of : (e : ℕ) → IsBoundToDeclaration w known p number (Declared path e) → IsQualifiedUse (IsCheckedPackage w known) p number path e
    use_of e (by_scope x) = absurd (never_bound p.layout p.names number e purpose.Selected h.selected x.2)
    use_of e (by_package x) = x
    use_of e (by_member x) = absurd (member_is_none x.member path e x.declares)
    use_of e (by_name x) = absurd x

    use_here : IsQualifiedUse (IsCheckedPackage w known) p number path declared.0
    use_here = use_of declared.0 declared.1

    named : spelled p file token ≡ use_here.other.names declared.0
    named =
        ap (λ k. spelled p k token) (sym h.found.holds.1)
        ∙ ap (spelled p (p.layout.place number).file) (sym h.found.holds.2)
        ∙ sym (selected_spelled w known p.path p was.is_checked number h.selected)
        ∙ sym use_here.named

    qualified_legible : IsLegibleGlobal (record { path = path; name = spelled p file token })
    qualified_legible =
        let o = use_here.other in
        let lt = may_within w known o.path o use_here.is_package.is_checked declared.0 use_here.seen.counts.declares.may in (
          subst IsLegible use_here.of_path (own_path o use_here.is_package),
          subst IsLegible (sym named) (good_legible (o.names declared.0) (level_good o use_here.is_package declared.0 lt use_here.seen.package_level)),
        )

  pub global_legible : (p : Package) → IsCheckedPackage w known p → (file token : ℕ) (g : GlobalName) → IsGlobalAt p file token g → IsLegibleGlobal g
  global_legible p is file token _ (source.own {d} b level) = (own_path p is, good_legible (spelled p file token) (bound_good p is file token d b level))
  global_legible p is file token _ (source.imported {path} h) = qualified_legible p is file token path h

  -- the files in which the code of a package looks up names
  pub seen_legible : (path q : List ℕ) (files : List SourceFile) → AreFilesSeen w path q files →
      AllByRecursion IsLegibleGlobal (type_names q files) × (AllByRecursion IsLegibleFunction (function_names q files) × AskLegible q files)
  seen_legible path q _ (beyond out) = (tt, (tt, ask_legibly q [] (λ t (held : ⊥). absurd held)))
  seen_legible path q files (within c of) =
      let has = to_package w path q c in
      let o = package_there w sound known right q has in
      let is : IsCheckedPackage w known o.0 = o.1.0 in
      let parsed : AreParsed (package_files w q) is.is_checked.files [] =
      subst (λ k. AreParsed (package_files w k) is.is_checked.files []) o.1.1 is.is_checked.parsed in
      let sources = one_sources (subst (λ fs. AreParsed (package_files w q) of.parts fs) (all_read of.parsed parsed) of.parsed) parsed in
      let same : o.0.files ≡ files = same_files w known o.0.path o.0 is.is_checked ∙ sym sources ∙ sym of.are_files in (
        subst (λ k. AllByRecursion IsLegibleGlobal (type_names k files)) o.1.1
            (subst (λ fs. AllByRecursion IsLegibleGlobal (type_names o.0.path fs)) same (types_legible o.0 is)),
        (
          subst (λ k. AllByRecursion IsLegibleFunction (function_names k files)) o.1.1
              (subst (λ fs. AllByRecursion IsLegibleFunction (function_names o.0.path fs)) same (functions_legible o.0 is)),
          subst (λ k. AskLegible k files) o.1.1
              (subst (λ fs. AskLegible o.0.path fs) same (asks_legible o.0 is)),
        ),
      )

  -- the name of a package
  pub clause_good : (p : Package) → IsCheckedPackage w known p → (s : SourceFile) → slice_get p.files 0 ≡ Some s → IsGood (spelling_of s s.tree.name)
  clause_good p is s at = kind_good s (file_is p is 0 s at) s.tree.name (clause_named s (file_is p is 0 s at))

  -- the name of a package-level declaration has no point
  pub declared_name : (p : Package) → IsCheckedPackage w known p → (u : ℕ) → u < p.size → IsPackageLevel p.layout u → IsGood (p.names u)
  declared_name p is u lt level = level_good p is u lt level
