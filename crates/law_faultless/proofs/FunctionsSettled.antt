-- In a workspace without faults a function is called with as many values as it takes, and no name means a call's results.
use Rattle.std.proofs.Common.{ℕ, zero, suc, ◌≡◌, ◌+◌, ◌<◌, inl, inr, Bool, true, false, if◌then◌else◌, List, [], ◌∷◌, ◌++◌, length, ap, sym, subst}
use Rattle.std.proofs.Common.{refl, ◌∙◌, arith}
use Rattle.std.specs.Prelude.{Option, Some, None, slice_get, bytes_eq, codes}
use Rattle.std.specs.List.{AllByRecursion, flat_map}
use Rattle.std.proofs.lemmas.Bool.{true≢false}
use Rattle.std.proofs.lemmas.Option.{none-some, same_Some}
use Rattle.base_lemmas.proofs.EachElement.{all_back}
use Rattle.base_files.specs.Workspace.{Workspace}
use Rattle.go_ast.specs.SourceFile.{SourceFile, source_of, spelling_of}
use Rattle.go_ast.specs.Tree.{ReceiverTree, FuncTree, FuncDecl}
use Rattle.go_scope.specs.declared.model.Block.TheVariants.{File, Inner}
use Rattle.go_scope.specs.declared.model.Block.TheVariants.{Package as PackageBlock}
use Rattle.go_scope.specs.declared.model.Position.{Position}
use Rattle.go_scope.specs.declared.model.Role.{Role}
use Rattle.go_scope.specs.declared.model.Role.TheVariants.{Use, Declaring, LeftName, Implied, NotLexical}
use Rattle.go_scope.specs.declared.model.Purpose.TheVariants as purpose
use Rattle.go_scope.specs.Bindings.{IsBoundTo, IsUse, use_bound, own, IsPackageLevel, block_of, may_declare, is_use, is_implied}
use Rattle.go_scope.specs.FileSites.{universe, imports_sites, decl_sites, file_sites, func_block, func_role, func_sites, receiver_sites, param_sites}
use Rattle.go_scope.specs.FileSites.{result_sites}
use Rattle.go_scope.specs.ExpressionSites.{sites_if, list_sites}
use Rattle.go_scope.specs.StatementSites.{open_of, block_sites}
use Rattle.go_scope.specs.Named.{is_unnamed_import}
use Rattle.go_scope.specs.Site.{Site, TokenSpellings, site}
use Rattle.go_scope.specs.Table.{LiesAt}
use Rattle.go_scope.specs.WellFormed.{WellFormed}
use Rattle.types_declared.specs.Files.{ranked_files}
use Rattle.law_tokens.proofs.Ordered.{one_stands}
use Rattle.types_expr.specs.Types.{Signature, Meaning, Value, TypeName, Function, BuiltinName, Results, Broken}
use Rattle.types_expr.specs.Types.{Package as PackageName}
use Rattle.types_expr.specs.World.{Bound, Means}
use Rattle.types_declared.specs.MeaningOf.{IsMeaningOf, PredeclaredMeans, a_type, a_truth, an_untruth, a_nil, a_function, HasSignature}
use Rattle.types_declared.specs.MeaningOf as bound
use Rattle.types_declared.specs.Package.{Package, Export, ExportData, PlacedFunction, decl_functions, functions_in, package_functions, function_place, spelled}
use Rattle.types_declared.specs.Package.{spelled_at}
use Rattle.types_declared.specs.Written.{BindsToken, DeclaresImport}
use Rattle.types_declared.proofs.Naming.{one_binding, one_import_path}
use Rattle.types_check.specs.Exports.{IsExport, IsExported}
use Rattle.types_info.specs.Worlds.{IsName, DenotesExport, is_bound, is_unbound, by_scope, by_package}
use Rattle.types_info.proofs.DeclKinds.{Holds, holds_got, holds_flat, holds_ranked}
use Rattle.workspace_check.specs.FaultLists.{ListsFaults}
use Rattle.workspace_check.specs.Verdicts.{Verdicts, AreVerdicts, IsSeenAs, seen, unseen, IsPackageIn}
use Rattle.workspace_check.proofs.Closed.{to_package}
use Rattle.workspace_check.proofs.OneList.{checked_package}
use Rattle.workspace_check.proofs.OnePackage.{layout_formed}
use Rattle.build_object.specs.Lines.{GlobalName, FunctionName, Plain, Initializer}
use Rattle.build_object.specs.Names.{spelled_in, is_named_init, function_named, function_behind, initializers_with, functions_behind, function_names}
use Rattle.build_object.specs.Source.{Source as CodeSource}
use Rattle.build_object.specs.Sources.{IsGlobalAt, own as own_global, imported, HasQualifier, DenotesGlobal, IsSourceOf}
use Rattle.law_faultless.specs.QuestionAnswers.{plain_arity}
use Rattle.law_faultless.specs.Stack.{Arity}
use Rattle.refs_binding.specs.Uses.{IsCheckedPackage}
use Rattle.law_faultless.specs.OpenQuestions.{HasArity}
use Rattle.law_faultless.proofs.Numbers.{IsTold, IsKept, universal, plain, laid}
use Rattle.law_faultless.proofs.Fine.{seen_export_data}
use Rattle.law_faultless.proofs.Lists.{all_flat}
use Rattle.law_faultless.proofs.Scoped.{in_order}
use Rattle.law_faultless.proofs.TypesBound.{Stands, Kept, all_kept, none_by_scope}
use Rattle.law_faultless.proofs.WholeBound.{function_in_decl}
use Rattle.law_faultless.proofs.Declared.{given, old_site, new_site, role_is, place_is, name_is, kept, may_within, file_of_told}
use Rattle.law_faultless.proofs.PackageWorlds.{have_all_worlds}
use Rattle.law_faultless.specs.Arities.{with_receiver, AreArities}
use Rattle.law_faultless.proofs.MembersSettled.{signature_arity, other_package}

-- what declarations mean

predeclared_no_results : {name : List ℕ} {m : Meaning} → PredeclaredMeans name m → (ts : List _) → m ≡ Results ts → ⊥
predeclared_no_results (a_type b) ts e = cc
predeclared_no_results a_truth ts e = cc
predeclared_no_results an_untruth ts e = cc
predeclared_no_results a_nil ts e = cc
predeclared_no_results (a_function b) ts e = cc

predeclared_no_package : {name : List ℕ} {m : Meaning} → PredeclaredMeans name m → m ≡ PackageName → ⊥
predeclared_no_package (a_type b) e = cc
predeclared_no_package a_truth e = cc
predeclared_no_package an_untruth e = cc
predeclared_no_package a_nil e = cc
predeclared_no_package (a_function b) e = cc

predeclared_no_function : {name : List ℕ} {m : Meaning} → PredeclaredMeans name m → (s : Signature) → m ≡ Function s → ⊥
predeclared_no_function (a_type b) s e = cc
predeclared_no_function a_truth s e = cc
predeclared_no_function an_untruth s e = cc
predeclared_no_function a_nil s e = cc
predeclared_no_function (a_function b) s e = cc

stood : (m n : Meaning) → Means m ≡ Means n → m ≡ n
stood m n e = cc

meant_no_results : (p : Package) (d : ℕ) (b : Bound) → IsMeaningOf p d b → (ts : List _) → b ≡ Means (Results ts) → ⊥
meant_no_results p d _ (bound.predeclared {m} is means) ts e = predeclared_no_results means ts (stood m (Results ts) e)
meant_no_results p d _ (bound.import_name is) ts e = cc
meant_no_results p d _ (bound.local is) ts e = cc
meant_no_results p d _ (bound.variable is t) ts e = cc
meant_no_results p d _ (bound.broken_variable is t) ts e = cc
meant_no_results p d _ (bound.function is s) ts e = cc
meant_no_results p d _ (bound.broken_function is s) ts e = cc
meant_no_results p d _ (bound.definition is r whole) ts e = cc
meant_no_results p d _ (bound.broken_definition is r broken) ts e = cc

meant_no_package : (p : Package) (d : ℕ) (b : Bound) → IsMeaningOf p d b → IsPackageLevel p.layout d → b ≡ Means PackageName → ⊥
meant_no_package p d _ (bound.predeclared {m} is means) level e = predeclared_no_package means (stood m PackageName e)
meant_no_package p d _ (bound.import_name is) level e = let z : PackageBlock ≡ File is.is_import.0 = sym level ∙ is.is_import.1 in cc
meant_no_package p d _ (bound.local is) level e = cc
meant_no_package p d _ (bound.variable is t) level e = cc
meant_no_package p d _ (bound.broken_variable is t) level e = cc
meant_no_package p d _ (bound.function is s) level e = cc
meant_no_package p d _ (bound.broken_function is s) level e = cc
meant_no_package p d _ (bound.definition is r whole) level e = cc
meant_no_package p d _ (bound.broken_definition is r broken) level e = cc

-- what functions are called

pub behind_at : (path : List ℕ) (files : List SourceFile) (k : ℕ) (fs : List PlacedFunction) (rank : ℕ) (f : PlacedFunction) → slice_get fs rank ≡ Some f →
    (j : ℕ) × (slice_get (functions_behind path files k fs) rank ≡ Some (function_behind path files j f))
behind_at path files k [] rank f e = absurd (none-some f e)
behind_at path files k (g ∷ gs) zero f e = (k, ap (λ (y : PlacedFunction). Some (function_behind path files k y)) (same_Some g f e))
behind_at path files k (g ∷ gs) (suc rank) f e = behind_at path files (initializers_with files k g) gs rank f e

package_role : (r : Role) → block_of r ≡ PackageBlock → may_declare r ≡ true
package_role (Declaring b start) e = refl
package_role (LeftName b start) e = refl
package_role (Implied b start) e = refl
package_role Use e = let z : ⊥ = cc in absurd z
package_role (NotLexical p) e = let z : ⊥ = cc in absurd z

init_false : (b : Bool) → block_of (if b then NotLexical purpose.InitFunction else Declaring PackageBlock 0) ≡ PackageBlock → b ≡ false
init_false true e = let z : ⊥ = cc in absurd z
init_false false e = refl

-- a function in the package's block has no receiver, and another name than `init`
plain_one : (r : Option ReceiverTree) (name : List ℕ) → block_of (func_role r name) ≡ PackageBlock → (r ≡ None) × (bytes_eq name (codes "init") ≡ false)
plain_one None name e = (refl, init_false (bytes_eq name (codes "init")) e)
plain_one (Some r) name e = let z : ⊥ = cc in absurd z

no_import : (b : Bool) → is_unnamed_import (if b then NotLexical purpose.InitFunction else Declaring PackageBlock 0) ≡ false
no_import true = refl
no_import false = refl

pub no_import_role : (r : Option ReceiverTree) (name : List ℕ) → is_unnamed_import (func_role r name) ≡ false
no_import_role None name = no_import (bytes_eq name (codes "init"))
no_import_role (Some r) name = refl

-- the name of a function is one of the identifiers of its file
pub function_name_kept : (K : Site → Type 0) (s : TokenSpellings) (f : FuncTree) → AllByRecursion K (func_sites s f) →
    K (site s f.name (func_role f.receiver (s.spell f.name)))
unfolding func_sites
function_name_kept K s f h =
    let b = func_block s f in
    let o = open_of f.body in
    (all_back K (sites_if (receiver_sites s b o) f.receiver) (site s f.name (func_role f.receiver (s.spell f.name)) ∷
    (list_sites (param_sites s b o) f.params ++ (result_sites s f.result ++ block_sites s f.body))) h).0

-- A property of each identifier of a file is one of each identifier of its functions.
pub function_kept : (K : Site → Type 0) (s : TokenSpellings) (tree : _) (k : ℕ) (f : FuncTree) (c : ℕ) → AllByRecursion K (file_sites s tree) →
    Holds tree.decls (FuncDecl k f c) → AllByRecursion K (func_sites s f)
unfolding file_sites decl_sites
function_kept K s tree k f c h held =
    all_flat K (decl_sites s) tree.decls (FuncDecl k f c) (all_back K (flat_map (imports_sites s) tree.imports) (flat_map (decl_sites s) tree.decls) h.1) held

-- where a function is declared
pub record IsInFile (p : Package) (f : PlacedFunction) : Type 0 where
  pub source : SourceFile
  pub in_file : slice_get p.files f.file ≡ Some source
  pub keyword : ℕ
  pub semicolon : ℕ
  pub in_tree : Holds source.tree.decls (FuncDecl keyword f.function semicolon)

pub in_file_of : (p : Package) (rank : ℕ) (f : PlacedFunction) → slice_get (package_functions p) rank ≡ Some f → IsInFile p f
in_file_of p rank f e =
    let r = holds_flat functions_in (ranked_files p.files) f (holds_got (package_functions p) rank f e) in
    let d = holds_flat (decl_functions r.0.0) r.0.1.tree.decls f r.1.1 in
    let n = function_in_decl r.0.0 d.0 f d.1.1 in
    let i = holds_ranked 0 p.files r.0 r.1.0 in
    let at : i.0 ≡ f.file = (let first : r.0.0 ≡ 0 + i.0 = i.1.0 in let second : r.0.0 ≡ f.file = n.0 in omega arith) in
    record {
      source = r.0.1;
      in_file = subst (λ k. slice_get p.files k ≡ Some r.0.1) at i.1.1;
      keyword = n.1.0;
      semicolon = n.1.1.0;
      in_tree = subst (λ z. Holds r.0.1.tree.decls z) n.1.1.1 d.1.0;
    }

-- a function by its receiver and its name
abbrev pub called_as : (path : List ℕ) → List SourceFile → (file : ℕ) → Option ReceiverTree → (name : List ℕ) → ℕ → FunctionName
called_as path files file r name j = if is_named_init r name then Initializer path j else function_named path files file r name

pub plain_called : (path : List ℕ) (files : List SourceFile) (file : ℕ) (r : Option ReceiverTree) (given : List ℕ) (j : ℕ) → r ≡ None → (name : List ℕ) →
    given ≡ name → bytes_eq name (codes "init") ≡ false → called_as path files file r given j ≡ Plain (record { path = path; name = name })
plain_called path files file r given j none name same other =
    ap (λ z. called_as path files file z given j) none ∙ ap (λ z. called_as path files file None z j) same ∙
    ap (λ b. let g : GlobalName = record { path = path; name = name } in if b then Initializer path j else Plain g) other

module _ (w : Workspace) (known : Verdicts) (path : List ℕ) (p : Package) (h : IsPackageIn w known path p) where
  -- an identifier that is no import is spelled as its token is
  pub spelled_told : (d : ℕ) → d < p.size → is_implied (p.layout.role d) ≡ false → ((f : ℕ) → block_of (p.layout.role d) ≡ File f → ⊥) → (s : SourceFile) →
      slice_get p.files (p.layout.place d).file ≡ Some s → p.names d ≡ spelling_of s (p.layout.place d).index
  spelled_told d lt i outer s at = by_kind (kept w known path p h d lt)
    where
      by_kind : IsKept (IsTold 0 h.files) universe (given w known path p h d) (old_site w known path p h d) (new_site w known path p h d) →
          p.names d ≡ spelling_of s (p.layout.place d).index
      by_kind (universal r n) = absurd (true≢false (sym (ap is_implied (role_is w known path p h d ∙ r)) ∙ i))
      by_kind (plain e t) =
          let new = new_site w known path p h d in
          let place = place_is w known path p h d in
          let file = ap (λ (q : Position). slice_get p.files q.file) (sym place) in
          let same : source_of t.file ≡ s = same_Some (source_of t.file) s (sym (file_of_told w known path p h new t) ∙ file ∙ at) in
          name_is w known path p h d ∙ t.named ∙ ap (λ (x : SourceFile). spelling_of x new.place.index) same ∙
          ap (λ (q : Position). spelling_of s q.index) (sym place)
      by_kind (laid u g r) = absurd (outer (old_site w known path p h d).place.file (ap block_of (role_is w known path p h d ∙ r)))

  -- a function of the package's block
  module _ (d rank : ℕ) (f : PlacedFunction) (level : IsPackageLevel p.layout d) (has : slice_get (package_functions p) rank ≡ Some f)
      (stands : LiesAt p.layout (function_place f) d) where
    abbrev there : IsInFile p f
    there = in_file_of p rank f has

    lt : d < p.size
    lt = may_within w known path p h d (package_role (p.layout.role d) level)

    is_plain : (f.function.receiver ≡ None) × (bytes_eq (spelling_of there.source f.function.name) (codes "init") ≡ false)
    is_plain =
        let source : TokenSpellings = record { rank = f.file; spell = spelling_of there.source } in
        let r = func_role f.function.receiver (spelling_of there.source f.function.name) in
        let all = function_kept (Kept p f.file) source there.source.tree there.keyword f.function there.semicolon
        (all_kept w known path p h f.file there.source there.in_file) there.in_tree in
        let u = function_name_kept (Kept p f.file) source f.function all
        (no_import_role f.function.receiver (spelling_of there.source f.function.name)) in
        let same : u.0 ≡ d = one_stands p.layout p.size (in_order w known path p h) (function_place f) u.0 d u.1.0 lt u.1.1.0 stands in
        plain_one f.function.receiver (spelling_of there.source f.function.name)
        (ap block_of (sym u.1.1.1) ∙ ap (λ z. block_of (p.layout.role z)) same ∙ level)

    named_so : p.names d ≡ spelling_of there.source f.function.name
    named_so =
        let outer : (g : ℕ) → block_of (p.layout.role d) ≡ File g → ⊥ = λ g e. (let z : PackageBlock ≡ File g = sym level ∙ e in cc) in
        let at : slice_get p.files (p.layout.place d).file ≡ Some there.source = ap (slice_get p.files) stands.1 ∙ there.in_file in
        spelled_told d lt stands.0 outer there.source at ∙ ap (spelling_of there.source) stands.2

    function_is : slice_get (function_names p.path p.files) rank ≡ Some (Plain (record { path = p.path; name = p.names d }))
    function_is =
        let b = behind_at p.path p.files 0 (package_functions p) rank f has in
        let name = spelling_of there.source f.function.name in
        let spelling = ap (λ (o : Option SourceFile). spelled_at o f.function.name) there.in_file in
        b.1 ∙ ap (λ z. Some z) (plain_called p.path p.files f.file f.function.receiver (spelled_in p.files f.file f.function.name) b.0 is_plain.0 name spelling
        is_plain.1) ∙ ap (λ n. let g : GlobalName = record { path = p.path; name = n } in Some (Plain g)) (sym named_so)

-- in a workspace without faults
module _ (w : Workspace) (sound : ListsFaults w []) (known : Verdicts) (right : AreVerdicts w known) (arity : FunctionName → Arity)
    (arities : AreArities w known arity) where
  -- what a declared function takes and gives
  declared_arity : (c : Package) → IsCheckedPackage w known c → (d : ℕ) → IsPackageLevel c.layout d → (b : Bound) → IsMeaningOf c d b → (s : Signature) →
      b ≡ Means (Function s) → arity (Plain (record { path = c.path; name = c.names d })) ≡ plain_arity s
  declared_arity c is d level _ (bound.function {f} {s = t} x signature) s e =
      let same : t ≡ s = let z : Function t ≡ Function s = stood (Function t) (Function s) e in cc in
      let rank = x.1.0 in
      let declares = x.1.1.0 in
      let item : declares.item ≡ f = same_Some declares.item f (sym declares.has_rank ∙ x.1.1.1) in
      let stands : LiesAt c.layout (function_place f) d = subst (λ (y : PlacedFunction). LiesAt c.layout (function_place y) d) item declares.stands in
      let name = function_is w known c.path c is.is_checked d rank f level x.1.1.1 stands in
      let plain_function = is_plain w known c.path c is.is_checked d rank f level x.1.1.1 stands in
      let written = arities.functions c is rank (Plain (record { path = c.path; name = c.names d })) f name x.1.1.1 in
      let signed = signature_arity c f s (subst (HasSignature c f) same signature) in
      written ∙ signed ∙ ap (λ (o : Option ReceiverTree).
      let a : Arity = record { parameters = with_receiver o (length s.parameters); results = length s.results } in a) plain_function.0
  declared_arity c is d level _ (bound.predeclared {m} known means) s e = absurd (predeclared_no_function means s (stood m (Function s) e))
  declared_arity c is d level _ (bound.import_name known) s e = let z : ⊥ = cc in absurd z
  declared_arity c is d level _ (bound.local known) s e = let z : ⊥ = cc in absurd z
  declared_arity c is d level _ (bound.variable known t) s e = let z : ⊥ = cc in absurd z
  declared_arity c is d level _ (bound.broken_variable known t) s e = let z : ⊥ = cc in absurd z
  declared_arity c is d level _ (bound.broken_function known t) s e = let z : ⊥ = cc in absurd z
  declared_arity c is d level _ (bound.definition known r whole) s e = let z : ⊥ = cc in absurd z
  declared_arity c is d level _ (bound.broken_definition known r broken) s e = let z : ⊥ = cc in absurd z

  function_level : (c : Package) (d : ℕ) (b : Bound) → IsMeaningOf c d b → (s : Signature) → b ≡ Means (Function s) → IsPackageLevel c.layout d
  function_level c d _ (bound.function x signature) s e = x.0
  function_level c d _ (bound.predeclared {m} known means) s e = absurd (predeclared_no_function means s (stood m (Function s) e))
  function_level c d _ (bound.import_name known) s e = let z : ⊥ = cc in absurd z
  function_level c d _ (bound.local known) s e = let z : ⊥ = cc in absurd z
  function_level c d _ (bound.variable known t) s e = let z : ⊥ = cc in absurd z
  function_level c d _ (bound.broken_variable known t) s e = let z : ⊥ = cc in absurd z
  function_level c d _ (bound.broken_function known t) s e = let z : ⊥ = cc in absurd z
  function_level c d _ (bound.definition known r whole) s e = let z : ⊥ = cc in absurd z
  function_level c d _ (bound.broken_definition known r broken) s e = let z : ⊥ = cc in absurd z

  module _ (p : Package) (is : IsCheckedPackage w known p) where
    abbrev formed : WellFormed p.layout
    formed = layout_formed w known p.path p is.is_checked

    -- what another package exports
    record Exported (path name : List ℕ) (e : Export) : Type 0 where
      other : Package
      is_other : IsCheckedPackage w known other
      of_path : other.path ≡ path
      is_export : IsExport other name e

    exported_by : (r q name : List ℕ) (n : Option (List ℕ)) (i : ExportData) → IsSeenAs w sound.known r q n i → (e : Export) → i.exported name ≡ Some e →
        Exported q name e
    exported_by r q name _ _ (seen on sees) e found =
        let has = to_package w r q on.imported in
        let x = checked_package w sound q has in
        record {
          other = x.checked;
          is_other = other_package w sound known right q has;
          of_path = ap (λ (c : Package). c.path) x.is_package.is_package.is_package;
          is_export = subst (IsExported x.checked name) found (x.is_export_data.exported name);
        }
    exported_by r q name _ _ (unseen none) e found = absurd (none-some e found)

    exported_at : (file n : ℕ) (e : Export) (x : DenotesExport p file n e) → Exported x.exported.of_import.path (spelled p file n) e
    exported_at file n e x =
        let o = x.exported.of_import in
        let i = seen_export_data w sound known right (have_all_worlds w sound known right) p is o.path in
        exported_by p.path o.path (spelled p file n) i.0 (p.export_data_of o.path) i.1 e o.exported

    -- no name means a call's results
    pub no_results : (file n : ℕ) (b : Bound) → IsName p file n b → (ts : List _) → b ≡ Means (Results ts) → ⊥
    no_results file n b (is_bound (by_scope {declaration} binds m)) ts e = meant_no_results p declaration b m ts e
    no_results file n _ (is_bound (by_package {e = x} selected)) ts e =
        let o = exported_at file n x selected in
        meant_no_results o.other o.is_export.declaration (Means x.meaning) o.is_export.by_declaration.means ts e
    no_results file n _ (is_unbound none) ts e = cc

    -- no name behind the name of a package means a package, and none is a local
    pub no_package : (file n : ℕ) → Stands p file n (NotLexical purpose.Selected) → (b : Bound) → IsName p file n b → b ≡ Means PackageName → ⊥
    no_package file n stands b (is_bound (by_scope {declaration} binds m)) e = none_by_scope w known p.path p is.is_checked file n stands declaration binds
    no_package file n stands _ (is_bound (by_package {e = x} selected)) e =
        let o = exported_at file n x selected in
        meant_no_package o.other o.is_export.declaration (Means x.meaning) o.is_export.by_declaration.means o.is_export.by_declaration.seen.package_level e
    no_package file n stands _ (is_unbound none) e = cc

    -- functions

    module _ (file : ℕ) (f : SourceFile) (at : slice_get p.files file ≡ Some f) (n : ℕ) where
      -- a name is spelled as the declaration that it is bound to
      named_as : (d u : ℕ) → u < p.size → LiesAt p.layout (record { file = file; index = n }) u → IsPackageLevel p.layout d →
          IsBoundTo p.layout p.names u d → p.names d ≡ spelled p file n
      named_as d u lt stands level b = names_same b ∙
          (spelled_told w known p.path p is.is_checked u lt stands.0 (outer b) f (ap (slice_get p.files) stands.1 ∙ at) ∙ ap (spelling_of f) stands.2 ∙
          ap (λ (o : Option SourceFile). spelled_at o n) (sym at))
        where
          names_same : IsBoundTo p.layout p.names u d → p.names d ≡ p.names u
          names_same (use_bound i x) = x.named
          names_same (own same counts) = ap p.names (sym same)

          of_use : IsUse p.layout p.names u → (g : ℕ) → block_of (p.layout.role u) ≡ File g → ⊥
          of_use (inl used) g e = use_block (p.layout.role u) used g e
            where
              use_block : (r : Role) → is_use r ≡ true → (g : ℕ) → block_of r ≡ File g → ⊥
              use_block Use used g e = cc
              use_block (Declaring b start) used g e = true≢false (sym used)
              use_block (LeftName b start) used g e = true≢false (sym used)
              use_block (Implied b start) used g e = true≢false (sym used)
              use_block (NotLexical q) used g e = true≢false (sym used)
          of_use (inr left) g e =
              let i = formed.left_inner u left.0 in let z : Inner i.0 i.1 i.2 ≡ File g = sym i.3 ∙ e in cc

          outer : IsBoundTo p.layout p.names u d → (g : ℕ) → block_of (p.layout.role u) ≡ File g → ⊥
          outer (use_bound i x) g e = of_use i g e
          outer (own same counts) g e = let z : PackageBlock ≡ File g = sym level ∙ ap (λ k. block_of (p.layout.role k)) (sym same) ∙ e in cc

      selected_here : {path : List ℕ} → HasQualifier p file n path → Stands p file n (NotLexical purpose.Selected)
      selected_here b = (b.identifier, (b.found.within, (b.found.holds, b.selected)))

      exported_here : {e : Export} → DenotesExport p file n e → Stands p file n (NotLexical purpose.Selected)
      exported_here x = (x.identifier, (x.found.within, (x.found.holds, x.selected)))

      by_declaration : (d : ℕ) → BindsToken p file n d → (b : Bound) → IsMeaningOf p d b → (s : Signature) → b ≡ Means (Function s) → (g : GlobalName) →
          IsGlobalAt p file n g → arity (Plain g) ≡ plain_arity s
      by_declaration d binds b m s e _ (own_global {d = c} also level) =
          let own_level = function_level p d b m s e in
          let name = named_as d binds.identifier binds.found.within binds.found.holds own_level binds.bound in
          ap (λ z. let g : GlobalName = record { path = p.path; name = z } in arity (Plain g)) (sym name) ∙ declared_arity p is d own_level b m s e
      by_declaration d binds b m s e _ (imported behind) =
          absurd (none_by_scope w known p.path p is.is_checked file n (selected_here behind) d binds)

      by_export : (x : Export) → DenotesExport p file n x → (s : Signature) → x.meaning ≡ Function s → (g : GlobalName) → IsGlobalAt p file n g →
          arity (Plain g) ≡ plain_arity s
      by_export x selected s e _ (own_global {d = c} binds level) =
          absurd (none_by_scope w known p.path p is.is_checked file n (exported_here selected) c binds)
      by_export x selected s e _ (imported {path} behind) =
          let o = exported_at file n x selected in
          let import = selected.exported in
          let before : behind.before ≡ selected.before =
          (let a : n ≡ suc (suc behind.before) = behind.behind_dot in let b : n ≡ suc (suc selected.before) = selected.behind_dot in omega arith) in
          let one : behind.import ≡ import.import =
          one_binding p formed file selected.before behind.import import.import (subst (λ k. BindsToken p file k behind.import) before behind.binds)
          import.binds in
          let same_path : path ≡ import.of_import.path =
          one_import_path p import.import path import.of_import.path (subst (λ k. DeclaresImport p k path) one behind.of_path) import.of_import.imports in
          let declared = declared_arity o.other o.is_other o.is_export.declaration o.is_export.by_declaration.seen.package_level (Means x.meaning)
          o.is_export.by_declaration.means s (ap Means e) in
          ap (λ z. let g : GlobalName = record { path = z; name = spelled p file n } in arity (Plain g)) (same_path ∙ sym o.of_path) ∙
          ap (λ z. let g : GlobalName = record { path = o.other.path; name = z } in arity (Plain g)) (sym o.is_export.named) ∙ declared

      named_arity : (b : Bound) → IsName p file n b → (s : Signature) → b ≡ Means (Function s) → (g : GlobalName) → IsGlobalAt p file n g →
          arity (Plain g) ≡ plain_arity s
      named_arity b (is_bound (by_scope {declaration} binds m)) s e g h = by_declaration declaration binds b m s e g h
      named_arity _ (is_bound (by_package {e = x} selected)) s e g h = by_export x selected s (stood x.meaning (Function s) e) g h
      named_arity _ (is_unbound none) s e g h = let z : ⊥ = cc in absurd z

      global_at : (o : Option GlobalName) → DenotesGlobal p file n o → (g : GlobalName) → o ≡ Some g → IsGlobalAt p file n g
      global_at None h g e = absurd (none-some g e)
      global_at (Some x) h g e = subst (IsGlobalAt p file n) (same_Some x g e) h

      pub meaning_settled : (files_of : List ℕ → List SourceFile) (s : CodeSource) → IsSourceOf p files_of file f s → (m : Meaning) →
          s.world.bound n ≡ Means m → HasArity arity s n m
      meaning_settled files_of s source (Value k a) e = tt
      meaning_settled files_of s source (TypeName t) e = tt
      meaning_settled files_of s source (Function g) e =
          λ x called. named_arity (s.world.bound n) (source.world.names n) g e x (global_at (s.global n) (source.global n) x called)
      meaning_settled files_of s source (BuiltinName b) e = tt
      meaning_settled files_of s source PackageName e = tt
      meaning_settled files_of s source (Results ts) e = no_results file n (s.world.bound n) (source.world.names n) ts e
      meaning_settled files_of s source Broken e = tt
