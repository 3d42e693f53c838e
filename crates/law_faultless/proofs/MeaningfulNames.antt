-- In a workspace without faults the names of a file stand for something in what it is judged by.
use Rattle.std.proofs.Common.{ℕ, suc, ◌≡◌, ◌<◌, ◌⊎◌, inl, inr, true, false, List, [], ap, sym, subst, refl, ◌∙◌}
use Rattle.std.specs.Prelude.{Option, Some, None, is_some, slice_get}
use Rattle.std.proofs.lemmas.Bool.{true≢false}
use Rattle.std.proofs.lemmas.Option.{none-some}
use Rattle.base_files.specs.Workspace.{Workspace}
use Rattle.base_files.specs.declared.fault_kind.FaultKind.TheVariants as kind
use Rattle.types_declared.specs.declared.fault.Fault.{Fault}
use Rattle.go_ast.specs.SourceFile.{SourceFile, spelling_of}
use Rattle.go_scope.specs.declared.model.Block.{Block}
use Rattle.go_scope.specs.declared.model.Block.TheVariants.{Universe, File, Inner}
use Rattle.go_scope.specs.declared.model.Block.TheVariants.{Package as PackageBlock}
use Rattle.go_scope.specs.declared.model.Position.{Position}
use Rattle.go_scope.specs.declared.model.Purpose.TheVariants as purpose
use Rattle.go_scope.specs.declared.model.Role.{Role}
use Rattle.go_scope.specs.declared.model.Role.TheVariants.{Declaring, LeftName, Implied, Use, NotLexical}
use Rattle.go_scope.specs.Bindings.{MayDeclare, IsLeftName, SameBlock, InScope, IsUse, IsBoundTo, Declares, Counts, BindsAt, use_bound, own, block_of}
use Rattle.go_scope.specs.Bindings.{is_implied, may_declare, is_use, is_left_name}
use Rattle.go_scope.specs.Scopes.{Nests}
use Rattle.go_scope.specs.Table.{LiesAt}
use Rattle.go_scope.specs.WellFormed.{WellFormed}
use Rattle.go_scope.proofs.Nests.{nests}
use Rattle.go_scope.proofs.Uniqueness.{declares_if}
use Rattle.types_resolve.specs.Scoping.{IsFaultOfIdentifier, fault_at}
use Rattle.types_expr.specs.Types.{Meaning, Broken}
use Rattle.types_expr.specs.Types.{Package as PackageName}
use Rattle.types_expr.specs.World.{World, Bound, Local, Means, BrokenVariable, BrokenFunction, BrokenType}
use Rattle.types_declared.specs.MeaningOf.{PredeclaredMeans, a_type, a_truth, an_untruth, a_nil, a_function, IsMeaningOf}
use Rattle.types_declared.specs.MeaningOf as bound
use Rattle.types_declared.specs.Package.{Package, ExportData, Export, laid_of, spelled_at}
use Rattle.types_declared.specs.Written.{BindsToken, DeclaresImport, IsExportAt}
use Rattle.types_info.specs.Worlds.{IsWorldOf, DenotesExport, IsBoundAt, IsName, is_bound, is_unbound, by_scope, by_package}
use Rattle.types_info.proofs.OneMeaning.{one_name}
use Rattle.types_check.specs.Check.{exports_in}
use Rattle.types_check.specs.Exports.{IsExported}
use Rattle.workspace_check.specs.FaultLists.{ListsFaults}
use Rattle.workspace_check.specs.Verdicts.{Verdicts, AreVerdicts, IsSeenAs, seen, unseen}
use Rattle.workspace_check.proofs.Closed.{to_package}
use Rattle.workspace_check.proofs.OneList.{checked_package}
use Rattle.workspace_check.proofs.OnePackage.{layout_formed, files_in_order}
use Rattle.types_info.specs.QualifiedIdentifiers.{IsQualifiedByPath}
use Rattle.refs_binding.specs.Uses.{IsCheckedPackage}
use Rattle.refs_lookup.proofs.ExportedNames.{is_found}
use Rattle.refs_lookup.proofs.Faultless.{no_fault_later}
use Rattle.law_faultless.proofs.Lexical.{declares}
use Rattle.law_faultless.proofs.Spellings.{blank_spelled}
use Rattle.law_faultless.specs.NameMeanings.{MeansSomething, HaveMeanings}
use Rattle.law_faultless.specs.ResolvedNames.{IsBlankAt}
use Rattle.law_faultless.proofs.Fine.{seen_export_data}
use Rattle.law_faultless.proofs.Scoped.{found_first}
use Rattle.law_faultless.proofs.Declared.{blank, spelled_so, not_blank, may_within}
use Rattle.law_faultless.proofs.Meant.{meant_so}
use Rattle.law_faultless.proofs.PackageWorlds.{own_package, strings_known, broken_decided, have_all_worlds}

-- no declaration means what is not known

predeclared_known : {name : List ℕ} {m : Meaning} → PredeclaredMeans name m → m ≡ Broken → ⊥
predeclared_known (a_type b) e = cc
predeclared_known a_truth e = cc
predeclared_known an_untruth e = cc
predeclared_known a_nil e = cc
predeclared_known (a_function b) e = cc

stood : (m n : Meaning) → Means m ≡ Means n → m ≡ n
stood m n e = cc

meant_known : (p : Package) (d : ℕ) (b : Bound) → IsMeaningOf p d b → b ≡ Means Broken → ⊥
meant_known p d _ (bound.predeclared {m} is means) e = predeclared_known means (stood m Broken e)
meant_known p d _ (bound.import_name is) e = cc
meant_known p d _ (bound.local is) e = cc
meant_known p d _ (bound.variable is t) e = cc
meant_known p d _ (bound.broken_variable is t) e = cc
meant_known p d _ (bound.function is s) e = cc
meant_known p d _ (bound.broken_function is s) e = cc
meant_known p d _ (bound.definition is r whole) e = cc
meant_known p d _ (bound.broken_definition is r broken) e = cc

-- what means a package is an import

predeclared_no_package : {A : Type 0} {name : List ℕ} {m : Meaning} → PredeclaredMeans name m → m ≡ PackageName → A
predeclared_no_package (a_type b) e = cc
predeclared_no_package a_truth e = cc
predeclared_no_package an_untruth e = cc
predeclared_no_package a_nil e = cc
predeclared_no_package (a_function b) e = cc

import_of : (p : Package) (d : ℕ) (b : Bound) → IsMeaningOf p d b → b ≡ Means PackageName → (q : List ℕ) × DeclaresImport p d q
import_of p d _ (bound.predeclared {m} is means) e = predeclared_no_package means (stood m PackageName e)
import_of p d _ (bound.import_name {path} is) e = (path, is)
import_of p d _ (bound.local is) e = let z : ⊥ = cc in absurd z
import_of p d _ (bound.variable is t) e = let z : ⊥ = cc in absurd z
import_of p d _ (bound.broken_variable is t) e = let z : ⊥ = cc in absurd z
import_of p d _ (bound.function is s) e = let z : ⊥ = cc in absurd z
import_of p d _ (bound.broken_function is s) e = let z : ⊥ = cc in absurd z
import_of p d _ (bound.definition is r whole) e = let z : ⊥ = cc in absurd z
import_of p d _ (bound.broken_definition is r broken) e = let z : ⊥ = cc in absurd z

nests_inner : (b : Block) (f a c : ℕ) → Nests b (Inner f a c) → (g : ℕ) × ((x : ℕ) × ((y : ℕ) × (b ≡ Inner g x y)))
nests_inner (Inner g x y) f a c n = (g, (x, (y, refl)))
nests_inner Universe f a c n = absurd n
nests_inner PackageBlock f a c n = absurd n
nests_inner (File g) f a c n = absurd n

some_of : (o : Option Export) → is_some o ≡ true → (e : Export) × (o ≡ Some e)
some_of None e = absurd (true≢false (sym e))
some_of (Some x) e = (x, refl)

module _ (w : Workspace) (sound : ListsFaults w []) (known : Verdicts) (right : AreVerdicts w known) (p : Package) (is : IsCheckedPackage w known p) where
  abbrev formed : WellFormed p.layout
  formed = layout_formed w known p.path p is.is_checked

  pub counts_mean : (d : ℕ) → Counts p.layout p.names d → ((c : Bound) → IsMeaningOf p d c → ⊥) → ⊥
  counts_mean d c none =
      meant_so w known p.path p is.is_checked formed (strings_known w sound known right p is) (broken_decided w sound known right p is) d c none

  declared_not_blank : (d : ℕ) → MayDeclare p.layout d → p.names d ≡ blank → ⊥
  declared_not_blank d m e = not_blank w sound p.path p (own_package w sound known right p is).is_checked d m e

  -- scopes

  no_scope_fault : (u : ℕ) → u < p.size → (f : Fault) → IsFaultOfIdentifier (laid_of p) u f → ⊥
  no_scope_fault u lt f h = no_fault_later w sound known right p is f (inl (inl (inl (u, lt, h))))

  pub uses_bound : (u : ℕ) → u < p.size → IsUse p.layout p.names u → ((d : ℕ) → IsBoundTo p.layout p.names u d → ⊥) → ⊥
  uses_bound u lt use_of none = no_scope_fault u lt (fault_at p.layout u kind.Undeclared) (inl (record { at = refl; is_use = use_of; unbound = none }))

  pub declared_counts : (u : ℕ) → u < p.size → Declares p.layout p.names u → (Counts p.layout p.names u → ⊥) → ⊥
  declared_counts u lt d none =
      no_scope_fault u lt (fault_at p.layout u kind.Repeated) (inr (inl (record { at = refl; repeats = inl (d, none) })))

  counted : (u d : ℕ) → IsBoundTo p.layout p.names u d → Counts p.layout p.names d
  counted u d (use_bound i b) = b.counts
  counted u d (own e c) = c

  -- exports

  export_known : (r q name : List ℕ) (n : Option (List ℕ)) (i : ExportData) → IsSeenAs w sound.known r q n i → (e : Export) → i.exported name ≡ Some e →
      (e.meaning ≡ Broken → ⊥) × (e.meaning ≡ PackageName → ⊥)
  export_known r q name _ _ (seen on sees) e found =
      let x = checked_package w sound q (to_package w r q on.imported) in
      let o = subst (IsExported x.checked name) found (x.is_export_data.exported name) in
      let by = o.by_declaration in (
        (λ b. meant_known x.checked o.declaration (Means e.meaning) by.means (ap Means b)),
        (λ b. (let i = import_of x.checked o.declaration (Means e.meaning) by.means (ap Means b) in
            let z : PackageBlock ≡ File i.1.is_import.0 = sym by.seen.package_level ∙ i.1.is_import.1 in cc)),
      )
  export_known r q name _ _ (unseen none) e found = absurd (none-some e found)

  selected_known : (file token : ℕ) (e : Export) → DenotesExport p file token e → (e.meaning ≡ Broken → ⊥) × (e.meaning ≡ PackageName → ⊥)
  selected_known file token e x =
      let o = x.exported.of_import in
      let i = seen_export_data w sound known right (have_all_worlds w sound known right) p is o.path in
      export_known p.path o.path _ i.0 (p.export_data_of o.path) i.1 e o.exported

  -- the names of a file

  module _ (file : ℕ) (s : SourceFile) (at : slice_get p.files file ≡ Some s) (v : World) (judged : IsWorldOf p file s v) (u n : ℕ) (lt : u < p.size)
      (stands : LiesAt p.layout (record { file = file; index = n }) u) where
    abbrev here : Position
    here = record { file = file; index = n }

    bound_token : (d : ℕ) → IsBoundTo p.layout p.names u d → BindsToken p file n d
    bound_token d b = record { identifier = u; found = found_first w known p.path p is.is_checked here u lt stands; bound = b }

    named_here : is_implied (p.layout.role u) ≡ false → may_declare (p.layout.role u) ≡ false → p.names u ≡ spelling_of s n
    named_here i m =
        let there : slice_get p.files (p.layout.place u).file ≡ Some s = ap (slice_get p.files) stands.1 ∙ at in
        spelled_so w known p.path p is.is_checked u lt i m s there ∙ ap (spelling_of s) stands.2

    unbound_no : IsUse p.layout p.names u → ((b : Bound) → IsBoundAt p file n b → ⊥) → ⊥
    unbound_no use_of none = uses_bound u lt use_of (λ d b. counts_mean d (counted u d b) (λ c m. none c (by_scope (bound_token d b) m)))

    never : IsUse p.layout p.names u → (b : Bound) → IsName p file n b → b ≡ Means Broken → ⊥
    never use_of b (is_bound (by_scope {declaration} binds m)) e = meant_known p declaration b m e
    never use_of _ (is_bound (by_package {e = x} selected)) e = (selected_known file n x selected).0 (stood x.meaning Broken e)
    never use_of _ (is_unbound none) e = unbound_no use_of none

    -- a lexical use

    use_not_blank : p.layout.role u ≡ Use → IsBlankAt s n → ⊥
    use_not_blank role b =
        let name : p.names u ≡ blank = named_here (ap is_implied role) (ap may_declare role) ∙ blank_spelled s n b in
        uses_bound u lt (inl (ap is_use role)) (λ d k. bound_blank name d k)
      where
        bound_blank : p.names u ≡ blank → (d : ℕ) → IsBoundTo p.layout p.names u d → ⊥
        bound_blank name d (use_bound i k) = declared_not_blank d k.counts.declares.may (k.named ∙ name)
        bound_blank name d (own e c) = true≢false (sym c.declares.may ∙ ap (λ k. may_declare (p.layout.role k)) (sym e) ∙ ap may_declare role)

    -- a name behind the name of a package

    package_at : (b : ℕ) (c : Bound) → IsName p file b c → c ≡ Means PackageName → (q : List ℕ) × ((d : ℕ) × (BindsToken p file b d × DeclaresImport p d q))
    package_at b c (is_bound (by_scope {declaration} binds m)) e = let q = import_of p declaration c m e in (q.0, (declaration, (binds, q.1)))
    package_at b _ (is_bound (by_package {e = x} selected)) e = absurd ((selected_known file b x selected).1 (stood x.meaning PackageName e))
    package_at b _ (is_unbound none) e = let z : ⊥ = cc in absurd z

    selected_means : p.layout.role u ≡ NotLexical purpose.Selected → (b : ℕ) → suc (suc b) ≡ n → v.bound b ≡ Means PackageName → v.bound n ≡ Means Broken → ⊥
    selected_means role b next e unknown =
        let q = package_at b (v.bound b) (judged.names b) e in
        let index : (p.layout.place u).index ≡ suc (suc b) = stands.2 ∙ sym next in
        let in_file : file ≡ (p.layout.place u).file = sym stands.1 in
        let behind : IsQualifiedByPath p u q.0 = record {
          selected = role;
          before = b;
          behind_dot = index;
          named = record { import = q.1.0; binds = subst (λ f. BindsToken p f b q.1.0) in_file q.1.1.0; imports = q.1.1.1 };
        } in
        let found : exports_in p q.0 (p.names u) ≡ true = is_found w sound known right p is u (lt, stands.0) q.0 behind in
        let x = some_of ((p.export_data_of q.0).exported (p.names u)) found in
        let spelled_as : spelled_at (slice_get p.files file) n ≡ p.names u =
        ap (λ o. spelled_at o n) at ∙ sym (named_here (ap is_implied role) (ap may_declare role)) in
        let exported : IsExportAt p file b n x.0 = record {
          import = q.1.0;
          binds = q.1.1.0;
          of_import = record { path = q.0; imports = q.1.1.1; exported = ap (p.export_data_of q.0).exported spelled_as ∙ x.1 };
        } in
        let selected : DenotesExport p file n x.0 = record {
          before = b;
          behind_dot = sym next;
          identifier = u;
          found = found_first w known p.path p is.is_checked here u lt stands;
          selected = role;
          exported = exported;
        } in
        let same : v.bound n ≡ Means x.0.meaning =
        one_name p formed (files_in_order w known p.path p is.is_checked) file n (v.bound n) (Means x.0.meaning) (judged.names n)
        (is_bound (by_package selected)) in
        (selected_known file n x.0 selected).0 (stood x.0.meaning Broken (sym same ∙ unknown))

    -- a left name of `:=`

    inner_bound : (d : ℕ) → IsBoundTo p.layout p.names u d → (f a c : ℕ) → block_of (p.layout.role d) ≡ Inner f a c → v.bound n ≡ Local (p.layout.place d).index
    inner_bound d b f a c block =
        one_name p formed (files_in_order w known p.path p is.is_checked) file n (v.bound n) (Local (p.layout.place d).index) (judged.names n)
        (is_bound (by_scope (bound_token d b) (bound.local block)))

    module _ (left : IsLeftName p.layout u) where
      may_u : MayDeclare p.layout u
      may_u = by_role (p.layout.role u) left
        where
          by_role : (r : Role) → is_left_name r ≡ true → may_declare r ≡ true
          by_role (LeftName b start) e = refl
          by_role (Declaring b start) e = absurd (true≢false (sym e))
          by_role (Implied b start) e = absurd (true≢false (sym e))
          by_role Use e = absurd (true≢false (sym e))
          by_role (NotLexical q) e = absurd (true≢false (sym e))

      abbrev own_block : (f : ℕ) × ((a : ℕ) × ((c : ℕ) × (block_of (p.layout.role u) ≡ Inner f a c)))
      own_block = let i = formed.left_inner u left in (i.0, (i.1, (i.2, i.3)))

      -- what it is bound to where it does not declare is declared inside a file
      outer_no : (Declares p.layout p.names u → ⊥) → (d : ℕ) → BindsAt p.layout p.names (p.names u) u d →
          ((f a c : ℕ) → block_of (p.layout.role d) ≡ Inner f a c → ⊥) → ⊥
      outer_no not_new d b outer =
          let nested = nests p.layout formed in
          not_new (declares_if p.layout nested p.names u may_u (λ l e de same name scope.
          declared_counts e (may_within w known p.path p is.is_checked e de.may) de
          (λ ce. by_place e ce same name (nested.comparable d e u b.counts.declares.may de.may b.in_scope scope) scope)))
        where
          by_place : (e : ℕ) → Counts p.layout p.names e → SameBlock p.layout e u → p.names e ≡ p.names u →
              SameBlock p.layout d e ⊎
              (Nests (block_of (p.layout.role d)) (block_of (p.layout.role e)) ⊎ Nests (block_of (p.layout.role e)) (block_of (p.layout.role d))) →
              InScope p.layout e u → ⊥
          by_place e ce same name (inl alike) scope = outer own_block.0 own_block.1.0 own_block.1.1.0 (alike ∙ same ∙ own_block.1.1.1)
          by_place e ce same name (inr (inl within)) scope =
              let i = nests_inner (block_of (p.layout.role d)) own_block.0 own_block.1.0 own_block.1.1.0
              (subst (Nests (block_of (p.layout.role d))) (same ∙ own_block.1.1.1) within) in outer i.0 i.1.0 i.1.1.0 i.1.1.1
          by_place e ce same name (inr (inr round)) scope =
              elim ((nests p.layout formed).nests_inside e d u ce.declares.may b.counts.declares.may scope b.in_scope round) [
                | inl inside ↦ (let one : e ≡ d = b.innermost e ce name scope inside in
                    outer own_block.0 own_block.1.0 own_block.1.1.0 (ap (λ k. block_of (p.layout.role k)) (sym one) ∙ same ∙ own_block.1.1.1))
                | inr q ↦ (let z : PackageBlock ≡ Inner own_block.0 own_block.1.0 own_block.1.1.0 = sym q.0 ∙ same ∙ own_block.1.1.1 in cc)
              ]

      left_is : ((k : ℕ) → v.bound n ≡ Local k → ⊥) → ⊥
      left_is none = elim (declares p.layout p.names formed u) [
        | inl d ↦ declared_counts u lt d
            (λ c. none (p.layout.place u).index (inner_bound u (own refl c) own_block.0 own_block.1.0 own_block.1.1.0 own_block.1.1.1))
        | inr not_new ↦ uses_bound u lt (inr (left, not_new)) (λ d b. by_bound not_new d b)
      ]
        where
          by_bound : (Declares p.layout p.names u → ⊥) → (d : ℕ) → IsBoundTo p.layout p.names u d → ⊥
          by_bound not_new d (use_bound i b) =
              outer_no not_new d b (λ f a c block. none (p.layout.place d).index (inner_bound d (use_bound i b) f a c block))
          by_bound not_new d (own e c) = not_new (subst (Declares p.layout p.names) (sym e) c.declares)

      left_local : (b : Bound) → v.bound n ≡ b → (k : ℕ) × (v.bound n ≡ Local k)
      left_local (Local k) e = (k, e)
      left_local (Means m) e = absurd (left_is (λ k q. let z : Means m ≡ Local k = sym e ∙ q in cc))
      left_local BrokenVariable e = absurd (left_is (λ k q. let z : BrokenVariable ≡ Local k = sym e ∙ q in cc))
      left_local BrokenFunction e = absurd (left_is (λ k q. let z : BrokenFunction ≡ Local k = sym e ∙ q in cc))
      left_local BrokenType e = absurd (left_is (λ k q. let z : BrokenType ≡ Local k = sym e ∙ q in cc))

    stands_for : (r : Role) → p.layout.role u ≡ r → MeansSomething v s n r
    stands_for Use role = (never (inl (ap is_use role)) (v.bound n) (judged.names n), use_not_blank role)
    stands_for (NotLexical purpose.Selected) role = selected_means role
    stands_for (LeftName block start) role = left_local (ap is_left_name role) (v.bound n) refl
    stands_for r role = tt

  pub names_mean : (file : ℕ) (s : SourceFile) → slice_get p.files file ≡ Some s → (v : World) → IsWorldOf p file s v → HaveMeanings p file v s
  names_mean file s at v judged u n lt stands = stands_for file s at v judged u n lt stands (p.layout.role u) refl
