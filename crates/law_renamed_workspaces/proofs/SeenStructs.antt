-- The structs that types of a package of a workspace without faults have: each is of the package, or of one that it builds on. The package
-- sees the exported fields of the latter.
use Rattle.std.proofs.Common.{ℕ, ◌≡◌, inl, inr, false, List, [], ap, sym, subst, refl, ◌∙◌}
use Rattle.std.specs.Prelude.{⊤, Contains, Option, Some, None, is_some, slice_get}
use Rattle.std.proofs.lemmas.Bool.{true≢false}
use Rattle.base_files.specs.Packages.{package_paths}
use Rattle.base_files.specs.Workspace.{Workspace}
use Rattle.go_ast.specs.Tree.{TypeTree}
use Rattle.types_expr.specs.declared.symbol.Symbol.{Symbol}
use Rattle.types_expr.specs.Types.{PlainType, BasicType, Defined, Underlying, Plain, PointerTo, SliceOf, Meaning, TypeName}
use Rattle.types_expr.specs.Types.{Pointer as PointerType, Slice as SliceType}
use Rattle.types_expr.specs.Types.{Struct as StructOf, Interface as InterfaceOf}
use Rattle.types_expr.specs.World.{Bound, Definition, Field}
use Rattle.types_expr.specs.World.{Means as Stands}
use Rattle.types_declared.proofs.ByteKeys.{cases_bytes}
use Rattle.types_declared.specs.Laid.{is_exported}
use Rattle.types_declared.specs.Package.{Package, ExportData, Export, PlacedType, package_types, symbol_in, spelled}
use Rattle.types_declared.specs.Written.{DenotesType}
use Rattle.types_declared.specs.Written as written
use Rattle.types_declared.specs.MeaningOf.{PredeclaredMeans, IsMeaningOf}
use Rattle.types_declared.specs.MeaningOf as meaning
use Rattle.types_declared.specs.Definitions.{HasUnderlying, PlacedField, IsCountingField, IsFoundField}
use Rattle.types_declared.specs.Definitions.{IsUnderlyingOf, has, has_none, IsDefinition, AreDefinitions}
use Rattle.types_declared.specs.Definitions as definitions
use Rattle.types_check.specs.Exports.{IsExport, IsExported, IsExportData}
use Rattle.workspace_check.specs.FaultLists.{ListsFaults}
use Rattle.workspace_check.specs.Verdicts.{Verdict, Verdicts, AreVerdicts, BuildsOn, IsSeenAs, seen, unseen, IsPackageIn, IsVerdict, follows}
use Rattle.workspace_check.proofs.Closed.{to_package}
use Rattle.workspace_check.proofs.OneList.{is_faultless}
use Rattle.workspace_check.proofs.OneVerdict.{one_verdict, right_below, verdict_by}
use Rattle.workspace_check.proofs.Underway.{builds_then}
use Rattle.refs_binding.specs.Uses.{IsCheckedPackage}
use Rattle.refs_binding.proofs.Units.{one_package}
use Rattle.law_faultless.proofs.MembersWritten.{member_found}
use Rattle.law_renamed_workspaces.proofs.OwnNames.{seen_exports}
use Rattle.law_renamed_workspaces.specs.Reaching.{ReachesPath}

-- a type that a declaration means is one of its package

abbrev IsOfPackage : List ℕ → PlainType → Type 0
IsOfPackage path (BasicType b) = ⊤
IsOfPackage path (Defined s) = s.package ≡ path
IsOfPackage path (PointerType t) = ⊥
IsOfPackage path (SliceType t) = ⊥

abbrev type_or : PlainType → Bound → PlainType
type_or t (Stands (TypeName u)) = u
type_or t b = t

abbrev named_or : PlainType → Meaning → PlainType
named_or t (TypeName u) = u
named_or t m = t

predeclared_type : (path name : List ℕ) (m : Meaning) → PredeclaredMeans name m → (t : PlainType) → m ≡ TypeName t → IsOfPackage path t
predeclared_type path _ _ (meaning.a_type b) t e = subst (IsOfPackage path) (ap (named_or t) e) tt
predeclared_type path _ _ meaning.a_truth t e = let z : ⊥ = cc in absurd z
predeclared_type path _ _ meaning.an_untruth t e = let z : ⊥ = cc in absurd z
predeclared_type path _ _ meaning.a_nil t e = let z : ⊥ = cc in absurd z
predeclared_type path _ _ (meaning.a_function b) t e = let z : ⊥ = cc in absurd z

-- the meaning of what stands for it
abbrev meaning_or : Meaning → Bound → Meaning
meaning_or m (Stands n) = n
meaning_or m b = m

meant : (p : Package) (d : ℕ) (b : Bound) → IsMeaningOf p d b → (t : PlainType) → b ≡ Stands (TypeName t) → IsOfPackage p.path t
meant p d _ (meaning.predeclared {name = name} {m = m} is means) t e = predeclared_type p.path name m means t (ap (meaning_or m) e)
meant p d _ (meaning.import_name i) t e = let z : ⊥ = cc in absurd z
meant p d _ (meaning.local i) t e = let z : ⊥ = cc in absurd z
meant p d _ (meaning.variable v i) t e = let z : ⊥ = cc in absurd z
meant p d _ (meaning.broken_variable v i) t e = let z : ⊥ = cc in absurd z
meant p d _ (meaning.function v i) t e = let z : ⊥ = cc in absurd z
meant p d _ (meaning.broken_function v i) t e = let z : ⊥ = cc in absurd z
meant p d _ (meaning.definition {rank = rank} level declares whole) t e = subst (IsOfPackage p.path) (ap (type_or t) e) refl
meant p d _ (meaning.broken_definition level declares broken) t e = let z : ⊥ = cc in absurd z

sees_by : (w : Workspace) (known : Verdicts) (p q : List ℕ) (n : Option (List ℕ)) (i : ExportData) → IsSeenAs w known p q n i → BuildsOn w p q →
    (known q).faulty ≡ false → i ≡ (known q).export_data
sees_by w known p q _ _ (seen on faultless) also e = refl
sees_by w known p q _ _ (unseen none) on e = absurd (true≢false (sym (none on) ∙ e))

-- A type of whose definitions each is of a package that the path reaches.
abbrev pub IsHome : Workspace → List ℕ → PlainType → Type 0
IsHome w path (BasicType b) = ⊤
IsHome w path (Defined s) = ReachesPath w path s.package
IsHome w path (PointerType t) = IsHome w path t
IsHome w path (SliceType t) = IsHome w path t

-- The same of an underlying type.
abbrev pub IsHomeUnder : Workspace → List ℕ → Underlying → Type 0
IsHomeUnder w path (Plain b) = ⊤
IsHomeUnder w path (PointerTo t) = IsHome w path t
IsHomeUnder w path (SliceOf t) = IsHome w path t
IsHomeUnder w path (StructOf s) = ReachesPath w path s.package
IsHomeUnder w path (InterfaceOf s) = ReachesPath w path s.package

-- what a package below reaches is reached
module _ (w : Workspace) (path q : List ℕ) (on : BuildsOn w path q) where
  pub reached_then : (o : List ℕ) → ReachesPath w q o → ReachesPath w path o
  reached_then o (inl same) = inr (subst (BuildsOn w path) (sym same) on)
  reached_then o (inr more) = inr (builds_then w path q o on more)

  home_then : (t : PlainType) → IsHome w q t → IsHome w path t
  home_then (BasicType b) h = tt
  home_then (Defined s) h = reached_then s.package h
  home_then (PointerType t) h = home_then t h
  home_then (SliceType t) h = home_then t h

  under_then : (u : Underlying) → IsHomeUnder w q u → IsHomeUnder w path u
  under_then (Plain b) h = tt
  under_then (PointerTo t) h = home_then t h
  under_then (SliceOf t) h = home_then t h
  under_then (StructOf s) h = reached_then s.package h
  under_then (InterfaceOf s) h = reached_then s.package h

  of_package_then : (t : PlainType) → IsOfPackage q t → IsHome w path t
  of_package_then (BasicType b) h = tt
  of_package_then (Defined s) h = inr (subst (BuildsOn w path) (sym h) on)
  of_package_then (PointerType t) h = absurd h
  of_package_then (SliceType t) h = absurd h

module _ (w : Workspace) (sound : ListsFaults w []) (known : Verdicts) (right : AreVerdicts w known) where
  pub faultless : (q : List ℕ) → Contains (package_paths w) q → (known q).faulty ≡ false
  faultless q in_graph = (one_verdict w q (known q) (sound.known q) (right q in_graph) (sound.right q in_graph)).faulty ∙ is_faultless w sound q in_graph

  -- The package at a path, and its export data.
  pub record IsThere (q : List ℕ) : Type 0 where
    pub checked : Package
    pub is_package : IsCheckedPackage w known checked
    pub of_path : checked.path ≡ q
    pub export_data : IsExportData checked (known q).export_data

  pub there : (q : List ℕ) → Contains (package_paths w) q → IsThere q
  there q in_graph =
      let v = (verdict_by w q known (known q) (right_below w known right q) (right q in_graph)).has_export_data (faultless q in_graph) in
      let path : v.checked.path ≡ q = ap (λ (c : Package). c.path) v.is_package.is_package.is_package in
      record {
        checked = v.checked;
        is_package = record {
          of_workspace = subst (Contains (package_paths w)) (sym path) in_graph;
          is_checked = subst (λ k. IsPackageIn w known k v.checked) (sym path) v.is_package;
        };
        of_path = path;
        export_data = v.is_export_data;
      }

  module _ (p : Package) (is : IsCheckedPackage w known p) where
    -- what the package sees of a path
    pub sight : (q : List ℕ) → (n : Option (List ℕ)) × IsSeenAs w known p.path q n (p.export_data_of q)
    sight q =
        let h = is.is_checked in
        let table : h.export_data_of q ≡ p.export_data_of q = ap (λ (c : Package). c.export_data_of q) (sym h.is_package.is_package) in
        (h.name_of q, subst (IsSeenAs w known p.path q (h.name_of q)) table (h.are_seen q))

    pub sees : (q : List ℕ) → BuildsOn w p.path q → p.export_data_of q ≡ (known q).export_data
    sees q on =
        let v = sight q in sees_by w known p.path q v.0 (p.export_data_of q) v.1 on (faultless q (to_package w p.path q on.imported))

    exported_home : (q name : List ℕ) (e : Export) → (p.export_data_of q).exported name ≡ Some e → (t : PlainType) → e.meaning ≡ TypeName t →
        IsHome w p.path t
    exported_home q name e exported t means =
        let v = sight q in
        let on : BuildsOn w p.path q = seen_exports w known p.path q name v.0 (p.export_data_of q) v.1 (ap is_some exported) in
        let y = there q (to_package w p.path q on.imported) in
        let here : (known q).export_data.exported name ≡ Some e = sym (ap (λ (i : ExportData). i.exported name) (sees q on)) ∙ exported in
        let x : IsExport y.checked name e = subst (IsExported y.checked name) here (y.export_data.exported name) in
        let of : IsOfPackage y.checked.path t = meant y.checked x.declaration (Stands e.meaning) x.by_declaration.means t (ap Stands means) in
        of_package_then w p.path q on t (subst (λ k. IsOfPackage k t) y.of_path of)

    denoted_home : (file : ℕ) (tree : TypeTree) (t : PlainType) → DenotesType p file tree t → IsHome w p.path t
    denoted_home file _ _ (written.predeclared b binds is_one) = tt
    denoted_home file _ _ (written.defined {rank = rank} binds declares) = inl refl
    denoted_home file _ t (written.imported {n = n} names) =
        let o = names.exported.of_import in exported_home o.path (spelled p file n) names.export o.exported t names.is_type
    denoted_home file _ _ (written.pointer {tree = tree} {t = t} names) = denoted_home file tree t names
    denoted_home file _ _ (written.slice {tree = tree} {t = t} names) = denoted_home file tree t names

  -- The underlying type of a type that is at home in the package at the path is at home there.
  abbrev KeepsHome : List ℕ → Type 0
  KeepsHome path = (p : Package) → IsCheckedPackage w known p → p.path ≡ path → (t : PlainType) (u : Underlying) → IsHome w path t → HasUnderlying p t u →
      IsHomeUnder w path u

  of_definition : (q : List ℕ) → KeepsHome q → (y : Package) → IsCheckedPackage w known y → y.path ≡ q → (rank : ℕ) (u : Underlying) →
      IsUnderlyingOf y rank u → IsHomeUnder w q u
  of_definition q keeps y also path rank _ (has {u = u} h) = keeps y also path (Defined (symbol_in y rank)) u (inl path) h
  of_definition q keeps y also path rank _ (has_none none) = inl path

  module _ (p : Package) (is : IsCheckedPackage w known p) (below : (q : List ℕ) → BuildsOn w p.path q → KeepsHome q) where
    of_imported : (q : List ℕ) (rank : ℕ) → BuildsOn w p.path q → IsHomeUnder w p.path (((p.export_data_of q).definition rank).underlying)
    of_imported q rank on =
        subst (λ (i : ExportData). IsHomeUnder w p.path ((i.definition rank).underlying)) (sym (sees p is q on))
        (under_then w p.path q on ((known q).export_data.definition rank).underlying (at (slice_get (package_types y.checked) rank) refl))
      where
        y : IsThere q
        y = there q (to_package w p.path q on.imported)

        at : (o : Option PlacedType) → slice_get (package_types y.checked) rank ≡ o → IsHomeUnder w q ((known q).export_data.definition rank).underlying
        at None none = subst (λ (d : Definition). IsHomeUnder w q d.underlying) (sym (y.export_data.beyond rank none)) (inl y.of_path)
        at (Some d) is_there =
            of_definition q (below q on) y.checked y.is_package y.of_path rank ((known q).export_data.definition rank).underlying
            (y.export_data.definitions rank d is_there).underlying

    under_home : (t : PlainType) (u : Underlying) → HasUnderlying p t u → IsHome w p.path t → IsHomeUnder w p.path u
    under_home _ _ definitions.basic home = tt
    under_home _ _ definitions.pointer home = home
    under_home _ _ definitions.slice home = home
    under_home _ _ (definitions.struct {rank = rank} at body) home = inl refl
    under_home _ _ (definitions.interface {rank = rank} at body) home = inl refl
    under_home _ _ (definitions.named {d = d} {tree = tree} {t = t} {u = u} at body names h) home =
        under_home t u h (denoted_home p is d.file tree t names)
    under_home _ _ (definitions.imported {path = path} {rank = rank} other) home = elim home [
      | inl same ↦ absurd (other same)
      | inr on ↦ of_imported path rank on
    ]

  keeps_home : (path : List ℕ) (v : Verdict) → IsVerdict w path v → KeepsHome path
  keeps_home path v (follows other under by) p is same t u home h =
      subst (λ k. IsHomeUnder w k u) same
      (under_home p is (λ q on. keeps_home q (other q) (under q (subst (λ k. BuildsOn w k q) same on))) t u h
      (subst (λ k. IsHome w k t) (sym same) home))

  -- A field that counts in a package is found in its type definition.
  pub field_found : (y : Package) → IsCheckedPackage w known y → (definition : ℕ) (d : Definition) → IsDefinition y definition d → (name : List ℕ) (rank : ℕ)
      (f : PlacedField) → IsCountingField y definition name rank f →
      ((g : Field) → d.field name ≡ Some g → g.exported ≡ is_exported name → g.symbol.package ≡ y.path → ⊥) → ⊥
  field_found y also definition d is name rank f counts none = by_field (d.field name) refl (is.fields name)
    where
      by_field : (o : Option Field) → d.field name ≡ o → IsFoundField y definition name o → ⊥
      by_field None e never = member_found w sound known right y also rank f counts.is_field.has_rank (λ t has. never rank f t counts has)
      by_field (Some g) e found = none g e found.1.3 (ap (λ (z : Symbol). z.package) found.1.2)

  module _ (p : Package) (is : IsCheckedPackage w known p) where
    pub struct_reached : (definition : ℕ) (st : Symbol) → HasUnderlying p (Defined (symbol_in p definition)) (StructOf st) → ReachesPath w p.path st.package
    struct_reached definition st h =
        keeps_home p.path (known p.path) (right p.path is.of_workspace) p is refl (Defined (symbol_in p definition)) (StructOf st) (inl refl) h

    -- The definitions of another package that it builds on are those that it sees.
    pub definition_seen : (q : List ℕ) → BuildsOn w p.path q → (y : Package) → IsCheckedPackage w known y → y.path ≡ q → (rank : ℕ) (d : PlacedType) →
        slice_get (package_types y) rank ≡ Some d → IsDefinition y rank ((p.export_data_of q).definition rank)
    definition_seen q on y also path rank d at =
        let x = there q (to_package w p.path q on.imported) in
        let one : x.checked ≡ y = one_package w known x.checked y x.is_package also (x.of_path ∙ sym path) in
        subst (λ (i : ExportData). IsDefinition y rank (i.definition rank)) (sym (sees p is q on))
        ((subst (λ c. IsExportData c (known q).export_data) one x.export_data).definitions rank d at)

    -- By the definitions of a world, the underlying type of a definition that the package reaches is at home there.
    module _ (all : Symbol → Definition) (are : AreDefinitions p all) where
      own_home : (rank : ℕ) → IsHomeUnder w p.path (all (symbol_in p rank)).underlying
      own_home rank = at (slice_get (package_types p) rank) refl
        where
          at : (o : Option PlacedType) → slice_get (package_types p) rank ≡ o → IsHomeUnder w p.path (all (symbol_in p rank)).underlying
          at None none = subst (λ (d : Definition). IsHomeUnder w p.path d.underlying) (sym (are.beyond rank none)) (inl refl)
          at (Some d) is_there =
              of_definition p.path
              (keeps_home p.path (known p.path) (right p.path is.of_workspace)) p is refl rank (all (symbol_in p rank)).underlying
              (are.own rank d is_there).underlying

      pub world_home : (s : Symbol) → ReachesPath w p.path s.package → IsHomeUnder w p.path (all s).underlying
      world_home s reach = elim (cases_bytes s.package p.path) [
        | inl same ↦
            (let at : symbol_in p s.rank ≡ s = ap (λ q. record { «package» = q; rank = s.rank }) (sym same) in
            subst (λ (z : Symbol). IsHomeUnder w p.path (all z).underlying) at (own_home s.rank))
        | inr other ↦ elim reach [
          | inl same ↦ absurd (other same)
          | inr on ↦ subst (λ (d : Definition). IsHomeUnder w p.path d.underlying) (sym (are.imported s.package s.rank other))
              (of_imported p is (λ q more. keeps_home q (known q) (right q (to_package w p.path q more.imported))) s.package s.rank on)
        ]
      ]

      -- So each definition of such a package is that of the world.
      pub world_definition : (y : Package) → IsCheckedPackage w known y → ReachesPath w p.path y.path → (rank : ℕ) (d : PlacedType) →
          slice_get (package_types y) rank ≡ Some d → IsDefinition y rank (all (symbol_in y rank))
      world_definition y also reach rank d at = elim (cases_bytes y.path p.path) [
        | inl same ↦
            (let one : p ≡ y = sym (one_package w known y p also is same) in
            subst (λ (z : Package). IsDefinition z rank (all (symbol_in z rank))) one
            (are.own rank d (subst (λ (z : Package). slice_get (package_types z) rank ≡ Some d) (sym one) at)))
        | inr other ↦ elim reach [
          | inl same ↦ absurd (other same)
          | inr on ↦ subst (IsDefinition y rank) (sym (are.imported y.path rank other)) (definition_seen y.path on y also refl rank d at)
        ]
      ]
