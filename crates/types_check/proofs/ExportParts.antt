-- The exports of a package, part by part.
use Rattle.std.proofs.Common.{ℕ, ◌≡◌, ◌+◌, ◌<◌, ◌≤◌, inl, inr, List, length, ap, sym, subst, ◌∙◌, arith, MatchOption}
use Rattle.std.specs.Prelude.{Option, Some, None, option_map, slice_get}
use Rattle.std.specs.Global.{Vec}
use Rattle.std.specs.BTreeMap.{BTreeMap, Updates}
use Rattle.std.specs.Cmp.Lexicographic.{slice_cmp}
use Rattle.std.specs.Ordering.{nat_cmp}
use Rattle.std.proofs.lemmas.Bool.{cases_lt, cases_order}
use Rattle.std.proofs.lemmas.Option.{slice_get_past, slice_get_within}
use Rattle.go_scope.specs.declared.model.Block.{Block}
use Rattle.go_scope.specs.declared.model.Block.TheVariants as block
use Rattle.go_scope.specs.Bindings.{Layout, Names, Counts, IsPackageLevel, block_of}
use Rattle.go_scope.specs.Site.{Site, or_blank, sites_layout}
use Rattle.types_expr.specs.Types.{Meaning}
use Rattle.types_expr.specs.World.{Bound}
use Rattle.types_expr.specs.World.{Means as Stands}
use Rattle.types_expr.specs.declared.exports.Export.{Export}
use Rattle.types_declared.specs.Package as plain
use Rattle.types_expr.specs.declared.world.Definition.{Definition}
use Rattle.types_expr.specs.WorldView.{definition_or_none, no_definition}
use Rattle.types_declared.specs.Package.{Package, PlacedType, package_types, symbol_in}
use Rattle.types_declared.specs.Definitions.{IsDefinition}
use Rattle.types_info.specs.DefinitionsView.{HaveDefinitions}
use Rattle.types_declared.specs.MeaningOf.{IsMeaningOf}
use Rattle.types_declared.specs.MeaningOf as bound
use Rattle.types_declared.specs.ExportTablesView.{export_of, exports_at}
use Rattle.types_check.specs.Exports.{DoesExport, IsExportBy, IsExport, IsExported, IsGlobalMeaning, variable, type_name, function, IsGlobalFound}
use Rattle.types_check.specs.Exports.{IsExportFound, IsExportBelow, AreExportsBelow}
use Rattle.types_info.proofs.MeaningLists.{slice_get_some, none_past}
use Rattle.types_declared.proofs.ByteKeys.{cases_bytes, others_stay}

-- Whether a declaration counts

-- The meaning of a package-level declaration

abbrev is_package : Block → Type 0
is_package block.Universe = ⊥
is_package block.Package = Unit {0}
is_package (block.File f) = ⊥
is_package (block.Inner f a b) = ⊥

not_level : (b c : Block) → b ≡ block.Package → b ≡ c → is_package c
not_level b c is e = subst is_package (sym is ∙ e) tt

global_by : (p : Package) (d : ℕ) → IsPackageLevel p.layout d → (m : Meaning) → IsMeaningOf p d (Stands m) → IsGlobalMeaning m
global_by p d level _ (bound.predeclared is means) = absurd (not_level (block_of (p.layout.role d)) block.Universe level is.universe)
global_by p d level _ (bound.import_name is) = absurd (not_level (block_of (p.layout.role d)) (block.File is.is_import.0) level is.is_import.1)
global_by p d level _ (bound.variable is t) = variable
global_by p d level _ (bound.function is s) = function
global_by p d level _ (bound.definition at is whole) = type_name

-- The export of a declaration

pub no_export : (p : Package) (d : ℕ) (b : Bound) → ((b c : Bound) → IsMeaningOf p d b → IsMeaningOf p d c → b ≡ c) → IsMeaningOf p d b → IsGlobalFound b None →
    IsExportFound p d None
no_export p d b one means none = λ e by. none e.meaning (global_by p d by.seen.package_level e.meaning by.means) (one b (Stands e.meaning) means by.means)

pub is_export : (p : Package) (d : ℕ) (b : Bound) (e : plain.Export) → DoesExport p d → IsMeaningOf p d b → b ≡ Stands e.meaning →
    IsExportBy p d e
is_export p d b e seen means is = record { seen = seen; means = subst (IsMeaningOf p d) is means }

-- One more declaration

abbrev FoundBelow : Package → ℕ → List ℕ → Option plain.Export → Type 0
FoundBelow p n name o = MatchOption o ((e : plain.Export) → IsExportBelow p n name e → ⊥) (λ e. IsExportBelow p n name e)

later : (p : Package) (n : ℕ) (name : List ℕ) (e : plain.Export) → IsExportBelow p n name e → IsExportBelow p (n + 1) name e
later p n name e h = record { declaration = h.declaration; below = let lt = h.below in omega arith; named = h.named; by_declaration = h.by_declaration }

still : (p : Package) (n : ℕ) (name : List ℕ) (o : Option plain.Export) → ((e : plain.Export) → p.names n ≡ name → IsExportBy p n e → ⊥) →
    FoundBelow p n name o → FoundBelow p (n + 1) name o
still p n name None none h = λ e k. elim (cases_lt k.declaration n) [
  | inl below ↦ h e (record { declaration = k.declaration; below = below; named = k.named; by_declaration = k.by_declaration })
  | inr ge ↦ let lt = k.below in let at : k.declaration ≡ n = omega arith in
      none e (subst (λ d. p.names d ≡ name) at k.named) (subst (λ d. IsExportBy p d e) at k.by_declaration)
]
still p n name (Some e) none h = later p n name e h

pub same_exports : (p : Package) (n : ℕ) (found : List ℕ → Option plain.Export) → IsExportFound p n None → AreExportsBelow p n found →
    AreExportsBelow p (n + 1) found
same_exports p n found none h = λ name. still p n name (found name) (λ e named by. none e by) (h name)

pub one_more_export : (p : Package) (n : ℕ) (old new : BTreeMap (Vec ℕ) Export) (key : Vec ℕ) (e : Export) → key.items ≡ p.names n →
    Updates (λ a b. slice_cmp nat_cmp a.items b.items) old new key (Some e) → IsExportBy p n (export_of e) → AreExportsBelow p n (exports_at old) →
    AreExportsBelow p (n + 1) (exports_at new)
one_more_export p n old new key e is u by h = λ name. elim (cases_bytes key.items name) [
  | inl at ↦
      subst (λ v. FoundBelow p (n + 1) v (exports_at new v)) at
      (subst (FoundBelow p (n + 1) key.items) (sym (ap (option_map export_of) u.1))
      (record { declaration = n; below = omega arith; named = sym is; by_declaration = by }))
  | inr ne ↦
      subst (FoundBelow p (n + 1) name) (sym (ap (option_map export_of) (others_stay old new key (Some e) u name (λ same. ne (sym same)))))
      (still p n name (exports_at old name) (λ x named k. ne (is ∙ named)) (h name))
]

-- All declarations

beyond : (sites : List Site) (d : ℕ) → length sites ≤ d → block_of ((sites_layout sites).role d) ≡ block.Package → ⊥
beyond sites d ge level = not_level (block_of ((sites_layout sites).role d)) block.Universe level
    (ap (λ s. block_of (or_blank s).role) (slice_get_past sites d ge))

export_within : (p : Package) (sites : List Site) (name : List ℕ) (e : plain.Export) → p.layout ≡ sites_layout sites → IsExport p name e →
    IsExportBelow p (length sites) name e
export_within p sites name e is x = elim (cases_lt x.declaration (length sites)) [
  | inl below ↦ record { declaration = x.declaration; below = below; named = x.named; by_declaration = x.by_declaration }
  | inr ge ↦ absurd (beyond sites x.declaration ge (subst (λ l. IsPackageLevel l x.declaration) is x.by_declaration.seen.package_level))
]

exported_by : (p : Package) (sites : List Site) (name : List ℕ) (o : Option plain.Export) → p.layout ≡ sites_layout sites →
    FoundBelow p (length sites) name o → IsExported p name o
exported_by p sites name None is h = λ e x. h e (export_within p sites name e is x)
exported_by p sites name (Some e) is h = record { declaration = h.declaration; named = h.named; by_declaration = h.by_declaration }

pub all_exports : (p : Package) (sites : List Site) (found : List ℕ → Option plain.Export) → p.layout ≡ sites_layout sites →
    AreExportsBelow p (length sites) found → (name : List ℕ) → IsExported p name (found name)
all_exports p sites found is h name = exported_by p sites name (found name) is (h name)

-- All type definitions

pub all_definitions : (p : Package) (found : List Definition) → HaveDefinitions p found → (rank : ℕ) (d : PlacedType) →
    slice_get (package_types p) rank ≡ Some d →
    IsDefinition p rank (definition_or_none (symbol_in p rank) (slice_get found rank))
all_definitions p found h rank d is =
    let at = slice_get_some found rank (subst (λ n. rank < n) (sym h.all) (slice_get_within (package_types p) rank d is)) in
    subst (λ o. IsDefinition p rank (definition_or_none (symbol_in p rank) o)) (sym at.1) (h.each rank at.0 at.1)

pub beyond_definitions : (p : Package) (found : List Definition) → HaveDefinitions p found → (rank : ℕ) → slice_get (package_types p) rank ≡ None →
    definition_or_none (symbol_in p rank) (slice_get found rank) ≡ no_definition (symbol_in p rank)
beyond_definitions p found h rank none =
    let past : length found ≤ rank = subst (λ n. n ≤ rank) (sym h.all) (none_past (package_types p) rank none) in
    ap (definition_or_none (symbol_in p rank)) (slice_get_past found rank past)

-- A name has at most one export

one_declaration : (l : Layout) (names : Names) (d e : ℕ) → IsPackageLevel l d → IsPackageLevel l e → Counts l names d → Counts l names e →
    names d ≡ names e → d ≡ e
one_declaration l names d e at_d at_e h k same = elim (cases_order d e) [
  | inl is ↦ is
  | inr o ↦ elim o [
    | inl less ↦ absurd (k.first d h.declares same (inl (at_d ∙ sym at_e, less)))
    | inr more ↦ absurd (h.first e k.declares (sym same) (inl (at_e ∙ sym at_d, more)))
  ]
]

one_export_by : (p : Package) → ((d : ℕ) (b c : Bound) → IsMeaningOf p d b → IsMeaningOf p d c → b ≡ c) → (d : ℕ) (e f : plain.Export) → IsExportBy p d e →
    IsExportBy p d f → e ≡ f
one_export_by p one d e f h k =
    let stands : Stands e.meaning ≡ Stands f.meaning = one d (Stands e.meaning) (Stands f.meaning) h.means k.means in
    let meaning : e.meaning ≡ f.meaning = cc in
    ap (λ m. record { meaning = m }) meaning

pub one_export : (p : Package) → ((d : ℕ) (b c : Bound) → IsMeaningOf p d b → IsMeaningOf p d c → b ≡ c) → (name : List ℕ) (e f : plain.Export) →
    IsExport p name e → IsExport p name f → e ≡ f
one_export p one name e f h k =
    let at : h.declaration ≡ k.declaration =
    one_declaration p.layout p.names h.declaration k.declaration h.by_declaration.seen.package_level k.by_declaration.seen.package_level
    h.by_declaration.seen.counts k.by_declaration.seen.counts (h.named ∙ sym k.named) in
    one_export_by p one k.declaration e f (subst (λ d. IsExportBy p d e) at h.by_declaration) k.by_declaration
