-- Each type that a name of a file means has a name in objects.
use Rattle.std.proofs.Common.{ℕ, ◌≡◌, List, [], Option, Some, ap, sym, subst, ◌∙◌}
use Rattle.std.specs.Prelude.{slice_get, option_map}
use Rattle.std.proofs.lemmas.Option.{none-some, slice_get-map}
use Rattle.base_files.specs.Packages.{package_files}
use Rattle.base_files.specs.Workspace.{Workspace}
use Rattle.go_ast.specs.SourceFile.{SourceFile}
use Rattle.go_ast.specs.Tree.{TypeTree}
use Rattle.workspace_graph.specs.Packages.{IsInClosure, itself}
use Rattle.workspace_graph.specs.Parsed.{AreParsed}
use Rattle.types_expr.specs.Types.{PlainType, BasicType, Defined, Meaning, TypeName}
use Rattle.types_expr.specs.World.{World, Bound, Means}
use Rattle.law_typing.specs.Names.{IsType, named, imported, pointer, slice}
use Rattle.types_declared.specs.MeaningOf.{PredeclaredMeans, a_type, a_truth, an_untruth, a_nil, a_function, IsMeaningOf}
use Rattle.types_declared.specs.MeaningOf as bound
use Rattle.types_declared.specs.Package.{Package, ExportData, Export, package_types, symbol_in, spelled}
use Rattle.types_declared.specs.Written.{DeclaresType}
use Rattle.types_check.specs.Exports.{IsExported}
use Rattle.types_info.specs.Worlds.{IsName, is_bound, is_unbound, by_scope, by_package}
use Rattle.workspace_check.specs.FaultLists.{ListsFaults}
use Rattle.workspace_check.specs.Verdicts.{Verdicts, AreVerdicts, IsSeenAs, seen, unseen, IsPackageIn}
use Rattle.workspace_check.proofs.Closed.{to_package}
use Rattle.workspace_check.proofs.OneList.{checked_package}
use Rattle.workspace_check.proofs.OnePackage.{one_sources, all_read}
use Rattle.refs_binding.specs.Uses.{IsCheckedPackage}
use Rattle.refs_lookup.proofs.OnePlace.{same_files}
use Rattle.build_object.specs.Names.{name_of_type, type_name, type_names}
use Rattle.build_unit.specs.Units.{AreFilesSeen, within, beyond, AreFilesBelow}
use Rattle.law_faultless.specs.QuestionAnswers.{IsKnown}
use Rattle.law_faultless.proofs.Fine.{seen_export_data}
use Rattle.law_faultless.proofs.PackageWorlds.{have_all_worlds}
use Rattle.law_faultless.specs.Lines.{IsTypeNamed}
use Rattle.law_faultless.proofs.MembersSettled.{read_files}

-- a type that a declaration means
predeclared_named : (files_of : List ℕ → List SourceFile) {name : List ℕ} {m : Meaning} → PredeclaredMeans name m → (t : PlainType) → m ≡ TypeName t →
    IsTypeNamed files_of t
predeclared_named files_of (a_type b) t e = let same : BasicType b ≡ t = cc in subst (IsTypeNamed files_of) same tt
predeclared_named files_of a_truth t e = let z : ⊥ = cc in absurd z
predeclared_named files_of an_untruth t e = let z : ⊥ = cc in absurd z
predeclared_named files_of a_nil t e = let z : ⊥ = cc in absurd z
predeclared_named files_of (a_function b) t e = let z : ⊥ = cc in absurd z

module _ (files_of : List ℕ → List SourceFile) (c : Package) (same : files_of c.path ≡ c.files) where
  definition_named : (d rank : ℕ) → DeclaresType c d rank → IsKnown (type_name files_of (symbol_in c rank))
  definition_named d rank r = (
    name_of_type c.path c.files r.item,
    ap (λ (fs : List SourceFile). slice_get (type_names c.path fs) rank) same
        ∙ slice_get-map (name_of_type c.path c.files) (package_types c) rank
        ∙ ap (option_map (name_of_type c.path c.files)) r.has_rank,
  )

  meaning_named : (d : ℕ) (b : Bound) → IsMeaningOf c d b → (t : PlainType) → b ≡ Means (TypeName t) → IsTypeNamed files_of t
  meaning_named d _ (bound.predeclared {m = m} is means) t e = predeclared_named files_of means t (let z : m ≡ TypeName t = cc in z)
  meaning_named d _ (bound.import_name is) t e = let z : ⊥ = cc in absurd z
  meaning_named d _ (bound.local is) t e = let z : ⊥ = cc in absurd z
  meaning_named d _ (bound.variable is of) t e = let z : ⊥ = cc in absurd z
  meaning_named d _ (bound.broken_variable is of) t e = let z : ⊥ = cc in absurd z
  meaning_named d _ (bound.function is s) t e = let z : ⊥ = cc in absurd z
  meaning_named d _ (bound.broken_function is s) t e = let z : ⊥ = cc in absurd z
  meaning_named d _ (bound.definition {rank} level r whole) t e =
      let is : Defined (symbol_in c rank) ≡ t = cc in subst (IsTypeNamed files_of) is (definition_named d rank r)
  meaning_named d _ (bound.broken_definition level r broken) t e = let z : ⊥ = cc in absurd z

module _ (w : Workspace) (sound : ListsFaults w []) (known : Verdicts) (right : AreVerdicts w known) (p : Package) (is : IsCheckedPackage w known p)
    (files_of : List ℕ → List SourceFile) (below : AreFilesBelow w p.path files_of) where
  own_files : files_of p.path ≡ p.files
  own_files = read_files w known p.path p.path (files_of p.path) (below p.path) (itself is.of_workspace) p is.is_checked

  seen_named : (q : List ℕ) (n : Option (List ℕ)) (i : ExportData) → IsSeenAs w sound.known p.path q n i → (name : List ℕ) (e : Export) →
      i.exported name ≡ Some e → (t : PlainType) → e.meaning ≡ TypeName t → IsTypeNamed files_of t
  seen_named q _ _ (seen on sees) name e has t means =
      let x = checked_package w sound q (to_package w p.path q on.imported) in
      let c = x.checked in
      let path : c.path ≡ q = ap (λ (y : Package). y.path) x.is_package.is_package.is_package in
      let same : files_of c.path ≡ c.files = ap files_of path ∙ read_files w sound.known p.path q (files_of q) (below q) on.imported c x.is_package in
      let export = subst (IsExported c name) has (x.is_export_data.exported name) in
      meaning_named files_of c same export.declaration (Means e.meaning) export.by_declaration.means t (ap Means means)
  seen_named q _ _ (unseen away) name e has t means = absurd (none-some e has)

  exported_named : (q name : List ℕ) (e : Export) → (p.export_data_of q).exported name ≡ Some e → (t : PlainType) → e.meaning ≡ TypeName t →
      IsTypeNamed files_of t
  exported_named q name e has t means =
      let i = seen_export_data w sound known right (have_all_worlds w sound known right) p is q in
      seen_named q i.0 (p.export_data_of q) i.1 name e has t means

  name_named : (file n : ℕ) (b : Bound) → IsName p file n b → (t : PlainType) → b ≡ Means (TypeName t) → IsTypeNamed files_of t
  name_named file n b (is_bound (by_scope {declaration = d} binds m)) t e = meaning_named files_of p own_files d b m t e
  name_named file n _ (is_bound (by_package {e = export} x)) t e =
      let means : export.meaning ≡ TypeName t = cc in
      let from = x.exported.of_import in
      exported_named from.path (spelled p file n) export from.exported t means
  name_named file n _ (is_unbound x) t e = let z : ⊥ = cc in absurd z

  module _ (file : ℕ) (v : World) (names : (token : ℕ) → IsName p file token (v.bound token)) where
    -- the type that a name means
    pub named_type : (n : ℕ) (t : PlainType) → v.bound n ≡ Means (TypeName t) → IsTypeNamed files_of t
    named_type n t e = name_named file n (v.bound n) (names n) t e

    -- a written type
    pub written_named : {x : TypeTree} {t : PlainType} → IsType v x t → IsTypeNamed files_of t
    written_named (named {n} {t} e) = named_type n t e
    written_named (imported {n = n} {t} q e) = named_type n t e
    written_named (pointer i) = written_named i
    written_named (slice i) = written_named i
