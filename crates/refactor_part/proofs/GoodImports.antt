-- A package without faults imports only packages without faults.
use Rattle.std.proofs.Common.{ℕ, zero, suc, ◌≡◌, ◌+◌, inl, inr, true, false, List, [], ◌∷◌, ◌++◌, map, sym, refl, subst, arith, ◌∙◌}
use Rattle.std.specs.Prelude.{Contains, Some, slice_get}
use Rattle.std.specs.List.{flat_map, enumerate_from}
use Rattle.std.proofs.lemmas.Bool.{cases_Bool, true≢false}
use Rattle.std.proofs.lemmas.Option.{none-some, same_Some, get_or_from_slice_get, slice_get_read}
use Rattle.std.specs.Prelude.{length}
use Rattle.base_lemmas.proofs.Elements.{nothing_in, first_in, later_in, first_or_later, is_mapped}
use Rattle.base_files.specs.Packages.{package_paths, package_files}
use Rattle.base_files.specs.Workspace.{Workspace}
use Rattle.base_files.specs.declared.fault_kind.FaultKind.{FaultKind}
use Rattle.base_files.specs.declared.fault_kind.FaultKind.TheVariants as kind
use Rattle.base_edits.proofs.Held.{mapped_from}
use Rattle.go_scanner.specs.declared.piece.Piece.{Piece}
use Rattle.go_scanner.specs.Cuts.{bytes_of}
use Rattle.go_scanner.specs.CutText.{tokens_in}
use Rattle.go_scanner.specs.StringValues.{HasStringValue}
use Rattle.go_scanner.specs.TokenValues.{IsStringClass}
use Rattle.go_scanner.specs.Tokens.{semicolon}
use Rattle.go_ast.specs.SourceFile.{SourceFile, FileParts, source_of}
use Rattle.go_ast.specs.Tree.{ImportTree}
use Rattle.workspace_graph.specs.Packages.{PackageImports, IsInClosure, ImportsPath, IsParsed}
use Rattle.workspace_graph.specs.Parsed.{AreParsed, none, tree}
use Rattle.workspace_graph.proofs.OneFile.{one_file}
use Rattle.types_declared.specs.declared.fault.Fault.{Fault}
use Rattle.types_declared.specs.declared.states.ImportState.{ImportState}
use Rattle.types_declared.specs.Files.{imports_in, HasLiteral}
use Rattle.types_declared.specs.Listing.{IsOfSomeItem}
use Rattle.types_declared.specs.Stage.{HasNoFault}
use Rattle.types_declared.specs.States.{import_fault}
use Rattle.types_resolve.specs.Imports.{PlacedImport, IsFaultOfImport, IsFaultOfState, placed_imports}
use Rattle.types_resolve.specs.Stages.{IsOuterFault}
use Rattle.types_resolve.specs.Clauses.{IsClauseFault}
use Rattle.types_info.proofs.MeaningLists.{slice_get_some}
use Rattle.workspace_check.specs.declared.fault.FileFault.{FileFault}
use Rattle.workspace_check.specs.Faults.{placed_in}
use Rattle.workspace_check.specs.Verdicts.{Verdicts, AreStates, AreVerdicts, BuildsOn, IsFaultBy, IsStateOf, is_missing, is_on_cycle, is_faulty, is_good}
use Rattle.workspace_check.proofs.Closed.{to_package}
use Rattle.workspace_check.proofs.FaultFiles.{in_outer}
use Rattle.workspace_check.proofs.Importing.{literals_agree}
use Rattle.workspace_check.proofs.Members.{cases_contains}
use Rattle.workspace_check.proofs.OneVerdict.{right_below, verdict_by}
use Rattle.workspace_graph.proofs.ByPath.{has_file}
use Rattle.refs_lookup.proofs.Faultless.{all_decided, state_in, are_states}

-- a path that the package imports, where it isn't that of a package without faults on which it builds, has a fault
state_fault : (w : Workspace) (known : Verdicts) (p q : List ℕ) (s : ImportState) → (BuildsOn w p q → (known q).faulty ≡ false → ⊥) →
    IsStateOf w known p q s → (k : FaultKind) × (import_fault s ≡ Some k)
state_fault w known p q _ never (is_missing miss) = (kind.Missing, refl)
state_fault w known p q _ never (is_on_cycle back) = (kind.Cycle, refl)
state_fault w known p q _ never (is_faulty on e) = (kind.Import, refl)
state_fault w known p q _ never (is_good on e) = absurd (never on e)

-- the fault of an import of a file

module _ (state : List ℕ → ImportState) (s : SourceFile) (i : ImportTree) (path : List ℕ) (f : Fault) (literal : HasLiteral s i.path path) where
  one_import : (k : ℕ) → IsFaultOfState k i.path (state path) f → (is : List ImportTree) (rest : List PlacedImport) → Contains is i →
      IsOfSomeItem (IsFaultOfImport state) (map (λ j. ((k, s), j)) is ++ rest) f
  one_import k fault [] rest c = absurd (nothing_in i c)
  one_import k fault (j ∷ is) rest c = elim (first_or_later j is i c) [
    | inl same ↦ inl (subst (λ x. IsFaultOfImport state ((k, s), x) f) (sym same) (record { path = path; has_path = literal; of_state = fault }))
    | inr later ↦ inr (one_import k fault is rest later)
  ]

  behind : (xs rest : List PlacedImport) → IsOfSomeItem (IsFaultOfImport state) rest f → IsOfSomeItem (IsFaultOfImport state) (xs ++ rest) f
  behind [] rest h = h
  behind (x ∷ xs) rest h = inr (behind xs rest h)

  in_files : (k n : ℕ) (files : List SourceFile) → slice_get files n ≡ Some s → Contains (imports_in s.tree) i → IsFaultOfState (k + n) i.path (state path) f →
      IsOfSomeItem (IsFaultOfImport state) (flat_map placed_imports (enumerate_from k files)) f
  in_files k n [] at c fault = absurd (none-some s at)
  in_files k zero (t ∷ ts) at c fault =
      let same : t ≡ s = same_Some t s at in
      let zeroed : k + 0 ≡ k = omega arith in
      subst (λ x. IsOfSomeItem (IsFaultOfImport state) (placed_imports (k, x) ++ flat_map placed_imports (enumerate_from (k + 1) ts)) f) (sym same)
      (one_import k (subst (λ m. IsFaultOfState m i.path (state path) f) zeroed fault) (imports_in s.tree)
      (flat_map placed_imports (enumerate_from (k + 1) ts)) c)
  in_files k (suc n) (t ∷ ts) at c fault =
      let next : k + suc n ≡ (k + 1) + n = omega arith in
      behind (placed_imports (k, t)) (flat_map placed_imports (enumerate_from (k + 1) ts))
      (in_files (k + 1) n ts at c (subst (λ m. IsFaultOfState m i.path (state path) f) next fault))

has_literal : (s : SourceFile) (q : List ℕ) (i : ImportsPath s q) → HasLiteral s i.token q
has_literal s q i =
    let same = sym (get_or_from_slice_get (tokens_in s.cut) i.token i.piece (semicolon 0) i.at) in
    record {
      is_string = subst (λ (x : Piece). IsStringClass x.class) same i.is_string;
      stands_for = subst (λ (x : Piece). HasStringValue (bytes_of s.cut.text x) q) same i.value;
    }

tree_of : {es : List (List ℕ × List ℕ)} {ts : List FileParts} → AreParsed es ts [] → (e : List ℕ × List ℕ) → Contains es e →
    (t : FileParts) × (Contains ts t × IsParsed e.0 e.1 (source_of t))
tree_of none e has = absurd (nothing_in e has)
tree_of (tree {e = d} {es = es} {t = t} {ts = ts} is rest) e has = elim (first_or_later d es e has) [
  | inl same ↦ (t, (first_in t ts, subst (λ (x : List ℕ × List ℕ). IsParsed x.0 x.1 (source_of t)) same is))
  | inr later ↦ (let r = tree_of rest e later in (r.0, (later_in t ts r.0 r.1.0, r.1.1)))
]

ranked : (files : List SourceFile) (f : SourceFile) → Contains files f → (rank : ℕ) × (slice_get files rank ≡ Some f)
ranked files f has = (has.0, slice_get_read files (length files) has.0 f refl has.1 (sym has.2))

-- in a package all of whose files have trees, and which has no fault
module _ (w : Workspace) (known : Verdicts) (p : List ℕ) (files : List FileParts) (parsed : AreParsed (package_files w p) files [])
    (sound : (f : FileFault) → IsFaultBy w known p f → ⊥) where
  abbrev sources : List SourceFile
  sources = map source_of files

  no_outer_fault : (state : List ℕ → ImportState) → AreStates w known p state → (f : Fault) → IsOuterFault state sources f → ⊥
  no_outer_fault state are f first =
      let s = slice_get_some sources f.file (in_outer state sources f first) in
      sound (placed_in s.0 f)
      (inr (record {
        files = files;
        parsed = parsed;
        state = state;
        are_states = are;
        fault = f;
        is_fault = inl first;
        source = s.0;
        in_file = s.1;
        at = refl;
      }))

  fault_of : (state : List ℕ → ImportState) (q : List ℕ) → PackageImports w p q → (k : FaultKind) → import_fault (state q) ≡ Some k →
      HasNoFault (IsClauseFault sources) → (f : Fault) × IsOuterFault state sources f
  fault_of state q imports k e clean =
      let t = tree_of parsed imports.entry imports.of_package in
      let s = source_of t.0 in
      let same : imports.file ≡ s = one_file imports.entry.0 imports.entry.1 imports.file s imports.parsed t.1.1 in
      let i : ImportsPath s q = subst (λ x. ImportsPath x q) same imports.imports in
      let rank = ranked sources s (is_mapped source_of files t.0 t.1.0) in
      let tree = mapped_from (λ (x : ImportTree). x.path) (imports_in s.tree) i.token
      (subst (λ l. Contains l i.token) (sym (literals_agree s.tree.imports)) i.literal) in
      let f : Fault = record { file = rank.0; token = tree.0.path; kind = k } in
      let zeroed : rank.0 ≡ 0 + rank.0 = omega arith in (
        f,
        inr (
          clean,
          in_files state s tree.0 q f (subst (λ n. HasLiteral s n q) (sym tree.2) (has_literal s q i)) 0 rank.0 sources rank.1 tree.1
              (record { in_file = zeroed; at_token = refl; kind = e }),
        ),
      )

  -- it does not fail to build on a package without faults that it imports
  builds_on : (q : List ℕ) → PackageImports w p q → (BuildsOn w p q → (known q).faulty ≡ false → ⊥) → ⊥
  builds_on q imports never =
      all_decided (λ r. IsInClosure w r p) (package_paths w)
      (λ decided.
      let state = state_in w known p decided in
      let are = are_states w known p decided in
      let k = state_fault w known p q (state q) never (are q imports) in
      let f = fault_of state q imports k.0 k.1 (λ g c. no_outer_fault state are g (inl c)) in
      no_outer_fault state are f.0 f.1)

  imports_package : (q : List ℕ) → PackageImports w p q → Contains (package_paths w) q
  imports_package q imports = elim (cases_contains (package_paths w) q) [
    | inl there ↦ there
    | inr missing ↦ absurd (builds_on q imports (λ on fine. missing (to_package w p q on.imported)))
  ]

  imports_fine : (q : List ℕ) → PackageImports w p q → (known q).faulty ≡ false
  imports_fine q imports = elim (cases_Bool (known q).faulty) [
    | inl faulty ↦ absurd (builds_on q imports (λ on fine. true≢false (sym faulty ∙ fine)))
    | inr fine ↦ fine
  ]

module _ (w : Workspace) (known : Verdicts) (right : AreVerdicts w known) where
  -- a package whose verdict says so has no fault
  pub no_fault_of_fine : (p : List ℕ) → Contains (package_paths w) p → (known p).faulty ≡ false → (f : FileFault) → IsFaultBy w known p f → ⊥
  no_fault_of_fine p has fine f is =
      let by = verdict_by w p known (known p) (right_below w known right p) (right p has) in
      true≢false (sym (by.has_faults.1 (f, is)) ∙ fine)

  module _ (p q : List ℕ) (fine : (known p).faulty ≡ false) (imports : PackageImports w p q) where
    own : Contains (package_paths w) p
    own = has_file w p imports.entry imports.of_package

    -- What a package without faults imports is a package without faults.
    pub imported_package : Contains (package_paths w) q
    imported_package =
        let checked = (verdict_by w p known (known p) (right_below w known right p) (right p own)).has_export_data fine in
        imports_package w known p checked.is_package.files checked.is_package.parsed (no_fault_of_fine p own fine) q imports

    pub imported_fine : (known q).faulty ≡ false
    imported_fine =
        let checked = (verdict_by w p known (known p) (right_below w known right p) (right p own)).has_export_data fine in
        imports_fine w known p checked.is_package.files checked.is_package.parsed (no_fault_of_fine p own fine) q imports
