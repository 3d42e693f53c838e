-- In a workspace without faults a package builds on each package that it imports.
use Rattle.std.proofs.Common.{ℕ, zero, suc, ◌≡◌, ◌+◌, ◌⊎◌, inl, inr, List, [], ◌∷◌, ◌++◌, map, sym, refl, subst, arith}
use Rattle.std.specs.Prelude.{Contains, Some, slice_get}
use Rattle.std.specs.List.{flat_map, enumerate_from}
use Rattle.std.proofs.lemmas.Bool.{cases_Bool}
use Rattle.std.proofs.lemmas.Option.{none-some, same_Some, get_or_from_slice_get}
use Rattle.base_lemmas.proofs.Elements.{nothing_in, first_or_later, is_mapped}
use Rattle.base_files.specs.Packages.{package_paths}
use Rattle.base_files.specs.Workspace.{Workspace}
use Rattle.base_files.specs.declared.fault_kind.FaultKind.{FaultKind}
use Rattle.base_files.specs.declared.fault_kind.FaultKind.TheVariants as kind
use Rattle.base_edits.proofs.Held.{mapped_from}
use Rattle.go_scanner.specs.declared.piece.Piece.{Piece}
use Rattle.go_scanner.specs.Cuts.{bytes_of}
use Rattle.go_scanner.specs.CutText.{tokens_in}
use Rattle.go_scanner.specs.StringValues.{HasStringValue}
use Rattle.go_scanner.specs.TokenValues.{IsStringClass}
use Rattle.go_scanner.specs.Tokens.{semicolon}
use Rattle.go_ast.specs.SourceFile.{SourceFile, source_of}
use Rattle.go_ast.specs.Tree.{ImportTree}
use Rattle.workspace_graph.specs.Packages.{PackageImports, IsInClosure, ImportsPath}
use Rattle.workspace_graph.proofs.OneFile.{one_file}
use Rattle.types_declared.specs.declared.fault.Fault.{Fault}
use Rattle.types_declared.specs.declared.states.ImportState.{ImportState}
use Rattle.types_declared.specs.declared.states.ImportState.TheVariants as import_state
use Rattle.types_declared.specs.Files.{imports_in, HasLiteral}
use Rattle.types_declared.specs.Listing.{IsOfSomeItem}
use Rattle.types_declared.specs.Package.{Package}
use Rattle.types_declared.specs.Stage.{HasNoFault}
use Rattle.types_declared.specs.States.{import_fault}
use Rattle.types_resolve.specs.Imports.{PlacedImport, IsFaultOfImport, IsFaultOfState, placed_imports}
use Rattle.types_resolve.specs.Stages.{IsOuterFault}
use Rattle.types_resolve.specs.Clauses.{IsClauseFault}
use Rattle.workspace_check.specs.FaultLists.{ListsFaults}
use Rattle.workspace_check.specs.Faults.{placed_in}
use Rattle.workspace_check.specs.Verdicts.{Verdicts, AreStates, AreVerdicts, BuildsOn, IsPackageIn, IsStateOf, is_missing, is_on_cycle, is_faulty, is_good}
use Rattle.workspace_check.proofs.Closed.{imports_closed}
use Rattle.workspace_check.proofs.FaultFiles.{in_outer}
use Rattle.workspace_check.proofs.Importing.{literals_agree}
use Rattle.workspace_check.proofs.Members.{cases_contains}
use Rattle.workspace_check.proofs.OneList.{no_fault}
use Rattle.refs_binding.specs.Uses.{IsCheckedPackage}
use Rattle.refs_binding.proofs.Alike.{package_for}
use Rattle.types_info.proofs.MeaningLists.{slice_get_some}
use Rattle.law_renamed_workspaces.proofs.NameEdits.{ranked}
use Rattle.law_renamed_workspaces.proofs.Packages.{tree_of}
use Rattle.refs_lookup.proofs.Faultless.{IsDecided, all_decided}

-- what each path is to a package that may import it
module _ (w : Workspace) (known : Verdicts) (p : List ℕ)
    (decided : (q : List ℕ) → Contains (package_paths w) q → IsDecided (λ r. IsInClosure w r p) q) where
  state_for : (q : List ℕ) → (s : ImportState) × (PackageImports w p q → IsStateOf w known p q s)
  state_for q = elim (cases_contains (package_paths w) q) [
    | inl there ↦ elim (decided q there) [
      | inl back ↦ (import_state.OnCycle, λ i. is_on_cycle back)
      | inr away ↦ elim (cases_Bool (known q).faulty) [
        | inl e ↦ (import_state.Faulty, λ i. is_faulty (record { imported = imports_closed w p q i there; not_back = away }) e)
        | inr e ↦ (import_state.Good, λ i. is_good (record { imported = imports_closed w p q i there; not_back = away }) e)
      ]
    ]
    | inr missing ↦ (import_state.Missing, λ i. is_missing missing)
  ]

  state_in : List ℕ → ImportState
  state_in q = (state_for q).0

  are_states : AreStates w known p state_in
  unfolding state_in
  are_states q i = (state_for q).1 i

-- a path that the package imports and does not build on has a fault
state_fault : (w : Workspace) (known : Verdicts) (p q : List ℕ) (s : ImportState) → (BuildsOn w p q → ⊥) → IsStateOf w known p q s →
    (k : FaultKind) × (import_fault s ≡ Some k)
state_fault w known p q _ never (is_missing none) = (kind.Missing, refl)
state_fault w known p q _ never (is_on_cycle back) = (kind.Cycle, refl)
state_fault w known p q _ never (is_faulty on e) = absurd (never on)
state_fault w known p q _ never (is_good on e) = absurd (never on)

-- the fault of an import of a file

module _ (state : List ℕ → ImportState) (s : SourceFile) (i : ImportTree) (path : List ℕ) (f : Fault) (literal : HasLiteral s i.path path) where
  one_import : (k : ℕ) → IsFaultOfState k i.path (state path) f → (is : List ImportTree) (rest : List PlacedImport) → Contains is i →
      IsOfSomeItem (IsFaultOfImport state) (map (λ j. ((k, s), j)) is ++ rest) f
  one_import k fault [] rest c = absurd (nothing_in i c)
  one_import k fault (j ∷ is) rest c = elim (first_or_later j is i c) [
    | inl same ↦ inl (subst (λ x. IsFaultOfImport state ((k, s), x) f) (sym same) (record { path = path; has_path = literal; of_state = fault }))
    | inr later ↦ inr (one_import k fault is rest later)
  ]

  behind : (xs rest : List PlacedImport) → IsOfSomeItem (IsFaultOfImport state) rest f → IsOfSomeItem (IsFaultOfImport state) (xs ++ rest) f
  behind [] rest h = h
  behind (x ∷ xs) rest h = inr (behind xs rest h)

  in_files : (k n : ℕ) (files : List SourceFile) → slice_get files n ≡ Some s → Contains (imports_in s.tree) i → IsFaultOfState (k + n) i.path (state path) f →
      IsOfSomeItem (IsFaultOfImport state) (flat_map placed_imports (enumerate_from k files)) f
  in_files k n [] at c fault = absurd (none-some s at)
  in_files k zero (t ∷ ts) at c fault =
      let same : t ≡ s = same_Some t s at in
      let zeroed : k + 0 ≡ k = omega arith in
      subst (λ x. IsOfSomeItem (IsFaultOfImport state) (placed_imports (k, x) ++ flat_map placed_imports (enumerate_from (k + 1) ts)) f) (sym same)
      (one_import k (subst (λ m. IsFaultOfState m i.path (state path) f) zeroed fault) (imports_in s.tree)
      (flat_map placed_imports (enumerate_from (k + 1) ts)) c)
  in_files k (suc n) (t ∷ ts) at c fault =
      let next : k + suc n ≡ (k + 1) + n = omega arith in
      behind (placed_imports (k, t)) (flat_map placed_imports (enumerate_from (k + 1) ts))
      (in_files (k + 1) n ts at c (subst (λ m. IsFaultOfState m i.path (state path) f) next fault))

-- in a package of such a workspace

module _ (w : Workspace) (sound : ListsFaults w []) (p : Package) (has : Contains (package_paths w) p.path) (is : IsPackageIn w sound.known p.path p) where
  abbrev sources : List SourceFile
  sources = map source_of is.files

  no_outer_fault : (state : List ℕ → ImportState) → AreStates w sound.known p.path state → (f : Fault) → IsOuterFault state sources f → ⊥
  no_outer_fault state are f first =
      let s = slice_get_some sources f.file (in_outer state sources f first) in
      no_fault w sound p.path has (placed_in s.0 f)
      (inr (record {
        files = is.files;
        parsed = is.parsed;
        state = state;
        are_states = are;
        fault = f;
        is_fault = inl first;
        source = s.0;
        in_file = s.1;
        at = refl;
      }))

  has_literal : (s : SourceFile) (q : List ℕ) (i : ImportsPath s q) → HasLiteral s i.token q
  has_literal s q i =
      let same = sym (get_or_from_slice_get (tokens_in s.cut) i.token i.piece (semicolon 0) i.at) in
      record {
        is_string = subst (λ (x : Piece). IsStringClass x.class) same i.is_string;
        stands_for = subst (λ (x : Piece). HasStringValue (bytes_of s.cut.text x) q) same i.value;
      }

  fault_of : (state : List ℕ → ImportState) (q : List ℕ) → PackageImports w p.path q → (k : FaultKind) → import_fault (state q) ≡ Some k →
      HasNoFault (IsClauseFault sources) → (f : Fault) × IsOuterFault state sources f
  fault_of state q imports k e clean =
      let t = tree_of is.parsed imports.entry imports.of_package in
      let s = source_of t.0 in
      let same : imports.file ≡ s = one_file imports.entry.0 imports.entry.1 imports.file s imports.parsed t.1.1 in
      let i : ImportsPath s q = subst (λ x. ImportsPath x q) same imports.imports in
      let rank = ranked sources s (is_mapped source_of is.files t.0 t.1.0) in
      let tree = mapped_from (λ (x : ImportTree). x.path) (imports_in s.tree) i.token
      (subst (λ l. Contains l i.token) (sym (literals_agree s.tree.imports)) i.literal) in
      let f : Fault = record { file = rank.0; token = tree.0.path; kind = k } in
      let zeroed : rank.0 ≡ 0 + rank.0 = omega arith in (
        f,
        inr (
          clean,
          in_files state s tree.0 q f (subst (λ n. HasLiteral s n q) (sym tree.2) (has_literal s q i)) 0 rank.0 sources rank.1 tree.1
              (record { in_file = zeroed; at_token = refl; kind = e }),
        ),
      )

  builds_on : (q : List ℕ) → PackageImports w p.path q → (BuildsOn w p.path q → ⊥) → ⊥
  builds_on q imports never =
      all_decided (λ r. IsInClosure w r p.path) (package_paths w)
      (λ decided.
      let state = state_in w sound.known p.path decided in
      let are = are_states w sound.known p.path decided in
      let k = state_fault w sound.known p.path q (state q) never (are q imports) in
      let f = fault_of state q imports k.0 k.1 (λ g c. no_outer_fault state are g (inl c)) in
      no_outer_fault state are f.0 f.1)

-- by any right verdicts
pub imports_are_good : (w : Workspace) → ListsFaults w [] → (known : Verdicts) → AreVerdicts w known → (p : Package) → IsCheckedPackage w known p →
    (q : List ℕ) →
    PackageImports w p.path q → (BuildsOn w p.path q → ⊥) → ⊥
imports_are_good w sound known right p is q imports never =
    let own = package_for w known sound.known right sound.right p is in
    builds_on w sound p own.of_workspace own.is_checked q imports never
