-- If a package imports one with faults, one of its imports has a fault, so its check stops at faults of imports.
use Rattle.std.proofs.Common.{ℕ, ◌≡◌, ◌+◌, inl, inr, true, List, [], ◌∷◌, ◌++◌, map, refl, sym, subst, ◌∙◌}
use Rattle.std.specs.Prelude.{Contains, Option, Some}
use Rattle.std.specs.List.{flat_map, enumerate_from}
use Rattle.std.proofs.lemmas.Bool.{true≢false}
use Rattle.std.proofs.lemmas.Option.{get_or_from_slice_get}
use Rattle.base_lemmas.proofs.Elements.{nothing_in, first_in, later_in, first_or_later}
use Rattle.base_files.specs.Workspace.{Workspace}
use Rattle.base_files.specs.Packages.{package_files}
use Rattle.base_files.specs.declared.fault_kind.FaultKind.{FaultKind}
use Rattle.base_files.specs.declared.fault_kind.FaultKind.TheVariants as kind
use Rattle.go_scanner.specs.declared.piece.Piece.{Piece}
use Rattle.go_scanner.specs.Cuts.{bytes_of}
use Rattle.go_scanner.specs.CutText.{tokens_in, token_at}
use Rattle.go_scanner.specs.StringValues.{HasStringValue}
use Rattle.go_scanner.specs.TokenValues.{IsStringClass}
use Rattle.go_scanner.specs.Tokens.{semicolon}
use Rattle.types_declared.specs.declared.fault.Fault.{Fault}
use Rattle.types_declared.specs.Listing.{IsOfSomeItem}
use Rattle.types_declared.specs.Stage.{HasNoFault}
use Rattle.go_ast.specs.Tree.{ImportTree}
use Rattle.go_ast.specs.SourceFile.{SourceFile, FileParts, source_of}
use Rattle.workspace_graph.specs.Packages.{ImportsPath, IsParsed}
use Rattle.workspace_graph.specs.Parsed.{AreParsed, none, tree}
use Rattle.workspace_graph.proofs.OneFile.{one_file}
use Rattle.types_declared.specs.declared.states.ImportState.{ImportState}
use Rattle.types_declared.specs.Files.{RankedSource, imports_in, HasLiteral}
use Rattle.types_declared.specs.States.{import_fault}
use Rattle.types_resolve.specs.Imports.{PlacedImport, IsFaultOfImport, placed_imports}
use Rattle.types_resolve.specs.Stages.{IsOuterFault}
use Rattle.types_check.specs.declared.checking.Checked.{Checked}
use Rattle.types_check.specs.Check.{IsFindingIn, outside, inside}
use Rattle.types_declared.specs.Package.{ExportData}
use Rattle.workspace_check.specs.Verdicts.{Verdicts, IsStateOf, is_missing, is_on_cycle, is_faulty, is_good, AreStates}
use Rattle.workspace_check.specs.Steps.{ImportsFaulty, IsStoppedResult}
use Rattle.workspace_check.proofs.Importing.{literals_agree}
use Rattle.workspace_check.proofs.PackageFiles.{mapped}

-- an import of a path, among a file's

record HasImport (s : SourceFile) (q : List ℕ) : Type 0 where
  import : ImportTree
  among : Contains (imports_in s.tree) import
  literal : HasLiteral s import.path q

import_of : (s : SourceFile) (q : List ℕ) → ImportsPath s q → HasImport s q
import_of s q h =
    let found = mapped (λ (i : ImportTree). i.path) (imports_in s.tree) h.token
    (subst (λ l. Contains l h.token) (sym (literals_agree s.tree.imports)) h.literal) in
    let piece : token_at s.cut h.token ≡ h.piece = get_or_from_slice_get (tokens_in s.cut) h.token h.piece (semicolon 0) h.at in
    let literal : HasLiteral s h.token q = record {
      is_string = subst (λ (x : Piece). IsStringClass x.class) (sym piece) h.is_string;
      stands_for = subst (λ (x : Piece). HasStringValue (bytes_of s.cut.text x) q) (sym piece) h.value;
    } in
    record { import = found.0; among = found.1.0; literal = subst (λ t. HasLiteral s t q) (sym found.1.1) literal }

-- the fault of one of the imports

here : (state : List ℕ → ImportState) (r : RankedSource) (is : List ImportTree) (rest : List PlacedImport) (i : ImportTree) (f : Fault) → Contains is i →
    IsFaultOfImport state (r, i) f → IsOfSomeItem (IsFaultOfImport state) (map (λ i. (r, i)) is ++ rest) f
here state r [] rest i f c h = absurd (nothing_in i c)
here state r (j ∷ js) rest i f c h = elim (first_or_later j js i c) [
  | inl e ↦ inl (subst (λ (x : ImportTree). IsFaultOfImport state (r, x) f) (sym e) h)
  | inr later ↦ inr (here state r js rest i f later h)
]

past : (state : List ℕ → ImportState) (r : RankedSource) (is : List ImportTree) (rest : List PlacedImport) (f : Fault) →
    IsOfSomeItem (IsFaultOfImport state) rest f →
    IsOfSomeItem (IsFaultOfImport state) (map (λ i. (r, i)) is ++ rest) f
past state r [] rest f h = h
past state r (j ∷ js) rest f h = inr (past state r js rest f h)

in_files : (state : List ℕ → ImportState) (k : ℕ) (files : List SourceFile) (s : SourceFile) (q : List ℕ) (fault : FaultKind) → Contains files s →
    HasImport s q → import_fault (state q) ≡ Some fault →
    (f : Fault) × IsOfSomeItem (IsFaultOfImport state) (flat_map placed_imports (enumerate_from k files)) f
in_files state k [] s q fault c h e = absurd (nothing_in s c)
in_files state k (t ∷ ts) s q fault c h e = elim (first_or_later t ts s c) [
  | inl same ↦ (
      let own : HasImport t q = subst (λ (x : SourceFile). HasImport x q) (sym same) h in
      let f : Fault = record { file = k; token = own.import.path; kind = fault } in (
        f,
        here state (k, t) (imports_in t.tree) (flat_map placed_imports (enumerate_from (k + 1) ts)) own.import f own.among (record {
          path = q;
          has_path = own.literal;
          of_state = record { in_file = refl; at_token = refl; kind = e };
        }),
      ))
  | inr later ↦ (
      let r = in_files state (k + 1) ts s q fault later h e in
      (r.0, past state (k, t) (imports_in t.tree) (flat_map placed_imports (enumerate_from (k + 1) ts)) r.0 r.1))
]

-- the tree of a file of the package

tree_of : {es : List (List ℕ × List ℕ)} {ts : List FileParts} → AreParsed es ts [] → (e : List ℕ × List ℕ) → Contains es e → (s : SourceFile) →
    IsParsed e.0 e.1 s → Contains (map source_of ts) s
tree_of none e c s is = absurd (nothing_in e c)
tree_of (tree {e = d} {es = es} {t = t} {ts = ts} so rest) e c s is = elim (first_or_later d es e c) [
  | inl same ↦
      subst (Contains (map source_of (t ∷ ts)))
      (one_file e.0 e.1 (source_of t) s (subst (λ (x : List ℕ × List ℕ). IsParsed x.0 x.1 (source_of t)) same so) is)
      (first_in (source_of t) (map source_of ts))
  | inr later ↦ later_in (source_of t) (map source_of ts) s (tree_of rest e later s is)
]

-- what is wrong with an import of a package with faults

wrong : (w : Workspace) (known : Verdicts) (p q : List ℕ) (s : ImportState) → (known q).faulty ≡ true → IsStateOf w known p q s →
    (fault : FaultKind) × (import_fault s ≡ Some fault)
wrong w known p q _ faulty (is_missing gone) = (kind.Missing, refl)
wrong w known p q _ faulty (is_on_cycle back) = (kind.Cycle, refl)
wrong w known p q _ faulty (is_faulty on e) = (kind.Import, refl)
wrong w known p q _ faulty (is_good on e) = absurd (true≢false (sym faulty ∙ e))

module _ (w : Workspace) (known : Verdicts) (p : List ℕ) (files : List FileParts) (parsed : AreParsed (package_files w p) files [])
    (state : List ℕ → ImportState) (are_states : AreStates w known p state) (h : ImportsFaulty w known p) where
  not_faultless : HasNoFault (IsOuterFault state (map source_of files)) → ⊥
  not_faultless sound =
      let among = tree_of parsed h.imports.entry h.imports.of_package h.imports.file h.imports.parsed in
      let fault = wrong w known p h.path (state h.path) h.is_faulty (are_states h.path h.imports) in
      let f = in_files state 0 (map source_of files) h.imports.file h.path fault.0 among (import_of h.imports.file h.path h.imports.imports) fault.1 in
      sound f.0 (inr (λ g clause. sound g (inl clause), f.1))

  pub stopped_by : (name_of : List ℕ → Option (List ℕ)) (export_data_of : List ℕ → ExportData) (c : Checked) →
      IsFindingIn p files state name_of export_data_of c → IsStoppedResult w known p c
  stopped_by name_of export_data_of c (outside some lists gone) = record {
    files = files;
    parsed = parsed;
    state = state;
    are_states = are_states;
    some = some;
    faults = lists;
    export_data = gone;
  }
  stopped_by name_of export_data_of c (inside sound whole checked) = absurd (not_faultless sound)
