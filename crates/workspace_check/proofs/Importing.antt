-- The paths that a package imports are those of the path literals in its trees. Faults of clauses and imports depend on no other path.
use Rattle.std.proofs.Common.{ℕ, ◌≡◌, ◌+◌, inl, inr, List, [], ◌∷◌, ◌++◌, length, map, refl, sym, ap, subst, ◌∙◌}
use Rattle.std.specs.Prelude.{Contains}
use Rattle.std.specs.List.{flat_map, enumerate_from}
use Rattle.std.proofs.Math.Path.{ap₂}
use Rattle.std.proofs.lemmas.Bool.{cases_lt}
use Rattle.std.proofs.lemmas.List.{get_or_past, map-append}
use Rattle.std.proofs.lemmas.Option.{slice_get-get_or}
use Rattle.base_lemmas.proofs.Elements.{is_mapped, nothing_in, first_in, later_in, first_or_later}
use Rattle.base_files.specs.Workspace.{Workspace}
use Rattle.base_files.specs.Packages.{package_files}
use Rattle.go_scanner.specs.declared.piece.Piece.{Piece}
use Rattle.go_scanner.specs.CutText.{tokens_in, token_at}
use Rattle.go_scanner.specs.TokenValues.{IsStringClass}
use Rattle.go_scanner.specs.Tokens.{semicolon}
use Rattle.types_declared.specs.declared.fault.Fault.{Fault}
use Rattle.types_declared.specs.Listing.{IsOfSomeItem}
use Rattle.go_ast.specs.Tree.{Item, Group, single, several, ImportTree, ImportsTree, FileTree}
use Rattle.go_ast.specs.SourceFile.{SourceFile, FileParts, source_of}
use Rattle.workspace_graph.specs.FileImports.{paths_in, import_literals}
use Rattle.workspace_graph.specs.Packages.{ImportsPath, PackageImports}
use Rattle.workspace_graph.specs.Parsed.{AreParsed}
use Rattle.types_declared.specs.declared.states.ImportState.{ImportState}
use Rattle.types_declared.specs.Files.{RankedSource, group_items, imports_in, HasLiteral}
use Rattle.types_resolve.specs.Clauses.{IsClauseFault}
use Rattle.types_resolve.specs.Imports.{PlacedImport, IsFaultOfImport, placed_imports, IsImportFault}
use Rattle.types_declared.specs.States.{import_fault}
use Rattle.types_resolve.specs.Stages.{IsOuterFault}
use Rattle.workspace_check.specs.Verdicts.{Verdicts, AreStates}
use Rattle.workspace_check.proofs.Alike.{first_as}
use Rattle.workspace_check.proofs.OneSeen.{one_state}
use Rattle.workspace_check.proofs.PackageFiles.{file_among}

-- the literals of imports

group_literals : (g : Group ImportTree) → map (λ (i : ImportTree). i.path) (group_items g) ≡ paths_in g
group_literals (single i) = refl
group_literals (several o xs c) = items xs
  where
    items : (xs : List (Item ImportTree)) → map (λ (i : ImportTree). i.path) (map (λ (x : Item ImportTree). x.value) xs) ≡ map
        (λ (x : Item ImportTree). x.value.path) xs
    items [] = refl
    items (x ∷ xs) = ap (λ rest. x.value.path ∷ rest) (items xs)

pub literals_agree : (ds : List ImportsTree) →
    map (λ (i : ImportTree). i.path) (flat_map (λ (d : ImportsTree). group_items d.imports) ds) ≡ flat_map (λ (d : ImportsTree). paths_in d.imports) ds
literals_agree [] = refl
literals_agree (d ∷ ds) =
    map-append (λ (i : ImportTree). i.path) (group_items d.imports) (flat_map (λ (e : ImportsTree). group_items e.imports) ds)
    ∙ ap₂ (λ xs ys. xs ++ ys) (group_literals d.imports) (literals_agree ds)

literal_there : (t : FileTree) (i : ImportTree) → Contains (imports_in t) i → Contains (import_literals t) i.path
literal_there t i h = subst (λ l. Contains l i.path) (literals_agree t.imports) (is_mapped (λ (j : ImportTree). j.path) (imports_in t) i h)

-- an empty piece is no literal
not_string : IsStringClass (semicolon 0).class → ⊥
not_string h = elim h [ inl e ↦ (let z : ⊥ = cc in z) | inr e ↦ (let z : ⊥ = cc in z) ]

pub literal_path : (s : SourceFile) (i : ℕ) (path : List ℕ) → Contains (import_literals s.tree) i → HasLiteral s i path → ImportsPath s path
literal_path s i path h l = elim (cases_lt i (length (tokens_in s.cut))) [
  | inl lt ↦ record {
    token = i;
    literal = h;
    piece = token_at s.cut i;
    at = slice_get-get_or (tokens_in s.cut) i (semicolon 0) lt;
    is_string = l.is_string;
    value = l.stands_for;
  }
  | inr ge ↦ absurd (not_string (subst (λ (x : Piece). IsStringClass x.class) (get_or_past (tokens_in s.cut) i (semicolon 0) ge) l.is_string))
]

package_imports : (w : Workspace) (p : List ℕ) (ts : List FileParts) → AreParsed (package_files w p) ts [] →
    (s : SourceFile) (i : ImportTree) (path : List ℕ) → Contains (map source_of ts) s →
    Contains (imports_in s.tree) i → HasLiteral s i.path path → PackageImports w p path
package_imports w p ts parsed s i path among h l =
    let at = file_among parsed s among in
    record { entry = at.0; of_package = at.1.0; file = s; parsed = at.1.1; imports = literal_path s i.path path (literal_there s.tree i h) l }

-- Both tables of states agree on all imported paths.

abbrev SameStates : (state other : List ℕ → ImportState) → List SourceFile → Type 0
SameStates state other files = (s : SourceFile) (i : ImportTree) (path : List ℕ) → Contains files s → Contains (imports_in s.tree) i →
    HasLiteral s i.path path → state path ≡ other path

import_as : (state other : List ℕ → ImportState) (i : PlacedImport) (f : Fault) →
    ((path : List ℕ) → HasLiteral i.0.1 i.1.path path → state path ≡ other path) → IsFaultOfImport state i f → IsFaultOfImport other i f
import_as state other i f same h = record {
  path = h.path;
  has_path = h.has_path;
  of_state = record {
    in_file = h.of_state.in_file;
    at_token = h.of_state.at_token;
    kind = ap import_fault (sym (same h.path h.has_path)) ∙ h.of_state.kind;
  };
}

of_file : (state other : List ℕ → ImportState) (r : RankedSource) (is : List ImportTree) (rest : List PlacedImport) (f : Fault) →
    ((i : ImportTree) (path : List ℕ) → Contains is i → HasLiteral r.1 i.path path → state path ≡ other path) →
    (IsOfSomeItem (IsFaultOfImport state) rest f → IsOfSomeItem (IsFaultOfImport other) rest f) →
    IsOfSomeItem (IsFaultOfImport state) (map (λ i. (r, i)) is ++ rest) f → IsOfSomeItem (IsFaultOfImport other) (map (λ i. (r, i)) is ++ rest) f
of_file state other r [] rest f same later h = later h
of_file state other r (i ∷ is) rest f same later h = elim h [
  | inl one ↦ inl (import_as state other (r, i) f (λ path l. same i path (first_in i is) l) one)
  | inr more ↦ inr (of_file state other r is rest f (λ j path c l. same j path (later_in i is j c) l) later more)
]

of_files : (state other : List ℕ → ImportState) (k : ℕ) (files : List SourceFile) (f : Fault) → SameStates state other files →
    IsOfSomeItem (IsFaultOfImport state) (flat_map placed_imports (enumerate_from k files)) f →
    IsOfSomeItem (IsFaultOfImport other) (flat_map placed_imports (enumerate_from k files)) f
of_files state other k [] f same h = h
of_files state other k (s ∷ ss) f same h =
    of_file state other (k, s) (imports_in s.tree) (flat_map placed_imports (enumerate_from (k + 1) ss)) f (λ i path c l. same s i path (first_in s ss) c l)
    (of_files state other (k + 1) ss f (λ t i path at c l. same t i path (later_in s ss t at) c l)) h

-- So the faults of clauses and imports are equal by both tables.
pub outer_as : (w : Workspace) (known : Verdicts) (p : List ℕ) (ts : List FileParts) → AreParsed (package_files w p) ts [] →
    (state other : List ℕ → ImportState) → AreStates w known p state → AreStates w known p other →
    (f : Fault) → IsOuterFault state (map source_of ts) f → IsOuterFault other (map source_of ts) f
outer_as w known p ts parsed state other a b f h =
    let files = map source_of ts in
    let same : SameStates state other files = λ s i path at c l.
    let imports = package_imports w p ts parsed s i path at c l in one_state w known p path (state path) (other path) (a path imports) (b path imports) in
    first_as (IsClauseFault files) (IsImportFault state files) (IsClauseFault files) (IsImportFault other files) (λ g x. x) (λ g x. x)
    (λ g x. of_files state other 0 files g same x) f h
