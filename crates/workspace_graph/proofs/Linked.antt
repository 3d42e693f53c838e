-- The rows of the packages are the links of the workspace.
use Rattle.std.proofs.Common.{◌≡◌, ℕ, zero, suc, ◌<◌, ◌↔◌, List, [], ◌∷◌, length, Some, slice_get, get_or, refl, sym, ap, subst, ◌∙◌, arith}
use Rattle.std.specs.List.{Contains, AllZip, All}
use Rattle.std.specs.List.Sorted.{IsStrictlyIncreasing}
use Rattle.std.proofs.lemmas.List.{length-map}
use Rattle.std.proofs.lemmas.List.Elements.{All-contains, All-from_get_or, Contains-get_or}
use Rattle.std.proofs.lemmas.Option.{same_Some, none-some, slice_get_within, get_or_from_slice_get, slice_get-get_or}
use Rattle.base_lemmas.proofs.Elements.{later_in, first_in, nothing_in}
use Rattle.base_files.specs.Workspace.{Workspace}
use Rattle.go_ast.specs.SourceFile.{SourceFile, FileParts, source_of}
use Rattle.workspace_graph.specs.FaultyFiles.{FaultyParts}
use Rattle.workspace_graph.specs.Growth.{AreRows}
use Rattle.workspace_graph.specs.ImportPaths.{AnyImports}
use Rattle.workspace_graph.specs.Imports.{LinkTable, AreLinked, Imports, row_of}
use Rattle.base_files.specs.Packages.{package_paths, package_files}
use Rattle.workspace_graph.specs.Packages.{IsParsed, ImportsPath, PackageImports, AreLinksOf}
use Rattle.workspace_graph.specs.Parsed.{AreParsed, none, tree, fault}
use Rattle.workspace_graph.specs.Graphs.{paths_of, IsGraph}
use Rattle.workspace_graph.specs.Rows.{IsRow}
use Rattle.workspace_graph.specs.declared.package.ParsedPackage.{ParsedPackage}
use Rattle.workspace_graph.proofs.Collected.{zip_at, zip_length}
use Rattle.workspace_graph.proofs.Filled.{path_at}
use Rattle.workspace_graph.proofs.OneFile.{one_file, file_or_fault}

-- ---- one element more at the front

first_or_later : {X : Type 0} (P : X → Type 0) (x : X) (xs : List X) → P x → ((y : X) → Contains xs y → P y) → (y : X) → Contains (x ∷ xs) y → P y
first_or_later P x xs first later y (zero, within, is) = subst P is first
first_or_later P x xs first later y (suc k, within, is) = later y (k, omega (arith, within), is)

-- ---- files and their trees
pub tree_is_of : {es : List (List ℕ × List ℕ)} {ts : List FileParts} {fs : List FaultyParts} → AreParsed es ts fs → (t : FileParts) → Contains ts t →
    (e : List ℕ × List ℕ) × Contains es e × IsParsed e.0 e.1 (source_of t)
tree_is_of none t has = absurd (nothing_in t has)
tree_is_of (tree {e = e} {es = es} {t = s} {ts = ts} is parsed) t has =
    first_or_later (λ t. (d : List ℕ × List ℕ) × Contains (e ∷ es) d × IsParsed d.0 d.1 (source_of t)) s ts
    (e, first_in e es, is)
    (λ y h. let w = tree_is_of parsed y h in (w.0, later_in e es w.0 w.1, w.2))
    t has
tree_is_of (fault {e = e} {es = es} is parsed) t has = let w = tree_is_of parsed t has in (w.0, later_in e es w.0 w.1, w.2)

pub tree_of : {es : List (List ℕ × List ℕ)} {ts : List FileParts} {fs : List FaultyParts} → AreParsed es ts fs → (e : List ℕ × List ℕ) → Contains es e →
    (file : SourceFile) → IsParsed e.0 e.1 file → (t : FileParts) × Contains ts t × (file ≡ source_of t)
tree_of none e has file parsed = absurd (nothing_in e has)
tree_of (tree {e = d} {es = es} {t = s} {ts = ts} is rest) e has file parsed =
    first_or_later (λ e. IsParsed e.0 e.1 file → (t : FileParts) × Contains (s ∷ ts) t × (file ≡ source_of t)) d es
    (λ here. (s, first_in s ts, one_file d.0 d.1 file (source_of s) here is))
    (λ y h here. let w = tree_of rest y h file here in (w.0, later_in s ts w.0 w.1, w.2))
    e has parsed
tree_of (fault {e = d} {es = es} {ts = ts} {f = f} is rest) e has file parsed =
    first_or_later (λ e. IsParsed e.0 e.1 file → (t : FileParts) × Contains ts t × (file ≡ source_of t)) d es
    (λ here. absurd (file_or_fault d.0 d.1 file f.fault here is.is_fault))
    (λ y h here. tree_of rest y h file here)
    e has parsed

-- ---- packages by number
pub package_at : (ps : List ParsedPackage) (i : ℕ) (p : List ℕ) → slice_get (paths_of ps) i ≡ Some p → (q : ParsedPackage) × (slice_get ps i ≡ Some q) ×
    (q.path.items ≡ p)
package_at [] i p h = absurd (none-some p h)
package_at (q ∷ ps) zero p h = (q, refl, same_Some _ _ h)
package_at (q ∷ ps) (suc i) p h = package_at ps i p h

-- what a package imports is what its files import
pub package_imports : (w : Workspace) (p : ParsedPackage) → AreParsed (package_files w p.path.items) p.trees.items p.faulty.items → (q : List ℕ) →
    PackageImports w p.path.items q ↔ AnyImports p.trees.items q
package_imports w p parsed q = (
  λ pi.
      let found = tree_of parsed pi.entry pi.of_package pi.file pi.parsed in
      (found.0, (found.1, subst (λ (f : SourceFile). ImportsPath f q) found.2 pi.imports)),
  λ some.
      let of = tree_is_of parsed some.0 some.1.0 in
      record { entry = of.0; of_package = of.1; file = source_of some.0; parsed = of.2; imports = some.1.1 },
)

-- the row of a package tells what it imports
pub row_imports : (w : Workspace) (paths : List (List ℕ)) (p : ParsedPackage) (row : List ℕ) →
    AreParsed (package_files w p.path.items) p.trees.items p.faulty.items →
    IsRow paths p.trees.items row → (j : ℕ) (q : List ℕ) → slice_get paths j ≡ Some q → Contains row j ↔ PackageImports w p.path.items q
row_imports w paths p row parsed is j q at = (
  λ has.
      let some = (is.each j).0 has in
      (package_imports w p parsed q).1 (some.0, (some.1, subst (ImportsPath (source_of some.0)) (same_Some _ _ (sym some.2.1 ∙ at)) some.2.2)),
  λ pi. let some = (package_imports w p parsed q).0 pi in (is.each j).1 (some.0, some.1.0, (q, at, some.1.1)),
)

-- ---- rows of packages
module _ (ps : List ParsedPackage) (g : LinkTable) (rows : AreRows ps g) where
  abbrev R : ParsedPackage → List ℕ → Type 0
  R = λ p row. IsRow (paths_of ps) p.trees.items row

  pub row_at : (i : ℕ) (p : ParsedPackage) → slice_get ps i ≡ Some p → IsRow (paths_of ps) p.trees.items (row_of g i)
  row_at i p at = subst (λ (q : ParsedPackage). R q (row_of g i)) (get_or_from_slice_get ps i p p at)
      (zip_at R ps g rows i p [] (slice_get_within ps i p at))

  pub rows_count : length g ≡ length ps
  rows_count = sym (zip_length R ps g rows)

  rows_size : length g ≡ length (paths_of ps)
  rows_size = rows_count ∙ sym (length-map ps (λ (p : ParsedPackage). p.path.items))

  below : (i : ℕ) → i < length g → (j : ℕ) → Imports g i j → j < length g
  below i within j has =
      let d = get_or (paths_of ps) i [] in
      let here = package_at ps i d (slice_get-get_or (paths_of ps) i [] (omega (arith, rows_size))) in
      let some = ((row_at i here.0 here.1).each j).0 has in
      omega (arith, rows_size, slice_get_within (paths_of ps) j some.2.0 some.2.1)

  pub rows_linked : AreLinked g
  rows_linked = All-from_get_or (λ row. All (λ j. j < length g) row) g []
      (λ i within. All-from_get_or (λ j. j < length g) (row_of g i) 0
      (λ k h. below i within (get_or (row_of g i) k 0) (Contains-get_or (row_of g i) k 0 h)))

  pub rows_rising : (i : ℕ) → i < length g → IsStrictlyIncreasing (row_of g i)
  rows_rising i within =
      let d = get_or (paths_of ps) i [] in
      let here = package_at ps i d (slice_get-get_or (paths_of ps) i [] (omega (arith, rows_size))) in
      (row_at i here.0 here.1).rising

module _ (w : Workspace) (ps : List ParsedPackage) (g : LinkTable) (paths : paths_of ps ≡ package_paths w)
    (parsed : (i : ℕ) (p : ParsedPackage) → slice_get ps i ≡ Some p → AreParsed (package_files w p.path.items) p.trees.items p.faulty.items)
    (rows : AreRows ps g) where
  size : length g ≡ length (paths_of ps)
  size = rows_count ps g rows ∙ sym (length-map ps (λ (p : ParsedPackage). p.path.items))

  imports_is : (i j : ℕ) (p q : List ℕ) → slice_get (paths_of ps) i ≡ Some p → slice_get (paths_of ps) j ≡ Some q → Imports g i j → PackageImports w p q
  imports_is i j p q at_i at_j has =
      let here = package_at ps i p at_i in
      subst (λ (path : List ℕ). PackageImports w path q) here.2
      ((row_imports w (paths_of ps) here.0 (row_of g i) (parsed i here.0 here.1) (row_at ps g rows i here.0 here.1) j q at_j).0 has)

  is_imports : (i j : ℕ) (p q : List ℕ) → slice_get (paths_of ps) i ≡ Some p → slice_get (paths_of ps) j ≡ Some q → PackageImports w p q → Imports g i j
  is_imports i j p q at_i at_j pi =
      let here = package_at ps i p at_i in
      (row_imports w (paths_of ps) here.0 (row_of g i) (parsed i here.0 here.1) (row_at ps g rows i here.0 here.1) j q at_j).1
      (subst (λ (path : List ℕ). PackageImports w path q) (sym here.2) pi)

  pub are_linked : AreLinked g
  are_linked = rows_linked ps g rows

  pub are_links : AreLinksOf w g
  are_links = record {
    size = size ∙ ap length paths;
    linked = are_linked;
    each = λ i j p q at_i at_j.
        let here = ap (λ names. slice_get names i) paths ∙ at_i in
        let there = ap (λ names. slice_get names j) paths ∙ at_j in
        (imports_is i j p q here there, is_imports i j p q here there);
  }

  pub are_rising : (i : ℕ) → i < length g → IsStrictlyIncreasing (row_of g i)
  are_rising = rows_rising ps g rows

  pub graph_is : IsGraph w ps g
  graph_is = record { paths = paths; each = parsed; linked = are_links; rising = are_rising }

-- ---- and the links of a workspace are the rows of its packages
pub zip_from : {A B : Type 0} (R : A → B → Type 0) (xs : List A) (ys : List B) (d : B) → length xs ≡ length ys →
    ((i : ℕ) (x : A) → slice_get xs i ≡ Some x → R x (get_or ys i d)) → AllZip R xs ys
zip_from R [] [] d same each = tt
zip_from R [] (y ∷ ys) d same each = absurd (omega (arith, same))
zip_from R (x ∷ xs) [] d same each = absurd (omega (arith, same))
zip_from R (x ∷ xs) (y ∷ ys) d same each = (each 0 x refl, zip_from R xs ys d (omega (arith, same)) (λ i z at. each (suc i) z at))

module _ (w : Workspace) (ps : List ParsedPackage) (g : LinkTable) (graph : IsGraph w ps g) where
  named : (i : ℕ) (p : ParsedPackage) → slice_get ps i ≡ Some p → slice_get (package_paths w) i ≡ Some p.path.items
  named i p at = ap (λ names. slice_get names i) (sym graph.paths) ∙ path_at ps i p at

  inside : (i : ℕ) (p : ParsedPackage) → slice_get ps i ≡ Some p → i < length g
  inside i p at = let lt = slice_get_within (package_paths w) i p.path.items (named i p at) in omega (arith, lt, graph.linked.size)

  is_row : (i : ℕ) (p : ParsedPackage) → slice_get ps i ≡ Some p → IsRow (paths_of ps) p.trees.items (row_of g i)
  is_row i p at = record {
    each = λ j. (
      λ has.
          let within : j < length g = All-contains (λ q. q < length g) (row_of g i) j (graph.linked.linked i [] (inside i p at)) has in
          let q = get_or (package_paths w) j [] in
          let at_j = slice_get-get_or (package_paths w) j [] (omega (arith, within, graph.linked.size)) in
          let some = (package_imports w p (graph.each i p at) q).0 ((graph.linked.each i j p.path.items q (named i p at) at_j).0 has) in
          (some.0, some.1.0, (q, ap (λ names. slice_get names j) graph.paths ∙ at_j, some.1.1)),
      λ some.
          let at_j = ap (λ names. slice_get names j) (sym graph.paths) ∙ some.2.1 in
          (graph.linked.each i j p.path.items some.2.0 (named i p at) at_j).1
          ((package_imports w p (graph.each i p at) some.2.0).1 (some.0, (some.1, some.2.2))),
    );
    rising = graph.rising i (inside i p at);
  }

  pub graph_rows : AreRows ps g
  graph_rows = zip_from (λ p row. IsRow (paths_of ps) p.trees.items row) ps g []
      (sym (graph.linked.size ∙ ap length (sym graph.paths) ∙ length-map ps (λ (p : ParsedPackage). p.path.items))) is_row
