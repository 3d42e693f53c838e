-- The files of a package of a workspace are parsed from their texts, and have different paths.
use Rattle.std.proofs.Common.{ℕ, zero, suc, ◌≡◌, ◌<◌, Bool, true, false, List, [], ◌∷◌, length, sym, subst, refl, T}
use Rattle.std.specs.Prelude.{Option, Some, map, slice_get}
use Rattle.std.specs.Cmp.{tied_itself}
use Rattle.std.specs.Cmp.Lexicographic.{nat_list_cmp_total}
use Rattle.std.specs.FinMap.{entries, entries_sorted, is_sorted}
use Rattle.std.specs.FinMap.Entries.{below_all}
use Rattle.std.specs.List.{AllByRecursion}
use Rattle.std.specs.List.Sorted.{IsStrictlySortedBy}
use Rattle.std.specs.Ordering.{is_lt}
use Rattle.std.specs.declared.cmp.Ordering.{Ordering}
use Rattle.std.specs.declared.cmp.Ordering.TheVariants.{Less, Equal, Greater}
use Rattle.std.proofs.lemmas.Bool.{and_parts, true≢false}
use Rattle.std.proofs.lemmas.List.Elements.{All-nil, All-cons}
use Rattle.std.proofs.lemmas.List.Kept.{IsStrictlySortedBy-filter}
use Rattle.std.proofs.lemmas.Option.{none-some, same_Some}
use Rattle.base_lemmas.proofs.Tests.{true_from_T, less_from_test}
use Rattle.base_files.specs.Packages.{is_of_package, package_files}
use Rattle.base_files.specs.Workspace.{Workspace, path_cmp}
use Rattle.go_scanner.specs.Cuts.{IsCut}
use Rattle.go_ast.specs.SourceFile.{SourceFile, FileParts, IsSourceFile, source_of}
use Rattle.go_scope.specs.SpelledFiles.{spelled_file}
use Rattle.go_scope.specs.Named.{with_names}
use Rattle.go_scope.specs.Packages.{scoped, layout_in}
use Rattle.workspace_graph.specs.Parsed.{AreParsed, none, tree}
use Rattle.law_tokens.specs.Order.{StandInOrder}
use Rattle.law_tokens.specs.Covered.{AreSourceFiles}
use Rattle.law_tokens.specs.Bytes.{CoversByte, AreCut, HaveOwnPaths}
use Rattle.law_tokens.proofs.HeldBytes.{less_differs, one_index, cut_at, numbered_files, one_holds}
use Rattle.law_tokens.proofs.Ordered.{package_ordered, named_ordered}

-- the files of a package are in order

abbrev pub entry_cmp : List ℕ × List ℕ → List ℕ × List ℕ → Ordering
entry_cmp d e = path_cmp d.0 e.0

below_entries : (d : List ℕ × List ℕ) (es : List (List ℕ × List ℕ)) → below_all path_cmp d.0 es ≡ true → AllByRecursion (λ e. entry_cmp d e ≡ Less) es
below_entries d [] h = tt
below_entries d (e ∷ es) h = let b = and_parts _ _ h in (less_from_test _ b.0, below_entries d es b.1)

sorted_entries : (es : List (List ℕ × List ℕ)) → is_sorted path_cmp es ≡ true → IsStrictlySortedBy entry_cmp es
unfolding IsStrictlySortedBy
sorted_entries [] h = tt
sorted_entries (e ∷ es) h = let b = and_parts _ _ h in (below_entries e es b.0, sorted_entries es b.1)

pub files_sorted : (w : Workspace) (p : List ℕ) → IsStrictlySortedBy entry_cmp (package_files w p)
files_sorted w p = IsStrictlySortedBy-filter entry_cmp (λ e. is_of_package p e.0) (entries w) (sorted_entries (entries w) (true_from_T _ (entries_sorted w)))

abbrev paths_of : List FileParts → List (List ℕ)
paths_of ts = map (λ (s : SourceFile). s.path) (map source_of ts)

below_paths : {es : List (List ℕ × List ℕ)} {ts : List FileParts} → AreParsed es ts [] → (d : List ℕ × List ℕ) → AllByRecursion (λ e. entry_cmp d e ≡ Less) es →
    AllByRecursion (λ q. path_cmp d.0 q ≡ Less) (paths_of ts)
below_paths none d h = tt
below_paths (tree is rest) d h = (subst (λ q. path_cmp d.0 q ≡ Less) (sym is.of_path) h.0, below_paths rest d h.1)

paths_sorted : {es : List (List ℕ × List ℕ)} {ts : List FileParts} → AreParsed es ts [] → IsStrictlySortedBy entry_cmp es →
    IsStrictlySortedBy path_cmp (paths_of ts)
unfolding IsStrictlySortedBy
paths_sorted none h = tt
paths_sorted (tree {e = e} {ts = ts} is rest) h =
    (subst (λ q. AllByRecursion (λ r. path_cmp q r ≡ Less) (paths_of ts)) (sym is.of_path) (below_paths rest e h.0), paths_sorted rest h.1)

pub own_paths : (w : Workspace) (path : List ℕ) (ts : List FileParts) → AreParsed (package_files w path) ts [] → HaveOwnPaths (map source_of ts)
own_paths w path ts parsed = λ i j f g is at e.
    one_index path_cmp (λ (s : SourceFile). s.path) (λ q. less_differs (path_cmp q q) (tied_itself nat_list_cmp_total q)) (map source_of ts)
    (paths_sorted parsed (files_sorted w path)) i j f g is at e

source_files : {es : List (List ℕ × List ℕ)} {ts : List FileParts} → AreParsed es ts [] → AreSourceFiles ts
source_files none = All-nil (λ (t : FileParts). IsSourceFile (source_of t))
source_files (tree {t = t} {ts = ts} is rest) = All-cons (λ (x : FileParts). IsSourceFile (source_of x)) t ts is.is_file (source_files rest)

pub package_sources : (w : Workspace) (path : List ℕ) (ts : List FileParts) → AreParsed (package_files w path) ts [] → AreSourceFiles ts
package_sources w path ts parsed = source_files parsed

-- a file of a list, behind what it stands for
pub part_at : (ts : List FileParts) (i : ℕ) (s : SourceFile) → slice_get (map source_of ts) i ≡ Some s → (t : FileParts) ×
    ((slice_get ts i ≡ Some t) × (source_of t ≡ s))
part_at [] i s at = absurd (none-some s at)
part_at (t ∷ ts) zero s at = (t, (refl, same_Some (source_of t) s at))
part_at (t ∷ ts) (suc i) s at = part_at ts i s at

files_cut : (ts : List FileParts) → AreSourceFiles ts → AreCut (map source_of ts)
files_cut ts w = λ i s at. let t = part_at ts i s at in subst (λ (x : SourceFile). IsCut x.cut.text x.cut.pieces) t.1.1 (cut_at ts w i t.0 t.1.0)

-- a byte of a file of a package lies in one identifier

pub package_byte : (w : Workspace) (path : List ℕ) (ts : List FileParts) → AreParsed (package_files w path) ts [] → (names : ℕ → Option (List ℕ)) →
    (file : List ℕ) (offset u v : ℕ) →
    u < length (with_names names (scoped ts)).sites → v < length (with_names names (scoped ts)).sites →
    CoversByte (map source_of ts) (layout_in (with_names names (scoped ts))) file offset u →
    CoversByte (map source_of ts) (layout_in (with_names names (scoped ts))) file offset v → u ≡ v
package_byte w path ts parsed names file offset u v lu lv h k =
    let sources = source_files parsed in
    let plain : StandInOrder (layout_in (scoped ts)) (length (scoped ts).sites) = package_ordered (map spelled_file ts) (numbered_files ts sources) in
    one_holds (map source_of ts) (files_cut ts sources) (own_paths w path ts parsed) (layout_in (with_names names (scoped ts)))
    (length (with_names names (scoped ts)).sites)
    (named_ordered names (scoped ts) plain) file offset u v lu lv h k
