-- The files of a package: it has one, each is parsed from a text of the workspace, and they lie in its folder.
use Rattle.std.proofs.Common.{ℕ, ◌≡◌, ◌<◌, ◌&&◌, inl, inr, true, List, [], ◌∷◌, length, map, filter, refl, sym, ap, subst, ◌∙◌, arith}
use Rattle.std.specs.Prelude.{Contains, Some, is_some, ◌==◌, slice_get}
use Rattle.std.specs.Cmp.Lexicographic.{pointwise, bytes_decides}
use Rattle.std.specs.FinMap.{FinMap, entries, keys, contains_key, contains_key-keys, get-from_entries, from_entries}
use Rattle.std.specs.FinMap.Entries.{is_some-find}
use Rattle.std.specs.List.{list_any}
use Rattle.std.specs.Ordering.{eq_by_cmp, is_eq}
use Rattle.std.specs.Cmp.{Equal-is, tied_itself}
use Rattle.std.proofs.lemmas.Bool.{and_from, and_parts}
use Rattle.std.proofs.lemmas.Map.Keys.{any_passes_from_place}
use Rattle.std.proofs.lemmas.Map.Views.{Contains-from_any}
use Rattle.std.proofs.lemmas.Option.{slice_get_read, slice_get_within, get_or_from_slice_get}
use Rattle.base_lemmas.proofs.Elements.{nothing_in, first_in, later_in, first_or_later}
use Rattle.base_files.specs.Path.{folder}
use Rattle.base_files.specs.Packages.{is_go, is_of_package, package_paths, package_files}
use Rattle.base_files.specs.Workspace.{Workspace, path_cmp}
use Rattle.base_files.proofs.WorkspaceLaws.{path_cmp_total, path_cmp_exact}
use Rattle.go_ast.specs.SourceFile.{SourceFile, FileParts, source_of}
use Rattle.workspace_graph.specs.Packages.{IsParsed}
use Rattle.workspace_graph.specs.Parsed.{AreParsed, none, tree}
use Rattle.types_declared.specs.Package.{Package}
use Rattle.workspace_check.specs.Verdicts.{Verdicts, IsPackageIn}
use Rattle.workspace_check.proofs.Members.{passes, passed}

-- what a mapped list holds
pub mapped : {X Y : Type 0} (f : X → Y) (xs : List X) (y : Y) → Contains (map f xs) y → (x : X) × (Contains xs x × (f x ≡ y))
mapped f [] y h = absurd (nothing_in y h)
mapped f (x ∷ xs) y h = elim (first_or_later (f x) (map f xs) y h) [
  | inl e ↦ (x, (first_in x xs, e))
  | inr c ↦ let r = mapped f xs y c in (r.0, (later_in x xs r.0 r.1.0, r.1.1))
]

same_path : (p q : List ℕ) → eq_by_cmp path_cmp p q ≡ true → p ≡ q
same_path p q e = path_cmp_exact p q ((Equal-is (path_cmp p q)).0 e)

is_among : (ks : List (List ℕ)) (q : List ℕ) → Contains ks q → list_any (eq_by_cmp path_cmp q) ks ≡ true
is_among ks q h =
    any_passes_from_place (eq_by_cmp path_cmp q) ks h.0 q (slice_get_read ks (length ks) h.0 q refl h.1 (sym h.2)) (ap is_eq (tied_itself path_cmp_total q))

abbrev with_folders : List (List ℕ) → List (List ℕ × Unit {0})
with_folders paths = map (λ path. (folder path, tt)) paths

firsts : (paths : List (List ℕ)) → map (λ (e : List ℕ × Unit {0}). e.0) (with_folders paths) ≡ map folder paths
firsts [] = refl
firsts (p ∷ ps) = ap (λ rest. folder p ∷ rest) (firsts ps)

-- the folder of a package is that of one of the paths
some_folder : (paths : List (List ℕ)) (q : List ℕ) → Contains (keys (from_entries {R = path_cmp} (with_folders paths))) q → Contains (map folder paths) q
some_folder paths q h =
    let m : FinMap path_cmp (Unit {0}) = from_entries (with_folders paths) in
    let there : contains_key m q ≡ true = contains_key-keys m q ∙ is_among (keys m) q h in
    let found : list_any (eq_by_cmp path_cmp q) (map (λ (e : List ℕ × Unit {0}). e.0) (with_folders paths)) ≡ true =
    sym (is_some-find path_cmp q (with_folders paths)) ∙ sym (ap is_some (get-from_entries path_cmp_total (with_folders paths) q)) ∙ there in
    Contains-from_any same_path q (map folder paths) (ap (list_any (eq_by_cmp path_cmp q)) (sym (firsts paths)) ∙ found)

pub package_file : (w : Workspace) (p : List ℕ) → Contains (package_paths w) p → (e : List ℕ × List ℕ) × Contains (package_files w p) e
package_file w p h =
    let at = mapped folder (filter is_go (map (λ (e : List ℕ × List ℕ). e.0) (entries w))) p
    (some_folder (filter is_go (map (λ (e : List ℕ × List ℕ). e.0) (entries w))) p h) in
    let go = passes is_go (map (λ (e : List ℕ × List ℕ). e.0) (entries w)) at.0 at.1.0 in
    let file = mapped (λ (e : List ℕ × List ℕ). e.0) (entries w) at.0 go.1 in
    let is_of : (is_go file.0.0 && pointwise ◌==◌ (folder file.0.0) p) ≡ true =
    and_from (is_go file.0.0) (pointwise ◌==◌ (folder file.0.0) p) (ap is_go file.1.1 ∙ go.0)
    ((bytes_decides (folder file.0.0) p).1 (ap folder file.1.1 ∙ at.1.1)) in
    (file.0, passed (λ (e : List ℕ × List ℕ). is_of_package p e.0) (entries w) file.0 is_of file.1.0)

pub some_tree : {es : List (List ℕ × List ℕ)} {ts : List FileParts} → AreParsed es ts [] → (e : List ℕ × List ℕ) → Contains es e → 0 < length ts
some_tree none e h = absurd (nothing_in e h)
some_tree (tree is rest) e h = omega arith

-- the text of a parsed file

pub text_of : {es : List (List ℕ × List ℕ)} {ts : List FileParts} → AreParsed es ts [] → (t : FileParts) → Contains ts t →
    (e : List ℕ × List ℕ) × (Contains es e × IsParsed e.0 e.1 (source_of t))
text_of none t h = absurd (nothing_in t h)
text_of (tree {e = e} {es = es} {t = first} {ts = ts} is rest) t h = elim (first_or_later first ts t h) [
  | inl same ↦ (e, (first_in e es, subst (λ (x : FileParts). IsParsed e.0 e.1 (source_of x)) same is))
  | inr c ↦ let r = text_of rest t c in (r.0, (later_in e es r.0 r.1.0, r.1.1))
]

pub file_among : {es : List (List ℕ × List ℕ)} {ts : List FileParts} → AreParsed es ts [] → (s : SourceFile) → Contains (map source_of ts) s →
    (e : List ℕ × List ℕ) × (Contains es e × IsParsed e.0 e.1 s)
file_among {ts = ts} parsed s h =
    let t = mapped source_of ts s h in
    let r = text_of parsed t.0 t.1.0 in
    (r.0, (r.1.0, subst (IsParsed r.0.0 r.0.1) t.1.1 r.1.1))

pub at_rank : {X : Type 0} (xs : List X) (i : ℕ) (x : X) → slice_get xs i ≡ Some x → Contains xs x
at_rank xs i x at = (i, slice_get_within xs i x at, get_or_from_slice_get xs i x x at)

pub entry_at : {es : List (List ℕ × List ℕ)} {ts : List FileParts} → AreParsed es ts [] → (i : ℕ) (t : FileParts) → slice_get ts i ≡ Some t →
    (e : List ℕ × List ℕ) × (Contains es e × IsParsed e.0 e.1 (source_of t))
entry_at {ts = ts} parsed i t at = text_of parsed t (at_rank ts i t at)

-- a file lies in the folder of its package

pub in_folder : (w : Workspace) (p : List ℕ) (e : List ℕ × List ℕ) → Contains (package_files w p) e → folder e.0 ≡ p
in_folder w p e h =
    let test : (is_go e.0 && pointwise ◌==◌ (folder e.0) p) ≡ true = (passes (λ d. is_of_package p d.0) (entries w) e h).0 in
    (bytes_decides (folder e.0) p).0 (and_parts (is_go e.0) (pointwise ◌==◌ (folder e.0) p) test).1

pub file_in_folder : (w : Workspace) (known : Verdicts) (path : List ℕ) (p : Package) → IsPackageIn w known path p → (rank : ℕ) (f : SourceFile) →
    slice_get p.files rank ≡ Some f → folder f.path ≡ path
file_in_folder w known path p h rank f at =
    let files : p.files ≡ map source_of h.files = ap (λ (x : Package). x.files) h.is_package.is_package in
    let here = at_rank (map source_of h.files) rank f (subst (λ fs. slice_get fs rank ≡ Some f) files at) in
    let entry = file_among h.parsed f here in
    ap folder entry.1.1.of_path ∙ in_folder w path entry.0 entry.1.0
