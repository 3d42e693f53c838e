-- The files of a workspace's packages, with their trees.
use Rattle.std.proofs.Common.{◌≡◌, ◌&&◌, ℕ, Bool, true, false, List, [], ◌∷◌, map, filter, cond, Bor, refl, sym, ap, subst, ◌∙◌}
use Rattle.std.specs.Prelude.{Contains, ◌==◌, Option, Some, None, MatchOption}
use Rattle.std.specs.Cmp.Lexicographic.{pointwise, bytes_decides}
use Rattle.std.specs.FinMap.{entries, entries_sorted, get, is_sorted}
use Rattle.std.specs.FinMap.Entries.{below_all}
use Rattle.std.specs.List.{AllByRecursion}
use Rattle.std.specs.List.Sorted.{IsStrictlySortedBy}
use Rattle.std.specs.declared.cmp.Ordering.TheVariants.{Less}
use Rattle.std.proofs.Math.Path.{ap₂}
use Rattle.std.proofs.lemmas.Bool.{and_parts}
use Rattle.std.proofs.lemmas.List.Kept.{IsStrictlySortedBy-filter}
use Rattle.std.proofs.lemmas.Option.{same_Some}
use Rattle.base_lemmas.proofs.Elements.{is_mapped}
use Rattle.base_lemmas.proofs.Tests.{true_from_T, less_from_test}
use Rattle.base_files.specs.Path.{folder}
use Rattle.base_files.specs.Packages.{is_go, is_of_package, package_paths, package_files}
use Rattle.base_files.specs.Workspace.{Workspace, path_cmp}
use Rattle.go_ast.specs.SourceFile.{SourceFile, FileParts, source_of}
use Rattle.workspace_graph.specs.Packages.{IsParsed}
use Rattle.workspace_graph.specs.Parsed.{AreParsed, none, tree}
use Rattle.workspace_graph.proofs.OneFile.{one_file}
use Rattle.base_edits.proofs.Entries.{get_entry}
use Rattle.base_edits.proofs.Held.{mapped_from}
use Rattle.types_declared.specs.Package.{Package}
use Rattle.workspace_check.specs.Verdicts.{Verdicts}
use Rattle.workspace_check.proofs.Members.{passes}
use Rattle.workspace_check.proofs.OnePackage.{one_sources}
use Rattle.workspace_check.proofs.PackageFiles.{text_of}
use Rattle.refs_binding.specs.Uses.{IsCheckedPackage}
use Rattle.refs_binding.specs.Workspaces.{IsPackageAt}
use Rattle.refs_binding.proofs.Units.{one_package}
use Rattle.refactor_rename.specs.RenameEdits.{IsSourceIn}

abbrev pub path_of : FileParts → List ℕ
path_of t = t.path

-- the paths of a workspace are in order

abbrev pub entry_path : List ℕ × List ℕ → List ℕ
entry_path e = e.0

below_paths : (p : List ℕ) (es : List (List ℕ × List ℕ)) → below_all path_cmp p es ≡ true → AllByRecursion (λ q. path_cmp p q ≡ Less) (map entry_path es)
below_paths p [] h = tt
below_paths p (e ∷ es) h = let b = and_parts _ _ h in (less_from_test _ b.0, below_paths p es b.1)

paths_in_order : (es : List (List ℕ × List ℕ)) → is_sorted path_cmp es ≡ true → IsStrictlySortedBy path_cmp (map entry_path es)
unfolding IsStrictlySortedBy
paths_in_order [] h = tt
paths_in_order (e ∷ es) h = let b = and_parts _ _ h in (below_paths e.0 es b.0, paths_in_order es b.1)

pub entries_in_order : (w : Workspace) → IsStrictlySortedBy path_cmp (map entry_path (entries w))
entries_in_order w = paths_in_order (entries w) (true_from_T _ (entries_sorted w))

-- and so are those of a package's files

paths_filtered : (test : List ℕ → Bool) (es : List (List ℕ × List ℕ)) → map entry_path (filter (λ e. test e.0) es) ≡ filter test (map entry_path es)
paths_filtered test [] = refl
paths_filtered test (e ∷ es) =
    elim (test e.0) as (λ b. map entry_path (cond b (e ∷ filter (λ d. test d.0) es) (filter (λ d. test d.0) es)) ≡ cond b
    (e.0 ∷ filter test (map entry_path es)) (filter test (map entry_path es))) [
      | true ↦ ap (λ ps. e.0 ∷ ps) (paths_filtered test es)
      | false ↦ paths_filtered test es
    ]

parsed_paths : {es : List (List ℕ × List ℕ)} {ts : List FileParts} → AreParsed es ts [] → map path_of ts ≡ map entry_path es
parsed_paths none = refl
parsed_paths (tree is rest) = ap₂ (λ p ps. p ∷ ps) is.of_path (parsed_paths rest)

pub trees_in_order : (w : Workspace) (p : List ℕ) (ts : List FileParts) → AreParsed (package_files w p) ts [] → IsStrictlySortedBy path_cmp (map path_of ts)
trees_in_order w p ts parsed =
    subst (IsStrictlySortedBy path_cmp) (sym (parsed_paths parsed ∙ paths_filtered (is_of_package p) (entries w)))
    (IsStrictlySortedBy-filter path_cmp (is_of_package p) (map entry_path (entries w)) (entries_in_order w))

-- each file is parsed from its text

pub record IsFileIn (w : Workspace) (p : List ℕ) (f : SourceFile) : Type 0 where
  pub text : List ℕ
  pub of_package : Contains (package_files w p) (f.path, text)
  pub parsed : IsParsed f.path text f

file_in : (w : Workspace) (p : List ℕ) (ts : List FileParts) → AreParsed (package_files w p) ts [] → (f : SourceFile) → Contains (map source_of ts) f →
    IsFileIn w p f
file_in w p ts parsed f has =
    let t = mapped_from source_of ts f has in
    let r = text_of parsed t.0 t.1 in
    let here : IsParsed r.0.0 r.0.1 f = subst (IsParsed r.0.0 r.0.1) t.2 r.1.1 in
    record {
      text = r.0.1;
      of_package = subst (λ q. Contains (package_files w p) (q, r.0.1)) (sym here.of_path) r.1.0;
      parsed = subst (λ q. IsParsed q r.0.1 f) (sym here.of_path) here;
    }

-- the files of a checked package
pub package_file : (w : Workspace) (known : Verdicts) (p : Package) → IsCheckedPackage w known p → (f : SourceFile) → Contains p.files f → IsFileIn w p.path f
package_file w known p is f has =
    let own = is.is_checked in
    let files : p.files ≡ map source_of own.files = ap (λ (x : Package). x.files) own.is_package.is_package in
    file_in w p.path own.files own.parsed f (subst (λ fs. Contains fs f) files has)

pub source_file : (w : Workspace) (known : Verdicts) (f : SourceFile) → (s : IsSourceIn w known f) → IsFileIn w s.inside.path f
source_file w known f s = package_file w known s.inside s.is_package f s.has

-- it is one of the workspace
pub source_entry : (w : Workspace) (known : Verdicts) (f : SourceFile) → IsSourceIn w known f → Contains (entries w) (f.path, f.cut.text)
source_entry w known f s =
    let r = source_file w known f s in
    subst (λ t. Contains (entries w) (f.path, t)) (sym r.parsed.of_text)
    (passes (λ e. is_of_package s.inside.path e.0) (entries w) (f.path, r.text) r.of_package).1

pub source_text : (w : Workspace) (known : Verdicts) (f : SourceFile) → IsSourceIn w known f → get w f.path ≡ Some f.cut.text
source_text w known f s = get_entry w (f.path, f.cut.text) (source_entry w known f s)

-- and its package is that of its folder
pub source_folder : (w : Workspace) (known : Verdicts) (f : SourceFile) → (s : IsSourceIn w known f) → folder f.path ≡ s.inside.path
source_folder w known f s =
    let r = source_file w known f s in
    let test : (is_go f.path && pointwise ◌==◌ (folder f.path) s.inside.path) ≡ true =
    (passes (λ e. is_of_package s.inside.path e.0) (entries w) (f.path, r.text) r.of_package).0 in
    (bytes_decides (folder f.path) s.inside.path).0 (and_parts (is_go f.path) (pointwise ◌==◌ (folder f.path) s.inside.path) test).1

-- one file of a package has a path
pub one_source : (w : Workspace) (known : Verdicts) (f g : SourceFile) → IsSourceIn w known f → IsSourceIn w known g → f.path ≡ g.path → f ≡ g
one_source w known f g s t same =
    let a = source_file w known f s in
    let b = source_file w known g t in
    let texts : a.text ≡ b.text = sym a.parsed.of_text ∙
    same_Some f.cut.text g.cut.text (sym (source_text w known f s) ∙ ap (get w) same ∙ source_text w known g t) ∙ b.parsed.of_text in
    one_file g.path b.text f g (subst (λ q. IsParsed q b.text f) same (subst (λ x. IsParsed f.path x f) texts a.parsed)) b.parsed

-- the trees of the package of a number

pub trees_of : (w : Workspace) (known : Verdicts) (n : ℕ) (p : Package) → IsPackageAt w known n p → (ts : List FileParts) →
    AreParsed (package_files w p.path) ts [] → p.files ≡ map source_of ts
trees_of w known n p is ts parsed =
    let own = is.is_package.is_checked in
    ap (λ (x : Package). x.files) own.is_package.is_package ∙ one_sources own.parsed parsed

pub tree_source : (w : Workspace) (known : Verdicts) (n : ℕ) (p : Package) → IsPackageAt w known n p → (ts : List FileParts) →
    AreParsed (package_files w p.path) ts [] → (t : FileParts) → Contains ts t →
    IsSourceIn w known (source_of t)
tree_source w known n p is ts parsed t has = record {
  inside = p;
  is_package = is.is_package;
  has = subst (λ fs. Contains fs (source_of t)) (sym (trees_of w known n p is ts parsed)) (is_mapped source_of ts t has);
}

-- a file of the package of a folder is among them
pub source_tree : (w : Workspace) (known : Verdicts) (n : ℕ) (p : Package) → IsPackageAt w known n p → (ts : List FileParts) →
    AreParsed (package_files w p.path) ts [] → (f : SourceFile) → IsSourceIn w known f →
    folder f.path ≡ p.path → (t : FileParts) × (Contains ts t × (t.path ≡ f.path))
source_tree w known n p is ts parsed f s at =
    let same : s.inside ≡ p = one_package w known s.inside p s.is_package is.is_package (sym (source_folder w known f s) ∙ at) in
    let has : Contains (map source_of ts) f = subst (λ fs. Contains fs f) (trees_of w known n p is ts parsed)
    (subst (λ (x : Package). Contains x.files f) same s.has) in
    let t = mapped_from source_of ts f has in
    (t.0, (t.1, ap (λ (x : SourceFile). x.path) t.2))

-- A search among the files of a package.

pub tree_found : (w : Workspace) (known : Verdicts) (n : ℕ) (p : Package) → IsPackageAt w known n p → (ts : List FileParts) →
    AreParsed (package_files w p.path) ts [] → (path : List ℕ) → folder path ≡ p.path →
    (o : Option (Bor FileParts)) → MatchOption o ((t : FileParts) → Contains ts t → t.path ≡ path → ⊥) (λ file. Contains ts file.now × (file.now.path ≡ path)) →
    MatchOption o ((f : SourceFile) → IsSourceIn w known f → f.path ≡ path → ⊥) (λ file. IsSourceIn w known (source_of file.now) × (file.now.path ≡ path))
tree_found w known n p is ts parsed path at None h = λ f s same.
    let t = source_tree w known n p is ts parsed f s (ap folder same ∙ at) in
    h t.0 t.1.0 (t.1.1 ∙ same)
tree_found w known n p is ts parsed path at (Some file) h = (tree_source w known n p is ts parsed file.now h.0, h.1)

-- in the folder of no package there is no such file
pub none_found : (w : Workspace) (known : Verdicts) (path : List ℕ) → (Contains (package_paths w) (folder path) → ⊥) → (f : SourceFile) →
    IsSourceIn w known f → f.path ≡ path → ⊥
none_found w known path empty f s same =
    empty (subst (Contains (package_paths w)) (sym (source_folder w known f s) ∙ ap folder same) s.is_package.of_workspace)
