-- Files by their paths: the folders of paths, the files of a package, and files that are set to those of another workspace.
use Rattle.std.proofs.Common.{◌≡◌, ℕ, ◌||◌, Bool, true, false, List, [], ◌∷◌, ◌++◌, cond, filter, Option, Some, None, Bor, length, get_or}
use Rattle.std.proofs.Common.{refl, sym, ap, subst, ◌∙◌, ⊎_elim, ◌+◌, ◌<◌, take}
use Rattle.std.specs.BTreeSet.{insert_key}
use Rattle.std.specs.Cmp.{tied_itself}
use Rattle.std.specs.FinMap.{entries, get, get-insert, get-remove, insert, remove}
use Rattle.std.specs.List.{Contains, list_any}
use Rattle.std.specs.Ordering.{eq_by_cmp, is_eq}
use Rattle.std.proofs.lemmas.Bool.{true≢false, false_from_ne_true}
use Rattle.std.proofs.lemmas.List.Elements.{All-contains, All-from_recursion, Contains-append_cases, Contains-append_left, Contains-append_right}
use Rattle.std.proofs.lemmas.List.Elements.{Contains-push_cases}
use Rattle.std.proofs.lemmas.List.{map_push, take_more}
use Rattle.std.proofs.lemmas.Map.Views.{Contains-from_any}
use Rattle.std.proofs.Math.Bool.{or-true}
use Rattle.base_lemmas.proofs.Elements.{nothing_in, first_in, first_or_later, later_in}
use Rattle.base_files.specs.Path.{folder}
use Rattle.base_files.specs.Packages.{is_go, is_of_package, package_files, package_paths}
use Rattle.base_files.specs.Workspace.{Workspace, path_cmp}
use Rattle.base_files.proofs.WorkspaceLaws.{path_cmp_total}
use Rattle.base_edits.proofs.Entries.{entry_of, get_entry}
use Rattle.workspace_graph.specs.Borrows.{names}
use Rattle.workspace_graph.specs.Graphs.{paths_of}
use Rattle.workspace_graph.specs.ChangedFiles.{HaveFolders, SetsAt}
use Rattle.workspace_graph.specs.declared.package.ParsedPackage.{ParsedPackage}
use Rattle.workspace_graph.proofs.PackagePaths.{all_there, exact_names, folder_cmp, has_inserted}
use Rattle.workspace_graph.proofs.StayingPackages.{any_of}

abbrev Entry : Type 0
Entry = List ℕ × List ℕ

same_path : (x y : List ℕ) → x ≡ y → eq_by_cmp path_cmp x y ≡ true
same_path x y e = ap (λ z. eq_by_cmp path_cmp x z) (sym e) ∙ ap is_eq (tied_itself path_cmp_total x)

-- a path is among others or it is not
pub is_among : {P : Type 0} (q : List ℕ) (ks : List (List ℕ)) → (Contains ks q → P) → ((Contains ks q → ⊥) → P) → P
is_among {P} q ks there apart = elim (list_any (eq_by_cmp path_cmp q) ks) as (λ b. list_any (eq_by_cmp path_cmp q) ks ≡ b → P) [
  | true ↦ λ is. there (Contains-from_any exact_names q ks is)
  | false ↦ λ is. apart (λ has. true≢false (sym (any_of q ks has) ∙ is))
] refl

-- ---- the folders of paths
pub folder_kept : (ks : List (Bor (List ℕ))) (k : Bor (List ℕ)) (q : List ℕ) → Contains (names ks) q → Contains (names (insert_key folder_cmp ks k)) q
folder_kept ks k q has = Contains-from_any exact_names q (names (insert_key folder_cmp ks k))
    (has_inserted ks k q ∙ ap (λ b. eq_by_cmp path_cmp q k.now || b) (any_of q ks_names has) ∙ or-true (eq_by_cmp path_cmp q k.now))
  where
    ks_names : List (List ℕ)
    ks_names = names ks

pub folder_added : (ks : List (Bor (List ℕ))) (k : Bor (List ℕ)) → Contains (names (insert_key folder_cmp ks k)) k.now
folder_added ks k = Contains-from_any exact_names k.now (names (insert_key folder_cmp ks k))
    (has_inserted ks k k.now ∙ ap (λ b. b || list_any (eq_by_cmp path_cmp k.now) (names ks)) (same_path k.now k.now refl))

pub folders_none : (ks : List (List ℕ)) → HaveFolders [] ks
folders_none ks path has = absurd (nothing_in path has)

pub folders_more : (paths : List (List ℕ)) (path : List ℕ) (ks : List (Bor (List ℕ))) (k : Bor (List ℕ)) → HaveFolders paths (names ks) → k.now ≡ folder path →
    HaveFolders (paths ++ path ∷ []) (names (insert_key folder_cmp ks k))
folders_more paths path ks k have is q has = ⊎_elim
    (λ (old : Contains paths q). folder_kept ks k (folder q) (have q old))
    (λ (same : path ≡ q). subst (Contains (names (insert_key folder_cmp ks k))) (is ∙ ap folder same) (folder_added ks k))
    (Contains-push_cases paths path q has)

-- one more of some paths
pub names_more : (paths : List (Bor (List ℕ))) (k : ℕ) (item : Bor (List ℕ)) → k < length paths → item ≡ get_or paths k item →
    names (take (k + 1) paths) ≡ names (take k paths) ++ item.now ∷ []
names_more paths k item below is =
    ap names (take_more paths k item below ∙ ap (λ (y : Bor (List ℕ)). take k paths ++ y ∷ []) (sym is))
    ∙ map_push (λ (path : Bor (List ℕ)). path.now) (take k paths) item

-- ---- the files that pass a test
in_filter : (test : Entry → Bool) (es : List Entry) (e : Entry) → Contains es e → test e ≡ true → Contains (filter test es) e
in_filter test [] e has is = absurd (nothing_in e has)
in_filter test (d ∷ es) e has is = ⊎_elim
    (λ (here : d ≡ e). subst (λ b. Contains (cond b (d ∷ filter test es) (filter test es)) e) (sym (ap test here ∙ is))
    (subst (Contains (d ∷ filter test es)) here (first_in d (filter test es))))
    (λ (later : Contains es e). elim (test d) as (λ b. Contains (cond b (d ∷ filter test es) (filter test es)) e) [
      | true ↦ later_in d (filter test es) e (in_filter test es e later is)
      | false ↦ in_filter test es e later is
    ])
    (first_or_later d es e has)

of_filter : (test : Entry → Bool) (es : List Entry) (e : Entry) → Contains (filter test es) e → Contains es e
of_filter test [] e has = absurd (nothing_in e has)
of_filter test (d ∷ es) e has = elim (test d) as (λ b. Contains (cond b (d ∷ filter test es) (filter test es)) e → Contains (d ∷ es) e) [
  | true ↦ λ among. ⊎_elim
      (λ (here : d ≡ e). subst (Contains (d ∷ es)) here (first_in d es))
      (λ (later : Contains (filter test es) e). later_in d es e (of_filter test es e later))
      (first_or_later d (filter test es) e among)
  | false ↦ λ among. later_in d es e (of_filter test es e among)
] has

passes_filter : (test : Entry → Bool) (es : List Entry) (e : Entry) → Contains (filter test es) e → test e ≡ true
passes_filter test [] e has = absurd (nothing_in e has)
passes_filter test (d ∷ es) e has = elim (test d) as (λ b. test d ≡ b → Contains (cond b (d ∷ filter test es) (filter test es)) e → test e ≡ true) [
  | true ↦ λ is among. ⊎_elim
      (λ (here : d ≡ e). ap test (sym here) ∙ is)
      (λ (later : Contains (filter test es) e). passes_filter test es e later)
      (first_or_later d (filter test es) e among)
  | false ↦ λ is among. passes_filter test es e among
] refl has

-- just the files of a folder
pub in_package : (v : Workspace) (p path text : List ℕ) → is_of_package p path ≡ true → get v path ≡ Some text → Contains (package_files v p) (path, text)
in_package v p path text of at = in_filter (λ (d : Entry). is_of_package p d.0) (entries v) (path, text) (entry_of v path text at) of

pub of_package : (v : Workspace) (p : List ℕ) (e : Entry) → Contains (package_files v p) e → is_of_package p e.0 ≡ true
of_package v p e has = passes_filter (λ (d : Entry). is_of_package p d.0) (entries v) e has

pub file_of : (v : Workspace) (p : List ℕ) (e : Entry) → Contains (package_files v p) e → get v e.0 ≡ Some e.1
file_of v p e has = get_entry v e (of_filter (λ (d : Entry). is_of_package p d.0) (entries v) e has)

pub has_package : (v : Workspace) (path text : List ℕ) → is_go path ≡ true → get v path ≡ Some text → Contains (package_paths v) (folder path)
has_package v path text go at =
    All-contains (λ (e : Entry). is_go e.0 ≡ true → Contains (package_paths v) (folder e.0)) (entries v) (path, text)
    (All-from_recursion (λ (e : Entry). is_go e.0 ≡ true → Contains (package_paths v) (folder e.0)) (entries v) (all_there v)) (entry_of v path text at) go

pub path_in : (ps : List ParsedPackage) (p : ParsedPackage) → Contains ps p → Contains (paths_of ps) p.path.items
path_in [] p has = absurd (nothing_in p has)
path_in (q ∷ ps) p has = ⊎_elim
    (λ (is : q ≡ p). subst (λ (x : ParsedPackage). Contains (q.path.items ∷ paths_of ps) x.path.items) is (first_in q.path.items (paths_of ps)))
    (λ (later : Contains ps p). later_in q.path.items (paths_of ps) p.path.items (path_in ps p later))
    (first_or_later q ps p has)

pub one_in : (x y : List ℕ) → Contains (x ∷ []) y → x ≡ y
one_in x y has = ⊎_elim (λ (is : x ≡ y). is) (λ (rest : Contains [] y). absurd (nothing_in y rest)) (first_or_later x [] y has)

-- ---- paths are set to what other files have there
at_set : (o : Option (List ℕ)) (part new : Workspace) (q path : List ℕ) → (o ≡ None → new ≡ remove part q) →
    ((t : List ℕ) → o ≡ Some t → new ≡ insert part q t) → get new path ≡ cond (eq_by_cmp path_cmp path q) o (get part path)
at_set None part new q path gone set = ap (λ m. get m path) (gone refl) ∙ get-remove path_cmp_total part q path
at_set (Some t) part new q path gone set = ap (λ m. get m path) (set t refl) ∙ get-insert path_cmp_total part q t path

pub resets_one : (w part new : Workspace) (q : List ℕ) → (get w q ≡ None → new ≡ remove part q) →
    ((t : List ℕ) → get w q ≡ Some t → new ≡ insert part q t) → SetsAt w (q ∷ []) part new
resets_one w part new q gone set = record {
  own = λ path has.
      let same = one_in q path has in
      at_set (get w q) part new q path gone set ∙ ap (λ b. cond b (get w q) (get part path)) (same_path path q (sym same)) ∙ ap (get w) same;
  others = λ path apart. at_set (get w q) part new q path gone set ∙ ap (λ b. cond b (get w q) (get part path))
      (false_from_ne_true (eq_by_cmp path_cmp path q) (λ tied. apart (subst (Contains (q ∷ [])) (sym (exact_names path q tied)) (first_in q []))));
}

pub resets_none : (w part : Workspace) → SetsAt w [] part part
resets_none w part = record { own = λ path has. absurd (nothing_in path has); others = λ path apart. refl }

pub resets_more : (w : Workspace) (first second : List (List ℕ)) (a b c : Workspace) → SetsAt w first a b → SetsAt w second b c →
    SetsAt w (first ++ second) a c
resets_more w first second a b c one two = record {
  own = λ path has. is_among path second
      (λ among. two.own path among)
      (λ apart. two.others path apart ∙ ⊎_elim
      (λ (x : Contains first path). one.own path x)
      (λ (y : Contains second path). absurd (apart y))
      (Contains-append_cases first second path has));
  others = λ path apart.
      two.others path (λ y. apart (Contains-append_right first second path y))
      ∙ one.others path (λ x. apart (Contains-append_left first second path x));
}
