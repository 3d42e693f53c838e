-- The paths of a workspace's packages are in order, each once, and hold the folder of each Go file.
use Rattle.std.proofs.Common.{◌≡◌, ℕ, ◌<◌, Bool, true, false, ◌&&◌, ◌||◌, List, [], ◌∷◌, map, filter, Option, Some, None, is_some, ◌≤◌, slice_get, refl}
use Rattle.std.proofs.Common.{sym, ap, subst, ◌∙◌, ⊎_elim, arith, cond, Bor}
use Rattle.std.proofs.Common.{T}
use Rattle.std.specs.declared.cmp.Ordering.{Ordering}
use Rattle.std.specs.declared.cmp.Ordering.TheVariants.{Less, Equal, Greater}
use Rattle.std.specs.Ordering.{eq_by_cmp, is_lt, is_eq, match_ordering}
use Rattle.std.specs.BTreeSet.{insert_key}
use Rattle.std.specs.Cmp.{tied_itself, Equal-is}
use Rattle.std.specs.List.{list_any, Contains, AllByRecursion}
use Rattle.std.specs.List.Sorted.{IsStrictlySortedBy}
use Rattle.std.specs.FinMap.{FinMap, entries, keys, contains_key, entries_sorted, from_sorted, entries-from_sorted, is_sorted, same_map, contains_key-keys}
use Rattle.std.specs.FinMap.{get-from_entries}
use Rattle.std.specs.FinMap.Entries.{below_all, is_some-find}
use Rattle.std.proofs.lemmas.Bool.{true≢false, cases_lt, and_parts}
use Rattle.std.proofs.lemmas.Option.{slice_get_within, get_or_from_slice_get}
use Rattle.std.proofs.lemmas.Map.Keys.{Less-from_sorted}
use Rattle.std.proofs.lemmas.Map.Views.{Contains-from_any}
use Rattle.std.proofs.Math.Bool.{or-true, or-false}
use Rattle.base_lemmas.proofs.Tests.{less_from_test}
use Rattle.base_files.specs.Path.{folder}
use Rattle.base_files.specs.Workspace.{Workspace, path_cmp}
use Rattle.base_files.proofs.WorkspaceLaws.{path_cmp_total, path_cmp_exact}
use Rattle.workspace_graph.specs.Borrows.{names}
use Rattle.base_files.specs.Packages.{is_go, folders, package_paths}

pub T_true : (b : Bool) → T b → b ≡ true
T_true true h = refl
T_true false h = absurd h

-- ---- the keys of a finite map
below_keys : {X : Type 0} (k : List ℕ) (es : List (List ℕ × X)) → below_all path_cmp k es ≡ true → AllByRecursion (λ y. path_cmp k y ≡ Less) (map (λ e. e.0) es)
below_keys k [] h = tt
below_keys k (e ∷ es) h = let w = and_parts _ _ h in (less_from_test _ w.0, below_keys k es w.1)

pub sorted_keys : {X : Type 0} (es : List (List ℕ × X)) → is_sorted path_cmp es ≡ true → IsStrictlySortedBy path_cmp (map (λ e. e.0) es)
unfolding IsStrictlySortedBy
sorted_keys [] h = tt
sorted_keys (e ∷ es) h = let w = and_parts _ _ h in (below_keys e.0 es w.0, sorted_keys es w.1)

pub paths_sorted : (w : Workspace) → IsStrictlySortedBy path_cmp (package_paths w)
paths_sorted w = sorted_keys (entries (folders w)) (T_true _ (entries_sorted (folders w)))

-- ---- names in order
abbrev units : List (List ℕ) → List (List ℕ × Unit {0})
units ks = map (λ k. (k, tt)) ks

units_names : (ks : List (List ℕ)) → map (λ e. e.0) (units ks) ≡ ks
units_names [] = refl
units_names (k ∷ ks) = ap (λ rest. k ∷ rest) (units_names ks)

below_units : (k : List ℕ) (ks : List (List ℕ)) → AllByRecursion (λ y. path_cmp k y ≡ Less) ks → below_all path_cmp k (units ks) ≡ true
below_units k [] h = refl
below_units k (x ∷ ks) h = ap (λ o. is_lt o && below_all path_cmp k (units ks)) h.0 ∙ below_units k ks h.1

sorted_units : (ks : List (List ℕ)) → IsStrictlySortedBy path_cmp ks → is_sorted path_cmp (units ks) ≡ true
unfolding IsStrictlySortedBy
sorted_units [] h = refl
sorted_units (k ∷ ks) h = ap (λ b. b && is_sorted path_cmp (units ks)) (below_units k ks h.0) ∙ sorted_units ks h.1

some_there : (x y : Option (Unit {0})) → is_some x ≡ is_some y → x ≡ y
some_there None None e = refl
some_there None (Some u) e = absurd (true≢false (sym e))
some_there (Some u) None e = absurd (true≢false e)
some_there (Some u) (Some v) e = refl

made : (ks : List (List ℕ)) → IsStrictlySortedBy path_cmp ks → T (is_sorted path_cmp (units ks))
made ks sorted = subst T (sym (sorted_units ks sorted)) tt

made_keys : (ks : List (List ℕ)) → IsStrictlySortedBy path_cmp ks → keys (from_sorted {R = path_cmp} (units ks)) ≡ ks
made_keys ks sorted = ap (λ es. map (λ e. e.0) es) (entries-from_sorted path_cmp (units ks) (made ks sorted)) ∙ units_names ks

-- names in order are the keys of a map that has just these
keys_are : (m : FinMap path_cmp (Unit {0})) (ks : List (List ℕ)) → IsStrictlySortedBy path_cmp ks →
    ((q : List ℕ) → contains_key m q ≡ list_any (eq_by_cmp path_cmp q) ks) → keys m ≡ ks
keys_are m ks sorted same =
    ap keys (same_map path_cmp_total path_cmp_exact m (from_sorted (units ks)) (λ q. some_there _ _
    (same q ∙ ap (λ ns. list_any (eq_by_cmp path_cmp q) ns) (sym (made_keys ks sorted)) ∙ sym (contains_key-keys (from_sorted (units ks)) q))))
    ∙ made_keys ks sorted

abbrev pub go_folders : List (List ℕ × List ℕ) → List (List ℕ)
go_folders es = map folder (filter is_go (map (λ e. e.0) es))

-- what the folders of a workspace are
pub has_folder : (w : Workspace) (q : List ℕ) → contains_key (folders w) q ≡ list_any (eq_by_cmp path_cmp q) (go_folders (entries w))
has_folder w q =
    let paths = filter is_go (map (λ e. e.0) (entries w)) in
    ap is_some (get-from_entries path_cmp_total (map (λ path. (folder path, tt)) paths) q)
    ∙ is_some-find path_cmp q (map (λ path. (folder path, tt)) paths)
    ∙ ap (λ ns. list_any (eq_by_cmp path_cmp q) ns) (paths_names paths)
  where
    paths_names : (ps : List (List ℕ)) → map (λ (e : List ℕ × Unit {0}). e.0) (map (λ path. (folder path, tt)) ps) ≡ map folder ps
    paths_names [] = refl
    paths_names (p ∷ ps) = ap (λ rest. folder p ∷ rest) (paths_names ps)

pub paths_are : (w : Workspace) (ks : List (List ℕ)) → IsStrictlySortedBy path_cmp ks →
    ((q : List ℕ) → list_any (eq_by_cmp path_cmp q) ks ≡ list_any (eq_by_cmp path_cmp q) (go_folders (entries w))) → package_paths w ≡ ks
paths_are w ks sorted same = keys_are (folders w) ks sorted (λ q. has_folder w q ∙ sym (same q))

-- ---- one more folder
or_twice : (a b : Bool) → (a || b) ≡ (a || (a || b))
or_twice true b = refl
or_twice false b = refl

or_swap : (a b c : Bool) → (a || (b || c)) ≡ (b || (a || c))
or_swap true true c = refl
or_swap true false c = refl
or_swap false b c = refl

or_regroup : (a b c : Bool) → ((a || b) || c) ≡ (b || (a || c))
or_regroup true true c = refl
or_regroup true false c = refl
or_regroup false b c = refl

abbrev pub folder_cmp : Bor (List ℕ) → Bor (List ℕ) → Ordering
folder_cmp x y = path_cmp x.now y.now

pub has_inserted : (ks : List (Bor (List ℕ))) (k : Bor (List ℕ)) (q : List ℕ)
    → list_any (eq_by_cmp path_cmp q) (names (insert_key folder_cmp ks k)) ≡ (eq_by_cmp path_cmp q k.now || list_any (eq_by_cmp path_cmp q) (names ks))
has_inserted [] k q = refl
has_inserted (x ∷ xs) k q =
    elim (path_cmp k.now x.now) as (λ order. path_cmp k.now x.now ≡ order
    → list_any (eq_by_cmp path_cmp q) (names (match_ordering order (k ∷ x ∷ xs) (x ∷ xs) (x ∷ insert_key folder_cmp xs k)))
    ≡ (eq_by_cmp path_cmp q k.now || (eq_by_cmp path_cmp q x.now || list_any (eq_by_cmp path_cmp q) (names xs)))) [
      | Less ↦ λ e. refl
      | Equal ↦ λ e.
          or_twice (eq_by_cmp path_cmp q x.now) (list_any (eq_by_cmp path_cmp q) (names xs))
          ∙ ap (λ y. eq_by_cmp path_cmp q y || (eq_by_cmp path_cmp q x.now || list_any (eq_by_cmp path_cmp q) (names xs))) (sym (path_cmp_exact k.now x.now e))
      | Greater ↦ λ e.
          ap (λ b. eq_by_cmp path_cmp q x.now || b) (has_inserted xs k q)
          ∙ or_swap (eq_by_cmp path_cmp q x.now) (eq_by_cmp path_cmp q k.now) (list_any (eq_by_cmp path_cmp q) (names xs))
    ] refl

-- the folders that were found, with those of the files that are left, are those of all
abbrev pub AreFound : List (List ℕ × List ℕ) → List (List ℕ × List ℕ) → List (Bor (List ℕ)) → Type 0
AreFound all left ks = (q : List ℕ) → (list_any (eq_by_cmp path_cmp q) (names ks) || list_any (eq_by_cmp path_cmp q) (go_folders left)) ≡ list_any
    (eq_by_cmp path_cmp q) (go_folders all)

pub found_skip : (all : List (List ℕ × List ℕ)) (e : List ℕ × List ℕ) (left : List (List ℕ × List ℕ)) (ks : List (Bor (List ℕ))) → is_go e.0 ≡ false →
    AreFound all (e ∷ left) ks → AreFound all left ks
found_skip all e left ks not_go found q =
    ap (λ (b : Bool). list_any (eq_by_cmp path_cmp q) (names ks) || list_any (eq_by_cmp path_cmp q)
    (map folder (cond b (e.0 ∷ filter is_go (map (λ d. d.0) left)) (filter is_go (map (λ d. d.0) left))))) (sym not_go)
    ∙ found q

pub found_add : (all : List (List ℕ × List ℕ)) (e : List ℕ × List ℕ) (left : List (List ℕ × List ℕ)) (ks : List (Bor (List ℕ))) (k : Bor (List ℕ)) →
    is_go e.0 ≡ true → k.now ≡ folder e.0 → AreFound all (e ∷ left) ks → AreFound all left (insert_key folder_cmp ks k)
found_add all e left ks k go same found q =
    let rest = list_any (eq_by_cmp path_cmp q) (go_folders left) in
    ap (λ (b : Bool). b || rest) (has_inserted ks k q)
    ∙ or_regroup (eq_by_cmp path_cmp q k.now) (list_any (eq_by_cmp path_cmp q) (names ks)) rest
    ∙ ap (λ (f : List ℕ). list_any (eq_by_cmp path_cmp q) (names ks) || (eq_by_cmp path_cmp q f || rest)) same
    ∙ ap (λ (b : Bool). list_any (eq_by_cmp path_cmp q) (names ks) || list_any (eq_by_cmp path_cmp q)
    (map folder (cond b (e.0 ∷ filter is_go (map (λ d. d.0) left)) (filter is_go (map (λ d. d.0) left))))) (sym go)
    ∙ found q

pub found_all : (w : Workspace) (ks : List (Bor (List ℕ))) → AreFound (entries w) [] ks → IsStrictlySortedBy path_cmp (names ks) → names ks ≡ package_paths w
found_all w ks found sorted = sym (paths_are w (names ks) sorted (λ q. sym (or-false _) ∙ found q))

below_names : (k : Bor (List ℕ)) (ks : List (Bor (List ℕ))) → AllByRecursion (λ y. folder_cmp k y ≡ Less) ks →
    AllByRecursion (λ y. path_cmp k.now y ≡ Less) (names ks)
below_names k [] h = tt
below_names k (x ∷ ks) h = (h.0, below_names k ks h.1)

pub names_sorted : (ks : List (Bor (List ℕ))) → IsStrictlySortedBy folder_cmp ks → IsStrictlySortedBy path_cmp (names ks)
unfolding IsStrictlySortedBy
names_sorted [] h = tt
names_sorted (k ∷ ks) h = (below_names k ks h.0, names_sorted ks h.1)

-- ---- one path, one number
less_apart : (x y : List ℕ) → path_cmp x y ≡ Less → x ≡ y → ⊥
less_apart x y less same =
    let tied : path_cmp x x ≡ Equal = tied_itself path_cmp_total x in
    true≢false (ap is_lt (sym less ∙ ap (path_cmp x) (sym same) ∙ tied))

pub one_number : (ks : List (List ℕ)) → IsStrictlySortedBy path_cmp ks → (i j : ℕ) (p : List ℕ) → slice_get ks i ≡ Some p → slice_get ks j ≡ Some p → i ≡ j
one_number ks sorted i j p a b =
    let at_i = get_or_from_slice_get ks i p [] a in
    let at_j = get_or_from_slice_get ks j p [] b in
    let in_i = slice_get_within ks i p a in
    let in_j = slice_get_within ks j p b in
    ⊎_elim
    (λ (h : i < j). absurd (less_apart _ _ (Less-from_sorted path_cmp ks i j [] sorted h in_j) (at_i ∙ sym at_j)))
    (λ (h : j ≤ i). ⊎_elim
    (λ (k : j < i). absurd (less_apart _ _ (Less-from_sorted path_cmp ks j i [] sorted k in_i) (at_j ∙ sym at_i)))
    (λ (k : i ≤ j). omega arith)
    (cases_lt j i))
    (cases_lt i j)

-- ---- the folder of a Go file
pub exact_names : (x y : List ℕ) → eq_by_cmp path_cmp x y ≡ true → x ≡ y
exact_names x y e = path_cmp_exact x y ((Equal-is (path_cmp x y)).0 e)

-- each Go file's folder is among some paths
abbrev pub AreThere : List (List ℕ) → List (List ℕ × List ℕ) → Type 0
AreThere paths es = AllByRecursion (λ e. is_go e.0 ≡ true → Contains paths (folder e.0)) es

there_by : (paths : List (List ℕ)) (es : List (List ℕ × List ℕ)) →
    ((q : List ℕ) → list_any (eq_by_cmp path_cmp q) (go_folders es) ≡ true → Contains paths q) → AreThere paths es
there_by paths [] all = tt
there_by paths (e ∷ es) all = (
  λ go. all (folder e.0) (ap (λ b. list_any (eq_by_cmp path_cmp (folder e.0))
      (map folder (cond b (e.0 ∷ filter is_go (map (λ d. d.0) es)) (filter is_go (map (λ d. d.0) es))))) go
      ∙ ap (λ o. is_eq o || list_any (eq_by_cmp path_cmp (folder e.0)) (go_folders es)) (tied_itself path_cmp_total (folder e.0))),
  there_by paths es (λ q one. all q (more q one)),
)
  where
    more : (q : List ℕ) → list_any (eq_by_cmp path_cmp q) (go_folders es) ≡ true → list_any (eq_by_cmp path_cmp q) (go_folders (e ∷ es)) ≡ true
    more q one = elim (is_go e.0) as (λ b. list_any (eq_by_cmp path_cmp q)
        (map folder (cond b (e.0 ∷ filter is_go (map (λ d. d.0) es)) (filter is_go (map (λ d. d.0) es)))) ≡ true) [
          | true ↦ ap (λ b. eq_by_cmp path_cmp q (folder e.0) || b) one ∙ or-true _
          | false ↦ one
        ]

pub all_there : (w : Workspace) → AreThere (package_paths w) (entries w)
all_there w = there_by (package_paths w) (entries w) (λ q one.
    Contains-from_any exact_names q (package_paths w) (sym (contains_key-keys (folders w) q) ∙ has_folder w q ∙ one))

pub none_sorted : IsStrictlySortedBy path_cmp []
unfolding IsStrictlySortedBy
none_sorted = tt
