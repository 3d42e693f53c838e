-- The packages of a workspace after a text is set: the folder of a Go file is one of them, and those before stay.
use Rattle.std.proofs.Common.{◌≡◌, ◌⊎◌, ◌+◌, ◌||◌, ℕ, Bool, true, false, List, cond, Option}
use Rattle.std.proofs.Common.{Some, None, is_some, inl, inr, length, refl, sym, ap, subst, ◌∙◌, ⊎_elim}
use Rattle.std.specs.Cmp.{tied_itself}
use Rattle.std.specs.FinMap.{FinMap, contains_key, contains_key-keys, entries, entries_sorted, get, get-insert, insert, keys, len, len-entries, len-insert}
use Rattle.std.specs.List.{Contains, list_any}
use Rattle.std.specs.List.Sorted.{IsStrictlySortedBy}
use Rattle.std.specs.Ordering.{eq_by_cmp, is_eq}
use Rattle.std.proofs.lemmas.Bool.{true≢false}
use Rattle.std.proofs.lemmas.List.{length-map}
use Rattle.std.proofs.lemmas.Map.Views.{Contains-from_any}
use Rattle.base_files.specs.Packages.{folders, is_go, package_paths}
use Rattle.base_files.specs.Path.{folder}
use Rattle.base_files.specs.Workspace.{Workspace, path_cmp}
use Rattle.base_files.proofs.WorkspaceLaws.{path_cmp_total}
use Rattle.workspace_graph.proofs.ChangedFiles.{has_package}
use Rattle.workspace_graph.proofs.PackagePaths.{T_true, exact_names, has_folder, paths_are, paths_sorted, sorted_keys}
use Rattle.workspace_graph.proofs.StayingPackages.{any_of}
use Rattle.workspace_parsing.proofs.PackageFiles.{package_file}

same_test : (a b : Bool) → (a ≡ true → b ≡ true) → (b ≡ true → a ≡ true) → a ≡ b
same_test true b there back = sym (there refl)
same_test false true there back = back refl
same_test false false there back = refl

-- paths in order that are just those of the packages
paths_by : (w : Workspace) (ks : List (List ℕ)) → IsStrictlySortedBy path_cmp ks → ((q : List ℕ) → Contains ks q → Contains (package_paths w) q) →
    ((q : List ℕ) → Contains (package_paths w) q → Contains ks q) → package_paths w ≡ ks
paths_by w ks sorted sound whole = paths_are w ks sorted (λ q.
    same_test (list_any (eq_by_cmp path_cmp q) ks) (list_any (eq_by_cmp path_cmp q) (package_paths w))
    (λ is. any_of q (package_paths w) (sound q (Contains-from_any exact_names q ks is)))
    (λ is. any_of q ks (whole q (Contains-from_any exact_names q (package_paths w) is)))
    ∙ sym (contains_key-keys (folders w) q) ∙ has_folder w q)

-- the same path, or another
by_path : {P : Type 0} (q path : List ℕ) → (q ≡ path → P) → (eq_by_cmp path_cmp q path ≡ false → P) → P
by_path {P} q path same other = elim (eq_by_cmp path_cmp q path) as (λ b. eq_by_cmp path_cmp q path ≡ b → P) [
  | true ↦ λ tied. same (exact_names q path tied)
  | false ↦ λ apart. other apart
] refl

-- ---- the keys of a map after a value is set
module _ {X : Type 0} (m : FinMap path_cmp X) (k : List ℕ) (v : X) where
  found : (q : List ℕ) → contains_key (insert m k v) q ≡ is_some (cond (eq_by_cmp path_cmp q k) (Some v) (get m q))
  found q = ap is_some (get-insert path_cmp_total m k v q)

  key_set : Contains (keys (insert m k v)) k
  key_set = Contains-from_any exact_names k (keys (insert m k v)) (sym (contains_key-keys (insert m k v) k) ∙ found k
      ∙ ap (λ t. is_some (cond (is_eq t) (Some v) (get m k))) (tied_itself path_cmp_total k))

  key_stays : (q : List ℕ) → Contains (keys m) q → Contains (keys (insert m k v)) q
  key_stays q has = by_path q k
      (λ same. subst (Contains (keys (insert m k v))) (sym same) key_set)
      (λ apart. Contains-from_any exact_names q (keys (insert m k v)) (sym (contains_key-keys (insert m k v) q) ∙ found q
      ∙ ap (λ b. is_some (cond b (Some v) (get m q))) apart ∙ contains_key-keys m q ∙ any_of q (keys m) has))

  key_came : (q : List ℕ) → Contains (keys (insert m k v)) q → (k ≡ q) ⊎ Contains (keys m) q
  key_came q has = by_path q k
      (λ same. inl (sym same))
      (λ apart. inr (Contains-from_any exact_names q (keys m) (sym (contains_key-keys m q) ∙ ap (λ b. is_some (cond b (Some v) (get m q))) (sym apart)
      ∙ sym (found q) ∙ contains_key-keys (insert m k v) q ∙ any_of q (keys (insert m k v)) has)))

-- something is there behind a test, or was before
some_or : {X : Type 0} (b : Bool) (v : X) (o : Option X) → is_some (cond b (Some v) o) ≡ (b || is_some o)
some_or true v o = refl
some_or false v o = refl

-- as many keys as a map is long
keys_count : {X : Type 0} (m : FinMap path_cmp X) → length (keys m) ≡ len m
keys_count m = length-map (entries m) (λ e. e.0) ∙ sym (len-entries m)

-- ---- the packages after a file is set
module _ (w : Workspace) (path text : List ℕ) where
  at : (q : List ℕ) → get (insert w path text) q ≡ cond (eq_by_cmp path_cmp q path) (Some text) (get w q)
  at q = get-insert path_cmp_total w path text q

  own : get (insert w path text) path ≡ Some text
  own = at path ∙ ap (λ t. cond (is_eq t) (Some text) (get w path)) (tied_itself path_cmp_total path)

  -- a package before stays one
  stays : (q : List ℕ) → Contains (package_paths w) q → Contains (package_paths (insert w path text)) q
  stays q has =
      let file = package_file w q has in
      subst (Contains (package_paths (insert w path text))) file.2
      (by_path file.0.0 path
      (λ same. has_package (insert w path text) file.0.0 text file.1 (ap (get (insert w path text)) same ∙ own))
      (λ apart. has_package (insert w path text) file.0.0 file.0.1 file.1
      (at file.0.0 ∙ ap (λ b. cond b (Some text) (get w file.0.0)) apart ∙ file.3)))

  -- a package stood before, or is the folder of the file that was set
  came : (q : List ℕ) → Contains (package_paths (insert w path text)) q → ((is_go path ≡ true) × (folder path ≡ q)) ⊎ Contains (package_paths w) q
  came q has =
      let file = package_file (insert w path text) q has in
      by_path file.0.0 path
      (λ same. inl (ap is_go (sym same) ∙ file.1, ap folder (sym same) ∙ file.2))
      (λ apart. inr (subst (Contains (package_paths w)) file.2 (has_package w file.0.0 file.0.1 file.1
      (ap (λ b. cond b (Some text) (get w file.0.0)) (sym apart) ∙ sym (at file.0.0) ∙ file.3))))

  pub packages_stay : is_go path ≡ false → package_paths (insert w path text) ≡ package_paths w
  packages_stay other = paths_by (insert w path text) (package_paths w) (paths_sorted w) stays (λ q has. ⊎_elim
      (λ (new : (is_go path ≡ true) × (folder path ≡ q)). absurd (true≢false (sym new.0 ∙ other)))
      (λ (old : Contains (package_paths w) q). old)
      (came q has))

  packages_grow : {X : Type 0} (m : FinMap path_cmp X) (v : X) → is_go path ≡ true → keys m ≡ package_paths w →
      package_paths (insert w path text) ≡ keys (insert m (folder path) v)
  packages_grow {X} m v go are = paths_by (insert w path text) (keys (insert m (folder path) v))
      (sorted_keys (entries (insert m (folder path) v)) (T_true _ (entries_sorted (insert m (folder path) v))))
      (λ q has. ⊎_elim
      (λ (new : folder path ≡ q). subst (Contains (package_paths (insert w path text))) new (has_package (insert w path text) path text go own))
      (λ (old : Contains (keys m) q). stays q (subst (λ l. Contains l q) are old))
      (key_came m (folder path) v q has))
      (λ q has. ⊎_elim
      (λ (new : (is_go path ≡ true) × (folder path ≡ q)). subst (Contains (keys (insert m (folder path) v))) new.1 (key_set m (folder path) v))
      (λ (old : Contains (package_paths w) q). key_stays m (folder path) v q (subst (λ l. Contains l q) (sym are) old))
      (came q has))

  -- a Go file's folder is a package more, unless it was one
  pub count_after : is_go path ≡ true → length (package_paths (insert w path text)) ≡
      cond (list_any (eq_by_cmp path_cmp (folder path)) (package_paths w)) (length (package_paths w)) (length (package_paths w) + 1)
  count_after go =
      ap length (packages_grow (folders w) tt go refl)
      ∙ keys_count (insert (folders w) (folder path) tt)
      ∙ len-insert path_cmp_total (folders w) (folder path) tt
      ∙ ap (λ n. cond (contains_key (folders w) (folder path)) n (n + 1)) (sym (keys_count (folders w)))
      ∙ ap (λ b. cond b (length (package_paths w)) (length (package_paths w) + 1)) (contains_key-keys (folders w) (folder path))

  pub among_after : is_go path ≡ true → (q : List ℕ) → list_any (eq_by_cmp path_cmp q) (package_paths (insert w path text)) ≡
      (eq_by_cmp path_cmp q (folder path) || list_any (eq_by_cmp path_cmp q) (package_paths w))
  among_after go q =
      ap (list_any (eq_by_cmp path_cmp q)) (packages_grow (folders w) tt go refl)
      ∙ sym (contains_key-keys (insert (folders w) (folder path) tt) q)
      ∙ found (folders w) (folder path) tt q
      ∙ some_or (eq_by_cmp path_cmp q (folder path)) tt (get (folders w) q)
      ∙ ap (λ b. eq_by_cmp path_cmp q (folder path) || b) (contains_key-keys (folders w) q)
