-- A package whose row has a number for each path that its files import does not import the path of a package that comes.
use Rattle.std.proofs.Common.{◌≡◌, ℕ, zero, suc, ◌+◌, ◌-◌, ◌<◌, ◌≤◌, false, List, [], ◌∷◌, length, map, get_or, Some, slice_get, sym, ap}
use Rattle.std.proofs.Common.{subst, ◌∙◌, ⊎_elim, arith}
use Rattle.std.specs.Prelude.{Vec}
use Rattle.std.specs.Cmp.{eq_by_cmp_equiv}
use Rattle.std.specs.List.{Contains, IsDistinct}
use Rattle.std.specs.List.Sorted.{IsStrictlyIncreasing, IsStrictlySortedBy}
use Rattle.std.specs.Ordering.{eq_by_cmp}
use Rattle.std.proofs.lemmas.List.{get_or-map, length-map}
use Rattle.std.proofs.lemmas.List.Elements.{Contains-get_or}
use Rattle.std.proofs.lemmas.Map.Keys.{IsDistinct-from_apart}
use Rattle.std.proofs.lemmas.Map.Made.{length-le_from_is_member}
use Rattle.std.proofs.lemmas.Map.Views.{Contains-from_any}
use Rattle.std.proofs.lemmas.Option.{get_or_from_slice_get, slice_get-get_or, slice_get_within}
use Rattle.std.proofs.lemmas.Bool.{false_from_ne_true}
use Rattle.base_lemmas.proofs.Elements.{first_or_later}
use Rattle.base_files.specs.Workspace.{path_cmp}
use Rattle.base_files.proofs.WorkspaceLaws.{path_cmp_total}
use Rattle.workspace_graph.specs.Graphs.{paths_of}
use Rattle.workspace_graph.specs.Growth.{HasNewPackage}
use Rattle.workspace_graph.specs.ImportPaths.{bytes_of_paths, ListsPaths, AnyImports}
use Rattle.workspace_graph.specs.Imports.{LinkTable, row_of}
use Rattle.workspace_graph.specs.Rows.{IsRow}
use Rattle.workspace_graph.specs.Shifts.{row_shifted, shifted}
use Rattle.workspace_graph.specs.declared.package.ParsedPackage.{ParsedPackage}
use Rattle.workspace_graph.proofs.GrownLinks.{ks_within, package_shifted, paths_are, some_shifted}
use Rattle.workspace_graph.proofs.OrderedPackages.{rising_by}
use Rattle.workspace_graph.proofs.Linked.{row_at}
use Rattle.workspace_graph.proofs.PackagePaths.{exact_names, one_number}
use Rattle.workspace_graph.proofs.Shifted.{rising_shifted, shifted_apart, shifted_from}
use Rattle.workspace_graph.proofs.StayingPackages.{any_of}

-- ---- numbers that differ
-- one that is none of the others, and these in order
differ : (n : ℕ) (ns : List ℕ) → IsStrictlyIncreasing ns → (Contains ns n → ⊥) → (i j : ℕ) → i < j → j < length (n ∷ ns) →
    get_or (n ∷ ns) i 0 ≡ get_or (n ∷ ns) j 0 → ⊥
differ n ns up none i zero lt within same = absurd (omega (arith, lt))
differ n ns up none zero (suc j) lt within same =
    none (subst (Contains ns) (sym same) (Contains-get_or ns j 0 (omega (arith, within))))
differ n ns up none (suc i) (suc j) lt within same =
    let less = rising_by ns up (j - (i + 1)) i j (omega (arith, lt)) (omega (arith, within)) in
    absurd (omega (arith, less, same))

-- ---- the paths of numbers
module _ (ks : List (List ℕ)) (sorted : IsStrictlySortedBy path_cmp ks) where
  abbrev path_by : ℕ → List ℕ
  path_by j = get_or ks j []

  apart : (i j : ℕ) → i < length ks → j < length ks → (i ≡ j → ⊥) → eq_by_cmp path_cmp (path_by i) (path_by j) ≡ false
  apart i j in_i in_j other = false_from_ne_true (eq_by_cmp path_cmp (path_by i) (path_by j)) (λ tied.
      other (one_number ks sorted i j (path_by j) (slice_get-get_or ks i [] in_i ∙ ap Some (exact_names (path_by i) (path_by j) tied))
      (slice_get-get_or ks j [] in_j)))

  -- those of numbers that differ are no more than the paths that they are among
  fit : (js : List ℕ) (others : List (List ℕ)) → ((i j : ℕ) → i < j → j < length js → get_or js i 0 ≡ get_or js j 0 → ⊥) →
      ((j : ℕ) → Contains js j → (j < length ks) × Contains others (path_by j)) → length js ≤ length others
  fit js others different among =
      let size : length (map path_by js) ≡ length js = length-map js path_by in
      let distinct : IsDistinct (eq_by_cmp path_cmp) (map path_by js) = IsDistinct-from_apart (eq_by_cmp path_cmp) (map path_by js) (λ i j d lt within.
      let in_j : j < length js = omega (arith, within, size) in
      let in_i : i < length js = omega (arith, lt, in_j) in
      rw (get_or-map path_by js i 0 d in_i, get_or-map path_by js j 0 d in_j)
      (apart (get_or js i 0) (get_or js j 0) (among (get_or js i 0) (Contains-get_or js i 0 in_i)).0 (among (get_or js j 0) (Contains-get_or js j 0 in_j)).0
      (different i j lt in_j))) in
      let within : length (map path_by js) ≤ length others =
      length-le_from_is_member (eq_by_cmp_equiv path_cmp_total) (map path_by js) others distinct (λ q found. any_of q others (one_of q
      (Contains-from_any exact_names q (map path_by js) found))) in
      omega (arith, within, size)
    where
      one_of : (q : List ℕ) → Contains (map path_by js) q → Contains others q
      one_of q has =
          let size : length (map path_by js) ≡ length js = length-map js path_by in
          let k = has.0 in
          let inside : k < length js = omega (arith, has.1, size) in
          subst (Contains others) (sym (get_or-map path_by js k 0 q inside) ∙ has.2) (among (get_or js k 0) (Contains-get_or js k 0 inside)).1

-- ---- packages among which one came
module _ (packages : List ParsedPackage) (links : LinkTable) (place : ℕ) (grows : HasNewPackage packages links place)
    (sorted : IsStrictlySortedBy path_cmp (paths_of packages)) where
  -- the one that came is among those imported by one with so many more paths
  pub none_left : {Z : Type 0} (before : ℕ) (p : ParsedPackage) (keys : List (Vec ℕ Z)) (path : List ℕ) → slice_get packages (shifted place before) ≡ Some p →
      ListsPaths (AnyImports p.trees.items) keys → length keys ≤ length (row_of links before) → slice_get (paths_of packages) place ≡ Some path →
      AnyImports p.trees.items path → ⊥
  none_left before p keys path at holds count here some =
      let old : List (List ℕ) = paths_of grows.before in
      let all : List (List ℕ) = paths_of packages in
      let row : List ℕ = row_of links before in
      let is : IsRow old p.trees.items row = row_at grows.before links grows.rows before p (sym (package_shifted packages links place grows before) ∙ at) in
      let size : length (bytes_of_paths keys) ≡ length keys = length-map keys (λ (k : Vec ℕ _). k.items) in
      let long : length (row_shifted place row) ≡ length row = length-map row (shifted place) in
      let among : (j : ℕ) → Contains (place ∷ row_shifted place row) j → (j < length all) × Contains (bytes_of_paths keys) (get_or all j []) = λ j has. ⊎_elim
      (λ (own : place ≡ j). there j path (ap (slice_get all) (sym own) ∙ here) ((holds.each path).1 some))
      (λ (later : Contains (row_shifted place row) j).
      let from = shifted_from place row j later in
      let found = (some_shifted old place grows.one.path.items p.trees.items (ks_within packages links place grows) from.0).1 ((is.each from.0).0 from.1) in
      let at_j : slice_get all j ≡ Some found.2.0 = ap (λ l. slice_get l j) (paths_are packages links place grows)
      ∙ ap (slice_get _) (sym from.2) ∙ found.2.1 in
      there j found.2.0 at_j ((holds.each found.2.0).1 (found.0, (found.1, found.2.2))))
      (first_or_later place (row_shifted place row) j has) in
      let fits : length (place ∷ row_shifted place row) ≤ length (bytes_of_paths keys) =
      fit all sorted (place ∷ row_shifted place row) (bytes_of_paths keys)
      (differ place (row_shifted place row) (rising_shifted place row is.rising)
      (λ has. let from = shifted_from place row place has in shifted_apart place from.0 from.2)) among in
      absurd (omega (arith, fits, size, long, count))
    where
      there : (j : ℕ) (q : List ℕ) → slice_get (paths_of packages) j ≡ Some q → Contains (bytes_of_paths keys) q →
          (j < length (paths_of packages)) × Contains (bytes_of_paths keys) (get_or (paths_of packages) j [])
      there j q at_j has = (
        slice_get_within (paths_of packages) j q at_j,
        subst (Contains (bytes_of_paths keys)) (sym (get_or_from_slice_get (paths_of packages) j q [] at_j)) has,
      )
