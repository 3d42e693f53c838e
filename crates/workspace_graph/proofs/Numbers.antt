-- The results of a binary search by path, among packages or files.
use Rattle.std.proofs.Common.{◌≡◌, ℕ, ◌<◌, ◌≤◌, ◌+◌, List, [], ◌∷◌, length, map, Some, slice_get, get_or, sym, ap, subst, ◌∙◌, ⊎_elim, arith, Result, Ok, Err}
use Rattle.std.proofs.Common.{MatchResult}
use Rattle.std.specs.declared.cmp.Ordering.{Ordering}
use Rattle.std.specs.declared.cmp.Ordering.TheVariants.{Less, Equal, Greater}
use Rattle.std.specs.Option.{option_map}
use Rattle.std.specs.Ordering.{is_lt, is_gt, ordering_index, ordering_reverse}
use Rattle.std.specs.Cmp.{tied_itself}
use Rattle.std.specs.List.{Contains, HoldsAt}
use Rattle.std.specs.List.Sorted.{IsStrictlySortedBy, IsNonDecreasingBy, IsPartitionPoint, IsBinarySearchResult, IsSearchInRange}
use Rattle.std.proofs.lemmas.Bool.{true≢false, cases_lt}
use Rattle.std.proofs.lemmas.List.Sorted.{searchable_from_sorted}
use Rattle.std.proofs.lemmas.Map.Keys.{Less-from_sorted}
use Rattle.std.proofs.lemmas.Option.{slice_get-get_or, slice_get-map}
use Rattle.std.proofs.lemmas.List.{get_or-map, length-map}
use Rattle.base_lemmas.proofs.Tests.{less_differs, greater_differs}
use Rattle.base_files.specs.Workspace.{path_cmp}
use Rattle.base_files.proofs.WorkspaceLaws.{path_cmp_total, path_cmp_exact}
use Rattle.workspace_graph.specs.Updated.{IsPlace}
use Rattle.workspace_graph.specs.declared.package.ParsedPackage.{ParsedPackage}

abbrev pub path_of_package : ParsedPackage → List ℕ
path_of_package p = p.path.items

not_tied : (o : Ordering) (x y : List ℕ) → path_cmp x y ≡ o → (o ≡ Equal → ⊥) → x ≡ y → ⊥
not_tied o x y is differs same = differs (sym is ∙ ap (path_cmp x) (sym same) ∙ tied_itself path_cmp_total x)

module _ {X : Type 0} (path_of : X → List ℕ) where
  -- how the path of one compares with another path
  abbrev pub search_cmp : List ℕ → X → Ordering
  search_cmp path x = path_cmp (path_of x) path

  pub path_there : (xs : List X) (n : ℕ) (x : X) → slice_get xs n ≡ Some x → slice_get (map path_of xs) n ≡ Some (path_of x)
  path_there xs n x at = slice_get-map path_of xs n ∙ ap (option_map path_of) at

  pub found_is : (xs : List X) (path : List ℕ) (n : ℕ) → n < length xs → HoldsAt (λ x. search_cmp path x ≡ Equal) xs n →
      slice_get (map path_of xs) n ≡ Some path
  found_is [] path n within at = absurd (omega arith)
  found_is (x ∷ xs) path n within at =
      path_there (x ∷ xs) n (get_or (x ∷ xs) n x) (slice_get-get_or (x ∷ xs) n x within)
      ∙ ap Some (path_cmp_exact _ _ (at x))

  -- the search may go by halves
  rises : (xs : List X) (path : List ℕ) → IsStrictlySortedBy path_cmp (map path_of xs) → IsNonDecreasingBy (λ y. ordering_index (search_cmp path y)) xs
  rises xs path sorted = searchable_from_sorted path_cmp_total path_of xs path (λ k d low within.
      let first = get_or-map path_of xs k d (path_of d) (omega arith) in
      let second = get_or-map path_of xs (k + 1) d (path_of d) within in
      let less = Less-from_sorted path_cmp (map path_of xs) k (k + 1) (path_of d) sorted (omega arith)
      (subst (λ (n : ℕ). k + 1 < n) (sym (length-map xs path_of)) within) in
      let here : path_cmp (path_of (get_or xs k d)) (path_of (get_or xs (k + 1) d)) ≡ Less =
      subst (λ (x : List ℕ). path_cmp x (path_of (get_or xs (k + 1) d)) ≡ Less) first
      (subst (λ (y : List ℕ). path_cmp (get_or (map path_of xs) k (path_of d)) y ≡ Less) second less) in
      ap is_lt (path_cmp_total.antisymm (path_of (get_or xs (k + 1) d)) (path_of (get_or xs k d)) ∙ ap ordering_reverse here))

  none_in : (xs : List X) (path : List ℕ) (i : ℕ) → IsPartitionPoint (λ x. search_cmp path x ≡ Less) (λ x. search_cmp path x ≡ Greater) xs i →
      Contains (map path_of xs) path → ⊥
  none_in [] path i split has = absurd (omega (arith, has.1))
  none_in (d ∷ xs) path i split has =
      let k = has.0 in
      let within : k < length (d ∷ xs) = subst (λ (n : ℕ). k < n) (length-map (d ∷ xs) path_of) has.1 in
      let x = get_or (d ∷ xs) k d in
      let same : path_of x ≡ path = sym (get_or-map path_of (d ∷ xs) k d path within) ∙ has.2 in
      ⊎_elim
      (λ (h : k < i). not_tied Less (path_of x) path (split.0 k d (omega arith) h) less_differs same)
      (λ (h : i ≤ k). not_tied Greater (path_of x) path (split.1 k d h within) greater_differs same)
      (cases_lt k i)

  pub none_is : (xs : List X) (path : List ℕ) (i : ℕ) → IsStrictlySortedBy path_cmp (map path_of xs)
      → (IsNonDecreasingBy (λ y. ordering_index (search_cmp path y)) xs →
      IsPartitionPoint (λ x. search_cmp path x ≡ Less) (λ x. search_cmp path x ≡ Greater) xs i)
      → Contains (map path_of xs) path → ⊥
  none_is xs path i sorted found = none_in xs path i (found (rises xs path sorted))

  -- and where none has the path, those before the place come before it and those behind it come behind it
  pub place_is : (xs : List X) (path : List ℕ) (i : ℕ) → IsStrictlySortedBy path_cmp (map path_of xs) → i ≤ length xs
      → (IsNonDecreasingBy (λ y. ordering_index (search_cmp path y)) xs →
      IsPartitionPoint (λ x. search_cmp path x ≡ Less) (λ x. search_cmp path x ≡ Greater) xs i)
      → IsPlace (map path_of xs) path i
  place_is [] path i sorted within found = record {
    within = within;
    below = λ k h. absurd (omega (arith, h, within));
    above = λ k h g. absurd (omega (arith, g));
  }
  place_is (d ∷ xs) path i sorted within found =
      let all = d ∷ xs in
      let size : length (map path_of all) ≡ length all = length-map all path_of in
      let split = found (rises all path sorted) in
      let at : (k : ℕ) → k < length all → get_or (map path_of all) k [] ≡ path_of (get_or all k d) =
      λ k h. get_or-map path_of all k d [] h in
      record {
        within = omega (arith, within, size);
        below = λ k h. ap (λ (x : List ℕ). path_cmp x path) (at k (omega (arith, h, within))) ∙ split.0 k d (omega arith) h;
        above = λ k h g.
            let inside : k < length all = omega (arith, g, size) in
            ap (path_cmp path) (at k inside) ∙ path_cmp_total.antisymm path (path_of (get_or all k d)) ∙ ap ordering_reverse (split.1 k d h inside);
      }

  pub place_or_number : (xs : List X) (path : List ℕ) (r : Result ℕ ℕ) → IsStrictlySortedBy path_cmp (map path_of xs) → IsSearchInRange r (length xs) →
      IsBinarySearchResult (search_cmp path) xs r →
      MatchResult r (λ n. slice_get (map path_of xs) n ≡ Some path) (λ i. IsPlace (map path_of xs) path i)
  place_or_number xs path (Ok n) sorted within at = found_is xs path n within at
  place_or_number xs path (Err i) sorted within found = place_is xs path i sorted within found
