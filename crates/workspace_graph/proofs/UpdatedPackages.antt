-- The packages after a change of files that adds and removes packages are those of the files.
use Rattle.std.proofs.Common.{◌≡◌, ℕ, zero, suc, ◌+◌, ◌<◌, ◌≤◌, ◌⊎◌, inl, inr, Bool, true, false, List, [], ◌∷◌, ◌++◌, length, map, take}
use Rattle.std.proofs.Common.{get_or, Some, slice_get, refl, sym, ap, subst, ◌∙◌, ⊎_elim, arith}
use Rattle.std.specs.declared.cmp.Ordering.TheVariants.{Less}
use Rattle.std.specs.Cmp.{tied_itself}
use Rattle.std.specs.FinMap.{contains_key-keys, empty, entries, get-empty}
use Rattle.std.specs.List.{Contains, insert, list_any, remove}
use Rattle.std.specs.List.Sorted.{IsPermutation, IsStrictlySortedBy}
use Rattle.std.specs.Ordering.{eq_by_cmp, is_lt}
use Rattle.std.proofs.lemmas.Bool.{true≢false, cases_lt, false_from_ne_true}
use Rattle.std.proofs.lemmas.List.{length-map, take_more}
use Rattle.std.proofs.lemmas.List.Edits.{get_or-insert_above, get_or-insert_at, get_or-insert_below, get_or-remove_above, get_or-remove_below}
use Rattle.std.proofs.lemmas.List.Edits.{length-insert, length-remove}
use Rattle.std.proofs.lemmas.List.Elements.{All-contains, Contains-append_left, Contains-push, Contains-push_cases}
use Rattle.std.proofs.lemmas.List.Sorted.{Contains-permutation, IsPermutation-insert, IsPermutation-remove, IsPermutation-sym}
use Rattle.std.proofs.lemmas.Map.Keys.{Less-from_sorted, sorted_from_all_adjacent, sorted_tail}
use Rattle.std.proofs.lemmas.Map.Views.{Contains-from_any}
use Rattle.std.proofs.lemmas.Option.{get_or_from_slice_get, none-some, same_Some, slice_get-get_or, slice_get_within}
use Rattle.base_lemmas.proofs.Elements.{is_mapped, nothing_in, first_in, first_or_later, later_in}
use Rattle.base_files.specs.Packages.{folders, package_files, package_paths}
use Rattle.base_files.specs.Workspace.{Workspace, path_cmp}
use Rattle.base_files.proofs.WorkspaceLaws.{path_cmp_total}
use Rattle.workspace_graph.specs.Changed.{has_file, has_some}
use Rattle.workspace_graph.specs.Graphs.{paths_of}
use Rattle.workspace_graph.specs.ChangedFiles.{CoverChanges, ArePackages}
use Rattle.workspace_graph.specs.Parsed.{AreParsed}
use Rattle.workspace_graph.specs.SameGoFiles.{HasFiles}
use Rattle.workspace_graph.specs.Updated.{AreUpdated, IsPlace, SetsPackage, SetsIn, Removes}
use Rattle.workspace_graph.specs.declared.package.ParsedPackage.{ParsedPackage}
use Rattle.workspace_graph.proofs.ChangedPackages.{some_parsed, with_path}
use Rattle.workspace_graph.proofs.Filled.{path_at}
use Rattle.workspace_graph.proofs.ChangedFiles.{file_of, is_among, path_in}
use Rattle.workspace_graph.proofs.Numbers.{path_of_package, path_there}
use Rattle.workspace_graph.proofs.PackagePaths.{exact_names, has_folder, one_number, paths_are}
use Rattle.workspace_graph.proofs.FoundFolders.{first_of, folder_found}
use Rattle.workspace_graph.proofs.SameFiles.{same_files}
use Rattle.workspace_graph.proofs.StayingPackages.{any_of}

-- ---- paths after an edit
pub paths_insert : {X : Type 0} (path_of : X → List ℕ) (xs : List X) (i : ℕ) (x : X) → map path_of (insert xs i x) ≡ insert (map path_of xs) i (path_of x)
paths_insert path_of [] zero x = refl
paths_insert path_of [] (suc i) x = refl
paths_insert path_of (y ∷ xs) zero x = refl
paths_insert path_of (y ∷ xs) (suc i) x = ap (λ ks. path_of y ∷ ks) (paths_insert path_of xs i x)

pub paths_remove : {X : Type 0} (path_of : X → List ℕ) (xs : List X) (i : ℕ) → map path_of (remove xs i) ≡ remove (map path_of xs) i
paths_remove path_of [] zero = refl
paths_remove path_of [] (suc i) = refl
paths_remove path_of (y ∷ xs) zero = refl
paths_remove path_of (y ∷ xs) (suc i) = ap (λ ks. path_of y ∷ ks) (paths_remove path_of xs i)

less_at : (a b x y : List ℕ) → x ≡ a → y ≡ b → path_cmp a b ≡ Less → path_cmp x y ≡ Less
less_at a b x y e f h = ap (λ z. path_cmp z y) e ∙ ap (path_cmp a) f ∙ h

not_less : (x : List ℕ) → path_cmp x x ≡ Less → ⊥
not_less x less = true≢false (ap is_lt (sym less ∙ tied_itself path_cmp_total x))

-- a path that stands between others is none of them
pub place_apart : (ks : List (List ℕ)) (q : List ℕ) (i : ℕ) → IsPlace ks q i → Contains ks q → ⊥
place_apart ks q i place (k, within, is) =
    let at : get_or ks k [] ≡ q = get_or_from_slice_get ks k q [] (slice_get-get_or ks k q within ∙ ap Some is) in
    ⊎_elim
    (λ (h : k < i). not_less q (less_at (get_or ks k []) q q q (sym at) refl (place.below k h)))
    (λ (h : i ≤ k). not_less q (less_at q (get_or ks k []) q q refl (sym at) (place.above k h within)))
    (cases_lt k i)

insert_sorted : (ks : List (List ℕ)) (q : List ℕ) (i : ℕ) → IsStrictlySortedBy path_cmp ks → IsPlace ks q i → IsStrictlySortedBy path_cmp (insert ks i q)
insert_sorted ks q i sorted place = sorted_from_all_adjacent path_cmp_total (insert ks i q) [] (λ k below. next k (omega (arith, below, long)))
  where
    long : length (insert ks i q) ≡ length ks + 1
    long = length-insert ks i q place.within

    behind : (j : ℕ) → i ≤ j → j + 1 < length ks → path_cmp (get_or (insert ks i q) (j + 1) []) (get_or (insert ks i q) (j + 1 + 1) []) ≡ Less
    behind j above within = less_at (get_or ks j []) (get_or ks (j + 1) []) (get_or (insert ks i q) (j + 1) []) (get_or (insert ks i q) (j + 1 + 1) [])
        (get_or-insert_above ks i q [] j above place.within) (get_or-insert_above ks i q [] (j + 1) (omega (arith, above)) place.within)
        (Less-from_sorted path_cmp ks j (j + 1) [] sorted (omega arith) within)

    behind_next : (j : ℕ) → i ≤ j → j + 1 < length ks → path_cmp (get_or (insert ks i q) (suc j) []) (get_or (insert ks i q) (suc j + 1) []) ≡ Less
    behind_next j above within =
        let e : j + 1 ≡ suc j = omega arith in
        subst (λ (n : ℕ). path_cmp (get_or (insert ks i q) n []) (get_or (insert ks i q) (n + 1) []) ≡ Less) e (behind j above within)

    at_place : (k : ℕ) → k ≡ i → k < length ks → path_cmp (get_or (insert ks i q) k []) (get_or (insert ks i q) (k + 1) []) ≡ Less
    at_place k here within = less_at q (get_or ks k []) (get_or (insert ks i q) k []) (get_or (insert ks i q) (k + 1) [])
        (ap (λ n. get_or (insert ks i q) n []) here ∙ get_or-insert_at ks i q [] place.within)
        (get_or-insert_above ks i q [] k (omega (arith, here)) place.within)
        (place.above k (omega (arith, here)) within)

    before_place : (k : ℕ) → k + 1 ≡ i → path_cmp (get_or (insert ks i q) k []) (get_or (insert ks i q) (k + 1) []) ≡ Less
    before_place k here = less_at (get_or ks k []) q (get_or (insert ks i q) k []) (get_or (insert ks i q) (k + 1) [])
        (get_or-insert_below ks i q [] k (omega (arith, here)) place.within)
        (ap (λ n. get_or (insert ks i q) n []) here ∙ get_or-insert_at ks i q [] place.within)
        (place.below k (omega (arith, here)))

    front : (k : ℕ) → k + 1 < i → path_cmp (get_or (insert ks i q) k []) (get_or (insert ks i q) (k + 1) []) ≡ Less
    front k below = less_at (get_or ks k []) (get_or ks (k + 1) []) (get_or (insert ks i q) k []) (get_or (insert ks i q) (k + 1) [])
        (get_or-insert_below ks i q [] k (omega (arith, below)) place.within) (get_or-insert_below ks i q [] (k + 1) below place.within)
        (Less-from_sorted path_cmp ks k (k + 1) [] sorted (omega arith) (omega (arith, below, place.within)))

    next : (k : ℕ) → k < length ks → path_cmp (get_or (insert ks i q) k []) (get_or (insert ks i q) (k + 1) []) ≡ Less
    next zero within = ⊎_elim
        (λ (h : 0 < i). ⊎_elim (λ (l : 0 + 1 < i). front 0 l) (λ (g : i ≤ 0 + 1). before_place 0 (omega arith)) (cases_lt (0 + 1) i))
        (λ (h : i ≤ 0). at_place 0 (omega arith) within)
        (cases_lt 0 i)
    next (suc j) within = ⊎_elim
        (λ (h : suc j < i). ⊎_elim (λ (l : suc j + 1 < i). front (suc j) l) (λ (g : i ≤ suc j + 1). before_place (suc j) (omega arith))
        (cases_lt (suc j + 1) i))
        (λ (h : i ≤ suc j). ⊎_elim (λ (l : j < i). at_place (suc j) (omega arith) within) (λ (g : i ≤ j). behind_next j g (omega (arith, within)))
        (cases_lt j i))
        (cases_lt (suc j) i)

module _ (ks : List (List ℕ)) (q : List ℕ) (n : ℕ) (sorted : IsStrictlySortedBy path_cmp ks) (at : slice_get ks n ≡ Some q) where
  inside : n < length ks
  inside = slice_get_within ks n q at

  shorter : length (remove ks n) + 1 ≡ length ks
  shorter = length-remove ks n inside

  own : get_or ks n [] ≡ q
  own = get_or_from_slice_get ks n q [] at

  remove_sorted : IsStrictlySortedBy path_cmp (remove ks n)
  remove_sorted = sorted_from_all_adjacent path_cmp_total (remove ks n) [] (λ k below.
      let within : k + 1 + 1 < length ks = omega (arith, below, shorter) in
      ⊎_elim
      (λ (h : k < n). ⊎_elim
      (λ (l : k + 1 < n). less_at (get_or ks k []) (get_or ks (k + 1) []) (get_or (remove ks n) k []) (get_or (remove ks n) (k + 1) [])
      (get_or-remove_below ks n [] k h inside) (get_or-remove_below ks n [] (k + 1) l inside)
      (Less-from_sorted path_cmp ks k (k + 1) [] sorted (omega arith) (omega (arith, within))))
      (λ (g : n ≤ k + 1). less_at (get_or ks k []) (get_or ks (k + 1 + 1) []) (get_or (remove ks n) k []) (get_or (remove ks n) (k + 1) [])
      (get_or-remove_below ks n [] k h inside) (get_or-remove_above ks n [] (k + 1) g inside)
      (Less-from_sorted path_cmp ks k (k + 1 + 1) [] sorted (omega arith) within))
      (cases_lt (k + 1) n))
      (λ (h : n ≤ k). less_at (get_or ks (k + 1) []) (get_or ks (k + 1 + 1) []) (get_or (remove ks n) k []) (get_or (remove ks n) (k + 1) [])
      (get_or-remove_above ks n [] k h inside) (get_or-remove_above ks n [] (k + 1) (omega arith) inside)
      (Less-from_sorted path_cmp ks (k + 1) (k + 1 + 1) [] sorted (omega arith) within))
      (cases_lt k n))

  remove_place : IsPlace (remove ks n) q n
  remove_place = record {
    within = omega (arith, inside, shorter);
    below = λ k h. less_at (get_or ks k []) (get_or ks n []) (get_or (remove ks n) k []) q (get_or-remove_below ks n [] k h inside) (sym own)
        (Less-from_sorted path_cmp ks k n [] sorted h inside);
    above = λ k h within. less_at (get_or ks n []) (get_or ks (k + 1) []) q (get_or (remove ks n) k []) (sym own) (get_or-remove_above ks n [] k h inside)
        (Less-from_sorted path_cmp ks n (k + 1) [] sorted (omega (arith, h)) (omega (arith, within, shorter)));
  }

module _ {X : Type 0} (path_of : X → List ℕ) where
  pub number_within : (xs : List X) (n : ℕ) (q : List ℕ) → slice_get (map path_of xs) n ≡ Some q → n < length xs
  number_within xs n q at = subst (λ (m : ℕ). n < m) (length-map xs path_of) (slice_get_within (map path_of xs) n q at)

  pub place_within : (path : List ℕ) (old new : List X) (place : ℕ) → Removes path_of path old new place → place ≤ length new
  place_within path old new place out = subst (λ (m : ℕ). place ≤ m) (length-map new path_of) out.stands.within

  -- ---- one is taken out
  pub none_out : (path : List ℕ) (xs : List X) (i : ℕ) → IsStrictlySortedBy path_cmp (map path_of xs) → IsPlace (map path_of xs) path i →
      Removes path_of path xs xs i
  none_out path xs i sorted place = record { sorted = sorted; stands = place; from = λ x has. has; kept = λ x has apart. has }

  module _ (path : List ℕ) (xs : List X) (n : ℕ) (at : slice_get (map path_of xs) n ≡ Some path) (below : n < length xs) (x : X) where
    abbrev goes : X
    goes = get_or xs n x

    goes_path : path_of goes ≡ path
    goes_path = same_Some (path_of goes) path (sym (path_there path_of xs n goes (slice_get-get_or xs n x below)) ∙ at)

    goes_out : IsPermutation xs (goes ∷ remove xs n)
    goes_out = IsPermutation-remove xs n goes below (same_Some goes (get_or xs n goes) (sym (slice_get-get_or xs n x below) ∙ slice_get-get_or xs n goes below))

    out_from : Contains (remove xs n) x → Contains xs x
    out_from has = Contains-permutation (goes ∷ remove xs n) xs x (IsPermutation-sym xs (goes ∷ remove xs n) goes_out) (later_in goes (remove xs n) x has)

    out_kept : Contains xs x → (path_of x ≡ path → ⊥) → Contains (remove xs n) x
    out_kept has apart = ⊎_elim
        (λ (here : goes ≡ x). absurd (apart (ap path_of (sym here) ∙ goes_path)))
        (λ (later : Contains (remove xs n) x). later)
        (first_or_later goes (remove xs n) x (Contains-permutation xs (goes ∷ remove xs n) x goes_out has))

  pub one_out : (path : List ℕ) (xs new : List X) (n : ℕ) → IsStrictlySortedBy path_cmp (map path_of xs) → slice_get (map path_of xs) n ≡ Some path →
      n < length xs → new ≡ remove xs n → Removes path_of path xs new n
  one_out path xs new n sorted at within is = subst (λ (l : List X). Removes path_of path xs l n) (sym is) (record {
    sorted = subst (IsStrictlySortedBy path_cmp) (sym (paths_remove path_of xs n)) (remove_sorted (map path_of xs) path n sorted at);
    stands = subst (λ ks. IsPlace ks path n) (sym (paths_remove path_of xs n)) (remove_place (map path_of xs) path n sorted at);
    from = λ x has. out_from path xs n at within x has;
    kept = λ x has apart. out_kept path xs n at within x has apart;
  })

  -- ---- and another put there
  pub out_apart : (path : List ℕ) (old middle : List X) (place : ℕ) → Removes path_of path old middle place → (x : X) → Contains middle x →
      path_of x ≡ path → ⊥
  out_apart path old middle place out x has same =
      place_apart (map path_of middle) path place out.stands (subst (Contains (map path_of middle)) same (is_mapped path_of middle x has))

  module _ (one : X) (old middle : List X) (place : ℕ) (out : Removes path_of (path_of one) old middle place) where
    pub puts_in : (new : List X) → new ≡ insert middle place one → SetsIn path_of one old new
    puts_in new is = subst (SetsIn path_of one old) (sym is) (record {
      sorted = subst (IsStrictlySortedBy path_cmp) (sym (paths_insert path_of middle place one))
          (insert_sorted (map path_of middle) (path_of one) place out.sorted out.stands);
      each = λ x has. ⊎_elim
          (λ (here : one ≡ x). inl (sym here))
          (λ (later : Contains middle x). inr (out.from x later, out_apart (path_of one) old middle place out x later))
          (first_or_later one middle x
          (Contains-permutation (insert middle place one) (one ∷ middle) x (IsPermutation-sym (one ∷ middle) (insert middle place one) same) has));
      own = Contains-permutation (one ∷ middle) (insert middle place one) one same (first_in one middle);
      kept = λ x has apart. Contains-permutation (one ∷ middle) (insert middle place one) x same (later_in one middle x (out.kept x has apart));
    })
      where
        same : IsPermutation (one ∷ middle) (insert middle place one)
        same = IsPermutation-insert middle place one

  pub puts_at : (path : List ℕ) (one : X) (old middle new : List X) (place : ℕ) → path_of one ≡ path → Removes path_of path old middle place →
      new ≡ insert middle place one → SetsIn path_of one old new
  puts_at path one old middle new place same out is =
      puts_in one old middle place (subst (λ (q : List ℕ). Removes path_of q old middle place) (sym same) out) new is

-- ---- a package is put in the place of the one with its path
module _ (one : ParsedPackage) (old middle : List ParsedPackage) (place : ℕ) (out : Removes path_of_package one.path.items old middle place) where
  pub puts_none : has_file one ≡ false → SetsPackage one old middle
  puts_none none = record {
    sorted = out.sorted;
    each = λ p has. inr (out.from p has, out_apart path_of_package one.path.items old middle place out p has);
    own = λ some. absurd (true≢false (sym some ∙ none));
    kept = out.kept;
  }

  pub puts_one : (new : List ParsedPackage) → has_file one ≡ true → new ≡ insert middle place one → SetsPackage one old new
  puts_one new some is =
      let put = puts_in path_of_package one old middle place out new is in
      record {
        sorted = put.sorted;
        each = λ p has. ⊎_elim
            (λ (here : p ≡ one). inl (here, some))
            (λ (stays : Contains old p × (p.path.items ≡ one.path.items → ⊥)). inr stays)
            (put.each p has);
        own = λ _. put.own;
        kept = put.kept;
      }

-- ---- one after another
pub updated_none : (before packages : List ParsedPackage) → IsStrictlySortedBy path_cmp (paths_of before) → packages ≡ before → AreUpdated before [] packages
updated_none before packages sorted same = subst (AreUpdated before []) (sym same) (record {
  sorted = sorted;
  each = λ p has. inr (has, λ none. nothing_in p.path.items none);
  own = λ p none some. absurd (nothing_in p none);
  kept = λ p has apart. has;
})

-- the first ones have other paths than the next
take_apart : (ps : List ParsedPackage) (k : ℕ) (q : List ℕ) → IsStrictlySortedBy path_cmp (paths_of ps) → slice_get (paths_of ps) k ≡ Some q →
    Contains (paths_of (take k ps)) q → ⊥
take_apart [] zero q sorted at has = nothing_in q has
take_apart [] (suc k) q sorted at has = nothing_in q has
take_apart (p ∷ ps) zero q sorted at has = nothing_in q has
take_apart (p ∷ ps) (suc k) q sorted at has = ⊎_elim
    (λ (here : p.path.items ≡ q). zero_apart k (one_number (paths_of (p ∷ ps)) sorted 0 (suc k) q (ap Some here) at))
    (λ (later : Contains (paths_of (take k ps)) q). take_apart ps k q (sorted_tail path_cmp p.path.items (paths_of ps) sorted) at later)
    (first_or_later p.path.items (paths_of (take k ps)) q has)
  where
    zero_apart : (j : ℕ) → 0 ≡ suc j → ⊥
    zero_apart j e = absurd (omega (arith, e))

pub updated_more : (before fresh old new : List ParsedPackage) (k : ℕ) (x : ParsedPackage) → IsStrictlySortedBy path_cmp (paths_of fresh) → k < length fresh →
    x ≡ get_or fresh k x → AreUpdated before (take k fresh) old → SetsPackage x old new → AreUpdated before (take (k + 1) fresh) new
updated_more before fresh old new k x sorted below is so puts =
    subst (λ (l : List ParsedPackage). AreUpdated before l new) (sym more) (record {
      sorted = puts.sorted;
      each = λ p has. ⊎_elim
          (λ (here : (p ≡ x) × (has_file x ≡ true)).
          inl (subst (Contains (first ++ x ∷ [])) (sym here.0) (Contains-push first x), ap has_file here.0 ∙ here.1))
          (λ (stays : Contains old p × (p.path.items ≡ x.path.items → ⊥)). ⊎_elim
          (λ (fresh_one : Contains first p × (has_file p ≡ true)). inl (Contains-append_left first (x ∷ []) p fresh_one.0, fresh_one.1))
          (λ (was : Contains before p × (Contains (paths_of first) p.path.items → ⊥)). inr (
            was.0,
            λ among. ⊎_elim was.1
                (λ (same : x.path.items ≡ p.path.items). stays.1 (sym same)) (cases p.path.items among),
          ))
          (so.each p stays.0))
          (puts.each p has);
      own = λ p has some. ⊎_elim
          (λ (early : Contains first p). puts.kept p (so.own p early some)
          (λ same. take_apart fresh k x.path.items sorted (path_at fresh k x (slice_get-get_or fresh k x below ∙ ap Some (sym is)))
          (subst (Contains (paths_of first)) same (path_in first p early))))
          (λ (here : x ≡ p). subst (Contains new) here (puts.own (ap has_file here ∙ some)))
          (Contains-push_cases first x p has);
      kept = λ p has apart. puts.kept p (so.kept p has (λ among. apart (early_path p.path.items among)))
          (λ same. apart (subst (Contains (paths_of (first ++ x ∷ []))) (sym same) (path_in (first ++ x ∷ []) x (Contains-push first x))));
    })
  where
    first : List ParsedPackage
    first = take k fresh

    more : take (k + 1) fresh ≡ first ++ x ∷ []
    more = take_more fresh k x below ∙ ap (λ y. first ++ y ∷ []) (sym is)

    cases : (q : List ℕ) → Contains (paths_of (first ++ x ∷ [])) q → Contains (paths_of first) q ⊎ (x.path.items ≡ q)
    cases q among =
        let p = with_path (first ++ x ∷ []) q among in
        ⊎_elim
        (λ (early : Contains first p.0). inl (subst (Contains (paths_of first)) p.2 (path_in first p.0 early)))
        (λ (here : x ≡ p.0). inr (ap (λ (y : ParsedPackage). y.path.items) here ∙ p.2))
        (Contains-push_cases first x p.0 p.1)

    early_path : (q : List ℕ) → Contains (paths_of first) q → Contains (paths_of (first ++ x ∷ [])) q
    early_path q among =
        let p = with_path first q among in
        subst (Contains (paths_of (first ++ x ∷ []))) p.2 (path_in (first ++ x ∷ []) p.0 (Contains-append_left first (x ∷ []) p.0 p.1))

-- just one comes
pub updated_one : (before : List ParsedPackage) (one : ParsedPackage) (place : ℕ) → IsStrictlySortedBy path_cmp (paths_of before) →
    IsStrictlySortedBy path_cmp (paths_of (one ∷ [])) → has_file one ≡ true → IsPlace (paths_of before) one.path.items place →
    AreUpdated before (one ∷ []) (insert before place one)
updated_one before one place sorted alone file stands =
    updated_more before (one ∷ []) before (insert before place one) 0 one alone (omega arith) refl (updated_none before before sorted refl)
    (puts_one one before before place (none_out path_of_package one.path.items before place sorted stands) (insert before place one) file refl)

-- ---- all of them are those of the files
module _ (v w : Workspace) (before fresh packages : List ParsedPackage) (are : ArePackages v before) (fresh_are : CoverChanges v w fresh)
    (updated : AreUpdated before fresh packages) where
  abbrev among : List ℕ → List (List ℕ) → Bool
  among q ks = list_any (eq_by_cmp path_cmp q) ks

  among_is : (q : List ℕ) (ks : List (List ℕ)) (b : Bool) → (b ≡ true → Contains ks q) → (Contains ks q → b ≡ true) → among q ks ≡ b
  among_is q ks true has is = any_of q ks (has refl)
  among_is q ks false has is = false_from_ne_true (among q ks) (λ t. true≢false (sym (is (Contains-from_any exact_names q ks t))))

  fresh_some : (p : ParsedPackage) → Contains fresh p → has_some (package_files w p.path.items) ≡ has_file p
  fresh_some p has = some_parsed (All-contains (HasFiles w) fresh p fresh_are.files has)

  stays : (q : List ℕ) → (Contains (paths_of fresh) q → ⊥) → package_files w q ≡ package_files v q
  stays q apart = same_files (paths_of fresh) v w fresh_are.differs q apart

  some_before : (q : List ℕ) → has_some (package_files v q) ≡ among q (paths_of before)
  some_before q = sym (folder_found q (entries v)) ∙ sym (has_folder v q) ∙ contains_key-keys (folders v) q ∙ ap (among q) (sym are.paths)

  own_path : (q : List ℕ) → (p : ParsedPackage) → Contains fresh p → p.path.items ≡ q → among q (paths_of packages) ≡ has_some (package_files w q)
  own_path q p has same =
      let some = ap (λ (x : List ℕ). has_some (package_files w x)) (sym same) ∙ fresh_some p has in
      among_is q (paths_of packages) (has_some (package_files w q))
      (λ is. subst (Contains (paths_of packages)) same (path_in packages p (updated.own p has (sym some ∙ is))))
      (λ there.
      let x = with_path packages q there in
      ⊎_elim
      (λ (new : Contains fresh x.0 × (has_file x.0 ≡ true)). ap (λ (y : List ℕ). has_some (package_files w y)) (sym x.2) ∙ fresh_some x.0 new.0 ∙ new.1)
      (λ (old : Contains before x.0 × (Contains (paths_of fresh) x.0.path.items → ⊥)).
      absurd (old.1 (subst (Contains (paths_of fresh)) (same ∙ sym x.2) (path_in fresh p has))))
      (updated.each x.0 x.1))

  other_path : (q : List ℕ) → (Contains (paths_of fresh) q → ⊥) → among q (paths_of packages) ≡ has_some (package_files w q)
  other_path q apart =
      let some : has_some (package_files w q) ≡ among q (paths_of before) = ap has_some (stays q apart) ∙ some_before q in
      among_is q (paths_of packages) (has_some (package_files w q))
      (λ is.
      let x = with_path before q (Contains-from_any exact_names q (paths_of before) (sym some ∙ is)) in
      subst (Contains (paths_of packages)) x.2
      (path_in packages x.0 (updated.kept x.0 x.1 (λ has. apart (subst (Contains (paths_of fresh)) x.2 has)))))
      (λ there.
      let x = with_path packages q there in
      ⊎_elim
      (λ (new : Contains fresh x.0 × (has_file x.0 ≡ true)). absurd (apart (subst (Contains (paths_of fresh)) x.2 (path_in fresh x.0 new.0))))
      (λ (old : Contains before x.0 × (Contains (paths_of fresh) x.0.path.items → ⊥)).
      some ∙ any_of q (paths_of before) (subst (Contains (paths_of before)) x.2 (path_in before x.0 old.0)))
      (updated.each x.0 x.1))

  pub updated_paths : paths_of packages ≡ package_paths w
  updated_paths = sym (paths_are w (paths_of packages) updated.sorted (λ q. is_among q (paths_of fresh)
      (λ has. let p = with_path fresh q has in own_path q p.0 p.1 p.2)
      (λ apart. other_path q apart)
      ∙ sym (folder_found q (entries w))))

  pub updated_files : (i : ℕ) (p : ParsedPackage) → slice_get packages i ≡ Some p → HasFiles w p
  updated_files i p at = ⊎_elim
      (λ (new : Contains fresh p × (has_file p ≡ true)). All-contains (HasFiles w) fresh p fresh_are.files new.0)
      (λ (old : Contains before p × (Contains (paths_of fresh) p.path.items → ⊥)).
      subst (λ es. AreParsed es p.trees.items p.faulty.items) (sym (stays p.path.items old.1)) (All-contains (HasFiles v) before p are.files old.0))
      (updated.each p (i, slice_get_within packages i p at, get_or_from_slice_get packages i p p at))

-- ---- no files, no packages
abbrev no_files : Workspace
no_files = empty

none_from_absence : (paths : List (List ℕ)) → ((path : List ℕ) → Contains paths path → ⊥) → paths ≡ []
none_from_absence [] never = refl
none_from_absence (path ∷ paths) never = absurd (never path (first_in path paths))

pub no_paths : package_paths empty ≡ []
no_paths = none_from_absence (package_paths no_files) (λ path has.
    let found : has_some (package_files no_files path) ≡ true =
    sym (folder_found path (entries no_files)) ∙ sym (has_folder no_files path) ∙ contains_key-keys (folders no_files) path
    ∙ any_of path (package_paths no_files) has in
    let e = first_of (package_files no_files path) found in
    none-some e.0.1 (sym (get-empty path_cmp e.0.0) ∙ file_of no_files path e.0 e.1))
