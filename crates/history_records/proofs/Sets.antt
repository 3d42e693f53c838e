-- Whether changes of files are an edit set, by one edit, one path or one pair of paths after another.
use Rattle.std.proofs.Common.{Less, ◌≡◌, ◌||◌, ℕ, ◌+◌, ◌-◌, ◌<◌, ◌≤◌, Bool, true, false, List, [], ◌∷◌, ◌++◌}
use Rattle.std.proofs.Common.{Option, Some, None, drop, get_or, length, length-drop, take, inl, inr, refl, sym, ap, subst, ◌∙◌, arith}
use Rattle.std.specs.Prelude.{◌⊎◌, ◌↔◌, option_to_list}
use Rattle.std.specs.List.{AllByRecursion, IsDistinct, cons_option, filter_map, list_any}
use Rattle.std.specs.List.Sorted.{IsStrictlySortedBy}
use Rattle.std.proofs.lemmas.Bool.{cases_lt, false≢true}
use Rattle.std.proofs.lemmas.List.{drop_all, drop_more, get_or-map, length-map, take_all, take_more}
use Rattle.std.proofs.lemmas.List.Elements.{filter_map-append}
use Rattle.std.proofs.lemmas.Map.Keys.{IsDistinct-cons, IsDistinct-head, IsDistinct-tail, Less-from_sorted, sorted_from_all_adjacent}
use Rattle.base_edits.specs.Edits.{AreInOrder}
use Rattle.base_edits.specs.EditSet.{paths_of}
use Rattle.base_edits.specs.Fits.{new_path}
use Rattle.base_edits.specs.declared.change.FileChange.{FileChange}
use Rattle.base_edits.specs.declared.edit.Edit.{Edit}
use Rattle.base_files.specs.Workspace.{path_cmp}
use Rattle.base_files.proofs.WorkspaceLaws.{path_cmp_total}

-- ---- edits in order

-- the edits are in order exactly if those from this one on are, from this offset on
abbrev pub IsOrderLeft : List Edit → (at i : ℕ) → Type 0
IsOrderLeft edits at i = AreInOrder 0 edits ↔ AreInOrder at (drop i edits)

pub order_more : (edits : List Edit) (at i : ℕ) (e : Edit) → i < length edits → e ≡ get_or edits i e → at ≤ e.span.start → e.span.start ≤ e.span.end →
    IsOrderLeft edits at i → IsOrderLeft edits e.span.end (i + 1)
order_more edits at i e lt is low forward left =
    let next : drop i edits ≡ e ∷ drop (i + 1) edits = drop_more edits i e lt ∙ ap (λ (x : Edit). x ∷ drop (i + 1) edits) (sym is) in (
      λ all. (subst (λ (es : List Edit). AreInOrder at es) next (left.0 all)).2,
      λ rest. left.1 (subst (λ (es : List Edit). AreInOrder at es) (sym next) (low, forward, rest)),
    )

pub order_broken : (edits : List Edit) (at i : ℕ) (e : Edit) → i < length edits → e ≡ get_or edits i e → (e.span.start < at) ⊎ (e.span.end < e.span.start) →
    IsOrderLeft edits at i → AreInOrder 0 edits → ⊥
order_broken edits at i e lt is broken left all =
    let next : drop i edits ≡ e ∷ drop (i + 1) edits = drop_more edits i e lt ∙ ap (λ (x : Edit). x ∷ drop (i + 1) edits) (sym is) in
    let here = subst (λ (es : List Edit). AreInOrder at es) next (left.0 all) in
    elim broken [
      | inl low ↦ omega (arith, low, here.0)
      | inr back ↦ omega (arith, back, here.1)
    ]

pub order_end : (edits : List Edit) (at i : ℕ) → length edits ≤ i → IsOrderLeft edits at i → AreInOrder 0 edits
order_end edits at i past left = left.1 (subst (λ (es : List Edit). AreInOrder at es) (sym (drop_all i edits past)) tt)

-- ---- paths in order

-- each path comes before the next one, as far as the place
abbrev pub RisesTo : List (List ℕ) → (i : ℕ) → Type 0
RisesTo paths i = (k : ℕ) (d : List ℕ) → k + 1 < i → path_cmp (get_or paths k d) (get_or paths (k + 1) d) ≡ Less

path_at : (changed : List FileChange) (i : ℕ) (a : FileChange) (d : List ℕ) → i < length changed → a ≡ get_or changed i a →
    get_or (paths_of changed) i d ≡ a.path
path_at changed i a d lt is = get_or-map (λ (c : FileChange). c.path) changed i a d lt ∙ ap (λ (c : FileChange). c.path) (sym is)

pub next_rises : (changed : List FileChange) (i : ℕ) (a b : FileChange) → 1 ≤ i → i < length changed → a ≡ get_or changed (i - 1) a → b ≡ get_or changed i b →
    RisesTo (paths_of changed) i → path_cmp a.path b.path ≡ Less → RisesTo (paths_of changed) (i + 1)
next_rises changed i a b pos lt a_is b_is rises less k d below = elim (cases_lt (k + 1) i) [
  | inl l ↦ rises k d l
  | inr g ↦
      let at : i ≡ k + 1 = omega (arith, below, g) in
      let back : i - 1 ≡ k = omega (arith, at) in
      let first : get_or (paths_of changed) k d ≡ a.path =
      subst (λ (n : ℕ). get_or (paths_of changed) n d ≡ a.path) back (path_at changed (i - 1) a d (omega (arith, lt)) a_is) in
      let second : get_or (paths_of changed) (k + 1) d ≡ b.path =
      subst (λ (n : ℕ). get_or (paths_of changed) n d ≡ b.path) at (path_at changed i b d lt b_is) in
      ap (λ (x : List ℕ). path_cmp x (get_or (paths_of changed) (k + 1) d)) first ∙ ap (λ (x : List ℕ). path_cmp a.path x) second ∙ less
]

pub rises_end : (changed : List FileChange) (i : ℕ) → length changed ≤ i → RisesTo (paths_of changed) i → IsStrictlySortedBy path_cmp (paths_of changed)
rises_end changed i past rises =
    sorted_from_all_adjacent path_cmp_total (paths_of changed) []
    (λ k lt. rises k [] (omega (arith, past, lt, length-map changed (λ (c : FileChange). c.path))))

pub rises_stop : (changed : List FileChange) (i : ℕ) (a b : FileChange) → 1 ≤ i → i < length changed → a ≡ get_or changed (i - 1) a → b ≡ get_or changed i b →
    (path_cmp a.path b.path ≡ Less → ⊥) → IsStrictlySortedBy path_cmp (paths_of changed) → ⊥
rises_stop changed i a b pos lt a_is b_is not sorted =
    let first = path_at changed (i - 1) a a.path (omega (arith, lt)) a_is in
    let second = path_at changed i b a.path lt b_is in
    let less = Less-from_sorted path_cmp (paths_of changed) (i - 1) i a.path sorted (omega (arith, pos))
    (omega (arith, lt, length-map changed (λ (c : FileChange). c.path))) in
    not (sym (ap (λ (x : List ℕ). path_cmp x (get_or (paths_of changed) i a.path)) first ∙ ap (λ (x : List ℕ). path_cmp a.path x) second) ∙ less)

-- the same order, of the changes as they are asked for
pub less_at : (changed : List FileChange) (i : ℕ) (a b : FileChange) → a ≡ get_or changed (i - 1) a → b ≡ get_or changed i b →
    path_cmp a.path b.path ≡ path_cmp (get_or changed (i - 1) a).path (get_or changed i b).path
less_at changed i a b first second = λ k. path_cmp (first k).path (second k).path

-- ---- paths that differ

abbrev pub IsDistinctLeft : (e : List ℕ → List ℕ → Bool) → List (List ℕ) → (i : ℕ) → Type 0
IsDistinctLeft e paths i = IsDistinct e paths ↔ IsDistinct e (drop i paths)

none_more : {P : Type 0} (b c : Bool) → (c ≡ false → P) → (b || c) ≡ false → (b ≡ false) × P
none_more true c rest none = absurd (false≢true (sym none))
none_more false c rest none = (refl, rest none)

none_ties : (test : List ℕ → Bool) (paths : List (List ℕ)) → list_any test paths ≡ false → AllByRecursion (λ y. test y ≡ false) paths
none_ties test [] none = tt
none_ties test (p ∷ paths) none = none_more (test p) (list_any test paths) (λ e. none_ties test paths e) none

some_ties : (test : List ℕ → Bool) (paths : List (List ℕ)) → AllByRecursion (λ y. test y ≡ false) paths → list_any test paths ≡ false
some_ties test [] none = refl
some_ties test (p ∷ paths) none = ap (λ (b : Bool). b || list_any test paths) none.0 ∙ some_ties test paths none.1

distinct_none : (e : List ℕ → List ℕ → Bool) → IsDistinct e []
unfolding IsDistinct
distinct_none e = tt

module _ (e : List ℕ → List ℕ → Bool) (paths : List (List ℕ)) (i : ℕ) (p : List ℕ) (lt : i < length paths) (is : p ≡ get_or paths i p) where
  next_path : drop i paths ≡ p ∷ drop (i + 1) paths
  next_path = drop_more paths i p lt ∙ ap (λ (x : List ℕ). x ∷ drop (i + 1) paths) (sym is)

  -- the paths behind it, as they are asked for
  behind_it : take (length paths - (i + 1)) (drop (i + 1) paths) ≡ drop (i + 1) paths
  behind_it = take_all (length paths - (i + 1)) (drop (i + 1) paths) (omega (arith, length-drop (i + 1) paths))

  asked : list_any (e p) (drop (i + 1) paths) ≡ list_any (e p) (take (length paths - (i + 1)) (drop (i + 1) paths))
  asked = ap (λ (xs : List (List ℕ)). list_any (e p) xs) (sym behind_it)

  pub distinct_more : list_any (e p) (take (length paths - (i + 1)) (drop (i + 1) paths)) ≡ false → IsDistinctLeft e paths i → IsDistinctLeft e paths (i + 1)
  distinct_more none left = (
    λ all. IsDistinct-tail e p (drop (i + 1) paths) (subst (IsDistinct e) next_path (left.0 all)),
    λ rest. left.1 (subst (IsDistinct e) (sym next_path)
        (IsDistinct-cons e p (drop (i + 1) paths) (none_ties (e p) (drop (i + 1) paths) (asked ∙ none)) rest)),
  )

  pub distinct_not : list_any (e p) (take (length paths - (i + 1)) (drop (i + 1) paths)) ≡ true → IsDistinctLeft e paths i → IsDistinct e paths → ⊥
  distinct_not some left all =
      let here = subst (IsDistinct e) next_path (left.0 all) in
      false≢true (sym (some_ties (e p) (drop (i + 1) paths) (IsDistinct-head e p (drop (i + 1) paths) here)) ∙ asked ∙ some)

pub distinct_end : (e : List ℕ → List ℕ → Bool) (paths : List (List ℕ)) (i : ℕ) → length paths ≤ i → IsDistinctLeft e paths i → IsDistinct e paths
distinct_end e paths i past left = left.1 (subst (IsDistinct e) (sym (drop_all i paths past)) (distinct_none e))

-- ---- lists of what a function gives

one_option : {Y : Type 0} (o : Option Y) → cons_option o [] ≡ option_to_list o
one_option None = refl
one_option (Some y) = refl

pub filter_map_more : {X Y : Type 0} (f : X → Option Y) (xs : List X) (x : X) → filter_map f (xs ++ x ∷ []) ≡ filter_map f xs ++ option_to_list (f x)
filter_map_more {Y} f xs x = filter_map-append f xs (x ∷ []) ∙ ap (λ (ys : List Y). filter_map f xs ++ ys) (one_option (f x))

pub paths_more : (changed : List FileChange) (i : ℕ) (x : FileChange) (now new : List (List ℕ)) → i < length changed → x ≡ get_or changed i x →
    now ≡ filter_map (λ (c : FileChange). new_path c.fate) (take i changed) → new ≡ now ++ option_to_list (new_path x.fate) →
    new ≡ filter_map (λ (c : FileChange). new_path c.fate) (take (i + 1) changed)
paths_more changed i x now new lt is before more =
    let given = λ (c : FileChange). new_path c.fate in
    more ∙ ap (λ (ps : List (List ℕ)). ps ++ option_to_list (new_path x.fate)) before ∙ sym (filter_map_more given (take i changed) x)
    ∙ ap (λ (cs : List FileChange). filter_map given cs) (sym (take_more changed i x lt ∙ ap (λ (y : FileChange). take i changed ++ y ∷ []) (sym is)))
