-- The results of a binary search among changes in the order of their paths.
use Rattle.std.proofs.Common.{◌≡◌, ℕ, ◌<◌, ◌≤◌, ◌+◌, List, [], ◌∷◌, length, Some, None, get_or, sym, ap, subst, ◌∙◌, ⊎_elim, arith}
use Rattle.std.specs.declared.cmp.Ordering.{Ordering}
use Rattle.std.specs.declared.cmp.Ordering.TheVariants.{Less, Equal, Greater}
use Rattle.std.specs.Ordering.{is_lt, ordering_index, ordering_reverse}
use Rattle.std.specs.Cmp.{tied_itself}
use Rattle.std.specs.List.{Contains, HoldsAt}
use Rattle.std.specs.List.Sorted.{IsStrictlySortedBy, IsNonDecreasingBy, IsPartitionPoint}
use Rattle.std.proofs.lemmas.Bool.{cases_lt}
use Rattle.std.proofs.lemmas.List.Sorted.{searchable_from_sorted}
use Rattle.std.proofs.lemmas.Map.Keys.{Less-from_sorted, sorted_head, sorted_tail}
use Rattle.std.proofs.lemmas.List.{get_or-map, length-map}
use Rattle.std.proofs.lemmas.List.Elements.{All-from_recursion, All-contains}
use Rattle.base_lemmas.proofs.Elements.{nothing_in, first_or_later, is_mapped}
use Rattle.base_lemmas.proofs.Tests.{less_differs, greater_differs}
use Rattle.base_files.specs.Workspace.{path_cmp}
use Rattle.base_files.proofs.WorkspaceLaws.{path_cmp_total, path_cmp_exact}
use Rattle.base_edits.specs.EditSet.{paths_of, change_in}
use Rattle.base_edits.specs.declared.change.FileChange.{FileChange}
use Rattle.base_edits.proofs.Entries.{none_from}
use Rattle.base_edits.proofs.Changes.{IsOneWay, change_held, change_found}

not_tied : (o : Ordering) (x y : List ℕ) → path_cmp x y ≡ o → (o ≡ Equal → ⊥) → x ≡ y → ⊥
not_tied o x y is differs same = differs (sym is ∙ ap (path_cmp x) (sym same) ∙ tied_itself path_cmp_total x)

-- ---- changes in order change each path in one way
head_apart : (c : FileChange) (cs : List FileChange) (d : FileChange) → IsStrictlySortedBy path_cmp (paths_of (c ∷ cs)) → Contains cs d → c.path ≡ d.path → ⊥
head_apart c cs d sorted has same =
    let below : path_cmp c.path d.path ≡ Less = All-contains (λ y. path_cmp c.path y ≡ Less) (paths_of cs) d.path
    (All-from_recursion (λ y. path_cmp c.path y ≡ Less) (paths_of cs) (sorted_head path_cmp c.path (paths_of cs) sorted))
    (is_mapped (λ (x : FileChange). x.path) cs d has) in
    not_tied Less c.path d.path below less_differs same

pub one_way_sorted : (cs : List FileChange) → IsStrictlySortedBy path_cmp (paths_of cs) → IsOneWay cs
one_way_sorted [] sorted one other a b same = absurd (nothing_in one a)
one_way_sorted (c ∷ cs) sorted one other a b same =
    ⊎_elim
    (λ (first : c ≡ one). ⊎_elim
    (λ (second : c ≡ other). sym first ∙ second)
    (λ (later : Contains cs other). let x : one ≡ other = absurd (head_apart c cs other sorted later (ap (λ (d : FileChange). d.path) first ∙ same)) in x)
    (first_or_later c cs other b))
    (λ (rest : Contains cs one). ⊎_elim
    (λ (second : c ≡ other). let x : one ≡ other = absurd (head_apart c cs one sorted rest (ap (λ (d : FileChange). d.path) second ∙ sym same)) in x)
    (λ (later : Contains cs other). one_way_sorted cs (sorted_tail path_cmp c.path (paths_of cs) sorted) one other rest later same)
    (first_or_later c cs other b))
    (first_or_later c cs one a)

-- ---- the search
-- how a change's path compares with another path
abbrev pub search_cmp : List ℕ → FileChange → Ordering
search_cmp path c = path_cmp c.path path

pub found_is : (cs : List FileChange) (path : List ℕ) (n : ℕ) (c : FileChange) → IsStrictlySortedBy path_cmp (paths_of cs) → n < length cs
    → HoldsAt (λ x. search_cmp path x ≡ Equal) cs n → c ≡ get_or cs n c → Some c ≡ change_in cs path
found_is cs path n c sorted within at is =
    let tied : path_cmp c.path path ≡ Equal = subst (λ (x : FileChange). path_cmp x.path path ≡ Equal) (sym is) (at c) in
    sym (change_held cs (one_way_sorted cs sorted) path c (n, within, sym is) (path_cmp_exact c.path path tied))

-- the search may go by halves
rises : (cs : List FileChange) (path : List ℕ) → IsStrictlySortedBy path_cmp (paths_of cs) → IsNonDecreasingBy (λ y. ordering_index (search_cmp path y)) cs
rises cs path sorted = searchable_from_sorted path_cmp_total (λ (c : FileChange). c.path) cs path (λ k d low within.
    let first = get_or-map (λ (c : FileChange). c.path) cs k d d.path (omega arith) in
    let second = get_or-map (λ (c : FileChange). c.path) cs (k + 1) d d.path within in
    let less = Less-from_sorted path_cmp (paths_of cs) k (k + 1) d.path sorted (omega arith)
    (subst (λ (n : ℕ). k + 1 < n) (sym (length-map cs (λ (c : FileChange). c.path))) within) in
    let here : path_cmp (get_or cs k d).path (get_or cs (k + 1) d).path ≡ Less =
    subst (λ (x : List ℕ). path_cmp x (get_or cs (k + 1) d).path ≡ Less) first
    (subst (λ (y : List ℕ). path_cmp (get_or (paths_of cs) k d.path) y ≡ Less) second less) in
    ap is_lt (path_cmp_total.antisymm (get_or cs (k + 1) d).path (get_or cs k d).path ∙ ap ordering_reverse here))

none_in : (cs : List FileChange) (path : List ℕ) (i : ℕ) (c : FileChange) →
    IsPartitionPoint (λ x. search_cmp path x ≡ Less) (λ x. search_cmp path x ≡ Greater) cs i → Contains cs c → c.path ≡ path → ⊥
none_in cs path i c split has same =
    let k = has.0 in
    let within : k < length cs = has.1 in
    let is : get_or cs k c ≡ c = has.2 in
    ⊎_elim
    (λ (h : k < i). not_tied Less c.path path (subst (λ (x : FileChange). search_cmp path x ≡ Less) is (split.0 k c (omega arith) h)) less_differs same)
    (λ (h : i ≤ k). not_tied Greater c.path path (subst (λ (x : FileChange). search_cmp path x ≡ Greater) is (split.1 k c h within)) greater_differs same)
    (cases_lt k i)

pub none_is : (cs : List FileChange) (path : List ℕ) (i : ℕ) → IsStrictlySortedBy path_cmp (paths_of cs)
    → (IsNonDecreasingBy (λ y. ordering_index (search_cmp path y)) cs →
    IsPartitionPoint (λ x. search_cmp path x ≡ Less) (λ x. search_cmp path x ≡ Greater) cs i)
    → None ≡ change_in cs path
none_is cs path i sorted found = sym (none_from (change_in cs path)
    (λ c some. let there = change_found cs path c some in none_in cs path i c (found (rises cs path sorted)) there.0 there.1))
