-- The places that lie in one file, among places that are sorted.
use Rattle.std.proofs.Common.{ℕ, ◌≡◌, ◌+◌, ◌-◌, ◌<◌, ◌≤◌, ◌⊎◌, inl, inr, Bool, true, false, List, length, get_or, drop, refl, sym, ap, subst, ◌∙◌, arith}
use Rattle.std.proofs.Common.{length-drop, length-take}
use Rattle.std.specs.Prelude.{Contains}
use Rattle.std.specs.List.{slice_range, AllWithin, HoldsAt}
use Rattle.std.specs.List.Sorted.{IsStrictlySortedBy, IsPartitionedBy, IsPartitionPoint}
use Rattle.std.specs.declared.cmp.Ordering.{Ordering}
use Rattle.std.specs.declared.cmp.Ordering.TheVariants.{Less, Equal, Greater}
use Rattle.std.specs.Ordering.{MatchOrdering, nat_cmp, is_lt, ordering_index, ordering_then}
use Rattle.std.specs.Cmp.{ranked, tied_itself}
use Rattle.std.proofs.lemmas.Bool.{cases_lt, cases_eq, cases_Bool, true≢false, false≢true}
use Rattle.std.proofs.lemmas.List.{get_or-take, get_or-drop, get_or_default}
use Rattle.std.proofs.lemmas.Map.Keys.{Less-from_sorted}
use Rattle.base_files.specs.Workspace.{path_cmp}
use Rattle.base_files.specs.declared.place.Place.{Place}
use Rattle.base_files.proofs.WorkspaceLaws.{path_cmp_total, path_cmp_exact}
use Rattle.refs_binding.specs.Places.{place_cmp}
use Rattle.refactor_rename.specs.Here.{before, ArePlacesIn, OffsetsRise}
use Rattle.refactor_rename.proofs.Searching.{rises}

-- before a file's first place is before the file

not_less : (n : ℕ) (o : Ordering) → MatchOrdering o (n < 0) (n ≡ 0) (0 < n) → is_lt o ≡ false
not_less n Less lt = absurd (omega arith)
not_less n Equal e = refl
not_less n Greater gt = refl

then_first : (n : ℕ) (o : Ordering) → is_lt (ordering_then o (nat_cmp n 0)) ≡ is_lt o
then_first n Less = refl
then_first n Equal = not_less n (nat_cmp n 0) (ranked n 0 (nat_cmp n 0) refl)
then_first n Greater = refl

abbrev first_place : List ℕ → Place
first_place path = record { path = path; offset = 0 }

least : (o : Ordering) → is_lt o ≡ true → ordering_index o ≡ 0
least Less e = refl
least Equal e = absurd (false≢true e)
least Greater e = absurd (false≢true e)

is_least : (o : Ordering) → ordering_index o ≤ 0 → is_lt o ≡ true
is_least Less h = refl
is_least Equal h = absurd (omega arith)
is_least Greater h = absurd (omega arith)

pub parted : (ps : List Place) (path : List ℕ) → IsStrictlySortedBy place_cmp ps → IsPartitionedBy (before path) ps
parted ps path sorted i j d le lt e =
    let x = get_or ps i d in
    let y = get_or ps j d in
    let up = rises ps (first_place path) sorted i j d le lt in
    let zero_at = least (place_cmp y (first_place path)) (then_first y.offset (path_cmp y.path path) ∙ e) in
    sym (then_first x.offset (path_cmp x.path path)) ∙ is_least (place_cmp x (first_place path)) (omega arith)

-- If the test is true just below an index, it is true of all below it.
pub tells_before : (p : Place → Bool) (ps : List Place) (n : ℕ) (x : Place) → IsPartitionedBy p ps → n ≤ length ps → (n ≡ 0 → ⊥) →
    x ≡ get_or ps (n - 1) x → p x ≡ true → AllWithin (λ y. p y ≡ true) ps 0 n
tells_before p ps n x parted le some is holds k d from lt =
    let last : n - 1 < length ps = omega arith in
    let at : get_or ps (n - 1) d ≡ x = get_or_default ps (n - 1) d x last ∙ sym is in
    parted k (n - 1) d (omega arith) last (subst (λ y. p y ≡ true) (sym at) holds)

-- If the test is false at an index, it is false of all from it on.
pub tells_behind : (p : Place → Bool) (ps : List Place) (n : ℕ) (x : Place) → IsPartitionedBy p ps → n < length ps → x ≡ get_or ps n x → p x ≡ false →
    AllWithin (λ y. p y ≡ false) ps n (length ps)
tells_behind p ps n x parted inside is fails k d from lt =
    let at : get_or ps n d ≡ x = get_or_default ps n d x inside ∙ sym is in
    elim (cases_Bool (p (get_or ps k d))) [
      | inl passes ↦ absurd (true≢false (sym (subst (λ y. p y ≡ true) at (parted n k d from lt passes)) ∙ fails))
      | inr fails_here ↦ fails_here
    ]

-- where the places in the file at a path begin and end
pub record IsRun (ps : List Place) (path : List ℕ) (first end : ℕ) : Type 0 where
  pub point : IsPartitionPoint (λ p. before path p ≡ true) (λ p. before path p ≡ false) ps first
  pub rising : first ≤ end
  pub within : end ≤ length ps
  pub same : AllWithin (λ p. p.path ≡ path) ps first end
  pub stops : end < length ps → HoldsAt (λ p. p.path ≡ path → ⊥) ps end

-- one more place is in the file
pub one_more : (ps : List Place) (path : List ℕ) (first end : ℕ) (x : Place) → end < length ps → x ≡ get_or ps end x → x.path ≡ path →
    AllWithin (λ p. p.path ≡ path) ps first end → AllWithin (λ p. p.path ≡ path) ps first (end + 1)
one_more ps path first end x inside is here h k d from lt = elim (cases_lt k end) [
  | inl below ↦ h k d from below
  | inr ge ↦ (
      let same : k ≡ end = omega arith in
      ap (λ n. (get_or ps n d).path) same ∙ ap (λ (p : Place). p.path) (get_or_default ps end d x inside ∙ sym is) ∙ here)
]

less_or_equal : (o n : Ordering) → ordering_then o n ≡ Less → (is_lt o ≡ true) ⊎ (o ≡ Equal)
less_or_equal Less n e = inl refl
less_or_equal Equal n e = inr refl
less_or_equal Greater n e = absurd (false≢true (ap is_lt e))

offset_less : (a b : Place) (path : List ℕ) → a.path ≡ path → b.path ≡ path → place_cmp a b ≡ Less → a.offset < b.offset
offset_less a b path p q e =
    let tied : path_cmp a.path b.path ≡ Equal = ap (path_cmp a.path) (q ∙ sym p) ∙ tied_itself path_cmp_total a.path in
    let less : nat_cmp a.offset b.offset ≡ Less = subst (λ o. ordering_then o (nat_cmp a.offset b.offset) ≡ Less) tied e in
    ranked a.offset b.offset Less (sym less)

module _ (ps : List Place) (sorted : IsStrictlySortedBy place_cmp ps) (path : List ℕ) (first end : ℕ) (run : IsRun ps path first end) where
  abbrev here : List Place
  here = slice_range ps first end

  size : length here ≡ end - first
  size = let h = run.within in let le = run.rising in grind (arith, length-take, length-drop)

  in_run : (k : ℕ) (d : Place) → k < end - first → get_or here k d ≡ get_or ps (first + k) d
  in_run k d lt = get_or-take (end - first) (drop first ps) k d lt ∙ get_or-drop first ps k d

  -- no other place lies there
  from_first : (p : Place) (has : Contains ps p) → p.path ≡ path → first ≤ has.0
  from_first p has same = elim (cases_lt has.0 first) [
    | inl lt ↦ (
        let less : before path p ≡ true = subst (λ x. before path x ≡ true) has.2 (run.point.0 has.0 p (omega arith) lt) in
        absurd (true≢false (sym less ∙ ap is_lt (ap (λ q. path_cmp q path) same ∙ tied_itself path_cmp_total path))))
    | inr ge ↦ ge
  ]

  no_later : (p : Place) (n : ℕ) → end < n → n < length ps → get_or ps n p ≡ p → p.path ≡ path → ⊥
  no_later p n lt inside at same =
      let le = run.rising in
      let x = get_or ps end p in
      let less : place_cmp x p ≡ Less = subst (λ y. place_cmp x y ≡ Less) at (Less-from_sorted place_cmp ps end n p sorted lt inside) in
      elim (less_or_equal (path_cmp x.path p.path) (nat_cmp x.offset p.offset) less) [
        | inl before_path ↦ true≢false (sym (subst (λ q. is_lt (path_cmp x.path q) ≡ true) same before_path) ∙ run.point.1 end p le (omega arith))
        | inr equal ↦ run.stops (omega arith) p (path_cmp_exact x.path p.path equal ∙ same)
      ]

  to_end : (p : Place) (has : Contains ps p) → p.path ≡ path → has.0 < end
  to_end p has same = elim (cases_lt has.0 end) [
    | inl lt ↦ lt
    | inr ge ↦ elim (cases_eq has.0 end) [
      | inl e ↦ (
          let inside : has.0 < length ps = has.1 in
          absurd (run.stops (subst (λ n. n < length ps) e inside) p (ap (λ (x : Place). x.path) (ap (λ n. get_or ps n p) (sym e) ∙ has.2) ∙ same)))
      | inr other ↦ absurd (no_later p has.0 (omega arith) has.1 has.2 same)
    ]
  ]

  to_all : (p : Place) → Contains here p → Contains ps p × (p.path ≡ path)
  to_all p h =
      let within = run.within in
      let le = run.rising in
      let lt : h.0 < end - first = (let l : h.0 < length here = h.1 in omega (arith, l, size)) in
      let at : get_or ps (first + h.0) p ≡ p = sym (in_run h.0 p lt) ∙ h.2 in
      ((first + h.0, omega arith, at), ap (λ (x : Place). x.path) (sym at) ∙ run.same (first + h.0) p (omega arith) (omega arith))

  from_all : (p : Place) → Contains ps p × (p.path ≡ path) → Contains here p
  from_all p h =
      let from = from_first p h.0 h.1 in
      let to = to_end p h.0 h.1 in
      let k : ℕ = h.0.0 - first in
      let lt : k < end - first = omega arith in
      let back : first + k ≡ h.0.0 = omega arith in
      (k, omega (arith, lt, size), in_run k p lt ∙ ap (λ n. get_or ps n p) back ∙ h.0.2)

  pub are_in : (found : List Place) → found ≡ slice_range ps first end → ArePlacesIn ps path found
  are_in found e = subst (ArePlacesIn ps path) (sym e) (λ p. (to_all p, from_all p))

  rise : OffsetsRise here
  rise i j d lt inside =
      let within = run.within in
      let le = run.rising in
      let to : j < end - first = omega (arith, inside, size) in
      let from : i < end - first = omega arith in
      let less = Less-from_sorted place_cmp ps (first + i) (first + j) d sorted (omega arith) (omega arith) in
      let x = get_or ps (first + i) d in
      let y = get_or ps (first + j) d in
      let offsets : x.offset < y.offset =
      offset_less x y path (run.same (first + i) d (omega arith) (omega arith)) (run.same (first + j) d (omega arith) (omega arith)) less in
      subst (λ (a : Place). a.offset < (get_or here j d).offset) (sym (in_run i d from))
      (subst (λ (b : Place). x.offset < b.offset) (sym (in_run j d to)) offsets)

  pub offsets_rise : (found : List Place) → found ≡ slice_range ps first end → OffsetsRise found
  offsets_rise found e = subst OffsetsRise (sym e) rise
