-- The list of meanings while it grows.
use Rattle.std.proofs.Common.{ℕ, ◌≡◌, ◌+◌, ◌<◌, ◌≤◌, inl, inr, zero, suc, List, [], ◌∷◌, ◌++◌, length, ap, sym, subst, refl, ◌∙◌, arith, MatchOption}
use Rattle.std.proofs.Common.{length-append}
use Rattle.std.specs.Prelude.{Option, Some, None, option_map, slice_get, slice_index_or}
use Rattle.std.proofs.Math.ListN.{get_or-append}
use Rattle.std.proofs.lemmas.List.{get_or_past}
use Rattle.std.proofs.Math.Seq.{get_or-append_seam}
use Rattle.std.proofs.lemmas.Bool.{cases_lt}
use Rattle.std.proofs.lemmas.Option.{none-some}
use Rattle.types_expr.specs.declared.world.Bound.{Bound}
use Rattle.types_expr.specs.World as plain
use Rattle.types_expr.specs.WorldView.{bound_of, bound_at}
use Rattle.types_declared.specs.Package.{Package}
use Rattle.types_declared.specs.MeaningOf.{IsMeaningOf}
use Rattle.types_info.specs.MeaningsView.{IsMeaningFound, AreMeaningsBelow, AreMeanings, Extends, AddsMeaning}
use Rattle.types_declared.proofs.DeclaredPaths.{get_last}

-- Lists that grow

pub extends_itself : {X : Type 0} (xs : List X) → Extends xs xs
extends_itself xs = record { longer = omega arith; keeps = λ i x e. e }

pub pushed_at : {X : Type 0} (xs ys : List X) (x : X) → ys ≡ xs ++ (x ∷ []) → slice_get ys (length xs) ≡ Some x
pushed_at xs ys x e = ap (λ z. slice_get z (length xs)) e ∙ get_last xs x

pub slice_get_some : {X : Type 0} (xs : List X) (i : ℕ) → i < length xs → (x : X) × (slice_get xs i ≡ Some x)
slice_get_some [] i lt = absurd (omega arith)
slice_get_some (x ∷ xs) zero lt = (x, refl)
slice_get_some (x ∷ xs) (suc i) lt = slice_get_some xs i (omega arith)

pub none_past : {X : Type 0} (xs : List X) (i : ℕ) → slice_get xs i ≡ None → length xs ≤ i
none_past xs i e = elim (cases_lt i (length xs)) [ inl lt ↦ let x = slice_get_some xs i lt in absurd (none-some x.0 (sym e ∙ x.1)) | inr ge ↦ ge ]

-- the meaning at an index stays when the list grows
pub bound_stays : (xs ys : List Bound) (o : Option ℕ) → Extends xs ys → ((i : ℕ) → o ≡ Some i → i < length xs) → bound_at ys o ≡ bound_at xs o
bound_stays xs ys None h within = refl
bound_stays xs ys (Some i) h within =
    let found = slice_get_some xs i (within i refl) in
    h.keeps i found.0 found.1 ∙ sym found.1

-- One more declaration

meaning_at : (p : Package) (d : ℕ) (o : Option Bound) (found : Option plain.Bound) → option_map bound_of o ≡ found → IsMeaningFound p d found →
    MatchOption o ((b : plain.Bound) → IsMeaningOf p d b → ⊥) (λ b. IsMeaningOf p d (bound_of b))
meaning_at p d None found e h = subst (IsMeaningFound p d) (sym e) h
meaning_at p d (Some b) found e h = subst (IsMeaningFound p d) (sym e) h

pub next_meaning : (p : Package) (n : ℕ) (list : List Bound) (of : List (Option ℕ)) (found : Option plain.Bound) (new_list : List Bound)
    (new_of : List (Option ℕ)) →
    AddsMeaning list of found new_list new_of → IsMeaningFound p n found → AreMeaningsBelow p n list of → AreMeaningsBelow p (n + 1) new_list new_of
next_meaning p n list of found new_list new_of a f h =
    let before : (d : ℕ) → d < n → slice_index_or new_of d None ≡ slice_index_or of d None =
    λ d lt. ap (λ z. slice_index_or z d None) a.added ∙ get_or-append of (a.place ∷ []) None d (subst (λ m. d < m) (sym h.all) lt) in
    let here : slice_index_or new_of n None ≡ a.place =
    ap (λ z. slice_index_or z n None) a.added ∙ ap (λ m. slice_index_or (of ++ (a.place ∷ [])) m None) (sym h.all) ∙ get_or-append_seam of a.place [] None in
    let size : length new_of ≡ n + 1 = ap length a.added ∙ length-append of (a.place ∷ []) ∙ ap (λ m. m + 1) h.all in
    record {
      all = size;
      within = λ d i e. elim (cases_lt d n) [
        | inl lt ↦ let l : i < length list = h.within d i (sym (before d lt) ∙ e) in omega (arith, l, a.extends.longer)
        | inr ge ↦ elim (cases_lt d (n + 1)) [
          | inl lt ↦ let same : d ≡ n = omega arith in a.within i (sym here ∙ ap (λ m. slice_index_or new_of m None) (sym same) ∙ e)
          | inr past ↦ absurd (none-some i (sym (get_or_past new_of d None (subst (λ m. m ≤ d) (sym size) past)) ∙ e))
        ]
      ];
      each = λ d lt. elim (cases_lt d n) [
        | inl below ↦ subst (λ o. MatchOption o ((b : plain.Bound) → IsMeaningOf p d b → ⊥) (λ b. IsMeaningOf p d (bound_of b)))
            (sym (ap (bound_at new_list) (before d below) ∙ bound_stays list new_list (slice_index_or of d None) a.extends (λ i e. h.within d i e)))
            (h.each d below)
        | inr ge ↦ let same : n ≡ d = omega arith in
            subst (λ m. MatchOption (bound_at new_list (slice_index_or new_of m None)) ((b : plain.Bound) → IsMeaningOf p m b → ⊥)
            (λ b. IsMeaningOf p m (bound_of b))) same
            (meaning_at p n (bound_at new_list (slice_index_or new_of n None)) found (ap (λ o. option_map bound_of (bound_at new_list o)) here ∙ a.means) f)
      ];
    }

-- the list may have more entries than the declarations need
pub bounds_stay : (p : Package) (list : List Bound) (of : List (Option ℕ)) (new_list : List Bound) (new_of : List (Option ℕ)) → Extends list new_list →
    new_of ≡ of → AreMeanings p list of →
    AreMeanings p new_list new_of
bounds_stay p list of new_list new_of x e h =
    subst (AreMeanings p new_list) (sym e) (record {
      all = h.all;
      within = λ d i is. let l : i < length list = h.within d i is in omega (arith, l, x.longer);
      each = λ d lt. subst (λ o. MatchOption o ((b : plain.Bound) → IsMeaningOf p d b → ⊥) (λ b. IsMeaningOf p d (bound_of b)))
          (sym (bound_stays list new_list (slice_index_or of d None) x (λ i is. h.within d i is))) (h.each d lt);
    })
