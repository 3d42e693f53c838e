-- Where a path stands among entries whose paths rise.
use Rattle.std.proofs.Common.{◌≡◌, ℕ, zero, suc, ◌<◌, Bool, true, false, T, IsTrue, List, [], ◌∷◌, ◌++◌, length, get_or, set, take, drop, Some, refl, sym}
use Rattle.std.proofs.Common.{ap, subst, ◌∙◌, arith, true≢false, append-nil}
use Rattle.std.specs.Ordering.{is_lt, is_eq, is_gt}
use Rattle.std.specs.declared.cmp.Ordering.{Ordering}
use Rattle.std.specs.declared.cmp.Ordering.TheVariants.{Less, Equal, Greater}
use Rattle.std.proofs.lemmas.List.{take-append-drop, take_all}
use Rattle.std.specs.FinMap.{find, put, is_sorted}
use Rattle.std.specs.FinMap.Entries.{is_sorted-put}
use Rattle.base_lemmas.proofs.Tests.{true_from_T}
use Rattle.base_files.specs.Workspace.{path_cmp}
use Rattle.base_files.proofs.WorkspaceLaws.{path_cmp_total, path_cmp_exact}
use Rattle.base_chunks.specs.Entries.{Rises, IsAfterAll, is_before, is_at}
use Rattle.base_chunks.proofs.Standing.{after_upto, after_part, is_at_at, find_there}
use Rattle.base_files.specs.Entries.{IsEntryNumber}

pub stays_sorted : {X : Type 0} (path : List ℕ) (v : X) (old new : List (List ℕ × X)) → new ≡ put path_cmp path v old → IsTrue (is_sorted path_cmp old) →
    IsTrue (is_sorted path_cmp new)
stays_sorted path v old new e h =
    ap (is_sorted path_cmp) e ∙ true_from_T _ (is_sorted-put path_cmp path_cmp_total path v old (subst T (sym h) tt))

-- a path behind the last entry is behind all
pub after_last : {X : Type 0} (path : List ℕ) (es : List (List ℕ × X)) (m : ℕ) (d : List ℕ × X) → Rises path_cmp es → suc m ≡ length es →
    is_gt (path_cmp path (get_or es m d).0) ≡ true →
    IsAfterAll path_cmp path es
after_last path es m d h last gt =
    subst (IsAfterAll path_cmp path) (take_all (suc m) es (omega arith))
    (after_upto path_cmp path_cmp_total path es m d h (omega arith) gt)

not_below : (r : Ordering) → is_eq r ≡ true → is_lt r ≡ false
not_below Less e = absurd (true≢false (sym e))
not_below Equal e = refl
not_below Greater e = absurd (true≢false (sym e))

not_before : {X : Type 0} (path : List ℕ) (es : List (List ℕ × X)) → is_at path_cmp path es ≡ true → is_before path_cmp path es ≡ false
not_before path [] h = absurd (true≢false (sym h))
not_before path (e ∷ es) h = not_below (path_cmp path e.0) h

some_left : {X : Type 0} (path : List ℕ) (es : List (List ℕ × X)) → is_at path_cmp path es ≡ true → 0 < length es
some_left path [] h = absurd (true≢false (sym h))
some_left path (e ∷ es) h = omega arith

-- where the n-th entry is that of the path, those before it stand before the path
pub number_at : {X : Type 0} (path : List ℕ) (es : List (List ℕ × X)) (n : ℕ) → Rises path_cmp es → n < length es →
    is_at path_cmp path (drop n es) ≡ true → IsEntryNumber path es n
number_at path es n h within here = record {
  within = within;
  front = after_part path_cmp path_cmp_total path (take n es) (drop n es) []
      (subst (Rises path_cmp) (sym (ap (λ xs. take n es ++ xs) (append-nil (drop n es)) ∙ take-append-drop n es)) h)
      (some_left path (drop n es) here) (not_before path (drop n es) here);
  here = here;
}

pub tied : (r : Ordering) → is_eq r ≡ true → r ≡ Equal
tied Less h = absurd (true≢false (sym h))
tied Equal h = refl
tied Greater h = absurd (true≢false (sym h))

-- the n-th entry has the path
pub number_path : {X : Type 0} (path : List ℕ) (es : List (List ℕ × X)) (n : ℕ) (d : List ℕ × X) → IsEntryNumber path es n → (get_or es n d).0 ≡ path
number_path path es n d h =
    sym (path_cmp_exact path (get_or es n d).0
    (tied (path_cmp path (get_or es n d).0) (sym (is_at_at path_cmp path es n d h.within) ∙ h.here)))

-- The value of the n-th entry is the one found at its path.
pub number_value : {X : Type 0} (path : List ℕ) (es : List (List ℕ × X)) (n : ℕ) (d : List ℕ × X) → IsEntryNumber path es n →
    find path_cmp path es ≡ Some (get_or es n d).1
number_value path es n d h = find_there path_cmp path es n d h.front h.here

-- an item in the place of the m-th
pub set_parts : {X : Type 0} (es : List X) (m : ℕ) (y : X) → m < length es → set es m y ≡ take m es ++ y ∷ drop (suc m) es
set_parts [] m y lt = absurd (omega arith)
set_parts (e ∷ es) zero y lt = refl
set_parts (e ∷ es) (suc m) y lt = ap (λ fs. e ∷ fs) (set_parts es m y (omega arith))
