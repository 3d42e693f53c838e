-- Where the map that swaps two folders sends a path.
use Rattle.std.proofs.Common.{ℕ, ◌≡◌, ◌⊎◌, ◌||◌, inl, inr, Bool, true, false, cond, List, [], ◌∷◌, ◌++◌, length, drop, take, ap, refl, sym, ◌∙◌, append_assoc}
use Rattle.std.proofs.lemmas.List.{append-nil, take-append-drop}
use Rattle.std.specs.Prelude.{bytes_eq, nat_eq}
use Rattle.std.specs.Cmp.Lexicographic.{bytes_decides, same_text}
use Rattle.std.specs.List.{starts_with}
use Rattle.std.proofs.Math.Seq.{drop-append_seam, take-append_seam}
use Rattle.std.proofs.lemmas.Bool.{true≢false}
use Rattle.refactor_known.specs.Swaps.{IsBehind, is_inside, swapped}

or_true : (a b : Bool) → (a ≡ true) ⊎ (b ≡ true) → (a || b) ≡ true
or_true true b h = refl
or_true false b (inl h) = absurd (true≢false (sym h))
or_true false b (inr h) = h

or_false : (a b : Bool) → (a ≡ true → ⊥) → (b ≡ true → ⊥) → (a || b) ≡ false
or_false true b f g = absurd (f refl)
or_false false true f g = absurd (g refl)
or_false false false f g = refl

behind_test : (folder path rest : List ℕ) → IsBehind folder path rest → is_inside folder path ≡ true
behind_test folder path rest h = or_true (bytes_eq path folder) (starts_with nat_eq path (folder ++ 47 ∷ [])) (elim h.begins [
  | inl none ↦ inl ((bytes_decides path folder).1 (h.whole ∙ ap (λ r. folder ++ r) none ∙ append-nil folder))
  | inr some ↦
      let front : List ℕ = folder ++ 47 ∷ [] in
      let whole : path ≡ front ++ some.0 = h.whole ∙ ap (λ r. folder ++ r) some.1 ∙ sym (append_assoc folder (47 ∷ []) some.0) in
      let same : front ≡ take (length front) path = sym (ap (take (length front)) whole ∙ take-append_seam front some.0) in
      inr ((bytes_decides front (take (length front) path)).1 same)
])

outside_test : (folder path : List ℕ) → ((rest : List ℕ) → IsBehind folder path rest → ⊥) → is_inside folder path ≡ false
outside_test folder path none = or_false (bytes_eq path folder) (starts_with nat_eq path (folder ++ 47 ∷ []))
    (λ e. none [] (record { whole = (bytes_decides path folder).0 e ∙ sym (append-nil folder); begins = inl refl }))
    (λ e.
    let front : List ℕ = folder ++ 47 ∷ [] in
    let more : List ℕ = drop (length front) path in
    let same : front ≡ take (length front) path = same_text front (take (length front) path) (sym e) in
    none (47 ∷ more) (record {
      whole = sym (take-append-drop (length front) path) ∙ ap (λ l. l ++ more) (sym same) ∙ append_assoc folder (47 ∷ []) more;
      begins = inr (more, refl);
    }))

rest_is : (folder path rest : List ℕ) → IsBehind folder path rest → drop (length folder) path ≡ rest
rest_is folder path rest h = ap (drop (length folder)) h.whole ∙ drop-append_seam folder rest

pub goes_to : (from to path rest : List ℕ) → IsBehind from path rest → to ++ rest ≡ swapped from to path
unfolding swapped
goes_to from to path rest h =
    ap (λ r. to ++ r) (sym (rest_is from path rest h))
    ∙ sym (ap (λ t. cond t (to ++ drop (length from) path) (cond (is_inside to path) (from ++ drop (length to) path) path)) (behind_test from path rest h))

pub comes_from : (from to path rest : List ℕ) → ((rest : List ℕ) → IsBehind from path rest → ⊥) → IsBehind to path rest →
    from ++ rest ≡ swapped from to path
unfolding swapped
comes_from from to path rest out h =
    ap (λ r. from ++ r) (sym (rest_is to path rest h))
    ∙ sym (ap (λ t. cond t (from ++ drop (length to) path) path) (behind_test to path rest h))
    ∙ sym (ap (λ t. cond t (to ++ drop (length from) path) (cond (is_inside to path) (from ++ drop (length to) path) path)) (outside_test from path out))

pub stays_outside : (from to path : List ℕ) → ((rest : List ℕ) → IsBehind from path rest → ⊥) → ((rest : List ℕ) → IsBehind to path rest → ⊥) →
    path ≡ swapped from to path
unfolding swapped
stays_outside from to path out away =
    sym (ap (λ t. cond t (from ++ drop (length to) path) path) (outside_test to path away))
    ∙ sym (ap (λ t. cond t (to ++ drop (length from) path) (cond (is_inside to path) (from ++ drop (length to) path) path)) (outside_test from path out))

pub no_prefix : (folder path : List ℕ) → starts_with nat_eq path folder ≡ false → (rest : List ℕ) → IsBehind folder path rest → ⊥
no_prefix folder path e rest h =
    let same : folder ≡ take (length folder) path = sym (ap (take (length folder)) h.whole ∙ take-append_seam folder rest) in
    true≢false (sym ((bytes_decides folder (take (length folder) path)).1 same) ∙ e)
