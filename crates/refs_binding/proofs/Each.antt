-- Lists of a given length, each element of which has a property.
use Rattle.std.proofs.Common.{arith, ℕ, ◌≡◌, ◌<◌, ◌+◌, ◌++◌, inl, inr, List, [], ◌∷◌, length, ap, sym, subst, ◌∙◌}
use Rattle.std.specs.Prelude.{slice_get}
use Rattle.std.proofs.lemmas.Bool.{cases_lt}
use Rattle.std.proofs.lemmas.List.{length_push}
use Rattle.std.proofs.lemmas.Option.{same_Some, slice_get_within}
use Rattle.types_info.proofs.MeaningLists.{pushed_at}
use Rattle.types_declared.proofs.DeclaredPaths.{get_before}
use Rattle.refs_binding.specs.Packages.{HoldsOfEach}

pub none_yet : {X : Type 0} (P : ℕ → X → Type 0) (list : List X) → list ≡ [] → HoldsOfEach P 0 list
none_yet P list e = record {
  size = ap length e;
  each = λ n x at. let lt : n < length list = slice_get_within list n x at in let z : length list ≡ 0 = ap length e in absurd (omega arith);
}

pub one_more : {X : Type 0} (P : ℕ → X → Type 0) (count : ℕ) (old new : List X) (x : X) → new ≡ old ++ (x ∷ []) → P count x → HoldsOfEach P count old →
    HoldsOfEach P (count + 1) new
one_more P count old new x e is h = record {
  size = ap length e ∙ length_push old x ∙ ap (λ n. n + 1) h.size;
  each = λ n y has. elim (cases_lt n count) [
    | inl below ↦ h.each n y (sym (get_before old x n (subst (λ m. n < m) (sym h.size) below)) ∙ ap (λ l. slice_get l n) (sym e) ∙ has)
    | inr ge ↦ (
        let lt : n < length new = slice_get_within new n y has in
        let size : length new ≡ count + 1 = ap length e ∙ length_push old x ∙ ap (λ m. m + 1) h.size in
        let here : n ≡ count = omega arith in
        let same : x ≡ y = same_Some x y (sym (pushed_at old new x e) ∙ ap (slice_get new) (h.size ∙ sym here) ∙ has) in
        subst (P n) same (subst (λ m. P m x) (sym here) is))
  ];
}
