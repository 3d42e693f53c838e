-- What a package reaches and what does not reach it, by marks.
use Rattle.std.proofs.Common.{ℕ, ◌≡◌, ◌<◌, inl, inr, ◌↔◌, Bool, false, not, List, length, get_or, refl, sym, ap, subst, ◌∙◌, arith}
use Rattle.std.proofs.lemmas.Bool.{cases_Bool, false≢true, true≢false}
use Rattle.std.proofs.lemmas.List.{get_or_default}
use Rattle.workspace_graph.specs.Closures.{IsBuiltOnList}
use Rattle.workspace_graph.specs.Imports.{LinkTable, AreLinked, Imports, AreImporterRows, Reaches, itself, through}
use Rattle.workspace_graph.specs.Search.{IsMarked, InvertsMarks, Visits, ListsMarked, UnmarksBelow}
use Rattle.workspace_graph.proofs.KeptImporters.{importer_below}
use Rattle.workspace_graph.proofs.Reached.{Reaches-more, reached_within, back_reaches}
use Rattle.workspace_graph.proofs.SearchSteps.{linked_below, marked_within}

-- what a flip tells
flipped_on : (old new : List Bool) → InvertsMarks old new → (q : ℕ) → q < length old → (IsMarked old q → ⊥) → IsMarked new q
flipped_on old new flips q within none = elim (cases_Bool (get_or old q false)) [
  | inl marked ↦ absurd (none marked)
  | inr clear ↦ flips.each q within ∙ ap not clear
]

flipped_off : (old new : List Bool) → InvertsMarks old new → (q : ℕ) → IsMarked old q → IsMarked new q → ⊥
flipped_off old new flips q marked also =
    true≢false (sym also ∙ flips.each q (marked_within old q marked) ∙ ap not marked)

module _ (g noted : LinkTable) (linked : AreLinked g) (back : AreImporterRows g (length g) noted) (p : ℕ) (reached barred marks : List Bool)
    (found : List ℕ) (size : length reached ≡ length g) (reaches : (q : ℕ) → IsMarked reached q ↔ Reaches g p q) (first : InvertsMarks reached barred)
    (s : Visits noted p barred found marks) where
  -- what is barred is not reached
  barred_off : (q : ℕ) → Reaches g p q → IsMarked barred q → ⊥
  barred_off q r m = flipped_off reached barred first q ((reaches q).1 r) m

  -- all that leads back within what is reached is found
  leads_back : {q r : ℕ} → Reaches g q r → r ≡ p → Reaches g p q → IsMarked marks q
  leads_back (itself h) is from = subst (IsMarked marks) (sym is) s.begun
  leads_back (through {p = q} {q = k} i rest) is from =
      let there = Reaches-more (linked_below g q k linked i) from i in
      elim (s.finds.places k (leads_back rest is there)) [
        | inl before ↦ absurd (barred_off k there before)
        | inr has ↦ (
            let within : has.0 < length found = has.1 in
            let at : get_or found has.0 0 ≡ k = get_or_default found has.0 0 k within ∙ has.2 in
            s.followed has.0 within q (subst (λ (a : ℕ). Imports noted a q) (sym at) ((back.each k q).1 (importer_below g q k i, i))))
      ]

  pub tell_back : UnmarksBelow g p marks
  tell_back = record {
    size = s.finds.size ∙ first.size ∙ size;
    back = λ q r. (
      λ m. elim (s.finds.places q m) [
        | inl before ↦ absurd (barred_off q r before)
        | inr has ↦ (
            let inside : has.0 < length found = has.1 in
            let at : get_or found has.0 0 ≡ q = get_or_default found has.0 0 q inside ∙ has.2 in
            back_reaches g noted linked back (subst (Reaches noted p) at (s.reached has.0 inside)))
      ],
      λ returns. leads_back returns refl r,
    );
    others = λ q within off. elim (cases_Bool (get_or reached q false)) [
      | inl marked ↦ (reaches q).0 marked
      | inr clear ↦ absurd (off (s.finds.kept q (flipped_on reached barred first q (omega (arith, size)) (λ k. false≢true (sym clear ∙ k)))))
    ];
  }

-- what is left where these marks are flipped
pub built_on_is : (g : LinkTable) (p : ℕ) (marks last : List Bool) (numbers : List ℕ) → UnmarksBelow g p marks → InvertsMarks marks last →
    ListsMarked last (length last) numbers → IsBuiltOnList g p numbers
built_on_is g p marks last numbers told flips held = record {
  each = λ q. (
    λ has.
        let m = ((held.each q).0 has).1 in
        let within : q < length g = omega (arith, marked_within last q m, flips.size, told.size) in
        let off : IsMarked marks q → ⊥ = λ k. flipped_off marks last flips q k m in
        let r = told.others q within off in
        (r, λ returns. off ((told.back q r).1 returns)),
    λ h.
        let within : q < length marks = omega (arith, reached_within h.0, told.size) in
        let m = flipped_on marks last flips q within (λ k. h.1 ((told.back q h.0).0 k)) in
        (held.each q).1 (marked_within last q m, m),
  );
  rising = held.rising;
}
