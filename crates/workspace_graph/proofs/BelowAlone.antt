-- The packages on which a package builds, where it reaches none of its importers: all that it reaches but itself.
use Rattle.std.proofs.Common.{ℕ, ◌≡◌, ◌+◌, ◌-◌, ◌<◌, ◌↔◌, ◌⊎◌, inl, inr, ⊎_elim, Bool, true, false, List, [], ◌∷◌, ◌++◌, length, get_or, take, replicate}
use Rattle.std.proofs.Common.{refl, sym, ap, subst, ◌∙◌, arith}
use Rattle.std.specs.List.{Contains}
use Rattle.std.specs.List.Sorted.{IsStrictlyIncreasing}
use Rattle.std.proofs.Math.ListN.{set}
use Rattle.std.proofs.lemmas.Bool.{cases_eq, false≢true}
use Rattle.std.proofs.lemmas.List.{get_or-set_other, get_or-set_same, get_or-take, get_or_default, length-replicate, length-take-le, take_more}
use Rattle.std.proofs.lemmas.List.Elements.{Contains-append_left, Contains-push, Contains-push_cases}
use Rattle.base_lemmas.proofs.Elements.{nothing_in}
use Rattle.workspace_graph.specs.Closures.{IsBuiltOnList}
use Rattle.workspace_graph.specs.Imports.{AreImporterRows, LinkTable, Imports, Reaches, row_of, itself, through}
use Rattle.workspace_graph.specs.Search.{ListsMarked, IsMarked, MarksWayBack}
use Rattle.workspace_graph.proofs.KeptImporters.{importer_below}
use Rattle.workspace_graph.proofs.OrderedPackages.{rising_by, rising_push}
use Rattle.workspace_graph.proofs.Reached.{Reaches-trans, none_in}
use Rattle.workspace_graph.proofs.SearchSteps.{marked_within}

-- ---- numbers that rise, without one
-- those that were taken are below the next
taken_below : (ns : List ℕ) (k q : ℕ) → IsStrictlyIncreasing ns → k < length ns → Contains (take k ns) q → q < get_or ns k 0
taken_below ns k q up lt has =
    let long = length-take-le k ns (omega arith) in
    let before : has.0 < k = omega (arith, long, has.1) in
    let is : get_or ns has.0 0 ≡ q = get_or_default ns has.0 0 q (omega (arith, before, lt)) ∙ sym (get_or-take k ns has.0 q before) ∙ has.2 in
    let less = rising_by ns up (k - (has.0 + 1)) has.0 k (omega (arith, before)) lt in
    omega (arith, less, is)

pub record IsWithout (ns : List ℕ) (one k : ℕ) (rest : List ℕ) : Type 0 where
  pub each : (q : ℕ) → Contains rest q ↔ (Contains (take k ns) q × (q ≡ one → ⊥))
  pub rising : IsStrictlyIncreasing rest

pub without_none : (ns : List ℕ) (one : ℕ) (rest : List ℕ) → rest ≡ [] → IsWithout ns one 0 rest
without_none ns one rest empty = subst (IsWithout ns one 0) (sym empty) (record {
  each = λ q. (λ has. absurd (nothing_in q has), λ h. absurd (nothing_in q h.0));
  rising = λ k h. absurd (omega (arith, h));
})

pub without_more : (ns : List ℕ) (one k : ℕ) (rest : List ℕ) (n : ℕ) → IsStrictlyIncreasing ns → k < length ns → n ≡ get_or ns k 0 → (n ≡ one → ⊥) →
    IsWithout ns one k rest → IsWithout ns one (k + 1) (rest ++ n ∷ [])
without_more ns one k rest n up lt is other so = record {
  each = λ q. (
    λ has. ⊎_elim
        (λ (old : Contains rest q).
        let h = (so.each q).0 old in (subst (λ (l : List ℕ). Contains l q) (sym more) (Contains-append_left (take k ns) (n ∷ []) q h.0), h.1))
        (λ (here : n ≡ q). (
          subst (Contains (take (k + 1) ns)) here (subst (λ (l : List ℕ). Contains l n) (sym more) (Contains-push (take k ns) n)),
          λ same. other (here ∙ same),
        ))
        (Contains-push_cases rest n q has),
    λ h. ⊎_elim
        (λ (old : Contains (take k ns) q). Contains-append_left rest (n ∷ []) q ((so.each q).1 (old, h.1)))
        (λ (here : n ≡ q). subst (Contains (rest ++ n ∷ [])) here (Contains-push rest n))
        (Contains-push_cases (take k ns) n q (subst (λ (l : List ℕ). Contains l q) more h.0)),
  );
  rising = rising_push rest n so.rising (λ q has.
      let below = taken_below ns k q up lt ((so.each q).0 has).0 in
      omega (arith, below, is));
}
  where
    more : take (k + 1) ns ≡ take k ns ++ n ∷ []
    more = take_more ns k 0 lt ∙ ap (λ (m : ℕ). take k ns ++ m ∷ []) (sym is)

pub without_skip : (ns : List ℕ) (one k : ℕ) (rest : List ℕ) (n : ℕ) → k < length ns → n ≡ get_or ns k 0 → n ≡ one → IsWithout ns one k rest →
    IsWithout ns one (k + 1) rest
without_skip ns one k rest n lt is same so = record {
  each = λ q. (
    λ has. let h = (so.each q).0 has in (subst (λ (l : List ℕ). Contains l q) (sym more) (Contains-append_left (take k ns) (n ∷ []) q h.0), h.1),
    λ h. ⊎_elim
        (λ (old : Contains (take k ns) q). (so.each q).1 (old, h.1))
        (λ (here : n ≡ q). absurd (h.1 (sym here ∙ same)))
        (Contains-push_cases (take k ns) n q (subst (λ (l : List ℕ). Contains l q) more h.0)),
  );
  rising = so.rising;
}
  where
    more : take (k + 1) ns ≡ take k ns ++ n ∷ []
    more = take_more ns k 0 lt ∙ ap (λ (m : ℕ). take k ns ++ m ∷ []) (sym is)

-- ---- marks
pub one_marked : (count n : ℕ) (marks new : List Bool) → marks ≡ replicate count false → n < count → new ≡ set marks n true → (q : ℕ) →
    IsMarked new q ↔ (q ≡ n)
one_marked count n marks new clear lt is q =
    let within : n < length marks = (let size = ap length clear ∙ length-replicate count false in omega (arith, size, lt)) in (
      λ m. elim (cases_eq q n) [
        | inl same ↦ same
        | inr other ↦ absurd (none_in marks count clear q
            (sym (get_or-set_other marks n q true false other) ∙ ap (λ (l : List Bool). get_or l q false) (sym is) ∙ m))
      ],
      λ same. ap (λ (l : List Bool). get_or l q false) is ∙ ap (λ (k : ℕ). get_or (set marks n true) k false) same
          ∙ get_or-set_same marks n true false within,
    )

pub marked_without : (marks last : List Bool) (one : ℕ) (rest : List ℕ) → one < length marks → last ≡ set marks one false →
    ListsMarked last (length last) rest → (q : ℕ) → Contains rest q ↔ (IsMarked marks q × (q ≡ one → ⊥))
marked_without marks last one rest within is held q = (
  λ has.
      let m : IsMarked (set marks one false) q = subst (λ (l : List Bool). IsMarked l q) is ((held.each q).0 has).1 in
      let other : q ≡ one → ⊥ = λ same. false≢true (sym (get_or-set_same marks one false false within)
      ∙ subst (λ (k : ℕ). IsMarked (set marks one false) k) same m) in
      (sym (get_or-set_other marks one q false false other) ∙ m, other),
  λ h.
      let m : IsMarked last q = subst (λ (l : List Bool). IsMarked l q) (sym is) (get_or-set_other marks one q false false h.1 ∙ h.0) in
      (held.each q).1 (marked_within last q m, m),
)

-- ---- the way back
-- one that reaches another is it, or reaches what imports it
pub last_step : {g : LinkTable} {q p : ℕ} → Reaches g q p → (q ≡ p) ⊎ ((r : ℕ) × Reaches g q r × Imports g r p)
last_step (itself h) = inl refl
last_step {g} (through {p = q} {q = k} i rest) = elim (last_step rest) [
  | inl same ↦ inr (q, itself (importer_below g q k i), subst (Imports g q) same i)
  | inr more ↦ inr (more.0, through i more.1, more.2)
]

-- none of the importers that are noted
pub no_importer : (g noted : LinkTable) (p : ℕ) (row : List ℕ) → AreImporterRows g (length g) noted → row ≡ row_of noted p → (P : ℕ → Type 0) →
    ((q : ℕ) → Contains row q → P q → ⊥) → (r : ℕ) → Imports g r p → P r → ⊥
no_importer g noted p row held is P none r imports has =
    none r (subst (λ (l : List ℕ). Contains l r) (sym is) ((held.each p r).1 (importer_below g r p imports, imports))) has

-- P tells what the package reaches
module _ (g : LinkTable) (p : ℕ) (P : ℕ → Type 0) (is : (q : ℕ) → P q ↔ Reaches g p q) (within : p < length g)
    (none : (r : ℕ) → Imports g r p → P r → ⊥) where
  pub none_back : (q : ℕ) → Reaches g p q → Reaches g q p → q ≡ p
  none_back q there back = elim (last_step back) [
    | inl same ↦ same
    | inr more ↦ absurd (none more.0 more.2 ((is more.0).1 (Reaches-trans there more.1)))
  ]

  -- just the one mark tells what reaches it
  pub back_alone : (marks : List Bool) → ((q : ℕ) → IsMarked marks q ↔ (q ≡ p)) → MarksWayBack g p marks
  back_alone marks each q there = (
    λ m. subst (λ k. Reaches g k p) (sym ((each q).0 m)) (itself within),
    λ back. (each q).1 (none_back q there back),
  )

  pub built_on_rest : (rest : List ℕ) → ((q : ℕ) → Contains rest q ↔ (P q × (q ≡ p → ⊥))) → IsStrictlyIncreasing rest → IsBuiltOnList g p rest
  built_on_rest rest each up = record {
    each = λ q. (
      λ has. let h = (each q).0 has in let there = (is q).0 h.0 in (there, λ back. h.1 (none_back q there back)),
      λ h. (each q).1 ((is q).1 h.0, λ same. h.1 (subst (λ k. Reaches g k p) (sym same) (itself within))),
    );
    rising = up;
  }
