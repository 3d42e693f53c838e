-- Names added item by item.
use Rattle.std.proofs.Common.{ℕ, ◌≡◌, ◌+◌, ◌<◌, inl, inr, Bool, true, false, not, List, sym, subst, ◌∙◌, arith}
use Rattle.std.specs.Prelude.{◌↔◌}
use Rattle.std.proofs.lemmas.Bool.{cases_lt, cases_eq, true≢false, false≢true, not-true, not_from_false, false_from_ne_true}
use Rattle.types_members.specs.MemberNames.{NameRelation, AddsMemberName, AreNamesBelow}
use Rattle.types_declared.proofs.ByteKeys.{cases_bytes}

-- no earlier item has the item's name in its definition
pub record IsFirstNamed (K : NameRelation) (item : ℕ) : Type 0 where
  pub definition : ℕ
  pub name : List ℕ
  pub named : K item definition name
  pub first : (other : ℕ) → other < item → K other definition name → ⊥

pub names_none : (K : NameRelation) (noted : ℕ → List ℕ → Bool) → ((d : ℕ) (n : List ℕ) → noted d n ≡ false) → AreNamesBelow K 0 noted
names_none K noted none = record { holds = λ i d n lt k. absurd (omega arith); only = λ d n e. absurd (false≢true (sym (none d n) ∙ e)) }

-- one more item has exactly this name
pub names_next : (K : NameRelation) (count d : ℕ) (n : List ℕ) (old new : ℕ → List ℕ → Bool) → K count d n →
    ((e : ℕ) (m : List ℕ) → K count e m → (e ≡ d) × (m ≡ n)) → AddsMemberName old new d n →
    AreNamesBelow K count old → AreNamesBelow K (count + 1) new
names_next K count d n old new is only notes h = record {
  holds = λ i e m lt k. elim (cases_lt i count) [
    | inl below ↦ elim (cases_eq e d) [
      | inl same ↦ elim (cases_bytes m n) [
        | inl alike ↦ subst (λ z. new z m ≡ true) (sym same) (subst (λ z. new d z ≡ true) (sym alike) notes.here)
        | inr unlike ↦ notes.elsewhere e m (λ a b. unlike b) ∙ h.holds i e m below k
      ]
      | inr other ↦ notes.elsewhere e m (λ a b. other a) ∙ h.holds i e m below k
    ]
    | inr ge ↦ let last : i ≡ count = omega arith in
        let at = only e m (subst (λ z. K z e m) last k) in
        subst (λ z. new z m ≡ true) (sym at.0) (subst (λ z. new d z ≡ true) (sym at.1) notes.here)
  ];
  only = λ e m t. elim (cases_eq e d) [
    | inl same ↦ elim (cases_bytes m n) [
      | inl alike ↦ (count, (omega arith, subst (λ z. K count z m) (sym same) (subst (λ z. K count d z) (sym alike) is)))
      | inr unlike ↦ let w = h.only e m (sym (notes.elsewhere e m (λ a b. unlike b)) ∙ t) in let lt : w.0 < count = w.1.0 in (w.0, (omega arith, w.1.1))
    ]
    | inr other ↦ let w = h.only e m (sym (notes.elsewhere e m (λ a b. other a)) ∙ t) in let lt : w.0 < count = w.1.0 in (w.0, (omega arith, w.1.1))
  ];
}

-- one more item has no name
pub names_skip : (K : NameRelation) (count : ℕ) (noted : ℕ → List ℕ → Bool) → ((e : ℕ) (m : List ℕ) → K count e m → ⊥) → AreNamesBelow K count noted →
    AreNamesBelow K (count + 1) noted
names_skip K count noted none h = record {
  holds = λ i e m lt k. elim (cases_lt i count) [
    | inl below ↦ h.holds i e m below k
    | inr ge ↦ let last : i ≡ count = omega arith in absurd (none e m (subst (λ z. K z e m) last k))
  ];
  only = λ e m t. let w = h.only e m t in let lt : w.0 < count = w.1.0 in (w.0, (omega arith, w.1.1));
}

-- an item whose name is new is the first of its name
pub first_if_new : (K : NameRelation) (count d : ℕ) (n : List ℕ) (noted : ℕ → List ℕ → Bool) (added : Bool) → K count d n →
    ((e : ℕ) (m : List ℕ) → K count e m → (e ≡ d) × (m ≡ n)) → added ≡ not (noted d n) →
    AreNamesBelow K count noted → (added ≡ true) ↔ IsFirstNamed K count
first_if_new K count d n noted added is only e h = (
  (λ t. record { definition = d; name = n; named = is; first = λ i lt k. true≢false (sym (h.holds i d n lt k) ∙ not-true (noted d n) (sym e ∙ t)) }),
  (λ f. let at = only f.definition f.name f.named in
      e ∙ not_from_false (noted d n) (false_from_ne_true (noted d n) (λ t. let w = h.only d n t in
      f.first w.0 w.1.0 (subst (λ z. K w.0 z f.name) (sym at.0) (subst (λ z. K w.0 d z) (sym at.1) w.1.1))))),
)
