-- Tables by name that are built entry by entry.
use Rattle.std.proofs.Common.{ℕ, ◌≡◌, inl, inr, true, false, cond, List, ◌∷◌, ap, refl, sym, subst, ◌∙◌}
use Rattle.std.specs.Prelude.{Option, Some, None, is_some}
use Rattle.std.specs.BTreeMap.{BTreeMap, Updates, is_at}
use Rattle.std.specs.Cmp.Lexicographic.{slice_cmp}
use Rattle.std.specs.Global.{Vec}
use Rattle.std.specs.Map.{lookup}
use Rattle.std.specs.Ordering.{is_eq, nat_cmp}
use Rattle.std.proofs.lemmas.Bool.{true≢false, cases_Bool}
use Rattle.std.proofs.lemmas.Map.Text.{is_eq-slice_cmp}
use Rattle.std.proofs.lemmas.Slice.Eq.{bytes_eq-Decides}
use Rattle.types_declared.proofs.ByteKeys.{others_stay, same_bytes}
use Rattle.refactor_known.specs.Tables.{AddsRelated, AreRelated, entry_at}

pub added : {X : Type 0} (R : X → X → Type 0) (old new : BTreeMap (Vec ℕ) X) (key : Vec ℕ) (name : List ℕ) (w value : X) → key.items ≡ name →
    is_some (entry_at old name) ≡ false → Updates (λ a b. slice_cmp nat_cmp a.items b.items) old new key (Some w) → R value w →
    AddsRelated R old new name value
added R old new key name w value same none updates related = record {
  stays = λ x e. absurd (true≢false (sym (ap is_some e) ∙ none));
  comes = λ e. subst (λ o. AreRelated R (Some value) o) (sym (subst (λ n. entry_at new n ≡ Some w) same updates.1)) related;
  others = λ other ne. others_stay old new key (Some w) updates other (λ e. ne (e ∙ same));
}

pub kept : {X : Type 0} (R : X → X → Type 0) (table : BTreeMap (Vec ℕ) X) (name : List ℕ) (value : X) → is_some (entry_at table name) ≡ true →
    AddsRelated R table table name value
kept R table name value some = record {
  stays = λ x e. e;
  comes = λ e. absurd (true≢false (sym some ∙ ap is_some e));
  others = λ other ne. refl;
}

-- the entry of the new table is right, or the entry of the old one is among the rest
abbrev pub IsSoFar : {X : Type 0} → (X → X → Type 0) → (old new rest : Option X) → Type 0
IsSoFar R old (Some y) rest = AreRelated R old (Some y)
IsSoFar R old None rest = old ≡ rest

abbrev pub finds : {X : Type 0} → List ℕ → List (Vec ℕ × X) → Option X
finds name entries = lookup (is_at (λ (key : Vec ℕ). slice_cmp nat_cmp name key.items)) entries

found_new : {X : Type 0} (R : X → X → Type 0) (old new : Option X) (v : X) (rest : Option X) → old ≡ Some v → AreRelated R (Some v) new →
    IsSoFar R old new rest
found_new R old (Some y) v rest e h = subst (λ o. AreRelated R o (Some y)) (sym e) h
found_new R old None v rest e h = absurd h

here : {X : Type 0} (R : X → X → Type 0) (old before new : Option X) (v : X) (rest : Option X) → ((x : X) → before ≡ Some x → new ≡ Some x) →
    (before ≡ None → AreRelated R (Some v) new) → IsSoFar R old before (Some v) → IsSoFar R old new rest
here R old (Some y) new v rest stays comes h = subst (λ o. IsSoFar R old o rest) (sym (stays y refl)) h
here R old None new v rest stays comes h = found_new R old new v rest h (comes refl)

pub next_entry : {X : Type 0} (R : X → X → Type 0) (old : Option X) (table new : BTreeMap (Vec ℕ) X) (key : Vec ℕ) (value : X)
    (rest : List (Vec ℕ × X)) (name : List ℕ) → AddsRelated R table new key.items value → IsSoFar R old (entry_at table name) (finds name ((key, value) ∷
    rest)) →
    IsSoFar R old (entry_at new name) (finds name rest)
next_entry R old table new key value rest name adds h = elim (cases_Bool (is_eq (slice_cmp nat_cmp name key.items))) [
  | inl is ↦
      let same : name ≡ key.items = same_bytes name key.items is in
      here R old (entry_at table name) (entry_at new name) value (finds name rest)
      (λ x e. subst (λ n. entry_at new n ≡ Some x) (sym same) (adds.stays x (subst (λ n. entry_at table n ≡ Some x) same e)))
      (λ e. subst (λ n. AreRelated R (Some value) (entry_at new n)) (sym same) (adds.comes (subst (λ n. entry_at table n ≡ None) same e)))
      (subst (λ t. IsSoFar R old (entry_at table name) (cond t (Some value) (finds name rest))) is h)
  | inr not ↦
      subst (λ o. IsSoFar R old o (finds name rest)) (sym (adds.others name (other not)))
      (subst (λ t. IsSoFar R old (entry_at table name) (cond t (Some value) (finds name rest))) not h)
]
  where
    itself : (ys : List ℕ) → is_eq (slice_cmp nat_cmp ys ys) ≡ true
    itself ys = is_eq-slice_cmp ys ys ∙ (bytes_eq-Decides ys ys).1 refl

    other : is_eq (slice_cmp nat_cmp name key.items) ≡ false → name ≡ key.items → ⊥
    other not e = true≢false (sym (itself key.items) ∙ subst (λ n. is_eq (slice_cmp nat_cmp n key.items) ≡ false) e not)

pub all_entries : {X : Type 0} (R : X → X → Type 0) (old new : Option X) → IsSoFar R old new None → AreRelated R old new
all_entries R old (Some y) h = h
all_entries R old None h = subst (λ o. AreRelated R o None) (sym h) tt
