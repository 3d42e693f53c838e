-- Sets of borrowed names, searched for any bytes, one set for each definition.
use Rattle.std.proofs.Common.{ℕ, ◌≡◌, ◌<◌, inl, inr, true, Ordering, List, length, ap, sym, subst, ◌∙◌}
use Rattle.std.specs.Prelude.{Some, slice_get}
use Rattle.std.specs.Borrow.{Bor}
use Rattle.std.specs.BTreeMap.{is_at}
use Rattle.std.specs.BTreeSet.{BTreeSet, Updates}
use Rattle.std.specs.Map.{IsKeyTest, AreApart}
use Rattle.std.specs.Set.{KeepsOthers}
use Rattle.std.specs.Cmp.Lexicographic.{slice_cmp}
use Rattle.std.specs.Ordering.{nat_cmp, is_eq, eq_by_cmp}
use Rattle.std.proofs.lemmas.Bool.{cases_Bool, cases_eq}
use Rattle.std.proofs.Math.ListN.{set}
use Rattle.types_members.specs.MemberNames.{has_name, row_has, SetsName, AddsMemberName}
use Rattle.types_declared.proofs.ByteKeys.{same_bytes}
use Rattle.types_declared.proofs.Mentioning.{get_set_same, get_set_other}

abbrev key_cmp : Bor (List ℕ) → Bor (List ℕ) → Ordering
key_cmp a b = slice_cmp nat_cmp a.now b.now

abbrev finds : List ℕ → Bor (List ℕ) → Ordering
finds name key = slice_cmp nat_cmp name key.now

finds_one : (name : List ℕ) → IsKeyTest (eq_by_cmp key_cmp) (is_at (finds name))
finds_one name x y e = ap (λ n. is_eq (slice_cmp nat_cmp n y.now)) (same_bytes name x.now e)

finds_other : (name : List ℕ) (key : Bor (List ℕ)) → (name ≡ key.now → ⊥) → AreApart (is_at (key_cmp key)) (is_at (finds name))
finds_other name key ne k e = elim (cases_Bool (is_at (finds name) k)) [
  | inl found ↦ absurd (ne (same_bytes name k.now found ∙ sym (same_bytes key.now k.now e)))
  | inr other ↦ other
]

pub sets_name : (old new : BTreeSet (Bor (List ℕ))) (key : Bor (List ℕ)) → Updates key_cmp old new key true → SetsName (has_name old) (has_name new) key.now
unfolding KeepsOthers
sets_name old new key u = record { here = u.1; elsewhere = λ n ne. u.3 (is_at (finds n)) (finds_one n) (finds_other n key ne) }

-- a name is added to the set of a definition
pub notes_in_row : (rows : List (BTreeSet (Bor (List ℕ)))) (definition : ℕ) (old new : BTreeSet (Bor (List ℕ))) (name : List ℕ) → definition < length rows →
    slice_get rows definition ≡ Some old →
    SetsName (has_name old) (has_name new) name → AddsMemberName (λ d n. row_has (slice_get rows d) n) (λ d n. row_has (slice_get (set rows definition new)
    d) n)
    definition name
notes_in_row rows definition old new name lt is s =
    let at : slice_get (set rows definition new) definition ≡ Some new = get_set_same rows definition new lt in
    record {
      here = ap (λ o. row_has o name) at ∙ s.here;
      elsewhere = λ d n ne. elim (cases_eq d definition) [
        | inl same ↦ (
            let e : row_has (slice_get (set rows definition new) definition) n ≡ row_has (slice_get rows definition) n =
            ap (λ o. row_has o n) at ∙ s.elsewhere n (λ e. ne same e) ∙ sym (ap (λ o. row_has o n) is) in
            subst (λ z. row_has (slice_get (set rows definition new) z) n ≡ row_has (slice_get rows z) n) (sym same) e)
        | inr other ↦ ap (λ o. row_has o n) (get_set_other rows definition d new other)
      ];
    }
