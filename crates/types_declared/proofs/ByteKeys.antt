-- Maps whose keys are lists of bytes, looked up by any list of bytes.
use Rattle.std.proofs.Common.{ℕ, ◌≡◌, ◌⊎◌, inl, inr, true, Ordering, List, ap, sym, ◌∙◌}
use Rattle.std.specs.Prelude.{Option}
use Rattle.std.specs.Global.{Vec}
use Rattle.std.specs.BTreeMap.{BTreeMap, get_by, is_at, Updates, UpdatesBy}
use Rattle.std.specs.Map.{KeepsOthers, IsKeyTest, AreApart}
use Rattle.std.specs.Str.{bytes_eq}
use Rattle.std.specs.Cmp.Lexicographic.{slice_cmp}
use Rattle.std.specs.Ordering.{nat_cmp, is_eq, eq_by_cmp}
use Rattle.std.proofs.lemmas.Map.Text.{is_eq-slice_cmp}
use Rattle.std.proofs.lemmas.Slice.Eq.{bytes_eq-Decides}
use Rattle.std.proofs.lemmas.Bool.{cases_Bool, true≢false}

abbrev key_cmp : Vec ℕ → Vec ℕ → Ordering
key_cmp a b = slice_cmp nat_cmp a.items b.items

abbrev finds : List ℕ → Vec ℕ → Ordering
finds path key = slice_cmp nat_cmp path key.items

pub same_bytes : (xs ys : List ℕ) → is_eq (slice_cmp nat_cmp xs ys) ≡ true → xs ≡ ys
same_bytes xs ys e = (bytes_eq-Decides xs ys).0 (sym (is_eq-slice_cmp xs ys) ∙ e)

pub cases_bytes : (xs ys : List ℕ) → (xs ≡ ys) ⊎ (xs ≡ ys → ⊥)
cases_bytes xs ys = elim (cases_Bool (bytes_eq xs ys)) [
  | inl same ↦ inl ((bytes_eq-Decides xs ys).0 same)
  | inr other ↦ inr (λ e. true≢false (sym ((bytes_eq-Decides xs ys).1 e) ∙ other))
]

finds_one : (path : List ℕ) → IsKeyTest (eq_by_cmp key_cmp) (is_at (finds path))
finds_one path x y e = ap (λ p. is_eq (slice_cmp nat_cmp p y.items)) (same_bytes path x.items e)

apart : (path other : List ℕ) → (path ≡ other → ⊥) → AreApart (is_at (finds other)) (is_at (finds path))
apart path other ne k e = elim (cases_Bool (is_at (finds path) k)) [
  | inl found ↦ absurd (ne (same_bytes path k.items found ∙ sym (same_bytes other k.items e)))
  | inr missed ↦ missed
]

-- setting the entry of some bytes keeps the entries of all other bytes
pub others_found : {X : Type 0} (old new : BTreeMap (Vec ℕ) X) (path : List ℕ) (w : Option X) → UpdatesBy key_cmp (finds path) old new w →
    (other : List ℕ) → (other ≡ path → ⊥) →
    get_by (finds other) new ≡ get_by (finds other) old
unfolding KeepsOthers
others_found old new path w u other ne = u.3 (is_at (finds other)) (finds_one other) (apart other path ne)

-- setting the entry of a key keeps the entries of all other bytes
pub others_stay : {X : Type 0} (old new : BTreeMap (Vec ℕ) X) (key : Vec ℕ) (w : Option X) → Updates key_cmp old new key w → (path : List ℕ) →
    (path ≡ key.items → ⊥) →
    get_by (finds path) new ≡ get_by (finds path) old
others_stay old new key w u path ne = others_found old new key.items w u path ne
