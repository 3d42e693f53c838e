-- Lists of numbers that a loop changes in place, from an index on.
use Rattle.std.proofs.Common.{◌≡◌, ◌≢◌, ℕ, ◌+◌, ◌-◌, ◌<◌, ◌≤◌, ◌⊎◌, inl, inr, ⊎_elim, List, ◌++◌, length, get_or, map, take, drop, refl, sym, ap, subst, ◌∙◌}
use Rattle.std.proofs.Common.{arith, get_or-set_other, get_or-set_same, length-drop}
use Rattle.std.specs.List.{All}
use Rattle.std.proofs.Math.ListN.{set}
use Rattle.std.proofs.lemmas.Bool.{cases_lt}
use Rattle.std.proofs.lemmas.List.{drop_at, ext_get_or, get_or-append_right, get_or-drop, get_or-map, get_or-take, get_or_append_left}
use Rattle.std.proofs.lemmas.List.{length-append, length-map, length-set, length-take-le, take_at}

-- each number from one index up to another was replaced by what f makes of it
pub record AreReplacedBy (f : ℕ → ℕ) (begin index : ℕ) (old new : List ℕ) : Type 0 where
  pub from : begin ≤ index
  pub size : length new ≡ length old
  pub kept : (k : ℕ) → (k < begin) ⊎ (index ≤ k) → get_or new k 0 ≡ get_or old k 0
  pub changed : (k : ℕ) → begin ≤ k → k < index → get_or new k 0 ≡ f (get_or old k 0)

pub replaced_none : (f : ℕ → ℕ) (begin : ℕ) (old : List ℕ) → AreReplacedBy f begin begin old old
replaced_none f begin old = record {
  from = omega arith;
  size = refl;
  kept = λ k out. refl;
  changed = λ k low high. absurd (omega (arith, low, high));
}

pub replaced_more : (f : ℕ → ℕ) (begin index : ℕ) (old new : List ℕ) (y : ℕ) → index < length new → y ≡ f (get_or new index 0) →
    AreReplacedBy f begin index old new → AreReplacedBy f begin (index + 1) old (set new index y)
replaced_more f begin index old new y within is so = record {
  from = omega (arith, so.from);
  size = length-set new index y ∙ so.size;
  kept = λ k out. ⊎_elim
      (λ (l : k < begin).
      let ne : k ≢ index = omega (arith, l, so.from) in
      get_or-set_other new index k y 0 ne ∙ so.kept k (inl l))
      (λ (g : index + 1 ≤ k).
      let ne : k ≢ index = omega (arith, g) in
      get_or-set_other new index k y 0 ne ∙ so.kept k (inr (omega (arith, g))))
      out;
  changed = λ k low high. ⊎_elim
      (λ (l : k < index).
      let ne : k ≢ index = omega (arith, l) in
      get_or-set_other new index k y 0 ne ∙ so.changed k low l)
      (λ (g : index ≤ k).
      let e : k ≡ index = omega (arith, g, high) in
      ap (λ n. get_or (set new index y) n 0) e ∙ get_or-set_same new index y 0 within ∙ is ∙ ap f (so.kept index (inr (omega arith)))
      ∙ ap (λ n. f (get_or old n 0)) (sym e))
      (cases_lt k index);
}

-- the next one is as it was
pub replaced_next : (P : ℕ → Type 0) (f : ℕ → ℕ) (begin index : ℕ) (old new : List ℕ) → AreReplacedBy f begin index old new → index < length new →
    All P (drop begin old) → P (get_or new index 0)
replaced_next P f begin index old new so within all =
    let long = length-drop begin old in
    let e : begin + (index - begin) ≡ index = omega (arith, so.from) in
    let inside : index - begin < length (drop begin old) = omega (arith, long, within, so.size, so.from) in
    subst P (get_or-drop begin old (index - begin) 0 ∙ ap (λ n. get_or old n 0) e ∙ sym (so.kept index (inr (omega arith)))) (all (index - begin) 0 inside)

pub replaced_all : (f : ℕ → ℕ) (begin index : ℕ) (old new : List ℕ) → begin ≤ length old → length new ≤ index → AreReplacedBy f begin index old new →
    new ≡ take begin old ++ map f (drop begin old)
replaced_all f begin index old new low end so =
    ext_get_or 0 new (front ++ back) (omega (arith, so.size, size, first, second, low)) (λ k within. ⊎_elim
    (λ (l : k < begin). so.kept k (inl l) ∙ sym (get_or_append_left front back 0 k (omega (arith, l, first)) ∙ get_or-take begin old k 0 l))
    (λ (g : begin ≤ k).
    let e : begin + (k - begin) ≡ k = omega (arith, g) in
    let inside : k - begin < length (drop begin old) = omega (arith, g, within, so.size, rest) in
    so.changed k g (omega (arith, within, end)) ∙ sym (get_or-append_right front back begin k 0 first g
    ∙ get_or-map f (drop begin old) (k - begin) 0 0 inside ∙ ap f (get_or-drop begin old (k - begin) 0 ∙ ap (λ n. get_or old n 0) e)))
    (cases_lt k begin))
  where
    front : List ℕ
    front = take begin old

    back : List ℕ
    back = map f (drop begin old)

    rest : length (drop begin old) ≡ length old - begin
    rest = length-drop begin old

    first : length front ≡ begin
    first = length-take-le begin old low

    second : length back ≡ length old - begin
    second = length-map (drop begin old) f ∙ rest

    size : length (front ++ back) ≡ length front + length back
    size = length-append front back

-- ---- numbers that were added at the end, and then changed
module _ (f : ℕ → ℕ) (old row middle : List ℕ) (begin : ℕ) (long : length old ≡ begin) (added : middle ≡ old ++ row) where
  added_rest : drop begin middle ≡ row
  added_rest = ap (drop begin) added ∙ drop_at old row begin long

  pub added_changed : (new : List ℕ) → new ≡ take begin middle ++ map f (drop begin middle) → new ≡ old ++ map f row
  added_changed new is = is ∙ ap (λ l. l ++ map f (drop begin middle)) (ap (take begin) added ∙ take_at old row begin long)
      ∙ ap (λ l. old ++ map f l) added_rest
