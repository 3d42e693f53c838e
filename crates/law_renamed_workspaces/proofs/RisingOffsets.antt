-- Edits that each put bytes keep the order of offsets strictly, where the lower one lies strictly inside no span.
use Rattle.std.proofs.Common.{◌≡◌, ℕ, zero, suc, ◌+◌, ◌-◌, ◌<◌, ◌≤◌, ◌⊎◌, List, [], ◌∷◌, Some, length, sym, subst, inl, inr, ⊎_elim, arith}
use Rattle.std.specs.Prelude.{slice_get}
use Rattle.std.specs.List.{AllByRecursion, Contains}
use Rattle.std.proofs.lemmas.Bool.{cases_lt}
use Rattle.std.proofs.lemmas.Option.{none-some, same_Some}
use Rattle.base_lemmas.proofs.EachElement.{all_from_each}
use Rattle.base_edits.specs.Edits.{AreInOrder}
use Rattle.base_edits.specs.Moved.{moved_offset}
use Rattle.base_edits.specs.PassedEdits.{moved_from}
use Rattle.base_edits.specs.declared.edit.Edit.{Edit}
use Rattle.base_edits.proofs.MovedPlaces.{at_least, moves_all, step_past, stop_before}
use Rattle.go_scanner.specs.declared.piece.Piece.{Piece}
use Rattle.go_scanner.specs.Spans.{FollowFrom}

-- tokens begin one behind another

pub starts_from : (from to : ℕ) (ts : List Piece) → FollowFrom from ts to → (j : ℕ) (b : Piece) → slice_get ts j ≡ Some b → from ≤ b.span.start
starts_from from to [] h j b at = absurd (none-some b at)
starts_from from to (t ∷ ts) h zero b at = subst (λ (p : Piece). from ≤ p.span.start) (same_Some t b at) h.0
starts_from from to (t ∷ ts) h (suc j) b at =
    let rest : t.span.end ≤ b.span.start = starts_from t.span.end to ts h.2 j b at in
    omega (arith, h.0, h.1, rest)

-- so none begins strictly inside another
pub begins_outside : (from to : ℕ) (ts : List Piece) → FollowFrom from ts to → (i k : ℕ) (a b : Piece) → slice_get ts i ≡ Some a → slice_get ts k ≡ Some b →
    (b.span.start ≤ a.span.start) ⊎ (a.span.end ≤ b.span.start)
begins_outside from to [] h i k a b is at = absurd (none-some a is)
begins_outside from to (t ∷ ts) h zero zero a b is at =
    inl (subst (λ (x : Piece). x.span.start ≤ a.span.start) (same_Some t b at)
    (subst (λ (x : Piece). t.span.start ≤ x.span.start) (same_Some t a is) (omega arith)))
begins_outside from to (t ∷ ts) h zero (suc k) a b is at =
    inr (subst (λ (x : Piece). x.span.end ≤ b.span.start) (same_Some t a is) (starts_from t.span.end to ts h.2 k b at))
begins_outside from to (t ∷ ts) h (suc i) zero a b is at =
    let behind : t.span.end ≤ a.span.start = starts_from t.span.end to ts h.2 i a is in
    inl (subst (λ (x : Piece). x.span.start ≤ a.span.start) (same_Some t b at) (omega (arith, h.1, behind)))
begins_outside from to (t ∷ ts) h (suc i) (suc k) a b is at = begins_outside t.span.end to ts h.2 i k a b is at

-- offsets

-- The edit puts a byte at least, and the offset does not lie strictly inside its span.
pub record PutsOutside (offset : ℕ) (e : Edit) : Type 0 where
  pub some : 0 < length e.text
  pub outside : (offset ≤ e.span.start) ⊎ (e.span.end ≤ offset)

abbrev by_end : (e : Edit) (offset : ℕ) → (e.span.end ≤ offset) ⊎ (offset < e.span.end)
by_end e offset = ⊎_elim (λ h. inr h) (λ h. inl h) (cases_lt offset e.span.end)

-- the numbers of one step

past_edit : (new old one start len m : ℕ) → one ≤ start → 0 < len → new + ((start - old) + len) ≤ m → new + (one - old) < m
past_edit new old one start len m before some low = omega arith

before_edit : (start end one : ℕ) → one < end → (one ≤ start) ⊎ (end ≤ one) → one ≤ start
before_edit start end one behind outside = ⊎_elim (λ (h : one ≤ start). h) (λ (h : end ≤ one). let x : one ≤ start = absurd (omega arith) in x) outside

rises : (edits : List Edit) (old new one other : ℕ) → AreInOrder old edits → AllByRecursion (PutsOutside one) edits → old ≤ one → one < other →
    moved_from old new edits one < moved_from old new edits other
rises [] old new one other order puts from lt = omega arith
rises (e ∷ edits) old new one other order puts from lt =
    let next = new + ((e.span.start - old) + length e.text) in
    ⊎_elim
    (λ (past : e.span.end ≤ one).
    let far : e.span.end ≤ other = omega arith in
    subst (λ (n : ℕ). n < moved_from old new (e ∷ edits) other) (sym (step_past old new e edits one past))
    (subst (λ (n : ℕ). moved_from e.span.end next edits one < n) (sym (step_past old new e edits other far))
    (rises edits e.span.end next one other order.2 puts.1 past lt)))
    (λ (behind : one < e.span.end).
    let before : one ≤ e.span.start = before_edit e.span.start e.span.end one behind puts.0.outside in
    subst (λ (n : ℕ). n < moved_from old new (e ∷ edits) other) (sym (stop_before old new e edits one behind))
    (⊎_elim
    (λ (past : e.span.end ≤ other).
    let low : next ≤ moved_from e.span.end next edits other = at_least edits e.span.end next other in
    subst (λ (n : ℕ). new + (one - old) < n) (sym (step_past old new e edits other past))
    (past_edit new old one e.span.start (length e.text) (moved_from e.span.end next edits other) before puts.0.some low))
    (λ (far : other < e.span.end).
    subst (λ (n : ℕ). new + (one - old) < n) (sym (stop_before old new e edits other far)) (omega arith))
    (by_end e other)))
    (by_end e one)

pub moved_rises : (edits : List Edit) (one other : ℕ) → AreInOrder 0 edits → ((e : Edit) → Contains edits e → PutsOutside one e) → one < other →
    moved_offset edits one < moved_offset edits other
moved_rises edits one other order each lt =
    subst (λ (n : ℕ). n < moved_offset edits other) (moves_all edits one order)
    (subst (λ (n : ℕ). moved_from 0 0 edits one < n) (moves_all edits other order)
    (rises edits 0 0 one other order (all_from_each (PutsOutside one) edits each) (omega arith) lt))
