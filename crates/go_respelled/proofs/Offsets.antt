-- Where offsets are after one more edit.
use Rattle.std.proofs.Common.{ℕ, ◌≡◌, ◌+◌, ◌-◌, ◌<◌, ◌≤◌, List, [], ◌∷◌, length, sym, ap, ◌∙◌, arith, ⊎_elim}
use Rattle.std.specs.List.{AllByRecursion}
use Rattle.std.proofs.lemmas.Bool.{cases_lt}
use Rattle.base_edits.specs.Edits.{AreInOrder}
use Rattle.base_edits.specs.Moved.{moved_offset}
use Rattle.base_edits.specs.PassedEdits.{moved_from}
use Rattle.base_edits.specs.declared.edit.Edit.{Edit}
use Rattle.base_edits.proofs.MovedPlaces.{at_least, moves_all, step_past, stop_before}

abbrev pub HaveBytes : List Edit → Type 0
HaveBytes edits = AllByRecursion (λ e. e.span.start < e.span.end) edits

pub order_from : (low at : ℕ) (edits : List Edit) → low ≤ at → AreInOrder at edits → AreInOrder low edits
order_from low at [] le order = tt
order_from low at (e ∷ edits) le order = (omega (arith, le, order.0), order.1, order.2)

-- before an edit

pub before_one : (e : Edit) (edits : List Edit) (x : ℕ) → AreInOrder 0 (e ∷ edits) → x < e.span.end → moved_offset (e ∷ edits) x ≡ x
before_one e edits x order less =
    let same : 0 + (x - 0) ≡ x = omega arith in
    sym (moves_all (e ∷ edits) x order) ∙ stop_before 0 0 e edits x less ∙ same

pub before_all : (edits : List Edit) (at x : ℕ) → AreInOrder at edits → HaveBytes edits → x ≤ at → moved_offset edits x ≡ x
before_all [] at x order some le = let same : 0 + (x - 0) ≡ x = omega arith in sym (moves_all [] x tt) ∙ same
before_all (e ∷ edits) at x order some le = before_one e edits x (order_from 0 at (e ∷ edits) (omega arith) order) (omega (arith, order.0, some.0, le))

-- behind an edit

higher : (edits : List Edit) (old k x : ℕ) → moved_from old k edits x ≡ moved_from old 0 edits x + k
higher [] old k x = omega arith
higher (e ∷ edits) old k x =
    let size : ℕ = (e.span.start - old) + length e.text in
    ⊎_elim
    (λ (behind : x < e.span.end).
    let moved : k + (x - old) ≡ 0 + (x - old) + k = omega arith in
    stop_before old k e edits x behind ∙ moved ∙ ap (λ n. n + k) (sym (stop_before old 0 e edits x behind)))
    (λ (past : e.span.end ≤ x).
    let moved : moved_from e.span.end 0 edits x + (k + size) ≡ moved_from e.span.end 0 edits x + (0 + size) + k = omega arith in
    step_past old k e edits x past ∙ higher edits e.span.end (k + size) x ∙ moved
    ∙ ap (λ n. n + k) (sym (higher edits e.span.end (0 + size) x) ∙ sym (step_past old 0 e edits x past)))
    (cases_lt x e.span.end)

rebased : (edits : List Edit) (old new x : ℕ) → AreInOrder old edits → old ≤ x → moved_from old new edits x + old ≡ moved_from 0 0 edits x + new
rebased [] old new x order le = omega arith
rebased (e ∷ edits) old new x order le =
    let first : old ≤ e.span.start = order.0 in
    ⊎_elim
    (λ (behind : x < e.span.end).
    let one = stop_before old new e edits x behind in
    let two = stop_before 0 0 e edits x behind in
    omega (arith, one, two, le))
    (λ (past : e.span.end ≤ x).
    let one : moved_from old new (e ∷ edits) x ≡ moved_from e.span.end 0 edits x + (new + ((e.span.start - old) + length e.text)) =
    step_past old new e edits x past ∙ higher edits e.span.end (new + ((e.span.start - old) + length e.text)) x in
    let two : moved_from 0 0 (e ∷ edits) x ≡ moved_from e.span.end 0 edits x + (0 + ((e.span.start - 0) + length e.text)) =
    step_past 0 0 e edits x past ∙ higher edits e.span.end (0 + ((e.span.start - 0) + length e.text)) x in
    sums (moved_from old new (e ∷ edits) x) (moved_from 0 0 (e ∷ edits) x) (moved_from e.span.end 0 edits x) old new e.span.start (length e.text) first one two)
    (cases_lt x e.span.end)
  where
    sums : (a b base old new start len : ℕ) → old ≤ start → a ≡ base + (new + ((start - old) + len)) → b ≡ base + (0 + ((start - 0) + len)) →
        a + old ≡ b + new
    sums a b base old new start len le one two = omega arith

pub past_one : (e : Edit) (edits : List Edit) (x : ℕ) → AreInOrder 0 (e ∷ edits) → e.span.end ≤ x →
    moved_offset (e ∷ edits) x ≡ moved_offset edits x - e.span.end + (e.span.start + length e.text)
past_one e edits x order past =
    let new : ℕ = 0 + ((e.span.start - 0) + length e.text) in
    let step : moved_offset (e ∷ edits) x ≡ moved_from e.span.end new edits x = sym (moves_all (e ∷ edits) x order) ∙ step_past 0 0 e edits x past in
    let base : moved_from e.span.end new edits x + e.span.end ≡ moved_from 0 0 edits x + new = rebased edits e.span.end new x order.2 past in
    let rest : moved_from 0 0 edits x ≡ moved_offset edits x = moves_all edits x (order_from 0 e.span.end edits (omega arith) order.2) in
    let low : new ≤ moved_from e.span.end new edits x = at_least edits e.span.end new x in
    step ∙ sums (moved_from e.span.end new edits x) (moved_from 0 0 edits x) (moved_offset edits x) e.span.end e.span.start (length e.text) base rest low
  where
    sums : (a b m end start len : ℕ) → a + end ≡ b + (0 + ((start - 0) + len)) → b ≡ m → 0 + ((start - 0) + len) ≤ a → a ≡ m - end + (start + len)
    sums a b m end start len one two low = omega arith
