-- Bytes that an edit inserts stand directly before the moved offset.
use Rattle.std.proofs.Common.{◌≡◌, ℕ, ◌+◌, ◌-◌, ◌≤◌, inl, inr, List, [], ◌∷◌, ◌++◌, length, refl, sym, ap, subst, ◌∙◌, arith, ⊎_elim}
use Rattle.std.proofs.Common.{length-append, append_assoc}
use Rattle.std.specs.List.{slice_range, Contains}
use Rattle.std.proofs.lemmas.Bool.{cases_lt}
use Rattle.base_lemmas.proofs.Elements.{nothing_in, first_in, later_in, first_or_later}
use Rattle.base_edits.specs.Edits.{AreInOrder, LieWithin, edited_from, edited_text}
use Rattle.base_edits.specs.Moved.{moved_offset}
use Rattle.base_edits.specs.PassedEdits.{moved_from}
use Rattle.base_edits.specs.declared.edit.Edit.{Edit}
use Rattle.base_edits.proofs.EditedText.{EndWithin, ends_within, length_range}
use Rattle.base_edits.proofs.MovedPlaces.{step_past, stop_before, moves_all}

-- the bytes `t` in a text from an offset on, and the end of them
record IsPut (t text : List ℕ) (new m : ℕ) : Type 0 where
  front : List ℕ
  behind : List ℕ
  stands : text ≡ front ++ (t ++ behind)
  ends : new + (length front + length t) ≡ m

-- an edit of a list in order begins behind where the list does
begins : (edits : List Edit) (at : ℕ) (e : Edit) → AreInOrder at edits → Contains edits e → at ≤ e.span.start
begins [] at e order has = absurd (nothing_in e has)
begins (d ∷ edits) at e order has =
    let first : at ≤ d.span.start = order.0 in
    let second : d.span.start ≤ d.span.end = order.1 in
    ⊎_elim
    (λ (is : d ≡ e). subst (λ (x : Edit). at ≤ x.span.start) is first)
    (λ (rest : Contains edits e). let far : d.span.end ≤ e.span.start = begins edits d.span.end e order.2 rest in omega arith)
    (first_or_later d edits e has)

-- an edit that inserts `t` at the offset
record Inserts (a : ℕ) (t : List ℕ) (e : Edit) : Type 0 where
  start : e.span.start ≡ a
  end : e.span.end ≡ a
  text : e.text ≡ t

module _ (a : ℕ) (t text : List ℕ) where
  abbrev AllInsert : List Edit → Type 0
  AllInsert edits = (x : Edit) → Contains edits x → x.span.start ≡ a → x.span.end ≡ a → x.text ≡ t

  later_insert : (d : Edit) (edits : List Edit) → AllInsert (d ∷ edits) → AllInsert edits
  later_insert d edits all x has = all x (later_in d edits x has)

  past : (d : Edit) (edits : List Edit) (old new : ℕ) → old ≤ d.span.start → d.span.start ≤ length text → d.span.end ≤ a →
      IsPut t (edited_from d.span.end edits text) (new + ((d.span.start - old) + length d.text))
      (moved_from d.span.end (new + ((d.span.start - old) + length d.text)) edits a) →
      IsPut t (edited_from old (d ∷ edits) text) new (moved_from old new (d ∷ edits) a)
  past d edits old new first second far h =
      let part = slice_range text old d.span.start in
      let long : length part ≡ d.span.start - old = length_range text old d.span.start first second in
      let front = part ++ (d.text ++ h.front) in
      let whole : length front ≡ length part + (length d.text + length h.front) =
      length-append part (d.text ++ h.front) ∙ ap (λ n. length part + n) (length-append d.text h.front) in
      let moved = step_past old new d edits a far in
      record {
        front = front;
        behind = h.behind;
        stands = ap (λ z. part ++ (d.text ++ z)) h.stands ∙ ap (λ z. part ++ z) (sym (append_assoc d.text h.front (t ++ h.behind)))
            ∙ sym (append_assoc part (d.text ++ h.front) (t ++ h.behind));
        ends = omega (arith, long, whole, moved, h.ends);
      }

  last : (d : Edit) (edits : List Edit) (old new : ℕ) → Inserts a t d → old ≤ d.span.start → d.span.start ≤ length text →
      moved_from d.span.end (new + ((d.span.start - old) + length d.text)) edits a ≡ new + ((d.span.start - old) + length d.text) →
      IsPut t (edited_from old (d ∷ edits) text) new (moved_from old new (d ∷ edits) a)
  last d edits old new i first second none =
      let part = slice_range text old d.span.start in
      let long : length part ≡ d.span.start - old = length_range text old d.span.start first second in
      let far : d.span.end ≤ a = let e = i.end in omega arith in
      let same : length d.text ≡ length t = ap length i.text in
      let moved = step_past old new d edits a far in
      record {
        front = part;
        behind = edited_from d.span.end edits text;
        stands = ap (λ z. part ++ (z ++ edited_from d.span.end edits text)) i.text;
        ends = omega (arith, long, same, moved, none);
      }

  put_here : (d : Edit) (edits : List Edit) (old new : ℕ) → AreInOrder old (d ∷ edits) → EndWithin (length text) (d ∷ edits) → AllInsert (d ∷ edits) →
      Inserts a t d → IsPut t (edited_from old (d ∷ edits) text) new (moved_from old new (d ∷ edits) a)
  put_here d [] old new order within all i =
      let first : old ≤ d.span.start = order.0 in
      let second : d.span.start ≤ length text = let x : d.span.start ≤ d.span.end = order.1 in let y : d.span.end ≤ length text = within.0 in omega arith in
      last d [] old new i first second (let e = i.end in omega arith)
  put_here d (x ∷ xs) old new order within all i =
      let first : old ≤ d.span.start = order.0 in
      let inside : d.span.start ≤ d.span.end = order.1 in
      let ends : d.span.end ≤ length text = within.0 in
      let begun : d.span.end ≤ x.span.start = order.2.0 in
      let next : x.span.start ≤ x.span.end = order.2.1 in
      let at = i.end in
      elim (cases_lt a x.span.end) [
        | inl behind ↦ last d (x ∷ xs) old new i first (omega arith)
            (let e = stop_before d.span.end (new + ((d.span.start - old) + length d.text)) x xs a behind in omega (arith, e, at))
        | inr before ↦
            let s : x.span.start ≡ a = omega arith in
            let f : x.span.end ≡ a = omega arith in
            past d (x ∷ xs) old new first (omega arith) (omega arith)
            (put_here x xs d.span.end (new + ((d.span.start - old) + length d.text)) order.2 within.1 (later_insert d (x ∷ xs) all)
            (record { start = s; end = f; text = all x (later_in d (x ∷ xs) x (first_in x xs)) s f }))
      ]

  put_there : (edits : List Edit) (old new : ℕ) (e : Edit) → AreInOrder old edits → EndWithin (length text) edits → AllInsert edits → Contains edits e →
      Inserts a t e → IsPut t (edited_from old edits text) new (moved_from old new edits a)
  put_there [] old new e order within all has i = absurd (nothing_in e has)
  put_there (d ∷ edits) old new e order within all has i =
      let first : old ≤ d.span.start = order.0 in
      let inside : d.span.start ≤ d.span.end = order.1 in
      let ends : d.span.end ≤ length text = within.0 in
      elim (first_or_later d edits e has) [
        | inl is ↦ put_here d edits old new order within all (subst (Inserts a t) (sym is) i)
        | inr later ↦
            let behind : d.span.end ≤ e.span.start = begins edits d.span.end e order.2 later in
            let at = i.start in
            past d edits old new first (omega arith) (omega arith)
            (put_there edits d.span.end (new + ((d.span.start - old) + length d.text)) e order.2 within.1 (later_insert d edits all) later i)
      ]

-- the bytes `put` in the new text
pub record StandsBefore (edits : List Edit) (text : List ℕ) (a : ℕ) (put : List ℕ) : Type 0 where
  pub front : List ℕ
  pub behind : List ℕ
  pub stands : edited_text edits text ≡ front ++ (put ++ behind)
  pub directly : length (front ++ put) ≡ moved_offset edits a

pub put_before : (edits : List Edit) (text : List ℕ) (e : Edit) (a : ℕ) → AreInOrder 0 edits → LieWithin (length text) edits → Contains edits e →
    e.span.start ≡ a → e.span.end ≡ a → ((x : Edit) → Contains edits x → x.span.start ≡ a → x.span.end ≡ a → x.text ≡ e.text) →
    StandsBefore edits text a e.text
put_before edits text e a order within has start end all =
    let h = put_there a e.text text edits 0 0 e order (ends_within (length text) edits within) all has (record { start = start; end = end; text = refl }) in
    let moved = moves_all edits a order in
    let both = length-append h.front e.text in
    record { front = h.front; behind = h.behind; stands = h.stands; directly = omega (arith, h.ends, moved, both) }
