-- A name that is put before an import's literal beside other edits of the text.
use Rattle.std.proofs.Common.{ℕ, ◌≡◌, ◌+◌, ◌-◌, ◌<◌, ◌≤◌, List, [], ◌∷◌, ◌++◌, Bool, length, take, drop, refl, sym, ap, ◌∙◌, arith}
use Rattle.std.proofs.Common.{append_assoc, length-append}
use Rattle.std.specs.Prelude.{slice_get}
use Rattle.std.specs.List.{All, AllByRecursion, slice_range}
use Rattle.std.proofs.lemmas.List.{drop_at, take_at}
use Rattle.std.proofs.lemmas.List.Elements.{recursion_from_All}
use Rattle.base_lemmas.proofs.EachElement.{all_back}
use Rattle.go_scanner.specs.Cuts.{IsCut}
use Rattle.go_scanner.specs.CutText.{CutText, tokens_in}
use Rattle.base_edits.specs.Edits.{AreInOrder, LieWithin, edited_from, edited_text}
use Rattle.base_edits.specs.Moved.{moved_offset}
use Rattle.base_edits.specs.PassedEdits.{moved_from}
use Rattle.base_edits.specs.declared.edit.Edit.{Edit}
use Rattle.base_edits.proofs.EditedText.{length_range}
use Rattle.base_edits.proofs.MovedPlaces.{moves_all, step_past, stop_before}
use Rattle.go_ast.specs.SourceFile.{SourceFile, offset_at, offset_of}
use Rattle.go_respelled.specs.Renamings.{AreNameEdits, IsNameEdit}
use Rattle.go_respelled.specs.Trees.{renamed_file}
use Rattle.go_respelled.proofs.Many.{edited_split, have_bytes}
use Rattle.go_respelled.proofs.Offsets.{HaveBytes, order_from}
use Rattle.go_respelled.proofs.Trees.{offset_moved}
use Rattle.law_rename.specs.Named.{NamePut, after_put, before_put, put_bytes}
use Rattle.law_rename.specs.MayGain.{MayGain, inserted}

abbrev EndBehind : ℕ → List Edit → Type 0
EndBehind at edits = AllByRecursion (λ d. at < d.span.end) edits

-- what a text has from an offset on to another one, after edits between these
abbrev upto : ℕ → List Edit → ℕ → List ℕ → List ℕ
upto old [] at text = slice_range text old at
upto old (d ∷ edits) at text = slice_range text old d.span.start ++ (d.text ++ upto d.span.end edits at text)

module _ (text put : List ℕ) (at : ℕ) (behind : List Edit) where
  abbrev here : Edit
  here = inserted at put

  reaches : (old : ℕ) (before : List Edit) → AreInOrder old (before ++ here ∷ behind) → old ≤ at
  reaches old [] order = order.0
  reaches old (d ∷ before) order =
      let rest : d.span.end ≤ at = reaches d.span.end before order.2 in omega (arith, order.0, order.1)

  without : (old : ℕ) (before : List Edit) → AreInOrder old (before ++ here ∷ behind) → AreInOrder old (before ++ behind)
  without old [] order = order_from old at behind order.0 order.2
  without old (d ∷ before) order = (order.0, order.1, without d.span.end before order.2)

  others_split : (old : ℕ) (before : List Edit) → AreInOrder old (before ++ here ∷ behind) →
      edited_from old (before ++ behind) text ≡ upto old before at text ++ edited_from at behind text
  others_split old [] order = edited_split behind text old at order.0 order.2
  others_split old (d ∷ before) order =
      let kept : List ℕ = slice_range text old d.span.start in
      let more : List ℕ = upto d.span.end before at text in
      let rest : List ℕ = edited_from at behind text in
      ap (λ l. kept ++ (d.text ++ l)) (others_split d.span.end before order.2) ∙ ap (λ l. kept ++ l) (sym (append_assoc d.text more rest))
      ∙ sym (append_assoc kept (d.text ++ more) rest)

  whole_split : (old : ℕ) (before : List Edit) →
      edited_from old (before ++ here ∷ behind) text ≡ upto old before at text ++ (put ++ edited_from at behind text)
  whole_split old [] = refl
  whole_split old (d ∷ before) =
      let kept : List ℕ = slice_range text old d.span.start in
      let more : List ℕ = upto d.span.end before at text in
      let rest : List ℕ = put ++ edited_from at behind text in
      ap (λ l. kept ++ (d.text ++ l)) (whole_split d.span.end before) ∙ ap (λ l. kept ++ l) (sym (append_assoc d.text more rest))
      ∙ sym (append_assoc kept (d.text ++ more) rest)

  last_moves : (old new : ℕ) (ds : List Edit) → EndBehind at ds → moved_from old new ds at ≡ new + (at - old)
  last_moves old new [] ends = refl
  last_moves old new (d ∷ ds) ends = stop_before old new d ds at ends.0

  upto_moves : (old new : ℕ) (before : List Edit) → AreInOrder old (before ++ here ∷ behind) → EndBehind at behind → at ≤ length text →
      new + length (upto old before at text) ≡ moved_from old new (before ++ behind) at
  upto_moves old new [] order ends fits =
      let size : length (slice_range text old at) ≡ at - old = length_range text old at order.0 fits in
      ap (λ (n : ℕ). new + n) size ∙ sym (last_moves old new behind ends)
  upto_moves old new (d ∷ before) order ends fits =
      let past : d.span.end ≤ at = reaches d.span.end before order.2 in
      let kept : List ℕ = slice_range text old d.span.start in
      let rest : List ℕ = upto d.span.end before at text in
      let size : length kept ≡ d.span.start - old = length_range text old d.span.start order.0 (omega (arith, order.1)) in
      let next : ℕ = new + ((d.span.start - old) + length d.text) in
      let whole : length (kept ++ (d.text ++ rest)) ≡ length kept + (length d.text + length rest) = length-append kept (d.text ++ rest) ∙
      ap (λ (n : ℕ). length kept + n) (length-append d.text rest) in
      let further : next + length rest ≡ moved_from d.span.end next (before ++ behind) at = upto_moves d.span.end next before order.2 ends fits in
      adds (length (kept ++ (d.text ++ rest))) (length kept) (length d.text) (length rest) new (d.span.start - old)
      (moved_from d.span.end next (before ++ behind) at) whole size further ∙ sym (step_past old new d (before ++ behind) at past)
    where
      adds : (all part len rest new size m : ℕ) → all ≡ part + (len + rest) → part ≡ size → (new + (size + len)) + rest ≡ m → new + all ≡ m
      adds all part len rest new size m e1 e2 e3 = omega arith

  put_beside : (before : List Edit) → AreInOrder 0 (before ++ here ∷ behind) → EndBehind at behind → at ≤ length text →
      (let new = edited_text (before ++ behind) text in
      let place = moved_offset (before ++ behind) at in
      edited_text (before ++ here ∷ behind) text ≡ take place new ++ (put ++ drop place new))
  put_beside before order ends fits =
      let new : List ℕ = edited_text (before ++ behind) text in
      let place : ℕ = moved_offset (before ++ behind) at in
      let front : List ℕ = upto 0 before at text in
      let rest : List ℕ = edited_from at behind text in
      let split : new ≡ front ++ rest = others_split 0 before order in
      let moved : 0 + length front ≡ place = upto_moves 0 0 before order ends fits ∙ moves_all (before ++ behind) at (without 0 before order) in
      let size : length front ≡ place = omega (arith, moved) in
      let first : front ≡ take place new = sym (ap (take place) split ∙ take_at front rest place size) in
      let second : rest ≡ drop place new = sym (ap (drop place) split ∙ drop_at front rest place size) in
      whole_split 0 before ∙ (λ j. first j ++ (put ++ second j))

pub inserted_beside : (text put : List ℕ) (at : ℕ) (before behind : List Edit) → AreInOrder 0 (before ++ inserted at put ∷ behind) →
    LieWithin (length text) (before ++ inserted at put ∷ behind) → All (λ d. at < d.span.end) behind →
    (let new = edited_text (before ++ behind) text in
    let place = moved_offset (before ++ behind) at in
    edited_text (before ++ inserted at put ∷ behind) text ≡ take place new ++ (put ++ drop place new))
inserted_beside text put at before behind order within ends =
    let P : Edit → Type 0 = λ d. d.span.end ≤ length text in
    let whole : List Edit = before ++ inserted at put ∷ behind in
    let fits = all_back P before (inserted at put ∷ behind) (recursion_from_All P whole within) in
    put_beside text put at behind before order (recursion_from_All (λ (d : Edit). at < d.span.end) behind ends) fits.0

-- an import's name

begins_behind : (at : ℕ) (ds : List Edit) → AreInOrder at ds → HaveBytes ds → EndBehind at ds
begins_behind at [] order some = tt
begins_behind at (d ∷ ds) order some =
    (omega (arith, order.0, some.0), begins_behind at ds (order_from at d.span.end ds (omega (arith, order.0, order.1)) order.2) some.1)

behind_order : (old at : ℕ) (put : List ℕ) (before behind : List Edit) → AreInOrder old (before ++ inserted at put ∷ behind) → AreInOrder at behind
behind_order old at put [] behind order = order.2
behind_order old at put (d ∷ before) behind order = behind_order d.span.end at put before behind order.2

pub gains_beside : (f : SourceFile) (number : ℕ) (name : List ℕ) (blank_first : Bool) (before behind : List Edit) → IsCut f.cut.text f.cut.pieces →
    AreNameEdits f.cut.pieces (before ++ behind) → (g : MayGain (renamed_file (before ++ behind) f) number name blank_first) →
    (let whole = before ++ inserted (offset_of f number) (put_bytes g.put) ∷ behind in
    AreInOrder 0 whole → LieWithin (length f.cut.text) whole → edited_text whole f.cut.text ≡ (after_put g.put).text)
gains_beside f number name blank_first before behind cut are g order within =
    let at : ℕ = offset_of f number in
    let p : NamePut = g.put in
    let put : List ℕ = put_bytes p in
    let others : List Edit = before ++ behind in
    let place : ℕ = moved_offset others at in
    let new : List ℕ = edited_text others f.cut.text in
    let tail : List ℕ = p.literal ++ p.rest in
    let some = have_bytes f.cut.text f.cut.pieces others cut (recursion_from_All (IsNameEdit f.cut.pieces) others are.each) in
    let ends = begins_behind at behind (behind_order 0 at put before behind order) (all_back (λ (d : Edit). d.span.start < d.span.end) before behind some) in
    let P : Edit → Type 0 = λ d. d.span.end ≤ length f.cut.text in
    let fits = all_back P before (inserted at put ∷ behind) (recursion_from_All P (before ++ inserted at put ∷ behind) within) in
    let whole = put_beside f.cut.text put at behind before order ends fits.0 in
    let text : new ≡ p.front ++ tail = ap (λ (c : CutText). c.text) g.cut_is in
    let begins : offset_of (renamed_file others f) number ≡ length p.front =
    ap (λ (c : CutText). offset_at c.text (slice_get (tokens_in c) number)) g.cut_is ∙ ap (offset_at (before_put p).text) g.literal in
    let size : length p.front ≡ place = sym (sym (offset_moved f others number cut are) ∙ begins) in
    let first : take place new ≡ p.front = ap (take place) text ∙ take_at p.front tail place size in
    let second : drop place new ≡ tail = ap (drop place) text ∙ drop_at p.front tail place size in
    whole ∙ (λ j. first j ++ (put ++ second j))
