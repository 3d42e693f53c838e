-- The edits that replace identifiers at the places of one file.
use Rattle.std.proofs.Common.{ℕ, ◌≡◌, ◌+◌, ◌<◌, ◌≤◌, inl, inr, List, [], ◌∷◌, ◌++◌, length, get_or, refl, sym, ap, subst, ◌∙◌, arith}
use Rattle.std.specs.Prelude.{Contains, Some, slice_get}
use Rattle.std.specs.declared.cmp.Ordering.TheVariants.{Less}
use Rattle.std.specs.FinMap.{nat_cmp-IsAntisymmetric}
use Rattle.std.specs.List.Sorted.{IsStrictlySortedBy}
use Rattle.std.specs.Ordering.{nat_cmp}
use Rattle.std.specs.Cmp.{ranked, nat_cmp_total}
use Rattle.std.proofs.lemmas.Bool.{cases_lt}
use Rattle.std.proofs.lemmas.List.{get_or_default}
use Rattle.std.proofs.lemmas.List.Elements.{All-nil}
use Rattle.std.proofs.lemmas.Option.{same_Some, slice_get_within, get_or_from_slice_get}
use Rattle.base_files.specs.declared.place.Place.{Place}
use Rattle.base_lemmas.proofs.Elements.{nothing_in, first_or_later}
use Rattle.go_scanner.specs.declared.piece.Piece.{Piece}
use Rattle.go_scanner.specs.CutText.{tokens_in}
use Rattle.go_scanner.specs.Spans.{FollowFrom, starts}
use Rattle.go_ast.specs.SourceFile.{SourceFile}
use Rattle.base_edits.specs.declared.edit.Edit.{Edit}
use Rattle.refs_binding.specs.Bindings.{AddsAll}
use Rattle.refs_binding.proofs.AddingAll.{BelowAll, all_none, none_below, next_below}
use Rattle.refs_binding.proofs.MemberPlaces.{rank_of}
use Rattle.refs_binding.proofs.PlaceOrder.{place_is}
use Rattle.refactor_rename.specs.declared.renamed.Renamed.{Renamed}
use Rattle.refactor_rename.specs.FileEdits.{AppendsEdit, stays, grows, AreFileEdits, EndBy, IsEditAt, IsLiteralAt, NoneTwice}
use Rattle.refactor_rename.specs.Here.{ArePlacesIn, OffsetsRise, ReplacesAt, AreReplacements}
use Rattle.refactor_rename.proofs.Editing.{all_one, appended_once, at_end, end_more, end_push}
use Rattle.refactor_rename.proofs.KeySearch.{keys_rise}

-- tokens in order

abbrev pub start_of : Piece → ℕ
start_of t = t.span.start

abbrev DoRise : List Piece → Type 0
DoRise ts = IsStrictlySortedBy nat_cmp (starts ts)

rank_rises : (ts : List Piece) (i j : ℕ) (d : Piece) → DoRise ts → i < j → j < length ts → (get_or ts i d).span.start < (get_or ts j d).span.start
rank_rises ts i j d rise lt inside =
    ranked (get_or ts i d).span.start (get_or ts j d).span.start Less
    (sym (keys_rise Piece ℕ nat_cmp nat_cmp_total nat_cmp-IsAntisymmetric start_of ts i j d rise lt inside))

starts_apart : (ts : List Piece) → DoRise ts → (a b : Piece) (h : Contains ts a) (k : Contains ts b) → h.0 < k.0 → a.span.start < b.span.start
starts_apart ts rise a b h k lt =
    subst (λ (x : Piece). x.span.start < b.span.start) (get_or_default ts h.0 b a h.1 ∙ h.2)
    (subst (λ (y : Piece). (get_or ts h.0 b).span.start < y.span.start) k.2 (rank_rises ts h.0 k.0 b rise lt k.1))

-- no two tokens begin at one offset
pub same_token : (ts : List Piece) → DoRise ts → (a b : Piece) → Contains ts a → Contains ts b → a.span.start ≡ b.span.start → a ≡ b
same_token ts rise a b h k e = elim (cases_lt h.0 k.0) [
  | inl lt ↦ (let z : a.span.start < b.span.start = starts_apart ts rise a b h k lt in absurd (omega arith))
  | inr ge ↦ elim (cases_lt k.0 h.0) [
    | inl lt ↦ (let z : b.span.start < a.span.start = starts_apart ts rise b a k h lt in absurd (omega arith))
    | inr le ↦ (
        let same : h.0 ≡ k.0 = omega arith in
        sym h.2 ∙ ap (λ n. get_or ts n a) same ∙ get_or_default ts k.0 a b k.1 ∙ k.2)
  ]
]

-- the tokens follow one another
least_start : (ts : List Piece) (from to : ℕ) → FollowFrom from ts to → (t : Piece) → Contains ts t → from ≤ t.span.start
least_start [] from to h t has = absurd (nothing_in t has)
least_start (x ∷ ts) from to h t has = elim (first_or_later x ts t has) [
  | inl same ↦ subst (λ (y : Piece). from ≤ y.span.start) same h.0
  | inr later ↦ (
      let one : from ≤ x.span.start = h.0 in
      let two : x.span.start ≤ x.span.end = h.1 in
      let rest : x.span.end ≤ t.span.start = least_start ts x.span.end to h.2 t later in
      omega arith)
]

pub within_text : (ts : List Piece) (from to : ℕ) → FollowFrom from ts to → (t : Piece) → Contains ts t → (t.span.start ≤ t.span.end) × (t.span.end ≤ to)
within_text [] from to h t has = absurd (nothing_in t has)
within_text (x ∷ ts) from to h t has = elim (first_or_later x ts t has) [
  | inl same ↦ subst (λ (y : Piece). (y.span.start ≤ y.span.end) × (y.span.end ≤ to)) same (h.1, at_end x.span.end to ts h.2)
  | inr later ↦ within_text ts x.span.end to h.2 t later
]

-- a token ends before one that begins later
pub ends_before : (ts : List Piece) (from to : ℕ) → FollowFrom from ts to → (a b : Piece) → Contains ts a → Contains ts b → a.span.start < b.span.start →
    a.span.end ≤ b.span.start
ends_before [] from to h a b has other lt = absurd (nothing_in a has)
ends_before (x ∷ ts) from to h a b has other lt = elim (first_or_later x ts a has) [
  | inl is ↦ elim (first_or_later x ts b other) [
    | inl here ↦ (
        let same : a.span.start ≡ b.span.start = ap start_of (sym is ∙ here) in
        absurd (omega arith))
    | inr later ↦ subst (λ (y : Piece). y.span.end ≤ b.span.start) is (least_start ts x.span.end to h.2 b later)
  ]
  | inr behind ↦ elim (first_or_later x ts b other) [
    | inl here ↦ (
        let two : x.span.start ≤ x.span.end = h.1 in
        let rest : x.span.end ≤ a.span.start = least_start ts x.span.end to h.2 a behind in
        let same : x.span.start ≡ b.span.start = ap start_of here in
        absurd (omega arith))
    | inr later ↦ ends_before ts x.span.end to h.2 a b behind later lt
  ]
]

-- the places so far

-- the edit at the place of this index
pub record IsEditOf (ts : List Piece) (name : List ℕ) (here : List Place) (k : ℕ) (e : Edit) : Type 0 where
  pub place : Place
  pub has_index : slice_get here k ≡ Some place
  pub replaces : ReplacesAt ts name place.offset e

pub record Placing (ts : List Piece) (size : ℕ) (name : List ℕ) (here : List Place) (k : ℕ) (edits : List Edit) : Type 0 where
  pub at : ℕ
  pub end_by : EndBy edits at
  pub within : at ≤ size
  pub later : (j : ℕ) (p : Place) (t : Piece) → k ≤ j → slice_get here j ≡ Some p → Contains ts t → t.span.start ≡ p.offset → at ≤ t.span.start
  pub adds : AddsAll [] edits (BelowAll (IsEditOf ts name here) k)
  pub once : NoneTwice edits

pub placing_first : (ts : List Piece) (size : ℕ) (name : List ℕ) (here : List Place) (edits : List Edit) → edits ≡ [] → Placing ts size name here 0 edits
placing_first ts size name here edits e = subst (Placing ts size name here 0) (sym e) (record {
  at = 0;
  end_by = record { in_order = tt; ends = All-nil (λ (d : Edit). d.span.end ≤ 0) };
  within = omega arith;
  later = λ j p t le is has same. omega arith;
  adds = none_below (IsEditOf ts name here) [];
  once = tt;
})

-- an edit of the place begins at its offset
begins_there : (ts : List Piece) (name : List ℕ) (offset : ℕ) (e : Edit) → ReplacesAt ts name offset e → e.span.start ≡ offset
begins_there ts name offset e r = ap (λ (x : Edit). x.span.start) r.is_edit ∙ r.begins

module _ (ts : List Piece) (size : ℕ) (name : List ℕ) (here : List Place) (rise : DoRise ts) (follow : FollowFrom 0 ts size) (offsets : OffsetsRise here) where
  -- the edits at two places of one offset are one
  one_edit : (offset : ℕ) (e d : Edit) → ReplacesAt ts name offset e → ReplacesAt ts name offset d → e ≡ d
  one_edit offset e d h k =
      let same : h.token ≡ k.token = same_token ts rise h.token k.token h.is_token k.is_token (h.begins ∙ sym k.begins) in
      h.is_edit ∙ ap (λ (t : Piece). record { span = t.span; text = name }) same ∙ sym k.is_edit

  at_index : (k : ℕ) (p : Place) → slice_get here k ≡ Some p → (e : Edit) → IsEditOf ts name here k e → ReplacesAt ts name p.offset e
  at_index k p is e h = subst (λ (q : Place). ReplacesAt ts name q.offset e) (same_Some h.place p (sym h.has_index ∙ is)) h.replaces

  next_offset : (k j : ℕ) (p q : Place) → k < j → slice_get here k ≡ Some p → slice_get here j ≡ Some q → p.offset < q.offset
  next_offset k j p q lt is at =
      let rises = offsets k j p lt (slice_get_within here j q at) in
      subst (λ (x : Place). x.offset < q.offset) (get_or_from_slice_get here k p p is)
      (subst (λ (y : Place). (get_or here k p).offset < y.offset) (get_or_from_slice_get here j q p at) rises)

  placing_none : (k : ℕ) (p : Place) (old : List Edit) → slice_get here k ≡ Some p → ((e : Edit) → ReplacesAt ts name p.offset e → ⊥) →
      Placing ts size name here k old → Placing ts size name here (k + 1) old
  placing_none k p old is empty h = record {
    at = h.at;
    end_by = h.end_by;
    within = h.within;
    later = λ j q t le at has same. h.later j q t (omega arith) at has same;
    adds =
        next_below (IsEditOf ts name here) [] old old k h.adds
        (all_none old (IsEditOf ts name here k) (λ e q. empty e (at_index k p is e q)));
    once = h.once;
  }

  -- none of the edits so far is at a later place
  none_earlier : (k : ℕ) (p : Place) (old : List Edit) → slice_get here k ≡ Some p → Placing ts size name here k old → (e : Edit) → Contains old e →
      ReplacesAt ts name p.offset e → ⊥
  none_earlier k p old is h e has r = elim (h.adds.only e has) [
    | inl nowhere ↦ nothing_in e nowhere
    | inr q ↦ (
        let x = q.2 in
        let less : x.place.offset < p.offset = next_offset q.0 k x.place p q.1 x.has_index is in
        let there : e.span.start ≡ x.place.offset = begins_there ts name x.place.offset e x.replaces in
        let here : e.span.start ≡ p.offset = begins_there ts name p.offset e r in
        omega arith)
  ]

  placing_one : (k : ℕ) (p : Place) (old : List Edit) (e : Edit) → slice_get here k ≡ Some p → ReplacesAt ts name p.offset e →
      Placing ts size name here k old → Placing ts size name here (k + 1) (old ++ e ∷ [])
  placing_one k p old e is r h =
      let t = r.token in
      let inside = within_text ts 0 size follow t r.is_token in
      let begins : h.at ≤ t.span.start = h.later k p t (omega arith) is r.is_token r.begins in
      let d : Edit = record { span = t.span; text = name } in
      let ends : EndBy (old ++ d ∷ []) t.span.end = end_push old (old ++ d ∷ []) d h.at t.span.end refl h.end_by begins inside.0 (omega arith) in
      record {
        at = t.span.end;
        end_by = subst (λ (x : Edit). EndBy (old ++ x ∷ []) t.span.end) (sym r.is_edit) ends;
        within = inside.1;
        later = λ j q u le at has same.
            (let less : p.offset < q.offset = next_offset k j p q (omega arith) is at in
            let first = r.begins in
            ends_before ts 0 size follow t u r.is_token has (omega arith));
        adds =
            next_below (IsEditOf ts name here) [] old (old ++ e ∷ []) k h.adds
            (all_one old (old ++ e ∷ []) e (IsEditOf ts name here k) refl (record { place = p; has_index = is; replaces = r })
            (λ y q. one_edit p.offset e y r (at_index k p is y q)));
        once =
            appended_once (ReplacesAt ts name p.offset) old (old ++ e ∷ []) (λ y has same. none_earlier k p old is h y has same) h.once (grows e r);
      }

  pub placing_next : (k : ℕ) (p : Place) (old new : List Edit) → slice_get here k ≡ Some p → AppendsEdit (ReplacesAt ts name p.offset) old new →
      Placing ts size name here k old → Placing ts size name here (k + 1) new
  placing_next k p old _ is (stays empty) h = placing_none k p old is empty h
  placing_next k p old _ is (grows e r) h = placing_one k p old e is r h

  pub placed : (f : SourceFile) (edits : List Edit) (n : ℕ) → ts ≡ tokens_in f.cut → size ≡ length f.cut.text → n ≡ length here →
      Placing ts size name here n edits → AreReplacements f name here edits
  placed f edits n tokens text all h = record {
    end_by = end_more edits h.at (length f.cut.text) (let within = h.within in omega arith) h.end_by;
    each = λ e. (
      (λ has. elim (h.adds.only e has) [
        | inl nowhere ↦ absurd (nothing_in e nowhere)
        | inr q ↦ (
            let x = q.2 in
            let i = slice_get_within here q.0 x.place x.has_index in (
              x.place,
              (
                (q.0, i, get_or_from_slice_get here q.0 x.place x.place x.has_index),
                subst (λ l. ReplacesAt l name x.place.offset e) tokens
                    x.replaces,
              ),
            ))
      ]),
      (λ q.
          let r = rank_of here q.0 q.1.0 in
          h.adds.holds e (
            r.0,
            (let lt = slice_get_within here r.0 q.0 r.1 in omega arith),
            record { place = q.0; has_index = r.1; replaces = subst (λ l. ReplacesAt l name q.0.offset e) (sym tokens) q.1.1 },
          )),
    );
    once = h.once;
  }

-- the edits of a file without the literal are those at its places
module _ (f : SourceFile) (r : Renamed) (here : List Place) (edits : List Edit) (are_in : ArePlacesIn r.places f.path here)
    (none_there : (i : ℕ) → IsLiteralAt r.literal f.path i → ⊥) (are : AreReplacements f r.name here edits) where
  edit_at : (e : Edit) → (p : Place) × (Contains here p × ReplacesAt (tokens_in f.cut) r.name p.offset e) → (i : ℕ) × IsEditAt f r i e
  edit_at e q =
      let x = q.1.1 in
      let i = rank_of (tokens_in f.cut) x.token x.is_token in
      let among = (are_in q.0).0 q.1.0 in
      let is : q.0 ≡ record { path = f.path; offset = x.token.span.start } = place_is q.0 (record { path = f.path; offset = x.token.span.start }) among.1
      (sym x.begins) in
      (i.0, inr (record { token = x.token; at = i.1; is_name = x.is_name; among = subst (Contains r.places) is among.0; is_edit = x.is_edit }))

  place_at : (e : Edit) → (i : ℕ) × IsEditAt f r i e → (p : Place) × (Contains here p × ReplacesAt (tokens_in f.cut) r.name p.offset e)
  place_at e q = elim q.1 [
    | inl inserts ↦ absurd (none_there q.0 inserts.is_literal)
    | inr x ↦ (
      record { path = f.path; offset = x.token.span.start },
      (
        (are_in (record { path = f.path; offset = x.token.span.start })).1 (x.among, refl),
        record {
          token = x.token;
          is_token = (
            q.0,
            slice_get_within (tokens_in f.cut) q.0 x.token x.at,
            get_or_from_slice_get (tokens_in f.cut) q.0 x.token x.token x.at,
          );
          is_name = x.is_name;
          begins = refl;
          is_edit = x.is_edit;
        },
      ),
    )
  ]

  pub file_edits : AreFileEdits f r edits
  file_edits = record {
    end_by = are.end_by;
    each = λ e. ((λ has. edit_at e ((are.each e).0 has)), (λ q. (are.each e).1 (place_at e q)));
    once = are.once;
  }
