-- The edits of the second step, in the file in which the import got its name: they are those of a rename of an import with a name.
use Rattle.std.proofs.Common.{ℕ, ◌≡◌, ◌+◌, ◌-◌, ◌<◌, ◌≤◌, ◌⊎◌, inl, inr, List, ◌∷◌, ◌++◌, Option, Some, None, length, drop, map, take, refl, sym}
use Rattle.std.proofs.Common.{ap, ◌∙◌, subst, arith, length-append}
use Rattle.std.specs.Prelude.{Contains, option_map, slice_get}
use Rattle.std.proofs.lemmas.Bool.{cases_eq, cases_lt}
use Rattle.std.proofs.lemmas.List.{drop_at, take_at}
use Rattle.std.proofs.lemmas.List.Elements.{Contains-append_cases, Contains-append_left, Contains-append_right}
use Rattle.std.proofs.lemmas.Option.{same_Some}
use Rattle.base_lemmas.proofs.Elements.{first_in, first_or_later, is_mapped, later_in}
use Rattle.base_edits.specs.Edits.{LieWithin, edited_text}
use Rattle.base_edits.specs.Moved.{moved_offset}
use Rattle.base_edits.specs.declared.edit.Edit.{Edit}
use Rattle.base_edits.proofs.Held.{mapped_from}
use Rattle.go_scanner.specs.declared.piece.Class.TheVariants.{Name}
use Rattle.go_scanner.specs.declared.piece.Piece.{Piece}
use Rattle.go_scanner.specs.CutText.{CutText, tokens_in}
use Rattle.go_ast.specs.SourceFile.{SourceFile}
use Rattle.law_rename.specs.Around.{from_on}
use Rattle.law_rename.specs.Named.{MayPut, NamePut, after_put, before_put, literal_piece, moved_behind, name_piece, name_place, put_bytes}
use Rattle.law_gained_names.proofs.Offsets.{classes_kept}
use Rattle.law_renamed_workspaces.proofs.Literals.{no_name}
use Rattle.refactor_rename.specs.declared.renamed.Literal.{Literal}
use Rattle.refactor_rename.specs.declared.renamed.Renamed.{Renamed}
use Rattle.refactor_rename.specs.FileEdits.{AreFileEdits, InsertsName, IsEditAt, IsLiteralAt, RenamesToken}
use Rattle.refactor_rename.specs.Replacements.{IsNameBefore, apart, joined}
use Rattle.law_gained_names.specs.FilesInTwoSteps.{IsSecondStep}
use Rattle.law_gained_names.specs.TwoSteps.{AreNaming, NamingEdits, at_once, edit_between, first_step, later_edit, put_first, second_step}
use Rattle.law_gained_names.proofs.TwoStepsOffsets.{early_first, late_first}
use Rattle.law_gained_names.proofs.Second.{second_steps_lie_within}
use Rattle.law_gained_names.proofs.Edits.{begins, ends, grows, once_around, second_once}
use Rattle.law_gained_names.proofs.NewTokens.{IsStillOrMoved, token_back, token_own, token_there}

-- one insertion of one literal

pub one_text : (f : SourceFile) (token : ℕ) (name a b : List ℕ) → IsNameBefore f token name a → IsNameBefore f token name b → a ≡ b
one_text f token name _ _ (apart x) (apart y) = refl
one_text f token name _ _ (apart x) (joined y) = absurd (x y)
one_text f token name _ _ (joined x) (apart y) = absurd (y x)
one_text f token name _ _ (joined x) (joined y) = refl

one_number : (o : Option Literal) (path : List ℕ) (a b : ℕ) → IsLiteralAt o path a → IsLiteralAt o path b → a ≡ b
one_number None path a b x y = absurd x
one_number (Some l) path a b x y = sym x.1 ∙ y.1

one_at : (f : SourceFile) (r : Renamed) (i : ℕ) (d e : Edit) → InsertsName f r i d → InsertsName f r i e → d ≡ e
one_at f r i d e x y =
    let token : x.token ≡ y.token = same_Some x.token y.token (sym x.at ∙ y.at) in
    let start : x.token.span.start ≡ y.token.span.start = ap (λ (t : Piece). t.span.start) token in
    let span : d.span ≡ e.span = x.span ∙ ap (λ n. record { start = n; end = n }) start ∙ sym y.span in
    let text : d.text ≡ e.text = one_text f i r.name d.text e.text x.text y.text in
    λ m. record { span = span m; text = text m }

pub one_insertion : (f : SourceFile) (r : Renamed) (i j : ℕ) (d e : Edit) → InsertsName f r i d → InsertsName f r j e → d ≡ e
one_insertion f r i j d e x y =
    one_at f r j d e (subst (λ n. InsertsName f r n d) (one_number r.literal f.path i j x.is_literal y.is_literal) x) y

-- the class of a token
class_is : (o n : Option Piece) (t u : Piece) → n ≡ Some t → o ≡ Some u → option_map (λ (x : Piece). x.class) n ≡ option_map (λ (x : Piece). x.class) o →
    t.class ≡ u.class
class_is o n t u is was e =
    same_Some t.class u.class (sym (ap (option_map (λ (x : Piece). x.class)) is) ∙ e ∙ ap (option_map (λ (x : Piece). x.class)) was)

-- numbers

past : (a start end : ℕ) → a < start → start ≤ end → end ≤ a → ⊥
past a start end one two three = omega arith

shift : (x a k : ℕ) → a < x → x - a + (a + k) ≡ x + k
shift x a k lt = omega arith

-- an edit that renames a token, by the token
abbrev pub token_edit : Piece → List ℕ → Edit
token_edit t name = record { span = t.span; text = name }

module _ (f new : SourceFile) (pt : NamePut) (number : ℕ) (may : MayPut pt) (literal : slice_get (tokens_in (before_put pt)) number ≡ Some (literal_piece pt))
    (old_cut : f.cut ≡ before_put pt) (new_cut : new.cut ≡ after_put pt) (n : NamingEdits) (are : AreNaming n) (at : n.at ≡ length pt.front)
    (puts : put_bytes pt ≡ put_first n) (place : name_place pt ≡ n.at + length n.front) (own : length pt.name ≡ length n.own)
    (r later : Renamed) (named : r.name ≡ n.name) (named_later : later.name ≡ n.name) (none : later.literal ≡ None)
    (edits : AreFileEdits f r (at_once n)) (whole_is : InsertsName f r number (edit_between n.at n.at (n.front ++ (n.name ++ n.back)))) where
  abbrev whole : Edit
  whole = edit_between n.at n.at (n.front ++ (n.name ++ n.back))

  abbrev renamed : Edit
  renamed = edit_between (n.at + length n.front) ((n.at + length n.front) + length n.own) n.name

  abbrev k : ℕ
  k = length (put_first n)

  abbrev Was : ℕ → Type 0
  Was o = Contains r.places (record { path = f.path; offset = o })

  abbrev Is : ℕ → Type 0
  Is o = Contains later.places (record { path = new.path; offset = o })

  -- The places of the second step: those of the first one, moved, and that of the name.
  pub record ArePlacesMoved : Type 0 where
    pub there : (o : ℕ) → Was o → Is (moved_offset (first_step n) o)
    pub own_place : Is (name_place pt)
    pub back : (o : ℕ) → Is o → (o ≡ name_place pt) ⊎ ((x : ℕ) × (Was x × (moved_offset (first_step n) x ≡ o)))

  -- the edits of the rename

  in_whole : (e : Edit) → Contains (at_once n) e → Contains n.before e ⊎ ((e ≡ whole) ⊎ Contains n.behind e)
  in_whole e has = elim (Contains-append_cases n.before (whole ∷ n.behind) e has) [
    | inl one ↦ inl one
    | inr two ↦ elim (first_or_later whole n.behind e two) [ inl same ↦ inr (inl (sym same)) | inr later_one ↦ inr (inr later_one) ]
  ]

  from_before : (e : Edit) → Contains n.before e → Contains (at_once n) e
  from_before e has = Contains-append_left n.before (whole ∷ n.behind) e has

  from_behind : (e : Edit) → Contains n.behind e → Contains (at_once n) e
  from_behind e has = Contains-append_right n.before (whole ∷ n.behind) e (later_in whole n.behind e has)

  size : k ≡ length n.front + (length n.own + length n.back)
  size = length-append n.front (n.own ++ n.back) ∙ ap (λ m. length n.front + m) (length-append n.own n.back)

  -- tokens, by their numbers

  old_token : (i : ℕ) (t : Piece) → slice_get (tokens_in f.cut) i ≡ Some t → slice_get (tokens_in (before_put pt)) i ≡ Some t
  old_token i t is = ap (λ (c : CutText). slice_get (tokens_in c) i) (sym old_cut) ∙ is

  new_token : (i : ℕ) (t : Piece) → slice_get (tokens_in (after_put pt)) i ≡ Some t → slice_get (tokens_in new.cut) i ≡ Some t
  new_token i t is = ap (λ (c : CutText). slice_get (tokens_in c) i) new_cut ∙ is

  no_literal : (i : ℕ) (t : Piece) → slice_get (tokens_in (before_put pt)) i ≡ Some t → t.class ≡ Name → i ≡ number → ⊥
  no_literal i t is name same =
      let token : t ≡ literal_piece pt = same_Some t (literal_piece pt) (sym is ∙ ap (slice_get (tokens_in (before_put pt))) same ∙ literal) in
      no_name pt.class may.is_string (ap (λ (x : Piece). x.class) (sym token) ∙ name)

  there : (i : ℕ) (t : Piece) → slice_get (tokens_in (before_put pt)) i ≡ Some t → t.class ≡ Name →
      IsStillOrMoved n.at (moved_behind pt) (tokens_in (after_put pt)) (from_on number i) t
  there i t is name =
      subst (λ m. IsStillOrMoved m (moved_behind pt) (tokens_in (after_put pt)) (from_on number i) t) (sym at)
      (token_there pt number may literal i t is (no_literal i t is name))

  put_size : length (put_bytes pt) ≡ k
  put_size = ap length puts

  moved_start : (t : Piece) → n.at < t.span.start → (moved_behind pt t).span.start ≡ t.span.start + k
  moved_start t lt =
      let behind : length pt.front < t.span.start = subst (λ m. m < t.span.start) at lt in
      shift t.span.start (length pt.front) (length (put_bytes pt)) behind ∙ ap (λ m. t.span.start + m) put_size

  moved_end : (t : Piece) → n.at < t.span.end → (moved_behind pt t).span.end ≡ t.span.end + k
  moved_end t lt =
      let behind : length pt.front < t.span.end = subst (λ m. m < t.span.end) at lt in
      shift t.span.end (length pt.front) (length (put_bytes pt)) behind ∙ ap (λ m. t.span.end + m) put_size

  moved_edit : (t : Piece) → n.at < t.span.start → t.span.start ≤ t.span.end → (name : List ℕ) →
      token_edit (moved_behind pt t) name ≡ later_edit k (token_edit t name)
  moved_edit t lt order name =
      let start : (moved_behind pt t).span.start ≡ t.span.start + k = moved_start t lt in
      let end : (moved_behind pt t).span.end ≡ t.span.end + k = moved_end t (omega arith) in
      λ m. record { span = record { start = start m; end = end m }; text = name }

  early : (o : ℕ) → o < n.at → moved_offset (first_step n) o ≡ o
  early o lt = early_first n o are lt

  late : (o : ℕ) → n.at ≤ o → moved_offset (first_step n) o ≡ o + k
  late o le = late_first n o are le

  -- a token that was renamed is renamed in the second step

  module _ (places : ArePlacesMoved) where
    renames_there : (j : ℕ) (u : Piece) → slice_get (tokens_in (after_put pt)) j ≡ Some u → u.class ≡ Name → Is u.span.start →
        RenamesToken new later j (token_edit u later.name)
    renames_there j u is name among = record { token = u; at = new_token j u is; is_name = name; among = among; is_edit = refl }

    same_name : later.name ≡ r.name
    same_name = named_later ∙ sym named

    forward_before : (e : Edit) → Contains n.before e → (j : ℕ) × IsEditAt new later j e
    forward_before e has = by_kind ((edits.each e).0 (from_before e has))
      where
        by_token : (i : ℕ) (x : RenamesToken f r i e) →
            IsStillOrMoved n.at (moved_behind pt) (tokens_in (after_put pt)) (from_on number i) x.token → (j : ℕ) × IsEditAt new later j e
        by_token i x (inl still) =
            let among : Is x.token.span.start = subst Is (early x.token.span.start still.0) (places.there x.token.span.start x.among) in
            let is = renames_there (from_on number i) x.token still.2 x.is_name among in
            let same : token_edit x.token later.name ≡ e = ap (token_edit x.token) same_name ∙ sym x.is_edit in
            (from_on number i, inr (subst (RenamesToken new later (from_on number i)) same is))
        by_token i x (inr moved) =
            let start : e.span.start ≡ x.token.span.start = ap (λ (d : Edit). d.span.start) x.is_edit in
            let lt : n.at < e.span.start = subst (λ m. n.at < m) (sym start) moved.0 in
            absurd (past n.at e.span.start e.span.end lt (grows n are e (from_before e has)) (ends n are e has))

        by_kind : (i : ℕ) × IsEditAt f r i e → (j : ℕ) × IsEditAt new later j e
        by_kind (i, inl x) =
            absurd ((once_around n.before whole n.behind edits.once).not_before
            (subst (Contains n.before) (one_insertion f r i number e whole x whole_is) has))
        by_kind (i, inr x) = by_token i x (there i x.token (old_token i x.token x.at) x.is_name)

    forward_behind : (e : Edit) → Contains n.behind e → (j : ℕ) × IsEditAt new later j (later_edit k e)
    forward_behind e has = by_kind ((edits.each e).0 (from_behind e has))
      where
        by_token : (i : ℕ) (x : RenamesToken f r i e) →
            IsStillOrMoved n.at (moved_behind pt) (tokens_in (after_put pt)) (from_on number i) x.token → (j : ℕ) × IsEditAt new later j (later_edit k e)
        by_token i x (inl still) =
            let start : e.span.start ≡ x.token.span.start = ap (λ (d : Edit). d.span.start) x.is_edit in
            let from : n.at ≤ e.span.start = begins n are e has in
            let lt : x.token.span.start < n.at = still.0 in
            absurd (omega arith)
        by_token i x (inr moved) =
            let t = x.token in
            let order : t.span.start ≤ t.span.end =
            subst (λ (d : Edit). d.span.start ≤ d.span.end) x.is_edit (grows n are e (from_behind e has)) in
            let among : Is (moved_behind pt t).span.start =
            subst Is (late t.span.start (omega (arith, moved.0)) ∙ sym (moved_start t moved.0)) (places.there t.span.start x.among) in
            let is = renames_there (from_on number i) (moved_behind pt t) moved.1 x.is_name among in
            let same : token_edit (moved_behind pt t) later.name ≡ later_edit k e =
            ap (token_edit (moved_behind pt t)) same_name ∙ moved_edit t moved.0 order r.name ∙ ap (later_edit k) (sym x.is_edit) in
            (from_on number i, inr (subst (RenamesToken new later (from_on number i)) same is))

        by_kind : (i : ℕ) × IsEditAt f r i e → (j : ℕ) × IsEditAt new later j (later_edit k e)
        by_kind (i, inl x) =
            absurd ((once_around n.before whole n.behind edits.once).not_behind
            (subst (Contains n.behind) (one_insertion f r i number e whole x whole_is) has))
        by_kind (i, inr x) = by_token i x (there i x.token (old_token i x.token x.at) x.is_name)

    own_edit : token_edit (name_piece pt) later.name ≡ renamed
    own_edit =
        let end : name_place pt + length pt.name ≡ (n.at + length n.front) + length n.own = λ m. place m + own m in
        λ m. record { span = record { start = place m; end = end m }; text = named_later m }

    forward_own : (j : ℕ) × IsEditAt new later j renamed
    forward_own =
        let is = token_own pt number may literal in (
          number,
          inr (subst (RenamesToken new later number) own_edit
              (record { token = name_piece pt; at = new_token number (name_piece pt) is; is_name = refl; among = places.own_place; is_edit = refl })),
        )

    forward : (e : Edit) → Contains (second_step n) e → (j : ℕ) × IsEditAt new later j e
    forward e has = elim (Contains-append_cases n.before (renamed ∷ map (later_edit k) n.behind) e has) [
      | inl one ↦ forward_before e one
      | inr two ↦ elim (first_or_later renamed (map (later_edit k) n.behind) e two) [
        | inl same ↦ (forward_own.0, subst (IsEditAt new later forward_own.0) same forward_own.1)
        | inr later_one ↦
            let d = mapped_from (later_edit k) n.behind e later_one in
            let x = forward_behind d.0 d.1 in
            (x.0, subst (IsEditAt new later x.0) d.2 x.1)
      ]
    ]

    -- and what is renamed in the second step is its edit

    put_before : (e : Edit) → Contains n.before e → Contains (second_step n) e
    put_before e has = Contains-append_left n.before (renamed ∷ map (later_edit k) n.behind) e has

    put_own : Contains (second_step n) renamed
    put_own = Contains-append_right n.before (renamed ∷ map (later_edit k) n.behind) renamed (first_in renamed (map (later_edit k) n.behind))

    put_behind : (e : Edit) → Contains n.behind e → Contains (second_step n) (later_edit k e)
    put_behind e has =
        Contains-append_right n.before (renamed ∷ map (later_edit k) n.behind) (later_edit k e)
        (later_in renamed (map (later_edit k) n.behind) (later_edit k e) (is_mapped (later_edit k) n.behind e has))

    -- the old offset of a name that does not begin where the new one does

    old_early : (o : ℕ) → o < n.at → Is o → Was o
    old_early o lt is = elim (places.back o is) [
      | inl same ↦ (let e : o ≡ n.at + length n.front = same ∙ place in absurd (omega arith))
      | inr x ↦ elim (cases_lt x.0 n.at) [
        | inl before ↦ subst Was (sym (early x.0 before) ∙ x.1.1) x.1.0
        | inr behind ↦ (let e : x.0 + k ≡ o = sym (late x.0 behind) ∙ x.1.1 in absurd (omega arith))
      ]
    ]

    old_late : (o : ℕ) → n.at < o → Is (o + k) → Was o
    old_late o lt is = elim (places.back (o + k) is) [
      | inl same ↦ (let e : o + k ≡ n.at + length n.front = same ∙ place in let long = size in absurd (omega arith))
      | inr x ↦ elim (cases_lt x.0 n.at) [
        | inl before ↦ (let e : x.0 ≡ o + k = sym (early x.0 before) ∙ x.1.1 in absurd (omega arith))
        | inr behind ↦
            let e : x.0 + k ≡ o + k = sym (late x.0 behind) ∙ x.1.1 in
            let same : x.0 ≡ o = omega arith in
            subst Was same x.1.0
      ]
    ]

    renames_old : (i : ℕ) (u : Piece) → slice_get (tokens_in (before_put pt)) i ≡ Some u → u.class ≡ Name → Was u.span.start →
        Contains (at_once n) (token_edit u r.name)
    renames_old i u is name among =
        (edits.each (token_edit u r.name)).1 (
          i,
          inr (record {
            token = u;
            at = ap (λ (c : CutText). slice_get (tokens_in c) i) old_cut ∙ is;
            is_name = name;
            among = among;
            is_edit = refl;
          }),
        )

    backward_still : (i : ℕ) (u : Piece) → slice_get (tokens_in (before_put pt)) i ≡ Some u → u.class ≡ Name → u.span.start < n.at → Is u.span.start →
        Contains (second_step n) (token_edit u r.name)
    backward_still i u is name lt among =
        elim (in_whole (token_edit u r.name) (renames_old i u is name (old_early u.span.start lt among))) [
          | inl one ↦ put_before (token_edit u r.name) one
          | inr more ↦ elim more [
            | inl same ↦ (let start : u.span.start ≡ n.at = ap (λ (d : Edit). d.span.start) same in absurd (omega arith))
            | inr two ↦ (let from : n.at ≤ u.span.start = begins n are (token_edit u r.name) two in absurd (omega arith))
          ]
        ]

    backward_moved : (i : ℕ) (u : Piece) → slice_get (tokens_in (before_put pt)) i ≡ Some u → u.class ≡ Name → n.at < u.span.start →
        Is (moved_behind pt u).span.start → Contains (second_step n) (token_edit (moved_behind pt u) r.name)
    backward_moved i u is name lt among =
        let has = renames_old i u is name (old_late u.span.start lt (subst Is (moved_start u lt) among)) in
        let order : u.span.start ≤ u.span.end = grows n are (token_edit u r.name) has in
        elim (in_whole (token_edit u r.name) has) [
          | inl one ↦ (let to : u.span.end ≤ n.at = ends n are (token_edit u r.name) one in absurd (past n.at u.span.start u.span.end lt order to))
          | inr more ↦ elim more [
            | inl same ↦ (let start : u.span.start ≡ n.at = ap (λ (d : Edit). d.span.start) same in absurd (omega arith))
            | inr two ↦ subst (Contains (second_step n)) (sym (moved_edit u lt order r.name)) (put_behind (token_edit u r.name) two)
          ]
        ]

    backward_token : (j : ℕ) → (j ≡ number → ⊥) → (t : Piece) → slice_get (tokens_in (after_put pt)) j ≡ Some t → t.class ≡ Name → Is t.span.start →
        Contains (second_step n) (token_edit t r.name)
    backward_token j other t is name among =
        let x = token_back pt number may literal j t is other in
        let here : slice_get (tokens_in (after_put pt)) (from_on number x.0) ≡ Some t = ap (slice_get (tokens_in (after_put pt))) x.1.1.1 ∙ is in
        let same_class : t.class ≡ x.1.0.class =
        class_is (slice_get (tokens_in (before_put pt)) x.0) (slice_get (tokens_in (after_put pt)) (from_on number x.0)) t x.1.0 here x.1.1.0
        (classes_kept pt number may literal x.0) in
        let was_name : x.1.0.class ≡ Name = sym same_class ∙ name in
        elim (there x.0 x.1.0 x.1.1.0 was_name) [
          | inl still ↦
              let same : t ≡ x.1.0 = same_Some t x.1.0 (sym here ∙ still.2) in
              subst (λ (y : Piece). Contains (second_step n) (token_edit y r.name)) (sym same)
              (backward_still x.0 x.1.0 x.1.1.0 was_name still.0 (subst (λ (y : Piece). Is y.span.start) same among))
          | inr moved ↦
              let same : t ≡ moved_behind pt x.1.0 = same_Some t (moved_behind pt x.1.0) (sym here ∙ moved.1) in
              subst (λ (y : Piece). Contains (second_step n) (token_edit y r.name)) (sym same)
              (backward_moved x.0 x.1.0 x.1.1.0 was_name moved.0 (subst (λ (y : Piece). Is y.span.start) same among))
        ]

    backward : (e : Edit) → (j : ℕ) × IsEditAt new later j e → Contains (second_step n) e
    backward e (j, inl x) = absurd (subst (λ o. IsLiteralAt o new.path j) none x.is_literal)
    backward e (j, inr x) =
        let is : slice_get (tokens_in (after_put pt)) j ≡ Some x.token = ap (λ (c : CutText). slice_get (tokens_in c) j) (sym new_cut) ∙ x.at in
        elim (cases_eq j number) [
          | inl same ↦
              let token : x.token ≡ name_piece pt =
              same_Some x.token (name_piece pt) (sym is ∙ ap (slice_get (tokens_in (after_put pt))) same ∙ token_own pt number may literal) in
              subst (Contains (second_step n)) (sym (x.is_edit ∙ ap (λ y. token_edit y later.name) token ∙ own_edit)) put_own
          | inr other ↦
              subst (Contains (second_step n)) (sym (x.is_edit ∙ ap (token_edit x.token) same_name)) (backward_token j other x.token is x.is_name x.among)
        ]

    -- the text after the first step

    new_text : edited_text (first_step n) f.cut.text ≡ new.cut.text
    new_text =
        let rest = pt.literal ++ pt.rest in
        let front : take (length pt.front - 0) (pt.front ++ rest) ≡ pt.front = take_at pt.front rest (length pt.front - 0) (omega arith) in
        let back : drop (length pt.front) (pt.front ++ rest) ≡ rest = drop_at pt.front rest (length pt.front) refl in
        ap (λ (c : CutText). edited_text (first_step n) c.text) old_cut
        ∙ ap (λ m. take (m - 0) (pt.front ++ rest) ++ (put_first n ++ drop m (pt.front ++ rest))) at
        ∙ (λ m. front m ++ (sym puts m ++ back m))
        ∙ ap (λ (c : CutText). c.text) (sym new_cut)

    second : IsSecondStep n f.cut.text
    second = second_steps_lie_within n f.cut.text are edits.end_by.ends

    pub second_edits : AreFileEdits new later (second_step n)
    second_edits = record {
      end_by = record {
        in_order = second.in_order;
        ends = subst (λ text. LieWithin (length text) (second_step n)) new_text second.within;
      };
      each = λ e. (forward e, backward e);
      once = second_once n are edits.once;
    }
