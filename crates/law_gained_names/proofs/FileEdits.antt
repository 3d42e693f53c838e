-- Each file has its list of edits.
use Rattle.std.proofs.Common.{ℕ, zero, suc, ◌≡◌, ◌<◌, ◌≤◌, inl, inr, List, [], ◌∷◌, ◌++◌, length, get_or, ap, sym, subst, refl, ◌∙◌, arith}
use Rattle.std.specs.Prelude.{◌+◌, Option, Some, None, Contains, codes, slice_get}
use Rattle.std.proofs.lemmas.Option.{same_Some, slice_get-get_or}
use Rattle.base_lemmas.proofs.Elements.{nothing_in, first_in, later_in, first_or_later}
use Rattle.base_files.specs.declared.place.Place.{Place}
use Rattle.base_edits.specs.declared.edit.Edit.{Edit}
use Rattle.go_scanner.specs.declared.piece.Class.TheVariants as class
use Rattle.go_scanner.specs.declared.piece.Piece.{Piece}
use Rattle.go_scanner.specs.CutText.{tokens_in}
use Rattle.go_scanner.specs.Spans.{AreTokensInOrder}
use Rattle.go_scanner.proofs.SpanLemmas.{tokens_in_order}
use Rattle.go_scope.proofs.Uniqueness.{same_or_not}
use Rattle.go_ast.specs.SourceFile.{SourceFile, IsSourceFile, spelling_of, offset_of}
use Rattle.types_declared.proofs.ByteKeys.{cases_bytes}
use Rattle.refactor_rename.specs.declared.renamed.Literal.{Literal}
use Rattle.refactor_rename.specs.declared.renamed.Renamed.{Renamed}
use Rattle.refactor_rename.specs.FileEdits.{AppendsEdit, stays, grows, AppendsEditsAt, AreFileEdits, EndBy, InsertsName, IsLiteralAt, RenamesToken}
use Rattle.refactor_rename.specs.Replacements.{EndsImport, FollowsImportWord, IsNameBefore, apart, joined}
use Rattle.refactor_rename.proofs.Editing.{Going, going_first, going_next, follow_at, end_more, end_push, all_edits}
use Rattle.law_faultless.proofs.Deciding.{Decided, both, turned}
use Rattle.law_gained_names.proofs.Listed.{name_class}

no_piece : Piece
no_piece = record { class = class.ByteOrderMark; span = record { start = 0; end = 0 } }

-- whether a place is listed

same_place : (a b : Place) → Decided (a ≡ b)
same_place a b =
    turned ((a.path ≡ b.path) × (a.offset ≡ b.offset)) (a ≡ b)
    (λ e. ap (λ q. record { path = q; offset = a.offset }) e.0 ∙ ap (λ n. record { path = b.path; offset = n }) e.1)
    (λ e. (ap (λ (x : Place). x.path) e, ap (λ (x : Place). x.offset) e))
    (both (a.path ≡ b.path) (a.offset ≡ b.offset) (cases_bytes a.path b.path) (same_or_not a.offset b.offset))

listed : (xs : List Place) (q : Place) → Decided (Contains xs q)
listed [] q = inr (λ h. nothing_in q h)
listed (x ∷ xs) q = elim (same_place x q) [
  | inl same ↦ inl (subst (Contains (x ∷ xs)) same (first_in x xs))
  | inr other ↦ elim (listed xs q) [
    | inl there ↦ inl (later_in x xs q there)
    | inr none ↦ inr (λ h. elim (first_or_later x xs q h) [ inl e ↦ other e | inr c ↦ none c ])
  ]
]

-- the text that is inserted before a literal

ends_import : (f : SourceFile) (token offset : ℕ) → Decided (EndsImport f token offset)
ends_import f token offset =
    turned ((spelling_of f token ≡ codes "import") × (offset_of f token + length (spelling_of f token) ≡ offset)) (EndsImport f token offset)
    (λ h. record { word = h.0; ends = h.1 }) (λ h. (h.word, h.ends))
    (both (spelling_of f token ≡ codes "import") (offset_of f token + length (spelling_of f token) ≡ offset) (cases_bytes (spelling_of f token) (codes
    "import"))
    (same_or_not (offset_of f token + length (spelling_of f token)) offset))

follows_word : (f : SourceFile) (token : ℕ) → Decided (FollowsImportWord f token)
follows_word f zero = inr (λ h. let e : 0 ≡ suc h.before = h.next in absurd (omega (arith, e)))
follows_word f (suc before) =
    turned (EndsImport f before (offset_of f (suc before))) (FollowsImportWord f (suc before)) (λ h. record { before = before; next = refl; is_import = h })
    (λ h. let same : h.before ≡ before = (let e : suc before ≡ suc h.before = h.next in omega (arith, e)) in
    subst (λ b. EndsImport f b (offset_of f (suc before))) same h.is_import) (ends_import f before (offset_of f (suc before)))

pub text_before : (f : SourceFile) (token : ℕ) (name : List ℕ) → (text : List ℕ) × IsNameBefore f token name text
text_before f token name = elim (follows_word f token) [ inl h ↦ (_, joined h) | inr n ↦ (_, apart n) ]

literal_at : (o : Option Literal) (path : List ℕ) (token : ℕ) → Decided (IsLiteralAt o path token)
literal_at None path token = inr (λ h. h)
literal_at (Some l) path token = both (l.path ≡ path) (l.token ≡ token) (cases_bytes l.path path) (same_or_not l.token token)

-- one more token

module _ (f : SourceFile) (r : Renamed) (i : ℕ) (token : Piece) (at : slice_get (tokens_in f.cut) i ≡ Some token)
    (span : token.span.start ≤ token.span.end) where
  Adds : (Edit → Type 0) → List Edit → ℕ → Type 0
  Adds P old offset = (new : List Edit) × (EndBy new offset × AppendsEdit P old new)

  inserted : (old : List Edit) → EndBy old token.span.start → Adds (InsertsName f r i) old token.span.start
  unfolding Adds
  inserted old ends = elim (literal_at r.literal f.path i) [
    | inr other ↦ (old, (ends, stays (λ e h. other h.is_literal)))
    | inl literal ↦ (
        let n = token.span.start in
        let text = text_before f i r.name in
        let e : Edit = record { span = record { start = n; end = n }; text = text.0 } in
        let is : InsertsName f r i e = record { token = token; at = at; is_literal = literal; span = refl; text = text.1 } in (
          old ++ e ∷ [],
          (
            end_push old (old ++ e ∷ []) e n n refl ends (omega arith) (omega arith) (omega arith),
            grows e is,
          ),
        ))
  ]

  replaced : (old : List Edit) → EndBy old token.span.start → Adds (RenamesToken f r i) old token.span.end
  unfolding Adds
  replaced old ends = elim (both (token.class ≡ class.Name) (Contains r.places (record { path = f.path; offset = token.span.start })) (name_class token.class)
      (listed r.places (record { path = f.path; offset = token.span.start }))) [
        | inr other ↦ (
          old,
          (
            end_more old token.span.start token.span.end span ends,
            stays (λ e h. let same : h.token ≡ token = same_Some h.token token (sym h.at ∙ at) in
                other (subst (λ (t : Piece). (t.class ≡ class.Name) × Contains r.places (record { path = f.path; offset = t.span.start })) same
                (h.is_name, h.among))),
          ),
        )
        | inl is_use ↦ (
            let e : Edit = record { span = token.span; text = r.name } in
            let is : RenamesToken f r i e = record { token = token; at = at; is_name = is_use.0; among = is_use.1; is_edit = refl } in (
              old ++ e ∷ [],
              (
                end_push old (old ++ e ∷ []) e token.span.start token.span.end refl ends (omega arith) span (omega arith),
                grows e is,
              ),
            ))
      ]

  pub token_edits : (old : List Edit) → EndBy old token.span.start → (new : List Edit) × (EndBy new token.span.end × AppendsEditsAt f r i old new)
  unfolding Adds
  token_edits old ends =
      let first = inserted old ends in
      let two = replaced first.0 first.1.0 in
      (two.0, (two.1.0, record { between = first.0; inserts = first.1.1; replaces = two.1.1 }))

-- all tokens

module _ (f : SourceFile) (r : Renamed) (order : AreTokensInOrder f.cut.text (tokens_in f.cut)) where
  abbrev ts : List Piece
  ts = tokens_in f.cut

  going : (n : ℕ) → n ≤ length ts → (edits : List Edit) × Going f r ts n edits
  going zero le = ([], going_first f r ts [] refl order.follow)
  going (suc n) le =
      let lt : n < length ts = le in
      let old = going n (omega (arith, le)) in
      let token = get_or ts n no_piece in
      let follows = follow_at ts n old.1.at (length f.cut.text) no_piece lt old.1.follow in
      let at : slice_get ts n ≡ Some token = slice_get-get_or ts n no_piece lt in
      let new = token_edits f r n token at follows.1 old.0 (end_more old.0 old.1.at token.span.start follows.0 old.1.end_by) in
      let next : n + 1 ≡ suc n = omega arith in
      (new.0, subst (λ k. Going f r ts k new.0) next (going_next f r ts n no_piece old.0 new.0 order.rise lt old.1 new.1.0 new.1.1))

  pub file_edits_by : (edits : List Edit) × AreFileEdits f r edits
  file_edits_by = let all = going (length ts) (omega arith) in (all.0, all_edits f r ts all.0 (length ts) refl refl all.1)

pub file_edits : (f : SourceFile) (r : Renamed) → IsSourceFile f → (edits : List Edit) × AreFileEdits f r edits
file_edits f r is = file_edits_by f r (tokens_in_order f.cut.text f.cut.pieces is.is_cut)
