-- An import without a name gains the name of a rename before its literal.
use Rattle.std.proofs.Common.{◌≡◌, ℕ, zero, suc, ◌+◌, ◌≤◌, ◌-◌, ◌⊎◌, inl, inr, List, []}
use Rattle.std.proofs.Common.{◌∷◌, length, take, drop, Option, Some, None, refl, sym, ap, subst, ◌∙◌, arith}
use Rattle.std.specs.Prelude.{slice_get, codes}
use Rattle.std.specs.List.{Contains, slice_range}
use Rattle.std.specs.Cmp.{nat_cmp_is}
use Rattle.std.specs.FinMap.{get}
use Rattle.std.specs.Ordering.{nat_cmp}
use Rattle.std.proofs.lemmas.Bool.{cases_lt}
use Rattle.std.proofs.lemmas.Option.{none-some, same_Some}
use Rattle.std.proofs.lemmas.List.Elements.{All-from_recursion}
use Rattle.std.specs.declared.cmp.Ordering.TheVariants.{Equal, Less}
use Rattle.base_lemmas.proofs.EachElement.{all_from_each}
use Rattle.base_files.specs.declared.place.Span.{Span}
use Rattle.base_edits.specs.EditSet.{FileChanges, path_by, change_of}
use Rattle.base_edits.specs.Edits.{edited_text}
use Rattle.base_edits.specs.Fits.{path_by_change}
use Rattle.base_edits.specs.Laws.{AreUntouched}
use Rattle.base_edits.specs.Moved.{edits_by}
use Rattle.base_edits.specs.declared.change.FileChange.{FileChange}
use Rattle.base_edits.specs.declared.edit.Edit.{Edit}
use Rattle.base_edits.proofs.Changes.{change_found}
use Rattle.base_files.specs.Workspace.{Workspace}
use Rattle.go_ast.specs.SourceFile.{SourceFile, spelling_of, offset_of}
use Rattle.go_scanner.specs.declared.piece.Class.TheVariants.{Name}
use Rattle.go_scanner.specs.declared.piece.Piece.{Piece}
use Rattle.go_scanner.specs.CutText.{tokens_in}
use Rattle.go_scanner.specs.Spans.{AreTokensInOrder, FollowFrom}
use Rattle.go_scanner.proofs.SpanLemmas.{tokens_in_order}
use Rattle.go_scope.proofs.Uniqueness.{same_or_not}
use Rattle.types_declared.proofs.ByteKeys.{cases_bytes}
use Rattle.workspace_check.specs.Verdicts.{Verdicts}
use Rattle.workspace_snapshot.specs.declared.change.Change.{Change}
use Rattle.law_tokens.proofs.HeldBytes.{one_index, follows}
use Rattle.refactor_rename.specs.declared.renamed.Renamed.{Renamed}
use Rattle.refactor_rename.specs.FileEdits.{IsLiteralAt, InsertsName, IsEditAt, AreFileEdits}
use Rattle.refactor_rename.specs.RenameEdits.{AreEditsOf}
use Rattle.refactor_rename.specs.Replacements.{EndsImport, FollowsImportWord, IsNameBefore, apart, joined}
use Rattle.refactor_rename.proofs.Editing.{one_insertion, one_literal}
use Rattle.refactor_rename.proofs.Sources.{source_file, source_text}
use Rattle.law_plans.specs.GainedNames.{insertion, IsBeside, RenamesNameImports}
use Rattle.law_plans.proofs.FilesKept.{file_there, bytes_stay}
use Rattle.law_plans.proofs.ImportLiterals.{found_no_name}
use Rattle.law_plans.proofs.Inserted.{put_before}

-- whether the word `import` is directly before a token
ends_import : (f : SourceFile) (before offset : ℕ) → EndsImport f before offset ⊎ (EndsImport f before offset → ⊥)
ends_import f before offset = elim (cases_bytes (spelling_of f before) (codes "import")) [
  | inr other ↦ inr (λ h. other h.word)
  | inl word ↦ elim (same_or_not (offset_of f before + length (spelling_of f before)) offset) [
    | inl ends ↦ inl (record { word = word; ends = ends })
    | inr away ↦ inr (λ h. away h.ends)
  ]
]

follows_import : (f : SourceFile) (i at : ℕ) → i ≡ at → FollowsImportWord f i ⊎ (FollowsImportWord f i → ⊥)
follows_import f i zero e = inr (λ h. let n = h.next in absurd (let z : i ≡ suc h.before = n in omega arith))
follows_import f i (suc before) e = elim (ends_import f before (offset_of f i)) [
  | inl h ↦ inl (record { before = before; next = e; is_import = h })
  | inr away ↦ inr (λ h.
      let next : i ≡ suc h.before = h.next in
      let same : h.before ≡ before = omega arith in away (subst (λ k. EndsImport f k (offset_of f i)) same h.is_import))
]

some_name : (f : SourceFile) (i : ℕ) (name : List ℕ) → (put : List ℕ) × IsNameBefore f i name put
some_name f i name = elim (follows_import f i i refl) [ inl h ↦ (_, joined h) | inr away ↦ (_, apart away) ]

-- tokens lie apart
lie_apart : (from to : ℕ) (ts : List Piece) → FollowFrom from ts to → (i j : ℕ) (a b : Piece) → (i ≡ j → ⊥) → slice_get ts i ≡ Some a →
    slice_get ts j ≡ Some b → (b.span.end ≤ a.span.start) ⊎ (a.span.end ≤ b.span.start)
lie_apart from to [] h i j a b other is at = absurd (none-some a is)
lie_apart from to (t ∷ ts) h zero zero a b other is at = absurd (other refl)
lie_apart from to (t ∷ ts) h zero (suc j) a b other is at =
    inr (subst (λ (p : Piece). p.span.end ≤ b.span.start) (same_Some t a is) (follows t.span.end to ts h.2 j b at))
lie_apart from to (t ∷ ts) h (suc i) zero a b other is at =
    inl (subst (λ (p : Piece). p.span.end ≤ a.span.start) (same_Some t b at) (follows t.span.end to ts h.2 i a is))
lie_apart from to (t ∷ ts) h (suc i) (suc j) a b other is at = lie_apart t.span.end to ts h.2 i j a b (λ e. other (ap suc e)) is at

not_below : (x : ℕ) → nat_cmp x x ≡ Less → ⊥
not_below x less = let wrong : Equal ≡ Less = nat_cmp_is x x Equal refl ∙ less in cc

-- a file that a rename edits stays at its path
stays_there : (w : Workspace) (known : Verdicts) (r : Renamed) (s : FileChanges) → AreEditsOf w known r s → (path : List ℕ) (o : Option FileChange) →
    change_of s path ≡ o → path_by_change o path ≡ Some path
stays_there w known r s are path None e = refl
stays_there w known r s are path (Some c) e =
    let found = change_found s.changed path c e in
    ap (λ fate. path_by fate path) (are.only c found.0).stays

-- the bytes of an empty range
no_bytes : (new text : List ℕ) (m start end : ℕ) → end ≤ start → slice_range new m (m + (end - start)) ≡ slice_range text start end
no_bytes new text m start end le =
    ap (λ k. take k (drop m new)) (let e : (m + (end - start)) - m ≡ 0 = omega arith in e)
    ∙ ap (λ k. take k (drop start text)) (let e : 0 ≡ end - start = omega arith in e)

token_ends : (from to : ℕ) (ts : List Piece) → FollowFrom from ts to → from ≤ to
token_ends from to [] h = h
token_ends from to (t ∷ ts) h = omega (arith, h.0, h.1, token_ends t.span.end to ts h.2)

ends_within : (from to : ℕ) (ts : List Piece) → FollowFrom from ts to → (i : ℕ) (a : Piece) → slice_get ts i ≡ Some a → a.span.end ≤ to
ends_within from to [] h i a is = absurd (none-some a is)
ends_within from to (t ∷ ts) h zero a is = subst (λ (p : Piece). p.span.end ≤ to) (same_Some t a is) (token_ends t.span.end to ts h.2)
ends_within from to (t ∷ ts) h (suc i) a is = ends_within t.span.end to ts h.2 i a is

token_within : (f : SourceFile) (token : Piece) (i : ℕ) → slice_get (tokens_in f.cut) i ≡ Some token → FollowFrom 0 (tokens_in f.cut) (length f.cut.text) →
    token.span.end ≤ length f.cut.text
token_within f token i at follow = ends_within 0 (length f.cut.text) (tokens_in f.cut) follow i token at

module _ (f : SourceFile) (r : Renamed) (edits : List Edit) (are : AreFileEdits f r edits) (in_order : AreTokensInOrder f.cut.text (tokens_in f.cut)) (i : ℕ)
    (token : Piece) (at : slice_get (tokens_in f.cut) i ≡ Some token) (no_name : token.class ≡ Name → ⊥) (literal : IsLiteralAt r.literal f.path i)
    (put : List ℕ) (is_put : IsNameBefore f i r.name put) where
  abbrev one : Edit
  one = insertion token put

  inserts : InsertsName f r i one
  inserts = record { token = token; at = at; is_literal = literal; span = refl; text = is_put }

  pub contained : Contains edits one
  contained = (are.each one).1 (i, inl inserts)

  -- an edit is this one, or replaces another token
  record ReplacesOther (e : Edit) : Type 0 where
    index : ℕ
    other : i ≡ index → ⊥
    piece : Piece
    is_token : slice_get (tokens_in f.cut) index ≡ Some piece
    span : e.span ≡ piece.span

  told : (e : Edit) → Contains edits e → (e ≡ one) ⊎ ReplacesOther e
  told e has = by_kind ((are.each e).0 has)
    where
      by_kind : ((j : ℕ) × IsEditAt f r j e) → (e ≡ one) ⊎ ReplacesOther e
      by_kind (j, inl h) =
          let same : j ≡ i = one_literal r.literal f.path j i h.is_literal literal in
          inl (one_insertion f r i e one (subst (λ k. InsertsName f r k e) same h) inserts)
      by_kind (j, inr h) = inr (record {
        index = j;
        other = λ same.
            let here : h.token ≡ token = same_Some h.token token (sym h.at ∙ ap (λ k. slice_get (tokens_in f.cut) k) (sym same) ∙ at) in
            no_name (ap (λ (p : Piece). p.class) (sym here) ∙ h.is_name);
        piece = h.token;
        is_token = h.at;
        span = ap (λ (x : Edit). x.span) h.is_edit;
      })

  apart_from : (e : Edit) → ReplacesOther e → IsBeside token e
  apart_from e h =
      subst (λ (x : Span). (x.end ≤ token.span.start) ⊎ (token.span.end ≤ x.start)) (sym h.span)
      (lie_apart 0 (length f.cut.text) (tokens_in f.cut) in_order.follow i h.index token h.piece h.other at h.is_token)

  pub only_one : (e : Edit) → Contains edits e → (e ≡ one) ⊎ IsBeside token e
  only_one e has = elim (told e has) [ inl same ↦ inl same | inr h ↦ inr (apart_from e h) ]

  -- no other edit inserts there
  pub same_text : (e : Edit) → Contains edits e → e.span.start ≡ token.span.start → e.span.end ≡ token.span.start → e.text ≡ put
  same_text e has start end = elim (told e has) [
    | inl same ↦ ap (λ (x : Edit). x.text) same
    | inr h ↦
        let begins : token.span.start ≡ h.piece.span.start = sym start ∙ ap (λ (x : Span). x.start) h.span in
        absurd (h.other
        (one_index nat_cmp (λ (p : Piece). p.span.start) not_below (tokens_in f.cut) in_order.rise i h.index token h.piece at h.is_token begins))
  ]

  abbrev IsKept : Edit → Type 0
  IsKept e = (token.span.end ≤ e.span.start) ⊎ (e.span.end ≤ token.span.start)

  pub untouched : AreUntouched edits token.span.start token.span.end
  untouched = All-from_recursion IsKept edits (all_from_each IsKept edits (λ e has. elim (only_one e has) [
    | inl same ↦ inr (subst (λ (x : Edit). x.span.end ≤ token.span.start) (sym same) (let e : token.span.start ≤ token.span.start = omega arith in e))
    | inr h ↦ elim h [ inl before ↦ inr before | inr behind ↦ inl behind ]
  ]))

pub names_are_gained : RenamesNameImports
names_are_gained snapshot path offset name change plans f source i token at literal =
    let planned = plans.1 in
    let w = snapshot.files in
    let known = planned.renaming.may.renamable.asked.known in
    let rename = planned.renaming.edits.edits in
    let r = rename.renamed in
    let s = change.edits in
    let edits = edits_by (change_of s f.path) in
    let are : AreFileEdits f r edits = rename.edits.each f source in
    let cut = (source_file w known f source).parsed.is_file.is_cut in
    let tokens = tokens_in_order f.cut.text f.cut.pieces cut in
    let no_name = found_no_name w plans.0.sound known planned.renaming.may.renamable.asked.right f source i token at
    planned.renaming.may.renamable.asked.declaration r.literal rename.is_renamed.literal literal in
    let put = some_name f i r.name in
    let text = source_text w known f source in
    let goes = stays_there w known r s rename.edits f.path (change_of s f.path) refl in
    let one = insertion token put.0 in
    let inserted = put_before edits f.cut.text one token.span.start are.end_by.in_order are.end_by.ends
    (contained f r edits are tokens i token at no_name literal put.0 put.1) refl refl (same_text f r edits are tokens i token at no_name literal put.0 put.1) in
    record {
      put = put.0;
      is_put = subst (λ n. IsNameBefore f i n put.0) rename.is_renamed.named put.1;
      inserts = contained f r edits are tokens i token at no_name literal put.0 put.1;
      new = edited_text edits f.cut.text;
      there = ap (λ (c : Change). get c.files f.path) planned.is_change ∙ file_there w s planned.fit_files f.path f.cut.text text f.path goes;
      front = inserted.front;
      behind = inserted.behind;
      stands = inserted.stands;
      directly = inserted.directly;
      kept = elim (cases_lt token.span.start token.span.end) [
        | inl some ↦ bytes_stay w s planned.fit_files f.path f.cut.text text are.end_by.in_order token.span.start token.span.end some
            (token_within f token i at tokens.follow)
            (untouched f r edits are tokens i token at no_name literal put.0 put.1)
        | inr none ↦ no_bytes (edited_text edits f.cut.text) f.cut.text _ token.span.start token.span.end none
      ];
      only = only_one f r edits are tokens i token at no_name literal put.0 put.1;
    }
