-- No move takes two declarations to one place: files stay apart, and tokens begin one behind another afterwards too.
use Rattle.std.proofs.Common.{ℕ, ◌≡◌, ◌<◌, ◌≤◌, ◌⊎◌, inl, inr, List, [], ◌∷◌, ◌++◌, Option, Some, None, IsSome, length, length-append}
use Rattle.std.proofs.Common.{refl, sym, ap, subst, ◌∙◌, arith}
use Rattle.std.specs.Prelude.{Contains, slice_get, unwrap_or}
use Rattle.std.specs.FinMap.{get}
use Rattle.std.proofs.lemmas.Bool.{cases_lt}
use Rattle.std.proofs.lemmas.List.{append_cancel_left}
use Rattle.std.proofs.lemmas.List.Elements.{All-contains}
use Rattle.base_files.specs.Workspace.{Workspace}
use Rattle.base_files.specs.declared.place.Place.{Place}
use Rattle.base_files.specs.declared.place.Span.{Span}
use Rattle.base_edits.specs.EditSet.{FileChanges, change_of}
use Rattle.base_edits.specs.Fits.{path_after}
use Rattle.base_edits.specs.Moved.{edits_by, moved_offset}
use Rattle.base_edits.specs.RevisionsOfEdits.{revision_of}
use Rattle.base_edits.specs.declared.edit.Edit.{Edit}
use Rattle.base_edits.proofs.Entries.{some_is}
use Rattle.go_scanner.specs.declared.piece.Class.{Class}
use Rattle.go_scanner.specs.declared.piece.Piece.{Piece}
use Rattle.go_scanner.specs.CutText.{tokens_in}
use Rattle.go_scanner.proofs.FamilyLemmas.{word_first}
use Rattle.go_scanner.proofs.SpanLemmas.{tokens_in_order}
use Rattle.go_ast.specs.SourceFile.{SourceFile, offset_at, offset_of}
use Rattle.types_declared.specs.Package.{Package}
use Rattle.workspace_check.specs.Verdicts.{Verdicts}
use Rattle.refs_binding.specs.declared.declaration.Declaration.{Declaration}
use Rattle.refs_binding.specs.declared.declaration.Declaration.TheVariants.{Predeclared, Declared, Field, Method}
use Rattle.refs_binding.specs.DeclaringPlaces.{InPackage, TokenBegins, HasDeclarationAt, IsDeclaredAt}
use Rattle.refs_binding.specs.Uses.{IsCheckedPackage}
use Rattle.refs_binding.proofs.PlaceOrder.{place_is}
use Rattle.refactor_move.specs.Paths.{IsUnder, HasMoved, quoted}
use Rattle.refactor_move.proofs.GoFiles.{text_of_file}
use Rattle.law_renamed_workspaces.specs.Apart.{MoveApart}
use Rattle.law_renamed_workspaces.proofs.DeclaredApart.{stand_apart}
use Rattle.law_renamed_workspaces.proofs.MovedApart.{StandsAtToken}
use Rattle.law_renamed_workspaces.proofs.RisingOffsets.{PutsOutside, begins_outside, moved_rises}
use Rattle.law_moves.specs.Moves.{IsMove}
use Rattle.law_moves.specs.Replacements.{MayReplace}
use Rattle.law_moves.proofs.MovedFiles.{Goes, file_goes}
use Rattle.law_moves.proofs.MoveEdits.{edit_of, edited_file, edits, is_file, replaces}

-- what takes the place of a piece has a byte
some_put : (c : Class) (text : List ℕ) → MayReplace c text → 0 < length text
some_put c text (inl name) = (word_first text name.1.0).0
some_put c text (inr string) = subst (λ (t : List ℕ). 0 < length t) (sym string.1.spelled) (longer string.1.path)
  where
    longer : (path : List ℕ) → 0 < length (quoted path)
    longer path = omega (arith, length-append path (34 ∷ []))

module _ (w : Workspace) (known : Verdicts) where
  token_file : (p : Package) → IsCheckedPackage w known p → (rank index : ℕ) (o : Option SourceFile) → slice_get p.files rank ≡ o → (place : Place) →
      TokenBegins o index place → StandsAtToken w known place
  token_file p is rank index None e place h = absurd h
  token_file p is rank index (Some f) e place h =
      record { inside = p; is_package = is; rank = rank; file = f; of_rank = e; index = index; of_path = h.0; begins = h.1 }

  in_package : (path : List ℕ) (d : Declaration) (place : Place) → InPackage (IsCheckedPackage w known) path (λ p. HasDeclarationAt p d place) →
      StandsAtToken w known place
  in_package path d place h =
      token_file h.inside h.is_package h.holds.at.file h.holds.at.index (slice_get h.inside.files h.holds.at.file) refl place h.holds.begins

  stands_at : (d : Declaration) (place : Place) → IsDeclaredAt (IsCheckedPackage w known) d place → StandsAtToken w known place
  stands_at (Predeclared n) place h = absurd h
  stands_at (Declared path n) place h = in_package path (Declared path n) place h
  stands_at (Field s) place h = in_package s.package (Field s) place h
  stands_at (Method s) place h = in_package s.package (Method s) place h

module _ (w : Workspace) (known : Verdicts) (from to : List ℕ) (s : FileChanges) (h : IsMove w known from to s) where
  -- files

  abbrev new_path : List ℕ → List ℕ
  new_path path = unwrap_or (path_after s path) path

  new_at : (path new : List ℕ) → path_after s path ≡ Some new → new_path path ≡ new
  new_at path new is = ap (λ o. unwrap_or o path) is

  never_both : (a b new : List ℕ) → IsSome (get w b) → HasMoved from to a new → (IsUnder from b → ⊥) → new ≡ b → ⊥
  never_both a b new some moves stays same = stays (h.only_moved b some (moves.rest, sym same ∙ moves.is))

  one_file : (a b : List ℕ) → IsSome (get w a) → IsSome (get w b) → Goes w known from to s h a → Goes w known from to s h b → new_path a ≡ new_path b → a ≡ b
  one_file a b one other (inl x) (inl y) same =
      let new : x.0 ≡ y.0 = sym (new_at a x.0 x.1.1) ∙ same ∙ new_at b y.0 y.1.1 in
      let m = x.1.0.moved in
      let n = y.1.0.moved in
      let rests : 47 ∷ m.rest ≡ 47 ∷ n.rest = append_cancel_left to (47 ∷ m.rest) (47 ∷ n.rest) (sym m.is ∙ new ∙ n.is) in
      m.was ∙ ap (λ r. from ++ r) rests ∙ sym n.was
  one_file a b one other (inr x) (inr y) same = sym (new_at a a x.1) ∙ same ∙ new_at b b y.1
  one_file a b one other (inl x) (inr y) same =
      absurd (never_both a b x.0 other x.1.0.moved y.0 (sym (new_at a x.0 x.1.1) ∙ same ∙ new_at b b y.1))
  one_file a b one other (inr x) (inl y) same =
      absurd (never_both b a y.0 one y.1.0.moved x.0 (sym (new_at b y.0 y.1.1) ∙ sym same ∙ new_at a a x.1))

  has_file : (place : Place) → StandsAtToken w known place → IsSome (get w place.path)
  has_file place t =
      subst (λ (q : List ℕ). IsSome (get w q)) t.of_path
      (some_is (get w t.file.path) t.file.cut.text (text_of_file w known t.inside t.is_package t.rank t.file t.of_rank))

  -- offsets
  module _ (place : Place) (t : StandsAtToken w known place) where
    abbrev f : SourceFile
    f = t.file

    abbrev es : List Edit
    es = edits w known from to s h t.inside t.is_package t.rank f t.of_rank

    token_outside : (i : ℕ) (a : Piece) → slice_get (tokens_in f.cut) i ≡ Some a → (o : Option Piece) → slice_get (tokens_in f.cut) t.index ≡ o →
        a.span.end ≤ length f.cut.text → (offset_at f.cut.text o ≤ a.span.start) ⊎ (a.span.end ≤ offset_at f.cut.text o)
    token_outside i a is None e ends = inr ends
    token_outside i a is (Some b) e ends =
        let cut = (is_file w known from to s h t.inside t.is_package t.rank f t.of_rank).is_cut in
        begins_outside 0 (length f.cut.text) (tokens_in f.cut) (tokens_in_order f.cut.text f.cut.pieces cut).follow i t.index a b is e

    puts : (e : Edit) → Contains es e → PutsOutside (offset_of f t.index) e
    puts e has =
        let file = edited_file w known from to s h t.inside t.is_package t.rank f t.of_rank in
        let r = replaces w known from to s h t.inside t.is_package t.rank f t.of_rank e has in
        let d = edit_of w known from to s h t.inside t.is_package t.rank f t.of_rank r.0 e r.1 in
        let ends : e.span.end ≤ length f.cut.text = All-contains (λ (x : Edit). x.span.end ≤ length f.cut.text) es e file.are.end_by.ends has in
        let within : d.token.span.end ≤ length f.cut.text = subst (λ (x : Span). x.end ≤ length f.cut.text) d.span ends in
        record {
          some = some_put d.token.class e.text d.may;
          outside = subst (λ (x : Span). (offset_of f t.index ≤ x.start) ⊎ (x.end ≤ offset_of f t.index)) (sym d.span)
              (token_outside r.0 d.token d.held (slice_get (tokens_in f.cut) t.index) refl within);
        }

    rises : (other : ℕ) → place.offset < other → moved_offset (edits_by (change_of s place.path)) place.offset <
        moved_offset (edits_by (change_of s place.path)) other
    rises other lt =
        let file = edited_file w known from to s h t.inside t.is_package t.rank f t.of_rank in
        let first : offset_of f t.index < other = subst (λ n. n < other) (sym t.begins) lt in
        subst (λ (path : List ℕ). moved_offset (edits_by (change_of s path)) place.offset < moved_offset (edits_by (change_of s path)) other) t.of_path
        (subst (λ n. moved_offset es n < moved_offset es other) t.begins
        (moved_rises es (offset_of f t.index) other file.are.end_by.in_order puts first))

  differs : (n m : ℕ) → n < m → n ≡ m → ⊥
  differs n m lt e = omega arith

  not_before : (a b : Place) → StandsAtToken w known a → a.path ≡ b.path → (revision_of w s).moved a ≡ (revision_of w s).moved b → a.offset < b.offset → ⊥
  not_before a b t path same lt =
      let offsets : moved_offset (edits_by (change_of s a.path)) a.offset ≡ moved_offset (edits_by (change_of s a.path)) b.offset =
      ap (λ (x : Place). x.offset) same ∙ ap (λ (q : List ℕ). moved_offset (edits_by (change_of s q)) b.offset) (sym path) in
      differs (moved_offset (edits_by (change_of s a.path)) a.offset) (moved_offset (edits_by (change_of s a.path)) b.offset) (rises a t b.offset lt) offsets

  pub moved_once : (a b : Place) → StandsAtToken w known a → StandsAtToken w known b → (revision_of w s).moved a ≡ (revision_of w s).moved b → a ≡ b
  moved_once a b t u same =
      let one = has_file a t in
      let other = has_file b u in
      let path : a.path ≡ b.path =
      one_file a.path b.path one other (file_goes w known from to s h a.path one) (file_goes w known from to s h b.path other)
      (ap (λ (x : Place). x.path) same) in
      elim (cases_lt a.offset b.offset) [
        | inl lt ↦ absurd (not_before a b t path same lt)
        | inr ge ↦ elim (cases_lt b.offset a.offset) [
          | inl gt ↦ absurd (not_before b a u (sym path) (sym same) gt)
          | inr le ↦ place_is a b path (omega arith)
        ]
      ]

  pub move_apart : MoveApart w known (revision_of w s)
  move_apart c e a b old new same =
      let place : a ≡ b = moved_once a b (stands_at w known c a old) (stands_at w known e b new) same in
      stand_apart w known c e b (subst (λ (x : Place). IsDeclaredAt (IsCheckedPackage w known) c x) place old) new
