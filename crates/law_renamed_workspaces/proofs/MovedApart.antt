-- No rename moves two declarations to one place: it leaves files at their paths, and tokens begin one behind another afterwards too.
use Rattle.std.proofs.Common.{◌≡◌, ℕ, ◌<◌, ◌≤◌, ◌⊎◌, inl, inr, List, [], ◌∷◌, Some, None, Option, length, length-append, ap, sym, subst, refl, ◌∙◌, arith}
use Rattle.std.specs.Prelude.{Contains, slice_get}
use Rattle.std.proofs.lemmas.Bool.{cases_lt}
use Rattle.std.proofs.lemmas.List.Elements.{All-contains}
use Rattle.base_files.specs.Workspace.{Workspace}
use Rattle.base_files.specs.declared.place.Place.{Place}
use Rattle.base_files.specs.declared.place.Span.{Span}
use Rattle.base_edits.specs.EditSet.{FileChanges, change_of}
use Rattle.base_edits.specs.Moved.{edits_by, moved_offset}
use Rattle.base_edits.specs.RevisionsOfEdits.{revision_of}
use Rattle.base_edits.specs.declared.edit.Edit.{Edit}
use Rattle.go_scanner.specs.declared.piece.Piece.{Piece}
use Rattle.go_scanner.specs.CutText.{tokens_in}
use Rattle.go_scanner.proofs.FamilyLemmas.{word_first}
use Rattle.go_scanner.proofs.SpanLemmas.{tokens_in_order}
use Rattle.go_ast.specs.SourceFile.{SourceFile, offset_at, offset_of}
use Rattle.types_declared.specs.Package.{Package}
use Rattle.workspace_check.specs.Verdicts.{Verdicts}
use Rattle.workspace_check.proofs.PackageFiles.{at_rank}
use Rattle.refs_binding.specs.declared.declaration.Declaration.{Declaration}
use Rattle.refs_binding.specs.declared.declaration.Declaration.TheVariants.{Predeclared, Declared, Field, Method}
use Rattle.refs_binding.specs.DeclaringPlaces.{InPackage, TokenBegins, HasDeclarationAt, IsDeclaredAt}
use Rattle.refs_binding.specs.Uses.{IsCheckedPackage}
use Rattle.refs_binding.proofs.PlaceOrder.{place_is}
use Rattle.refactor_rename.specs.FileEdits.{AreFileEdits, IsEditAt}
use Rattle.refactor_rename.specs.Replacements.{IsNameBefore, apart, joined}
use Rattle.law_faultless.proofs.LinksBound.{source_is}
use Rattle.law_renamed_workspaces.specs.Renames.{IsRename}
use Rattle.law_renamed_workspaces.specs.Apart.{DeclarationsMoveApart}
use Rattle.law_renamed_workspaces.proofs.DeclaredApart.{stand_apart}
use Rattle.law_renamed_workspaces.proofs.PathsStay.{keeps_path}
use Rattle.law_renamed_workspaces.proofs.RisingOffsets.{PutsOutside, begins_outside, moved_rises}

-- A token of a file of the workspace begins at the place.
pub record StandsAtToken (w : Workspace) (known : Verdicts) (place : Place) : Type 0 where
  pub inside : Package
  pub is_package : IsCheckedPackage w known inside
  pub rank : ℕ
  pub file : SourceFile
  pub of_rank : slice_get inside.files rank ≡ Some file
  pub index : ℕ
  pub of_path : file.path ≡ place.path
  pub begins : offset_of file index ≡ place.offset

module _ (w : Workspace) (known : Verdicts) where
  token_file : (p : Package) → IsCheckedPackage w known p → (rank index : ℕ) (o : Option SourceFile) → slice_get p.files rank ≡ o → (place : Place) →
      TokenBegins o index place → StandsAtToken w known place
  token_file p is rank index None e place h = absurd h
  token_file p is rank index (Some f) e place h =
      record { inside = p; is_package = is; rank = rank; file = f; of_rank = e; index = index; of_path = h.0; begins = h.1 }

  in_package : (path : List ℕ) (d : Declaration) (place : Place) → InPackage (IsCheckedPackage w known) path (λ p. HasDeclarationAt p d place) →
      StandsAtToken w known place
  in_package path d place h =
      token_file h.inside h.is_package h.holds.at.file h.holds.at.index (slice_get h.inside.files h.holds.at.file) refl place h.holds.begins

  stands_at : (d : Declaration) (place : Place) → IsDeclaredAt (IsCheckedPackage w known) d place → StandsAtToken w known place
  stands_at (Predeclared n) place h = absurd h
  stands_at (Declared path n) place h = in_package path (Declared path n) place h
  stands_at (Field s) place h = in_package s.package (Field s) place h
  stands_at (Method s) place h = in_package s.package (Method s) place h

some_before : (f : SourceFile) (i : ℕ) (name text : List ℕ) → 0 < length name → IsNameBefore f i name text → 0 < length text
some_before f i name _ some (apart no_word) = omega (arith, some, length-append name (32 ∷ []))
some_before f i name _ some (joined word) = omega arith

module _ (w : Workspace) (known : Verdicts) (d : Declaration) (name : List ℕ) (s : FileChanges) (h : IsRename w known d name s) where
  some : 0 < length name
  some = (word_first name h.form.spelled.0).0

  -- the edits of the file of a token
  module _ (place : Place) (t : StandsAtToken w known place) where
    abbrev f : SourceFile
    f = t.file

    abbrev edits : List Edit
    edits = edits_by (change_of s f.path)

    are : AreFileEdits f h.edits.renamed edits
    are = h.edits.edits.each f (record { inside = t.inside; is_package = t.is_package; has = at_rank t.inside.files t.rank f t.of_rank })

    token_outside : (i : ℕ) (a : Piece) → slice_get (tokens_in f.cut) i ≡ Some a → (o : Option Piece) → slice_get (tokens_in f.cut) t.index ≡ o →
        a.span.end ≤ length f.cut.text →
        (offset_at f.cut.text o ≤ a.span.start) ⊎ (a.span.end ≤ offset_at f.cut.text o)
    token_outside i a is None e ends = inr ends
    token_outside i a is (Some b) e ends =
        let cut = (source_is w known t.inside.path t.inside t.is_package.is_checked t.rank f t.of_rank).is_cut in
        begins_outside 0 (length f.cut.text) (tokens_in f.cut) (tokens_in_order f.cut.text f.cut.pieces cut).follow i t.index a b is e

    puts : (e : Edit) (i : ℕ) → e.span.end ≤ length f.cut.text → IsEditAt f h.edits.renamed i e → PutsOutside (offset_of f t.index) e
    puts e i ends (inl insert) =
        let named : h.edits.renamed.name ≡ name = h.edits.is_renamed.named in
        record {
          some = some_before f i h.edits.renamed.name e.text (subst (λ n. 0 < length n) (sym named) some) insert.text;
          outside = by_point (offset_of f t.index) e.span.start e.span.end
              (ap (λ (x : Span). x.start) insert.span ∙ sym (ap (λ (x : Span). x.end) insert.span));
        }
      where
        by_point : (offset start end : ℕ) → start ≡ end → (offset ≤ start) ⊎ (end ≤ offset)
        by_point offset start end e = elim (cases_lt offset start) [ inl lt ↦ inl (omega arith) | inr ge ↦ inr (omega arith) ]
    puts e i ends (inr replace) =
        let span : e.span ≡ replace.token.span = ap (λ (x : Edit). x.span) replace.is_edit in
        let within : replace.token.span.end ≤ length f.cut.text = subst (λ (x : Span). x.end ≤ length f.cut.text) span ends in
        record {
          some = subst (λ (n : List ℕ). 0 < length n)
              (sym (ap (λ (x : Edit). x.text) replace.is_edit ∙ h.edits.is_renamed.named)) some;
          outside = subst (λ (x : Span). (offset_of f t.index ≤ x.start) ⊎ (x.end ≤ offset_of f t.index)) (sym span)
              (token_outside i replace.token replace.at (slice_get (tokens_in f.cut) t.index) refl within);
        }

    each_puts : (e : Edit) → Contains edits e → PutsOutside (offset_of f t.index) e
    each_puts e has =
        let at = (are.each e).0 has in
        puts e at.0 (All-contains (λ (x : Edit). x.span.end ≤ length f.cut.text) edits e are.end_by.ends has) at.1

    rises : (other : ℕ) → place.offset < other → moved_offset (edits_by (change_of s place.path)) place.offset <
        moved_offset (edits_by (change_of s place.path)) other
    rises other lt =
        let first : offset_of f t.index < other = subst (λ n. n < other) (sym t.begins) lt in
        subst (λ (path : List ℕ). moved_offset (edits_by (change_of s path)) place.offset < moved_offset (edits_by (change_of s path)) other) t.of_path
        (subst (λ n. moved_offset edits n < moved_offset edits other) t.begins
        (moved_rises edits (offset_of f t.index) other are.end_by.in_order each_puts first))

  -- so places at which tokens begin stay apart

  differs : (n m : ℕ) → n < m → n ≡ m → ⊥
  differs n m lt e = omega arith

  not_before : (a b : Place) → StandsAtToken w known a → a.path ≡ b.path → (revision_of w s).moved a ≡ (revision_of w s).moved b → a.offset < b.offset → ⊥
  not_before a b t path same lt =
      let moved : moved_offset (edits_by (change_of s a.path)) a.offset ≡ moved_offset (edits_by (change_of s a.path)) b.offset =
      ap (λ (x : Place). x.offset) same ∙ ap (λ (q : List ℕ). moved_offset (edits_by (change_of s q)) b.offset) (sym path) in
      differs (moved_offset (edits_by (change_of s a.path)) a.offset) (moved_offset (edits_by (change_of s a.path)) b.offset) (rises a t b.offset lt) moved

  pub moved_once : (a b : Place) → StandsAtToken w known a → StandsAtToken w known b → (revision_of w s).moved a ≡ (revision_of w s).moved b → a ≡ b
  moved_once a b t u same =
      let path : a.path ≡ b.path = sym (keeps_path w known d name s h a) ∙ ap (λ (x : Place). x.path) same ∙ keeps_path w known d name s h b in
      elim (cases_lt a.offset b.offset) [
        | inl lt ↦ absurd (not_before a b t path same lt)
        | inr ge ↦ elim (cases_lt b.offset a.offset) [
          | inl gt ↦ absurd (not_before b a u (sym path) (sym same) gt)
          | inr le ↦ place_is a b path (omega arith)
        ]
      ]

pub move_apart : DeclarationsMoveApart
move_apart w known d name s h c e a b old new same =
    let place : a ≡ b = moved_once w known d name s h a b (stands_at w known c a old) (stands_at w known e b new) same in
    stand_apart w known c e b (subst (λ (x : Place). IsDeclaredAt (IsCheckedPackage w known) c x) place old) new
