-- The tokens of a file that a plain rename edits, and how the others are spelled afterwards.
use Rattle.std.proofs.Common.{ℕ, ◌≡◌, ◌<◌, ◌⊎◌, inl, inr, ◌&&◌, Bool, true, false, cond, List, [], ◌∷◌, Option, Some, None, length, ap, sym, subst, refl, ◌∙◌}
use Rattle.std.proofs.Common.{⊎_elim, arith}
use Rattle.std.specs.Prelude.{Contains, slice_get, find, ◌==◌, nat_lt}
use Rattle.std.proofs.lemmas.Bool.{true≢false}
use Rattle.std.proofs.lemmas.Bool.Decides.{nat_tests}
use Rattle.std.proofs.lemmas.List.Elements.{All-contains}
use Rattle.std.proofs.lemmas.Option.{none-some, same_Some}
use Rattle.base_lemmas.proofs.Elements.{nothing_in, first_in, later_in, first_or_later}
use Rattle.base_files.specs.Workspace.{Workspace}
use Rattle.base_edits.specs.EditSet.{FileChanges}
use Rattle.base_edits.specs.RevisionsOfEdits.{replaces_at, text_or}
use Rattle.base_edits.specs.declared.edit.Edit.{Edit}
use Rattle.go_scanner.specs.declared.piece.Class.TheVariants.{Name}
use Rattle.go_scanner.specs.declared.piece.Piece.{Piece}
use Rattle.go_scanner.specs.CutText.{tokens_in}
use Rattle.go_scanner.proofs.SpanLemmas.{cut_covers}
use Rattle.go_ast.specs.SourceFile.{SourceFile, IsSourceFile, offset_at, offset_of, spelling_of}
use Rattle.go_scope.proofs.Uniqueness.{same_or_not}
use Rattle.go_respelled.specs.Renamings.{AreNameEdits, IsNameEdit, replaced_piece}
use Rattle.go_respelled.specs.Trees.{renamed_file}
use Rattle.go_respelled.proofs.Places.{begins_behind}
use Rattle.go_respelled.proofs.Spelled.{token_kept, token_put}
use Rattle.types_declared.specs.Package.{Package}
use Rattle.workspace_check.specs.Verdicts.{Verdicts}
use Rattle.workspace_check.proofs.PackageFiles.{at_rank}
use Rattle.refs_binding.specs.declared.declaration.Declaration.{Declaration}
use Rattle.refs_binding.specs.Identifiers.{IsNameToken}
use Rattle.refs_binding.specs.Uses.{IsCheckedPackage}
use Rattle.refactor_rename.specs.RenameEdits.{IsSourceIn}
use Rattle.law_faultless.proofs.LinksBound.{source_is}
use Rattle.law_renamed_workspaces.specs.Renames.{IsPlainRename}
use Rattle.law_renamed_workspaces.proofs.NameEdits.{IsBoundToken, bound_token, edits_of, name_edits, new_text, replaced_token, replaces, same_token}

-- what is found in a list

found_in : {X : Type 0} (test : X → Bool) (xs : List X) (y : X) → find test xs ≡ Some y → Contains xs y × (test y ≡ true)
found_in test [] y e = absurd (none-some y e)
found_in test (x ∷ xs) y e =
    elim (test x) as (λ b. test x ≡ b → cond b (Some x) (find test xs) ≡ Some y → Contains (x ∷ xs) y × (test y ≡ true)) [
      | true ↦ λ is k. (let same = same_Some x y k in (subst (Contains (x ∷ xs)) same (first_in x xs), subst (λ z. test z ≡ true) same is))
      | false ↦ λ is k. (let r = found_in test xs y k in (later_in x xs y r.0, r.1))
    ] refl e

one_found : {X : Type 0} (test : X → Bool) (xs : List X) (x : X) → Contains xs x → test x ≡ true → (y : X) × (find test xs ≡ Some y)
one_found test [] x has is = absurd (nothing_in x has)
one_found test (z ∷ zs) x has is =
    elim (test z) as (λ b. test z ≡ b → (y : _) × (cond b (Some z) (find test zs) ≡ Some y)) [
      | true ↦ λ passes. (z, refl)
      | false ↦ λ fails. ⊎_elim (λ same. absurd (true≢false (sym is ∙ ap test (sym same) ∙ fails))) (λ later. one_found test zs x later is)
          (first_or_later z zs x has)
    ] refl

replaces_there : (offset start end : ℕ) → start ≡ offset → start < end → ((start == offset) && nat_lt start end) ≡ true
replaces_there offset start end e h = grind (arith, nat_tests)

starts_there : (offset start end : ℕ) → ((start == offset) && nat_lt start end) ≡ true → start ≡ offset
starts_there offset start end e = grind (arith, nat_tests)

module _ (w : Workspace) (known : Verdicts) (d : Declaration) (name : List ℕ) (s : FileChanges) (h : IsPlainRename w known d name s) (p : Package)
    (is : IsCheckedPackage w known p) (rank : ℕ) (f : SourceFile) (at : slice_get p.files rank ≡ Some f) where
  pub source : IsSourceIn w known f
  source = record { inside = p; is_package = is; has = at_rank p.files rank f at }

  abbrev pub edits : List Edit
  edits = edits_of w known d name s h f

  pub are : AreNameEdits f.cut.pieces edits
  are = name_edits w known d name s h f source

  pub is_file : IsSourceFile f
  is_file = source_is w known p.path p is.is_checked rank f at

  abbrev IsAt : ℕ → Edit → Type 0
  IsAt i e = slice_get (tokens_in f.cut) i ≡ Some (replaced_piece e)

  -- an edit replaces the token
  pub record IsReplaced (i : ℕ) : Type 0 where
    pub edit : Edit
    pub among : Contains edits edit
    pub token : IsAt i edit

  search : (i : ℕ) (es : List Edit) → ((e : Edit) → Contains es e → Contains edits e) →
      ((e : Edit) × (Contains es e × IsAt i e)) ⊎ ((e : Edit) → Contains es e → IsAt i e → ⊥)
  search i [] within = inr (λ e has there. nothing_in e has)
  search i (e ∷ es) within =
      let r = replaces w known d name s h f source e (within e (first_in e es)) in
      let token : IsAt r.0 e = replaced_token w known d name s h f r.0 e r.1 in
      elim (same_or_not r.0 i) [
        | inl same ↦ inl (e, (first_in e es, subst (λ n. IsAt n e) same token))
        | inr other ↦ elim (search i es (λ x has. within x (later_in e es x has))) [
          | inl found ↦ inl (found.0, (later_in e es found.0 found.1.0, found.1.1))
          | inr none ↦ inr (λ x has there. ⊎_elim
              (λ (same : e ≡ x). other (same_token w known d name s h p is rank f at r.0 i (replaced_piece e) (replaced_piece x) token refl there refl
              (ap (λ (y : Edit). y.span.start) same)))
              (λ (later : Contains es x). none x later there)
              (first_or_later e es x has))
        ]
      ]

  pub replaced_or_not : (i : ℕ) → IsReplaced i ⊎ (IsReplaced i → ⊥)
  replaced_or_not i = elim (search i edits (λ e has. has)) [
    | inl found ↦ inl (record { edit = found.0; among = found.1.0; token = found.1.1 })
    | inr none ↦ inr (λ r. none r.edit r.among r.token)
  ]

  -- so an identifier stands there that is bound to a renamed declaration
  pub token_bound : (i : ℕ) → IsReplaced i → IsBoundToken w known h.rename.set p rank i
  token_bound i r =
      let x = replaces w known d name s h f source r.edit r.among in
      let token : IsAt x.0 r.edit = replaced_token w known d name s h f x.0 r.edit x.1 in
      let same : x.0 ≡ i =
      same_token w known d name s h p is rank f at x.0 i (replaced_piece r.edit) (replaced_piece r.edit) token refl r.token refl refl in
      subst (λ n. IsBoundToken w known h.rename.set p rank n) same (bound_token w known d name s h p is rank f at x.0 r.edit x.1)

  text_is : (e : Edit) → Contains edits e → e.text ≡ name
  text_is e has = let r = replaces w known d name s h f source e has in new_text w known d name s h f r.0 e r.1

  -- spellings

  pub new_spelled : (i : ℕ) → IsReplaced i → spelling_of (renamed_file edits f) i ≡ name
  new_spelled i r = token_put f edits r.edit i is_file.is_cut are r.among r.token ∙ text_is r.edit r.among

  pub old_spelled : (i : ℕ) → (IsReplaced i → ⊥) → spelling_of (renamed_file edits f) i ≡ spelling_of f i
  old_spelled i none = token_kept f edits i is_file.is_cut are (λ e has there. none (record { edit = e; among = has; token = there }))

  -- and what the change calls the name

  begins : (i : ℕ) (e : Edit) → IsAt i e → e.span.start ≡ offset_of f i
  begins i e there = sym (ap (offset_at f.cut.text) there)

  has_bytes : (e : Edit) → Contains edits e → e.span.start < e.span.end
  has_bytes e has =
      let one : IsNameEdit f.cut.pieces e = All-contains (IsNameEdit f.cut.pieces) edits e are.each has in
      (begins_behind 0 (length f.cut.text) f.cut.pieces (replaced_piece e) (cut_covers f.cut.text f.cut.pieces is_file.is_cut) one.is_piece).1

  called_new : (i : ℕ) (old : List ℕ) → IsReplaced i → text_or old (find (replaces_at (offset_of f i)) edits) ≡ name
  called_new i old r =
      let there : replaces_at (offset_of f i) r.edit ≡ true =
      replaces_there (offset_of f i) r.edit.span.start r.edit.span.end (begins i r.edit r.token) (has_bytes r.edit r.among) in
      let one = one_found (replaces_at (offset_of f i)) edits r.edit r.among there in
      ap (text_or old) one.1 ∙ text_is one.0 (found_in (replaces_at (offset_of f i)) edits one.0 one.1).0

  called_old : (i : ℕ) (old : List ℕ) (token : Piece) → slice_get (tokens_in f.cut) i ≡ Some token → token.class ≡ Name → (IsReplaced i → ⊥) →
      (o : Option Edit) → find (replaces_at (offset_of f i)) edits ≡ o → text_or old o ≡ old
  called_old i old token has named none None e = refl
  called_old i old token has named none (Some x) e =
      let found = found_in (replaces_at (offset_of f i)) edits x e in
      let r = replaces w known d name s h f source x found.0 in
      let there : IsAt r.0 x = replaced_token w known d name s h f r.0 x r.1 in
      let start : x.span.start ≡ token.span.start = starts_there (offset_of f i) x.span.start x.span.end found.1 ∙ ap (offset_at f.cut.text) has in
      let same : r.0 ≡ i = same_token w known d name s h p is rank f at r.0 i (replaced_piece x) token there refl has named start in
      absurd (none (record { edit = x; among = found.0; token = subst (λ n. IsAt n x) same there }))

  by_token : (i : ℕ) (o : Option Piece) → slice_get (tokens_in f.cut) i ≡ o → IsNameToken o →
      spelling_of (renamed_file edits f) i ≡ text_or (spelling_of f i) (find (replaces_at (offset_of f i)) edits)
  by_token i None has named = absurd named
  by_token i (Some token) has named = elim (replaced_or_not i) [
    | inl r ↦ new_spelled i r ∙ sym (called_new i (spelling_of f i) r)
    | inr none ↦ old_spelled i none ∙ sym (called_old i (spelling_of f i) token has named none (find (replaces_at (offset_of f i)) edits) refl)
  ]

  -- a name is spelled afterwards as the change calls it
  pub called : (i : ℕ) → IsNameToken (slice_get (tokens_in f.cut) i) →
      spelling_of (renamed_file edits f) i ≡ text_or (spelling_of f i) (find (replaces_at (offset_of f i)) edits)
  called i named = by_token i (slice_get (tokens_in f.cut) i) refl named

  -- what is no name stays as it is
  pub other_kept : (i : ℕ) → (IsNameToken (slice_get (tokens_in f.cut) i) → ⊥) → spelling_of (renamed_file edits f) i ≡ spelling_of f i
  other_kept i none = old_spelled i (λ r. none (subst IsNameToken (sym r.token) refl))
