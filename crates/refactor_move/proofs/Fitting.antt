-- The changes make an edit set, which is that of the move, and which fits.
use Rattle.std.proofs.Common.{ℕ, ◌≡◌, ◌≤◌, inl, inr, true, false, List, [], length, get_or, Some, IsSome, refl, sym, ap}
use Rattle.std.proofs.Common.{subst, ◌∙◌}
use Rattle.std.specs.Prelude.{Contains, map, if◌then◌else◌}
use Rattle.std.specs.Option.{MatchOption}
use Rattle.std.specs.FinMap.{entries, get}
use Rattle.std.specs.List.{All}
use Rattle.std.proofs.lemmas.List.Elements.{All-nil, Contains-get_or}
use Rattle.std.proofs.lemmas.Option.{same_Some}
use Rattle.base_lemmas.proofs.Elements.{nothing_in}
use Rattle.base_files.specs.Packages.{is_go, package_paths}
use Rattle.base_files.specs.Workspace.{Workspace}
use Rattle.workspace_check.specs.declared.findings.Findings.{Findings}
use Rattle.base_edits.specs.Edits.{AreInOrder, LieWithin}
use Rattle.base_edits.specs.EditSet.{FileChanges, path_by, change_of}
use Rattle.base_edits.specs.Fits.{IsEditSet, Fits, HasSpans, path_by_change, path_after}
use Rattle.base_edits.specs.Moved.{edits_by}
use Rattle.base_edits.specs.declared.change.FileChange.{FileChange}
use Rattle.base_edits.specs.declared.edit.Edit.{Edit}
use Rattle.base_edits.proofs.Entries.{entry_of, get_entry, value_of}
use Rattle.refs_binding.specs.Workspaces.{IsFaultless, known_in}
use Rattle.refactor_move.specs.declared.moved.Moved.{Moved}
use Rattle.refactor_move.specs.Paths.{IsUnder, HasMoved, HasMovedFile}
use Rattle.refactor_move.specs.Changes.{AreGoEdits, AreMoveEditsOf, IsPathAfter, MovesOrEdits}
use Rattle.refactor_move.specs.MoveEdits.{IsMoveOf, AreMoveEdits, HasOnlyMoved}
use Rattle.refactor_move.specs.Steps.{EditMap, edits_for, edits_or_none, edits_found, KnowsEdits, AreChangesOf}
use Rattle.refactor_move.proofs.PathParts.{one_source, moved_under}
use Rattle.refactor_move.proofs.GoFiles.{text_of_file, package_of_file}
use Rattle.refactor_move.proofs.Changing.{change_from, file_cases, change_is, change_is_none, changes_in_order}
use Rattle.refactor_move.proofs.Targets.{targets_are_distinct}

-- The edits that are found in the map.

found_go : (edits : EditMap) (path : List ℕ) → is_go path ≡ true → edits_found edits path ≡ edits_or_none (edits_for edits path)
found_go edits path go = ap (λ b. if b then edits_or_none (edits_for edits path) else []) go

found_other : (edits : EditMap) (path : List ℕ) → is_go path ≡ false → edits_found edits path ≡ []
found_other edits path other = ap (λ b. if b then edits_or_none (edits_for edits path) else []) other

-- where a file is after its change

after_change : (m : Moved) (path : List ℕ) (c : FileChange) → c.path ≡ path → MovesOrEdits m c → IsPathAfter m path (path_by c.fate path)
after_change m path c at (inl h) = inl (h.0, (subst (λ p. HasMovedFile m.from m.to p h.0) at h.1.0, ap (λ f. path_by f path) h.1.1))
after_change m path c at (inr h) = inr (subst (λ p. IsUnder m.from p → ⊥) at h.0, ap (λ f. path_by f path) h.1.0)

module _ (w : Workspace) (found : Findings) (sound : IsFaultless w found) (m : Moved) (edits : EditMap)
    (knows : KnowsEdits w (known_in found) m (length (package_paths w)) edits) where
  -- the edits of a file

  go_edits : (path text : List ℕ) → get w path ≡ Some text → is_go path ≡ true → AreGoEdits w (known_in found) m path (edits_found edits path)
  go_edits path text at go =
      let x = package_of_file w found sound path text at go in
      let v = value_of (edits_for edits path) (knows.all x.number x.inside path x.within x.is_package x.has) in
      let e : edits_found edits path ≡ v.0 = found_go edits path go ∙ ap edits_or_none v.1 in
      subst (AreGoEdits w (known_in found) m path) (sym e) (knows.right path v.0 v.1)

  pub are_edits : (path text : List ℕ) → get w path ≡ Some text → AreMoveEditsOf w (known_in found) m path (edits_found edits path)
  are_edits path text at = record { go = go_edits path text at; other = found_other edits path }

  -- they lie in its text, in order

  in_text : (path text : List ℕ) → get w path ≡ Some text → (es : List Edit) → AreGoEdits w (known_in found) m path es →
      AreInOrder 0 es × LieWithin (length text) es
  in_text path text at es h =
      let same : h.source.cut.text ≡ text = same_Some h.source.cut.text text
      (sym (text_of_file w (known_in found) h.inside h.is_package h.rank h.source h.has_rank) ∙ ap (get w) h.of_path ∙ at) in
      (h.are.end_by.in_order, subst (λ t. LieWithin (length t) es) same h.are.end_by.ends)

  none_in_text : (text : List ℕ) (es : List Edit) → es ≡ [] → AreInOrder 0 es × LieWithin (length text) es
  none_in_text text es e = subst (λ l. AreInOrder 0 l × LieWithin (length text) l) (sym e) (tt, All-nil (λ (d : Edit). d.span.end ≤ length text))

  edits_in_text : (path text : List ℕ) → get w path ≡ Some text → AreInOrder 0 (edits_found edits path) × LieWithin (length text) (edits_found edits path)
  edits_in_text path text at =
      elim (is_go path) as (λ b. is_go path ≡ b → AreInOrder 0 (edits_found edits path) × LieWithin (length text) (edits_found edits path)) [
        | true ↦ λ go. in_text path text at (edits_found edits path) (go_edits path text at go)
        | false ↦ λ other. none_in_text text (edits_found edits path) (found_other edits path other)
      ] refl

  module _ (cs : List FileChange) (are : AreChangesOf m edits (entries w) cs) where
    abbrev pub set_of : FileChanges
    set_of = record { changed = cs; added = [] }

    all_of : (P : FileChange → Type 0) → ((c : FileChange) → Contains cs c → P c) → All P cs
    all_of P f = λ k d lt. f (get_or cs k d) (Contains-get_or cs k d lt)

    text_in : (c : FileChange) → Contains cs c → AreInOrder 0 c.edits × HasSpans w c
    text_in c has =
        let from = change_from m edits are c has in
        let at : get w from.file.0 ≡ Some from.file.1 = get_entry w from.file from.has in
        let lie = edits_in_text from.file.0 from.file.1 at in
        let there : get w c.path ≡ Some from.file.1 = ap (get w) from.of_path ∙ at in (
          subst (AreInOrder 0) (sym from.edits_are) lie.0,
          subst (λ o. MatchOption o ⊥ (λ text. LieWithin (length text) c.edits)) (sym there)
              (subst (LieWithin (length from.file.1)) (sym from.edits_are) lie.1),
        )

    moves_in : (c : FileChange) → Contains cs c → MovesOrEdits m c
    moves_in c has = (change_from m edits are c has).moves

    pub is_edit_set : IsEditSet set_of
    is_edit_set = record {
      in_order = all_of (λ c. AreInOrder 0 c.edits) (λ c has. (text_in c has).0);
      by_path = changes_in_order m edits w cs are;
      differ = targets_are_distinct m cs moves_in (changes_in_order m edits w cs are);
    }

    -- where a file is then

    path_then : (path : List ℕ) → IsSome (get w path) → IsPathAfter m path (path_after set_of path)
    path_then path is =
        let v = value_of (get w path) is in
        elim (file_cases m edits are (path, v.0) (entry_of w path v.0 v.1)) [
          | inl h ↦ subst (IsPathAfter m path) (sym (ap (λ o. path_by_change o path) (change_is m edits w cs are path h)))
              (after_change m path h.change h.of_path h.moves)
          | inr h ↦ subst (IsPathAfter m path) (sym (ap (λ o. path_by_change o path) (change_is_none m edits w cs are path h))) (inr (h.stays, refl))
        ]

    edits_then : (path : List ℕ) → IsSome (get w path) → AreMoveEditsOf w (known_in found) m path (edits_by (change_of set_of path))
    edits_then path is =
        let v = value_of (get w path) is in
        let told = are_edits path v.0 v.1 in
        elim (file_cases m edits are (path, v.0) (entry_of w path v.0 v.1)) [
          | inl h ↦ subst (AreMoveEditsOf w (known_in found) m path) (sym (ap edits_by (change_is m edits w cs are path h) ∙ h.edits_are)) told
          | inr h ↦ subst (AreMoveEditsOf w (known_in found) m path) (sym (ap edits_by (change_is_none m edits w cs are path h) ∙ sym h.empty)) told
        ]

    pub are_move_edits : (from to called : List ℕ) → IsMoveOf w (known_in found) from to called m → AreMoveEdits w (known_in found) from to called set_of
    are_move_edits from to called is = record { moved = m; is_move = is; edits = edits_then; paths = path_then; only = moves_in; none_added = refl }

    -- no two files get one path

    one_file : (one other path : List ℕ) → HasOnlyMoved w m.from m.to → IsSome (get w one) → IsSome (get w other) → IsPathAfter m one (Some path) →
        IsPathAfter m other (Some path) → one ≡ other
    one_file one other path free a b (inl h) (inl k) =
        one_source m.from m.to one other path (subst (HasMoved m.from m.to one) (sym (same_Some path h.0 h.1.1)) h.1.0.moved)
        (subst (HasMoved m.from m.to other) (sym (same_Some path k.0 k.1.1)) k.1.0.moved)
    one_file one other path free a b (inl h) (inr k) = absurd
        (k.0 (free other b (subst (IsUnder m.to) (sym (same_Some path h.0 h.1.1) ∙ same_Some path other k.1) (moved_under m.from m.to one h.0 h.1.0.moved))))
    one_file one other path free a b (inr h) (inl k) = absurd
        (h.0 (free one a (subst (IsUnder m.to) (sym (same_Some path k.0 k.1.1) ∙ same_Some path one h.1) (moved_under m.from m.to other k.0 k.1.0.moved))))
    one_file one other path free a b (inr h) (inr k) = sym (same_Some path one h.1) ∙ same_Some path other k.1

    pub fits : HasOnlyMoved w m.from m.to → Fits set_of w
    fits free = record {
      there = all_of (HasSpans w) (λ c has. (text_in c has).1);
      apart = λ one other path h k. one_file one other path free h.0 k.0 (subst (IsPathAfter m one) h.1 (path_then one h.0))
          (subst (IsPathAfter m other) k.1 (path_then other k.0));
      free = λ old file has gets. absurd (nothing_in file has);
      once = λ one other a b same. absurd (nothing_in one a);
    }
