-- The first conflict of a move, and where it has none.
use Rattle.std.proofs.Common.{ℕ, ◌≡◌, inl, inr, true, List, Option, Some, None, sym, ◌∙◌}
use Rattle.std.proofs.lemmas.Bool.{cases_Bool}
use Rattle.std.proofs.lemmas.Option.{none-some}
use Rattle.base_files.specs.Workspace.{Workspace}
use Rattle.base_files.specs.declared.place.Place.{Place}
use Rattle.base_edits.specs.EditSet.{FileChanges}
use Rattle.base_edits.specs.RevisionsOfEdits.{revision_of}
use Rattle.go_scope.specs.declared.model.Block.TheVariants.{Universe, File}
use Rattle.go_scope.specs.Bindings.{IsBoundTo, IsImport, IsUse, block_of, is_implied}
use Rattle.law_moves.proofs.AtOnce.{free_of_others}
use Rattle.law_moves.proofs.NearFiles.{bound_lexical}
use Rattle.law_rename.specs.Renaming.{HasNoConflictAt, WouldAssign, WouldCapture, WouldLose}
use Rattle.law_rename.specs.Renaming.{new_name, own_use, assigned, to_renamed, to_other, repeats, own_repeats}
use Rattle.types_declared.specs.Package.{Package}
use Rattle.workspace_check.specs.Verdicts.{Verdicts}
use Rattle.refs_binding.specs.Identifiers.{BeginsAt}
use Rattle.refs_binding.specs.Uses.{IsCheckedPackage}
use Rattle.refactor_conflict.specs.Staying.{NoneIsLost}
use Rattle.refactor_conflict.specs.declared.conflict.Conflict.{Conflict}
use Rattle.refactor_conflict.specs.Conflicts.{IsFirstConflict}
use Rattle.law_renamed_workspaces.proofs.OwnNames.{in_universe}
use Rattle.law_renamed_workspaces.proofs.SameBindings.{imports_used}
use Rattle.law_renamed_workspaces.proofs.Standing.{begins_there}
use Rattle.law_agreement.proofs.Afterwards.{KeepsMembers}
use Rattle.law_moves.specs.Moves.{IsMove}
use Rattle.law_moves.specs.MoveConflicts.{HasNoImportConflict, TellsFirstImportConflict}
use Rattle.law_moves.specs.ThereMoved.{IsFollowingImport, followed_name}
use Rattle.law_moves.proofs.ConflictsTold.{conflict_is, place_free, place_stays}
use Rattle.law_moves.proofs.ImportsFollow.{renames}
use Rattle.law_moves.proofs.NamesMove.{implied_left, implied_use, is_there, laid_import, lexical_within, name_or_import, predeclared}
use Rattle.law_moves.proofs.AfterMove as after

module _ (w : Workspace) (known : Verdicts) (from to : List ℕ) (s : FileChanges) (h : IsMove w known from to s) where
  -- the first of all
  pub first_told : KeepsMembers w known (revision_of w s) → (told : Option Conflict) →
      TellsFirstImportConflict (IsCheckedPackage w known) h.edits.moved told → IsFirstConflict w known (revision_of w s) told
  first_told members None free = λ place p is. place_stays w known from to s h members p is place (free place p is)
  first_told members (Some c) first =
      let x = first.0 in (
        record { used_in = x.0; is_package = x.1.0; conflict = conflict_is w known from to s h x.0 x.1.0 c x.1.1 },
        (λ place before p is. place_stays w known from to s h members p is place (first.1 place before p is)),
      )

  -- a package that keeps its name
  pub none_followed : KeepsMembers w known (revision_of w s) → h.edits.moved.name ≡ None → NoneIsLost w known (revision_of w s)
  none_followed members none = λ place p is.
      place_stays w known from to s h members p is place (λ d follows u begins.
      absurd (none-some (followed_name h.edits.moved) (sym none ∙ follows.follows)))

  pub lost_none : KeepsMembers w known (revision_of w s) → ((p : Package) → IsCheckedPackage w known p → HasNoImportConflict h.edits.moved p) →
      NoneIsLost w known (revision_of w s)
  lost_none members free = λ place p is. place_stays w known from to s h members p is place (λ d follows u begins. free p is d follows u)

  -- where none is lost, no import has a conflict
  module _ (none : NoneIsLost w known (revision_of w s)) (p : Package) (is : IsCheckedPackage w known p) where
    abbrev Follows : ℕ → Type 0
    Follows d = IsFollowingImport h.edits.moved p d

    abbrev y : List ℕ
    y = followed_name h.edits.moved

    free_at : (u : ℕ) (place : Place) → BeginsAt p place.path place.offset u → (d : ℕ) → Follows d → HasNoConflictAt p.layout p.names d y u
    free_at u place begins d follows = place_free w known from to s h p is place (none place p is) d follows u begins

    -- predeclared names have none
    module _ (d : ℕ) (follows : Follows d) where
      implied_assigned : (x c : ℕ) → is_implied (p.layout.role x) ≡ true → WouldAssign p.layout p.names d y x c → ⊥
      implied_assigned x c implied (to_renamed de ny left same scope) = implied_left (p.layout.role x) implied left
      implied_assigned x c implied (to_other de ny left same scope) = implied_left (p.layout.role x) implied left

      implied_no_use : (x : ℕ) → is_implied (p.layout.role x) ≡ true → IsUse p.layout p.names x → ⊥
      implied_no_use x implied (inl used) = implied_use (p.layout.role x) implied used
      implied_no_use x implied (inr left) = implied_left (p.layout.role x) implied left.0

      implied_taken : (x c : ℕ) → is_implied (p.layout.role x) ≡ true → WouldCapture p.layout p.names d y x c → ⊥
      implied_taken x c implied (new_name used named b scope precedes) = implied_no_use x implied used
      implied_taken x c implied (own_use used b e precedes) = implied_no_use x implied used
      implied_taken x c implied (assigned a) = implied_assigned x c implied a

      block : (x : ℕ) → is_implied (p.layout.role x) ≡ true → block_of (p.layout.role x) ≡ Universe
      block x implied = in_universe w known p.path p is.is_checked x (predeclared w known from to s h p is x implied)

      no_import : (x : ℕ) → is_implied (p.layout.role x) ≡ true → IsImport p.layout x → ⊥
      no_import x implied import = never import.0 (sym (block x implied) ∙ import.1)
        where
          never : (f : ℕ) → Universe ≡ File f → ⊥
          never f e = cc

      implied_lost : (x : ℕ) → is_implied (p.layout.role x) ≡ true → WouldLose p.layout p.names d y x → ⊥
      implied_lost x implied (repeats de ny displaces still) = elim displaces [
        | inl same ↦ no_import x implied (follows.imports.is_import.0, sym same.0 ∙ follows.imports.is_import.1)
        | inr level ↦ no_import x implied level.1
      ]
      implied_lost x implied (own_repeats de ny displaces still) = no_import x implied follows.imports.is_import

      implied_free : (x : ℕ) → is_implied (p.layout.role x) ≡ true → HasNoConflictAt p.layout p.names d y x
      implied_free x implied = record { not_captured = λ c k. implied_taken x c implied k; not_lost = λ k. implied_lost x implied k }

    other_free : (u e : ℕ) → (IsImport p.layout u → ⊥) → IsBoundTo p.layout p.names u e → (d : ℕ) → Follows d → HasNoConflictAt p.layout p.names d y u
    other_free u e no_import b d follows = elim (cases_Bool (is_implied (p.layout.role u))) [
      | inl implied ↦ implied_free d follows u implied
      | inr identifier ↦
          let lexical = bound_lexical p.layout p.names u e b in
          let lt = lexical_within w known from to s h p is u lexical in
          elim (name_or_import w known from to s h p is u lexical lt identifier) [
            | inl stands ↦ (let x = begins_there p u lt identifier stands in free_at u x.0 x.1 d follows)
            | inr bare_one ↦ absurd (no_import (laid_import w known from to s h p is u lt identifier bare_one.0 bare_one.1))
          ]
    ]

    pub all_free : HasNoImportConflict h.edits.moved p
    all_free d follows =
        free_of_others p.layout p.names Follows y (after.moved w known from to s h p is).names
        (renames w known from to s h p is (after.moved w known from to s h p is) (is_there w known from to s h p is).moved)
        (imports_used w h.sound known h.right p is) other_free d follows
