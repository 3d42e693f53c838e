-- What the edit set of a move answers.
use Rattle.std.proofs.Common.{ℕ, ◌≡◌, Global, List, [], length, sym, subst}
use Rattle.std.specs.Prelude.{Ok, Err}
use Rattle.std.specs.FinMap.{entries, get}
use Rattle.base_files.specs.Packages.{package_paths}
use Rattle.base_files.specs.Workspace.{Workspace}
use Rattle.base_files.specs.declared.refusal.Refusal.{Refusal}
use Rattle.base_files.specs.declared.refusal.Refusal.TheVariants.{Memory, TooLarge}
use Rattle.workspace_check.specs.declared.findings.Findings.{Findings}
use Rattle.workspace_check.specs.Verdicts.{Verdicts}
use Rattle.base_edits.specs.EditSet.{FileChanges}
use Rattle.base_edits.specs.declared.change.FileChange.{FileChange}
use Rattle.base_edits.proofs.Entries.{get_entry, some_is}
use Rattle.refs_binding.specs.Workspaces.{IsFaultless, known_in}
use Rattle.refactor_move.specs.declared.moved.Moved.{Moved}
use Rattle.refactor_move.specs.Paths.{HasMoved}
use Rattle.refactor_move.specs.MoveEdits.{IsMoveOf, HasOnlyMoved, PlansMoveEdits}
use Rattle.refactor_move.specs.Steps.{EditMap, KnowsEdits, AreChangesOf, FindsChanges}
use Rattle.refactor_move.proofs.Fitting.{are_move_edits, fits}

abbrev set_with : List FileChange → FileChanges
set_with cs = record { changed = cs; added = [] }

pub refused_set : (w : Workspace) (known : Verdicts) (m : Moved) (edits : EditMap) (from to called : List ℕ) → IsMoveOf w known from to called m →
    (r : Refusal) →
    FindsChanges {Z = Global} m edits (entries w) (Err r) → PlansMoveEdits w known from to called (Err r)
refused_set w known m edits from to called is TooLarge h =
    let old = h.0.0 in
    let new = h.1.1.0 in
    record {
      old = old;
      is_file = some_is (get w old) h.0.1 (get_entry w h.0 h.1.0);
      is_path = h.1.1.1.2;
      new = new;
      moves = subst (λ f. HasMoved f to old new) is.source (subst (λ t. HasMoved m.from t old new) is.target h.1.1.1.0);
      no_path = h.1.1.1.1;
    }
refused_set w known m edits from to called is Memory h = h
refused_set w known m edits from to called is _ h = h

pub planned_set : (w : Workspace) (found : Findings) → IsFaultless w found → (m : Moved) (edits : EditMap) →
    KnowsEdits w (known_in found) m (length (package_paths w)) edits → (cs : List FileChange) → AreChangesOf m edits (entries w) cs →
    (from to called : List ℕ) → IsMoveOf w (known_in found) from to called m → HasOnlyMoved w from to → (s : FileChanges) → s ≡ set_with cs →
    PlansMoveEdits w (known_in found) from to called (Ok s)
planned_set w found sound m edits knows cs are from to called is free s e =
    let spared : HasOnlyMoved w m.from m.to = subst (λ f. HasOnlyMoved w f m.to) (sym is.source) (subst (HasOnlyMoved w from) (sym is.target) free) in
    subst (λ x. PlansMoveEdits w (known_in found) from to called (Ok x)) (sym e)
    (are_move_edits w found sound m edits knows cs are from to called is, fits w found sound m edits knows cs are spared)
