-- The edits of a change that stays at its path make the text there.
use Rattle.std.proofs.Common.{◌≡◌, ℕ, List, Option, Some, inr, refl, sym, ap, ◌∙◌, true≢false}
use Rattle.std.specs.Prelude.{IsTrue}
use Rattle.std.specs.FinMap.{get}
use Rattle.std.specs.List.{All, Contains}
use Rattle.std.specs.Option.{option_map}
use Rattle.base_files.specs.Workspace.{Workspace}
use Rattle.base_edits.specs.Edits.{edited_text}
use Rattle.base_edits.specs.EditSet.{FileChanges, edited, file_after, file_by, path_by}
use Rattle.base_edits.specs.Fits.{Fits, is_staying}
use Rattle.base_edits.specs.Inverse.{AreChanges}
use Rattle.base_edits.specs.declared.change.FileChange.{FileChange}
use Rattle.base_edits.specs.declared.change.Fate.{Fate}
use Rattle.base_edits.specs.declared.change.Fate.TheVariants.{Stays, Moves, Dropped}
use Rattle.base_edits.proofs.Changes.{change_held}
use Rattle.base_edits.proofs.FilesAfter.{has_file}
use Rattle.workspace_graph.specs.KnownEdits.{EditsMake}
use Rattle.workspace_graph.proofs.SetFiles.{all_from}

path_kept : (f : Fate) (path : List ℕ) → IsTrue (is_staying f) → path_by f path ≡ Some path
path_kept Stays path is = refl
path_kept (Moves new) path is = absurd (true≢false (sym is))
path_kept Dropped path is = absurd (true≢false (sym is))

file_kept : (s : FileChanges) (c : FileChange) (text : List ℕ) → AreChanges s → Contains s.changed c → IsTrue (is_staying c.fate) →
    file_after s (c.path, text) ≡ Some (c.path, edited_text c.edits text)
file_kept s c text are has stays =
    ap (λ (o : Option FileChange). file_by o (c.path, text)) (change_held s.changed are.one_way c.path c has refl)
    ∙ ap (option_map {U = List ℕ × List ℕ} (λ p. (p, edited_text c.edits text))) (path_kept c.fate c.path stays)

pub edits_make : (s : FileChanges) (w : Workspace) → AreChanges s → Fits s w → All (EditsMake w (edited s w)) s.changed
edits_make s w are fits = all_from {P = EditsMake w (edited s w)} s.changed (λ c has stays text at.
    has_file s w fits c.path (edited_text c.edits text) (inr (c.path, text, at, file_kept s c text are has stays)))
