-- What this crate takes of the scopes after a move, from the laws of these.
use Rattle.std.proofs.Common.{ℕ, ◌≡◌, List, ap, ◌∙◌}
use Rattle.base_files.specs.Workspace.{Workspace}
use Rattle.base_edits.specs.EditSet.{FileChanges}
use Rattle.base_edits.specs.RevisionsOfEdits.{revision_of}
use Rattle.types_declared.specs.Package.{Package}
use Rattle.workspace_check.specs.Verdicts.{Verdicts}
use Rattle.law_moves.specs.Moves.{IsMove, moved_path}
use Rattle.law_moves.specs.KeptNames.{MovesKeepNames}
use Rattle.law_moves.specs.ThereMoved.{IsThereMoved, ScopedPackagesMove}
use Rattle.law_moves.specs.Agreement.{MovesAreScoped}
use Rattle.law_moves.specs.Moving.{IsScopedMove}

module _ (w : Workspace) (known : Verdicts) (from to : List ℕ) (s : FileChanges) (h : IsMove w known from to s) where
  pub same_path : (path : List ℕ) → moved_path h.edits.moved.from h.edits.moved.to path ≡ moved_path from to path
  same_path path = ap (λ a. moved_path a h.edits.moved.to path) h.edits.is_move.source ∙ ap (λ b. moved_path from b path) h.edits.is_move.target

  pub scoped_there : (p q : Package) → IsThereMoved w h.edits.moved (revision_of w s) p q → IsScopedMove w (revision_of w s) (moved_path from to) p q
  scoped_there p q t = record {
    is_scoped = t.is_scoped;
    path = t.moved.path ∙ same_path p.path;
    size = t.moved.size;
    layout = t.moved.layout;
    tokens = t.moved.tokens;
    names = t.moved.called;
    begins = t.begins;
    to = t.goes;
  }

pub scoped_by : ScopedPackagesMove → MovesKeepNames → MovesAreScoped
scoped_by move keep w known from to s h = record {
  right = h.right;
  sound = h.sound;
  there = λ p is. let t = move w known from to s h p is in (t.0, scoped_there w known from to s h p t.0 t.1);
  kept = keep w known from to s h;
}
