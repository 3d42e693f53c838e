-- Where an edit set moves the places of one file.
use Rattle.std.specs.Prelude.{ℕ, ◌≡◌, List, None, Some, unwrap_or, MatchOption}
use Rattle.base_edits.specs.EditSet.{FileChanges, path_by, change_of}
use Rattle.base_edits.specs.Fits.{path_after}
use Rattle.base_edits.specs.declared.change.FileChange.{FileChange}
use Rattle.base_edits.specs.Ends.{AreEnds}
use Rattle.base_edits.specs.declared.moves.End.{End}
use Rattle.base_edits.specs.declared.moves.FileMoves.{FileMoves}

-- The path of a file after its change. A dropped file keeps its path here.
abbrev pub new_path_by : FileChange → List ℕ → List ℕ
new_path_by change path = unwrap_or (path_by change.fate path) path

-- The file at the path is changed, and the list has the ends of its edits.
pub record HasEnds (s : FileChanges) (path : List ℕ) (ends : List End) : Type 0 where
  pub change : FileChange
  pub is : change_of s path ≡ Some change
  pub are : AreEnds change.edits ends

-- `f` says how an edit set moves a file: its new path (a dropped file keeps its path), and the ends of its edits if it is changed.
pub record AreMovesOf (s : FileChanges) (f : FileMoves) : Type 0 where
  pub goes : f.new.now ≡ unwrap_or (path_after s f.old.now) f.old.now
  pub ends : MatchOption f.ends (change_of s f.old.now ≡ None) (λ ends. HasEnds s f.old.now ends.now)
