-- Trees of the program that show given trees.
use Rattle.std.specs.Prelude.{ℕ, ◌≡◌}
use Rattle.go_ast.specs.FileView.{file_view}
use Rattle.go_ast.specs.Tree.{FileTree, ImportTree}
use Rattle.go_ast.specs.declared.tree.File.{File}
use Rattle.law_rename.specs.Around.{AroundImport, file_with}
use Rattle.law_rename.specs.Renumbered.{renumbered}

-- A tree of the program that shows the tree `t`.
pub record HasProgramTree (t : FileTree) : Type 0 where
  pub file : File
  pub shows : file_view file ≡ t

-- There is one with the token numbers changed by `g`.
abbrev pub TokenNumbersMayChange : Type 0
TokenNumbersMayChange = (g : ℕ → ℕ) (f : File) → HasProgramTree (renumbered g (file_view f))

-- There is one with the import `j` in place of the import `i`.
abbrev pub ImportsMayChange : Type 0
ImportsMayChange = (f : File) (i j : ImportTree) (a : AroundImport) → file_view f ≡ file_with i a → HasProgramTree (file_with j a)
