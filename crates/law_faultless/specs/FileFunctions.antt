-- The functions that a file declares.
use Rattle.std.specs.Prelude.{ℕ, Contains}
use Rattle.go_ast.specs.SourceFile.{SourceFile}
use Rattle.go_ast.specs.Tree.{FuncTree, FuncDecl}

-- The file declares the function.
abbrev pub IsFunctionOf : SourceFile → FuncTree → Type 0
IsFunctionOf f g = (keyword : ℕ) × ((semicolon : ℕ) × Contains f.tree.decls (FuncDecl keyword g semicolon))
