-- A declaration has at most one meaning, and a file at most one world.
use Rattle.std.specs.Prelude.{ℕ, ◌≡◌, List, Some, slice_get}
use Rattle.go_ast.specs.Flatten.{flatten}
use Rattle.go_ast.specs.SourceFile.{SourceFile}
use Rattle.go_scope.specs.Trees.{AreRising}
use Rattle.types_expr.specs.World.{World, Bound}
use Rattle.types_declared.specs.Package.{Package}
use Rattle.types_declared.specs.MeaningOf.{IsMeaningOf}
use Rattle.types_info.specs.Worlds.{IsWorldOf}

-- the tokens in the tree of each file are in order
abbrev pub TokensRise : List SourceFile → Type 0
TokensRise files = (file : ℕ) (s : SourceFile) → slice_get files file ≡ Some s → AreRising 0 (flatten s.tree)

-- each declaration of the package has at most one meaning
abbrev pub HasOneMeaning : Package → Type 0
HasOneMeaning p = (d : ℕ) (b c : Bound) → IsMeaningOf p d b → IsMeaningOf p d c → b ≡ c

-- each file of the package has at most one world
abbrev pub HasOneWorld : Package → Type 0
HasOneWorld p = (file : ℕ) (s : SourceFile) (v w : World) → IsWorldOf p file s v → IsWorldOf p file s w → v ≡ w
