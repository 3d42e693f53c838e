-- The names of a file mean something in the world by which the file is judged.
use Rattle.std.specs.Prelude.{ℕ, suc, ◌≡◌, ◌<◌, ⊤}
use Rattle.go_ast.specs.SourceFile.{SourceFile}
use Rattle.go_scope.specs.declared.model.Role.{Role}
use Rattle.go_scope.specs.declared.model.Role.TheVariants.{Use, LeftName, NotLexical}
use Rattle.go_scope.specs.declared.model.Purpose.TheVariants.{Selected}
use Rattle.go_scope.specs.Table.{LiesAt}
use Rattle.types_expr.specs.Types.{Broken}
use Rattle.types_expr.specs.Types.{Package as PackageName}
use Rattle.types_expr.specs.World.{World, Local, Means}
use Rattle.types_declared.specs.Package.{Package}
use Rattle.law_faultless.specs.ResolvedNames.{IsBlankAt}

-- An identifier with this role at the token means something. A lexical use is bound to something, and is no `_`. So is the selector of a
-- qualified identifier. A left name of `:=` is bound to a local. Of any other identifier nothing is required.
abbrev pub MeansSomething : World → SourceFile → (token : ℕ) → Role → Type 0
MeansSomething v s n Use = (v.bound n ≡ Means Broken → ⊥) × (IsBlankAt s n → ⊥)
MeansSomething v s n (NotLexical Selected) = (b : ℕ) → suc (suc b) ≡ n → v.bound b ≡ Means PackageName → v.bound n ≡ Means Broken → ⊥
MeansSomething v s n (LeftName block start) = (k : ℕ) × (v.bound n ≡ Local k)
MeansSomething v s n r = ⊤

-- Each identifier of the file means something in the world v.
abbrev pub HaveMeanings : Package → (file : ℕ) → World → SourceFile → Type 0
HaveMeanings p file v s =
    (u n : ℕ) → u < p.size → LiesAt p.layout (record { file = file; index = n }) u → MeansSomething v s n (p.layout.role u)
