-- The meanings of a file's names, and the world that a file is checked in.
use Rattle.std.specs.Prelude.{ℕ, suc, ◌≡◌, ◌==◌, ◌↔◌, Bool, true}
use Rattle.std.specs.Cmp.Lexicographic.{pointwise}
use Rattle.go_ast.specs.SourceFile.{SourceFile, spelling_of}
use Rattle.go_scope.specs.declared.model.Role.TheVariants.{NotLexical}
use Rattle.go_scope.specs.declared.model.Purpose.TheVariants as purpose
use Rattle.go_scope.specs.Table.{IsFoundAt}
use Rattle.types_declared.specs.Laid.{init_name}
use Rattle.types_expr.specs.declared.symbol.Symbol.{Symbol}
use Rattle.types_expr.specs.Types.{PlainType, Broken}
use Rattle.types_expr.specs.World.{World, Bound, Definition, Implements, member_by}
use Rattle.types_expr.specs.World.{Means as Stands}
use Rattle.types_declared.specs.Package.{Package, Export}
use Rattle.types_declared.specs.Written.{BindsToken, IsExportAt}
use Rattle.types_declared.specs.MeaningOf.{IsMeaningOf}
use Rattle.types_declared.specs.Definitions.{AreDefinitions}

-- the token is the name N of a qualified identifier `p.N` that denotes the export e
pub record DenotesExport (p : Package) (file token : ℕ) (e : Export) : Type 0 where
  pub before : ℕ
  pub behind_dot : token ≡ suc (suc before)
  pub identifier : ℕ
  pub found : IsFoundAt p.layout p.size (record { file = file; index = token }) identifier
  pub selected : p.layout.role identifier ≡ NotLexical purpose.Selected
  pub exported : IsExportAt p file before token e

-- the name at the token has this meaning: by scopes, or as the name of a qualified identifier
pub data IsBoundAt (p : Package) (file token : ℕ) : Bound → Type 0 where
  by_scope : {declaration : ℕ} {b : Bound} → BindsToken p file token declaration → IsMeaningOf p declaration b → IsBoundAt p file token b
  by_package : {e : Export} → DenotesExport p file token e → IsBoundAt p file token (Stands e.meaning)

-- the meaning of the name at the token; Broken where it has none
pub data IsName (p : Package) (file token : ℕ) : Bound → Type 0 where
  is_bound : {b : Bound} → IsBoundAt p file token b → IsName p file token b
  is_unbound : ((b : Bound) → IsBoundAt p file token b → ⊥) → IsName p file token (Stands Broken)

-- The world that the file is checked in: the meanings of its names, the members of types, the underlying types of definitions, and which types
-- implement which interfaces. There is at most one.
pub record IsWorldOf (p : Package) (file : ℕ) (s : SourceFile) (w : World) : Type 0 where
  pub names : (token : ℕ) → IsName p file token (w.bound token)
  pub definitions : Symbol → Definition
  pub are_definitions : AreDefinitions p definitions
  pub member : (token : ℕ) (t : PlainType) → w.member token t ≡ member_by definitions p.path (spelling_of s token) t
  pub definition : (symbol : Symbol) → w.definition symbol ≡ (definitions symbol).underlying
  pub implements : (t : PlainType) (interface : Symbol) → (w.implements t interface ≡ true) ↔ Implements definitions t interface

-- whether the name at the token is `init`
abbrev pub is_init : SourceFile → ℕ → Bool
is_init s token = pointwise ◌==◌ (spelling_of s token) init_name
