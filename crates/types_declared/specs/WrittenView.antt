-- The results of resolving a type expression: the type that it names and the definition that it mentions, or none.
use Rattle.std.specs.Prelude.{ℕ, ◌≡◌, Option, MatchOption}
use Rattle.go_ast.specs.Tree.{TypeTree}
use Rattle.types_expr.specs.declared.types.Basic.{Basic}
use Rattle.types_expr.specs.Types.{PlainType, BasicType, Defined}
use Rattle.std.specs.Borrow.{Bor}
use Rattle.types_expr.specs.declared.exports.Export.{Export}
use Rattle.types_declared.specs.ExportTablesView.{export_of}
use Rattle.types_declared.specs.Package.{Package, symbol_in}
use Rattle.types_declared.specs.Package as plain
use Rattle.types_declared.specs.Written.{IsPredeclared, DeclaresType, basic_name, DenotesType, Mentions, IsBroken, IsTypeOf}

-- the declaration d declares this type: a predeclared one, or a definition of the package
pub data DeclaresPlain (p : Package) (d : ℕ) : PlainType → Type 0 where
  predeclared : (b : Basic) → IsPredeclared p d (basic_name b) → DeclaresPlain p d (BasicType b)
  defined : {rank : ℕ} → DeclaresType p d rank → DeclaresPlain p d (Defined (symbol_in p rank))

-- found is the type that d declares, or none where it declares none
abbrev pub IsTypeDeclared : Package → ℕ → Option PlainType → Type 0
IsTypeDeclared p d found = MatchOption found ((t : PlainType) → DeclaresPlain p d t → ⊥) (λ t. DeclaresPlain p d t)

-- named is the type that the type expression names, or none where it names none
abbrev pub IsNamedBy : Package → ℕ → TypeTree → Option PlainType → Type 0
IsNamedBy p file tree named = MatchOption named ((t : PlainType) → DenotesType p file tree t → ⊥) (λ t. DenotesType p file tree t)

-- mentioned is the rank of the only definition that the type expression mentions, or none where it mentions none
abbrev pub IsMentionedBy : Package → ℕ → TypeTree → Option ℕ → Type 0
IsMentionedBy p file tree mentioned = MatchOption mentioned ((r : ℕ) → Mentions p file tree r → ⊥)
    (λ r. Mentions p file tree r × ((other : ℕ) → Mentions p file tree other → other ≡ r))

-- found is the only export with the property P, or none where no export has it
abbrev pub IsOneExport : (plain.Export → Type 0) → Option (Bor Export) → Type 0
IsOneExport P found = MatchOption found ((e : plain.Export) → P e → ⊥) (λ e. P (export_of e.now) × ((other : plain.Export) → P other → other ≡ export_of e.now))

-- the type expression mentions a broken definition
pub record MentionsBroken (p : Package) (file : ℕ) (tree : TypeTree) : Type 0 where
  pub rank : ℕ
  pub mentions : Mentions p file tree rank
  pub broken : IsBroken p rank

-- found is the type of the type expression; none where that names no type or mentions a broken definition
abbrev pub IsTypeFound : Package → ℕ → TypeTree → Option PlainType → Type 0
IsTypeFound p file tree found = MatchOption found ((t : PlainType) → IsTypeOf p file tree t → ⊥) (λ t. IsTypeOf p file tree t)
