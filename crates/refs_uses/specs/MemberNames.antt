-- The name of a field or method: the one name that denotes it.
use Rattle.std.specs.Prelude.{ℕ, ◌≡◌, true, List, Option, Some, option_map, slice_get, MatchOption}
use Rattle.std.specs.Borrow.{Bor}
use Rattle.base_files.specs.Workspace.{Workspace}
use Rattle.types_expr.specs.declared.symbol.Symbol.{Symbol}
use Rattle.types_expr.specs.declared.world.Definition.{Definition}
use Rattle.types_expr.specs.Types.{PlainType}
use Rattle.types_expr.specs.World.{member_by}
use Rattle.types_expr.specs.World as plain
use Rattle.types_expr.specs.WorldView.{definition_of}
use Rattle.types_declared.specs.Definitions.{AreDefinitions}
use Rattle.types_declared.specs.Laid.{is_exported}
use Rattle.types_declared.specs.Package.{Package}
use Rattle.workspace_check.specs.Verdicts.{Verdicts}
use Rattle.refs_binding.specs.declared.declaration.Declaration.{Declaration}
use Rattle.refs_binding.specs.Binding.{declaration_of}
use Rattle.refs_binding.specs.Uses.{IsCheckedPackage}
use Rattle.refs_binding.specs.Workspaces.{home_path}

-- `spelling`, written in the package `p` behind a value of the type `t`, denotes the member `d`.
abbrev pub Denotes : (Symbol → plain.Definition) → Package → (spelling : List ℕ) → PlainType → Declaration → Type 0
Denotes definitions p spelling t d = option_map declaration_of (member_by definitions p.path spelling t) ≡ Some d

-- In the package `p` only `name` denotes the member `d`, and if `d` is of another package, only an exported name does.
pub record IsOnlyName (p : Package) (d : Declaration) (name : List ℕ) : Type 0 where
  pub only : (definitions : Symbol → plain.Definition) → AreDefinitions p definitions → (spelling : List ℕ) (t : PlainType) →
      Denotes definitions p spelling t d → spelling ≡ name
  pub shown : (definitions : Symbol → plain.Definition) → AreDefinitions p definitions → (spelling : List ℕ) (t : PlainType) →
      Denotes definitions p spelling t d → (home_path d ≡ Some p.path → ⊥) → is_exported name ≡ true

-- If a name was found, it is the only one that denotes the member `d`.
abbrev pub IsNameFound : Workspace → Verdicts → Declaration → Option (List ℕ) → Type 0
IsNameFound w known d found = (name : List ℕ) → found ≡ Some name → (p : Package) → IsCheckedPackage w known p → IsOnlyName p d name

-- The definition has under this name the field of this rank.
pub record NamesField (definition : plain.Definition) (rank : ℕ) (name : List ℕ) : Type 0 where
  pub field : plain.Field
  pub found : definition.field name ≡ Some field
  pub of_rank : field.symbol.rank ≡ rank

-- The definition has under this name the method of this rank.
pub record NamesMethod (definition : plain.Definition) (rank : ℕ) (name : List ℕ) : Type 0 where
  pub method : plain.Method
  pub found : definition.method name ≡ Some method
  pub of_rank : method.symbol.rank ≡ rank

-- `Has` holds of a name that was found.
abbrev pub IsFoundName : (Has : List ℕ → Type 0) → Option (Bor (List ℕ)) → Type 0
IsFoundName Has found = MatchOption found (Unit {0}) (λ name. Has name.now)

-- `Has` holds of some definition of a list.
pub record HasOneOf (own : List Definition) (Has : plain.Definition → Type 0) : Type 0 where
  pub number : ℕ
  pub definition : Definition
  pub is_there : slice_get own number ≡ Some definition
  pub has : Has (definition_of definition)
