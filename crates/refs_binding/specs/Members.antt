-- The members of types as the program finds them: by the type definitions that it has.
use Rattle.std.specs.Prelude.{ℕ, ◌≡◌, List, [], Option, Some, None, Contains, option_map, slice_get, if◌then◌else◌}
use Rattle.std.specs.Global.{Vec}
use Rattle.base_files.specs.declared.place.Place.{Place}
use Rattle.types_expr.specs.declared.found.MemberUse.{MemberUse as FoundUse}
use Rattle.types_expr.specs.declared.symbol.Symbol.{Symbol}
use Rattle.types_expr.specs.declared.world.Definition.{Definition}
use Rattle.types_expr.specs.declared.world.Definitions.{Definitions}
use Rattle.types_expr.specs.Judge.{MemberUse}
use Rattle.types_expr.specs.Types.{PlainType, same_path}
use Rattle.types_expr.specs.World.{member_by}
use Rattle.types_expr.specs.World as plain
use Rattle.types_expr.specs.WorldView.{definition_or_none, no_definition, imported_at}
use Rattle.types_declared.specs.declared.index.Package.{Package as PackageUnit}
use Rattle.types_declared.specs.Package.{Package, PlacedType, package_types, symbol_in, spelled}
use Rattle.types_declared.specs.Definitions.{IsDefinition}
use Rattle.refs_binding.specs.declared.declaration.Declaration.{Declaration}
use Rattle.refs_binding.specs.declared.member_uses.KnownTypes.{KnownTypes}
use Rattle.refs_binding.specs.Binding.{declaration_of}
use Rattle.refs_binding.specs.Steps.{AtToken}

-- `own` has the package's own type definitions, by rank.
pub record AreOwnDefinitions (p : Package) (own : List Definition) : Type 0 where
  pub each : (rank : ℕ) (d : PlacedType) → slice_get (package_types p) rank ≡ Some d →
      IsDefinition p rank (definition_or_none (symbol_in p rank) (slice_get own rank))
  pub beyond : (rank : ℕ) → slice_get (package_types p) rank ≡ None →
      definition_or_none (symbol_in p rank) (slice_get own rank) ≡ no_definition (symbol_in p rank)

-- A package's type definitions, or none if the package has no entry.
abbrev pub definitions_or_none : Option (List Definition) → List Definition
definitions_or_none None = []
definitions_or_none (Some own) = own

-- The type definition of a symbol, found in `own` if its package is that of `path`, else in `imported`.
abbrev pub definitions_by : (path : List ℕ) → List Definition → Definitions → Symbol → plain.Definition
definitions_by path own imported s = definition_or_none s (if same_path path s.package then slice_get own s.rank else imported_at imported s)

-- The type definition of a symbol, by the definitions that a package knows.
abbrev pub definitions_known : KnownTypes → Symbol → plain.Definition
definitions_known types = definitions_by types.path.now types.own.now types.imported.now

-- The type definition of a symbol, as a package sees it.
abbrev pub definitions_seen : PackageUnit → List Definition → Symbol → plain.Definition
definitions_seen unit own = definitions_by unit.path.now own unit.export_table.now.definitions

-- The declaration of the member of the type `t` under the name that the token spells, if there is one.
abbrev pub member_at : (Symbol → plain.Definition) → Package → (file token : ℕ) → PlainType → Option Declaration
member_at definitions p file token t = option_map declaration_of (member_by definitions p.path (spelled p file token) t)

-- The use of a member is at the token and bound to `d`.
abbrev pub IsMemberIf : (Symbol → plain.Definition) → Package → (file token : ℕ) → MemberUse → Declaration → Type 0
IsMemberIf definitions p file token x d = (x.place ≡ token) × (member_at definitions p file x.place x.before ≡ Some d)

-- One of the uses of members is at the token and bound to `d`.
pub record IsMemberIn (definitions : Symbol → plain.Definition) (p : Package) (file : ℕ) (uses : List MemberUse) (token : ℕ) (d : Declaration) : Type 0 where
  pub found : MemberUse
  pub is_use : Contains uses found
  pub at : found.place ≡ token
  pub is_member : member_at definitions p file found.place found.before ≡ Some d

-- The use of a member begins at the place and is bound to `d`.
pub record IsMemberUseOf (definitions : Symbol → plain.Definition) (p : Package) (file : ℕ) (d : Declaration) (found : MemberUse) (place : Place) : Type 0 where
  pub at : AtToken p (record { file = file; index = found.place }) place
  pub is_member : member_at definitions p file found.place found.before ≡ Some d

-- The use of a member at index `k` of a list begins at the place and is bound to `d`.
pub record IsMemberUseAt (definitions : Symbol → plain.Definition) (p : Package) (file : ℕ) (d : Declaration) (uses : List MemberUse) (k : ℕ)
    (place : Place) : Type 0 where
  pub found : MemberUse
  pub has_rank : slice_get uses k ≡ Some found
  pub is_use : IsMemberUseOf definitions p file d found place

-- The uses of members that a list has for a file, or none for a file beyond the list.
abbrev pub uses_or_none : Option (Vec FoundUse) → List FoundUse
uses_or_none None = []
uses_or_none (Some uses) = uses.items

-- Some use of a member in a list begins at the place and is bound to `d`.
abbrev pub IsMemberUseAmong : (Symbol → plain.Definition) → Package → (file : ℕ) → Declaration → List MemberUse → Place → Type 0
IsMemberUseAmong definitions p file d uses place = (k : ℕ) × IsMemberUseAt definitions p file d uses k place
