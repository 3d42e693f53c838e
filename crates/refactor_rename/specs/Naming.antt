-- Which declarations can be renamed, and which names are legal for them. IsPackage: the packages of the workspace.
use Rattle.std.specs.Prelude.{ℕ, ◌≡◌, ◌<◌, ◌⊎◌, List, ⊤, Result, Ok, Err, codes}
use Rattle.base_files.specs.declared.refusal.Refusal.{Refusal}
use Rattle.base_files.specs.declared.refusal.Refusal.TheVariants.{Memory, NotRenamable, BadName, Same}
use Rattle.go_scope.specs.Bindings.{IsPackageLevel, IsImport}
use Rattle.types_declared.specs.Package.{Package}
use Rattle.refs_binding.specs.declared.declaration.Declaration.{Declaration}
use Rattle.refs_binding.specs.declared.declaration.Declaration.TheVariants.{Predeclared, Declared, Field, Method}
use Rattle.refs_binding.specs.DeclaringPlaces.{InHomePackage}
use Rattle.refs_binding.specs.DeclaredNames.{HasDeclaredNameIn, HasDeclaredName}
use Rattle.refactor_rename.specs.NewName.{IsReserved}

-- The declaration is `main` in the package block of `p`.
abbrev pub IsMainIn : Package → Declaration → Type 0
IsMainIn p (Predeclared d) = ⊥
IsMainIn p (Declared path d) = (d < p.size) × (IsPackageLevel p.layout d × (p.names d ≡ codes "main"))
IsMainIn p (Field s) = ⊥
IsMainIn p (Method s) = ⊥

-- The declaration is in the package block of `p`, or is an import of it.
abbrev pub IsTopLevelIn : Package → Declaration → Type 0
IsTopLevelIn p (Predeclared d) = ⊥
IsTopLevelIn p (Declared path d) = (d < p.size) × (IsPackageLevel p.layout d ⊎ IsImport p.layout d)
IsTopLevelIn p (Field s) = ⊥
IsTopLevelIn p (Method s) = ⊥

-- The declaration is predeclared, as `int` or `len`.
abbrev pub IsPredeclaredName : Declaration → Type 0
IsPredeclaredName (Predeclared d) = Unit {0}
IsPredeclaredName (Declared path d) = ⊥
IsPredeclaredName (Field s) = ⊥
IsPredeclaredName (Method s) = ⊥

-- The declaration cannot be renamed: it is predeclared, or `main` in a package block.
abbrev pub IsFixed : (Package → Type 0) → Declaration → Type 0
IsFixed IsPackage d = IsPredeclaredName d ⊎ InHomePackage IsPackage d (λ p. IsMainIn p d)

-- The name is reserved for this declaration: `init` and `main` are, for declarations of a package block and for imports.
--
--   func f() {}      // can't be renamed to init or main
abbrev pub IsReservedFor : (Package → Type 0) → Declaration → List ℕ → Type 0
IsReservedFor IsPackage d name = InHomePackage IsPackage d (λ p. IsTopLevelIn p d) × IsReserved name

-- The first of three reasons against a name that applies, or Ok where none does: the declaration is fixed, the name is reserved, it is
-- called so already.
abbrev pub RefusesFor : (fixed reserved called : Type 0) → Result (Unit {0}) Refusal → Type 0
RefusesFor fixed reserved called (Ok done) = ¬ fixed × ¬ reserved × ¬ called
RefusesFor fixed reserved called (Err NotRenamable) = fixed
RefusesFor fixed reserved called (Err BadName) = ¬ fixed × reserved
RefusesFor fixed reserved called (Err Same) = ¬ fixed × ¬ reserved × called
RefusesFor fixed reserved called (Err refusal) = ⊥

-- The same where members are looked up, for which there may be no memory.
abbrev pub RefusesOrLacks : (fixed reserved called : Type 0) → Result (Unit {0}) Refusal → Type 0
RefusesOrLacks fixed reserved called (Err Memory) = ⊤
RefusesOrLacks fixed reserved called result = RefusesFor fixed reserved called result

-- The first reason against the name `name` for the declaration of the number `d` of the package `p`, or Ok.
abbrev pub RefusesNumber : Package → (d : ℕ) → List ℕ → Result (Unit {0}) Refusal → Type 0
RefusesNumber p d name result =
    RefusesFor ((d < p.size) × (IsPackageLevel p.layout d × (p.names d ≡ codes "main")))
    (((d < p.size) × (IsPackageLevel p.layout d ⊎ IsImport p.layout d)) × IsReserved name) ((d < p.size) × (p.names d ≡ name)) result

-- The first reason against the name `name` for the declaration `d` of the package `p`, or Ok.
abbrev pub RefusesNameIn : Package → Declaration → List ℕ → Result (Unit {0}) Refusal → Type 0
RefusesNameIn p d name result = RefusesOrLacks (IsMainIn p d) (IsTopLevelIn p d × IsReserved name) (HasDeclaredNameIn p d name) result

-- Ok where `name` is legal for the declaration `d` and not its present name, or the first reason against it: `NotRenamable`, `BadName` or
-- `Same`.
abbrev pub RefusesName : (Package → Type 0) → Declaration → List ℕ → Result (Unit {0}) Refusal → Type 0
RefusesName IsPackage d name result = RefusesOrLacks (IsFixed IsPackage d) (IsReservedFor IsPackage d name) (HasDeclaredName IsPackage d name) result
