-- The values from which the object of a package is printed, and the text that a file adds.
use Rattle.std.specs.Prelude.{ℕ, ◌≡◌, ◌≤◌, List, [], ◌++◌, drop, map, length, Option, Some, None, slice_get, MatchOption}
use Rattle.std.specs.List.{flat_map}
use Rattle.go_ast.specs.SourceFile.{FileParts, SourceFile}
use Rattle.types_expr.specs.declared.world.Definition.{Definition}
use Rattle.types_expr.specs.declared.found.Entering.{Entering}
use Rattle.types_expr.specs.declared.found.MemberUse.{MemberUse}
use Rattle.types_expr.specs.WorldView.{definition_or_none, no_definition}
use Rattle.types_expr.specs.Found.{plain_entering, use_of}
use Rattle.types_expr.specs.Judge as plain
use Rattle.types_info.specs.PackageOf.{IsPackageOf}
use Rattle.types_declared.specs.Package.{ExportData, Package, PlacedType, package_types, symbol_in}
use Rattle.types_declared.specs.Definitions.{IsDefinition}
use Rattle.types_info.specs.MemberUses.{AreEnterings, AreEnteringsIn, AreMemberUses, AreUsesIn}
use Rattle.build_object.specs.declared.object_names.ObjectNames.{ObjectNames}
use Rattle.build_object.specs.declared.instructions.FunctionName.{FunctionName}
use Rattle.build_object.specs.LineView.{function_of}
use Rattle.build_object.specs.Source.{Source}
use Rattle.build_object.specs.Sources.{IsObjectText, IsSourceOf}
use Rattle.build_object.specs.NamesView.{AreNamesOf}
use Rattle.build_object.specs.PackagesView.{package_names_in, tables_in, type_in}
use Rattle.build_object.specs.Objects.{declared_in, names_behind_all}
use Rattle.build_object.specs.ObjectText.{declaration_text}

-- `found` are the type definitions of the package p as other packages see them, by their ranks.
pub record AreObjectDefinitions (p : Package) (found : List Definition) : Type 0 where
  pub own : (rank : ℕ) (d : PlacedType) → slice_get (package_types p) rank ≡ Some d →
      IsDefinition p rank (definition_or_none (symbol_in p rank) (slice_get found rank))
  pub beyond : (rank : ℕ) → slice_get (package_types p) rank ≡ None →
      definition_or_none (symbol_in p rank) (slice_get found rank) ≡ no_definition (symbol_in p rank)

-- `packages` has the names of exactly the packages whose files `files_of` gives.
abbrev pub HaveNames : ObjectNames → (List ℕ → List SourceFile) → Type 0
HaveNames packages files_of = (path : List ℕ) → MatchOption (package_names_in packages path) (files_of path ≡ [])
    (λ names. AreNamesOf path (files_of path) names (tables_in packages path))

-- The text of the declarations of a file of the package is added. Of `names`, `number` are used up before this file, and `others` with it.
pub record PrintsFile (p : Package) (file : ℕ) (members : List MemberUse) (enterings : List Entering) (packages : ObjectNames) (names : List FunctionName)
    (number others : ℕ) (old new : List ℕ) : Type 0 where
  pub file_at : SourceFile
  pub in_file : slice_get p.files file ≡ Some file_at
  pub source : Source
  pub made_of : (files_of : List ℕ → List SourceFile) → HaveNames packages files_of → AreUsesIn p file (map use_of members) →
      AreEnteringsIn p file (map plain_entering enterings) →
      IsSourceOf p files_of file file_at source
  pub text : new ≡ old ++ flat_map (declaration_text (type_in packages)) (declared_in source (map function_of (drop number names)) file_at.tree.decls)
  pub others_are : map function_of (drop others names) ≡ names_behind_all (map function_of (drop number names)) file_at.tree.decls
  pub within : others ≤ length names

-- The package that is checked: by its path, its files, and the names and export data of the packages that it sees.

-- `found` are the type definitions of this package as other packages see them.
abbrev pub OwnDefinitionsOf : (path : List ℕ) → List FileParts → (List ℕ → Option (List ℕ)) → (List ℕ → ExportData) → List Definition → Type 0
OwnDefinitionsOf path files name_of export_data_of found = (p : Package) → IsPackageOf path files name_of export_data_of p → AreObjectDefinitions p found

-- `text` is the text of the object of this package, where these are its uses of members and its entries. `packages` has the names of
-- declarations.
abbrev pub IsObjectTextOf : (path : List ℕ) → List FileParts → (List ℕ → Option (List ℕ)) → (List ℕ → ExportData) → List (List plain.MemberUse) →
    List (List plain.Entering) → ObjectNames → List ℕ → Type 0
IsObjectTextOf path files name_of export_data_of uses enterings packages text =
    (p : Package) × IsPackageOf path files name_of export_data_of p ×
    ((files_of : List ℕ → List SourceFile) → AreMemberUses p uses → AreEnterings p enterings → HaveNames packages files_of → IsObjectText p files_of text)
