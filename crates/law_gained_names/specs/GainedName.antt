-- A package of parsed files, and the one after one of its imports got, before its path, the name that it declared already.
use Rattle.std.specs.Prelude.{ℕ, ◌≡◌, List, ◌∷◌, ◌++◌, Some, length, slice_get}
use Rattle.go_ast.specs.declared.syntax.Kind.TheVariants as kind
use Rattle.go_ast.specs.FileView.{file_view}
use Rattle.go_ast.specs.Kinds.{kind_of_name}
use Rattle.go_ast.specs.SourceFile.{FileParts, SourceFile, source_of}
use Rattle.go_scanner.specs.CutText.{tokens_in}
use Rattle.law_rename.specs.Around.{AroundImport, around_by, bare_import, file_with, from_on, import_with_name}
use Rattle.law_rename.specs.Gained.{Gain, gain_of}
use Rattle.law_rename.specs.Named.{MayPut, NamePut, after_put, before_put, literal_piece}
use Rattle.law_changed_types.specs.SameBindings.{IsParsedPackage}
use Rattle.types_check.specs.Check.{IsLaterFault, exports_in}
use Rattle.types_check.specs.Exports.{IsExportData}
use Rattle.types_check.specs.TypeFaults.{IsTypeFault}
use Rattle.types_declared.specs.declared.fault.Fault.{Fault}
use Rattle.types_declared.specs.declared.states.ImportState.{ImportState}
use Rattle.types_declared.specs.Files.{HasLiteral}
use Rattle.types_declared.specs.Package.{ExportData, Package, laid_of}
use Rattle.types_declared.specs.Stage.{HasNoFault}
use Rattle.types_members.specs.MemberFaults.{IsMemberFault}
use Rattle.types_resolve.specs.Clauses.{IsClauseFault}
use Rattle.types_resolve.specs.Imports.{IsImportFault}
use Rattle.types_resolve.specs.Scoping.{IsScopeFault, IsUnknownFault}
use Rattle.types_resolve.specs.Stages.{IsOuterFault}
use Rattle.types_resolve.specs.StatementMarks.{IsMarkFault}
use Rattle.law_faultless.specs.Worlds.{HaveWorlds}
use Rattle.types_info.specs.PackageOf.{IsPackageOf}
use Rattle.law_gained_names.specs.NamedPackage.{IsNamedPackage, KeepsLiterals, numbers_of}
use Rattle.law_renumbered.specs.Findings.{IsJudgedAnew, KeepsNames}
use Rattle.law_changed_types.specs.RenumberedPackage.{IsRenumberedPackage}

-- The file `after` is `before` with a name inserted before the string literal of an import without a name. The literal is the token of index
-- `number`.
pub record ImportGainsName (number : ℕ) (before after : FileParts) : Type 0 where
  pub put : NamePut
  pub around : AroundImport
  pub may : MayPut put
  pub literal : slice_get (tokens_in (before_put put)) number ≡ Some (literal_piece put)
  pub is_name : kind_of_name put.name ≡ kind.Name
  pub old_cut : before.cut ≡ before_put put
  pub old_tree : file_view before.file ≡ file_with (bare_import number) around
  pub new_cut : after.cut ≡ after_put put
  pub new_tree : file_view after.file ≡ file_with (import_with_name number) (around_by (from_on number) around)

-- In one file of the package p an import gained the name that it declared already: that of the package at its path. The package q has the
-- new file in place of the old one.
pub record GainsOwnName (number : ℕ) (p q : Package) : Type 0 where
  pub parsed : IsParsedPackage p
  pub first : List FileParts
  pub before : FileParts
  pub after : FileParts
  pub rest : List FileParts
  pub files : parsed.files ≡ first ++ before ∷ rest
  pub gains : ImportGainsName number before after
  pub is_package : IsPackageOf parsed.path (first ++ after ∷ rest) parsed.name_of parsed.export_data_of q
  pub path : List ℕ
  pub imports : HasLiteral (source_of before) number path
  pub declares : parsed.name_of path ≡ Some gains.put.name

-- The gain of the name.
abbrev pub gained_by : (number : ℕ) (p q : Package) → GainsOwnName number p q → Gain
gained_by number p q g = gain_of (length g.first) number g.gains.put

-- What holds of the package q, where the import is the identifier `at`. String literals keep their values, and each identifier its name.
pub record IsGainedAt (i : Gain) (at : ℕ) (p q : Package) : Type 0 where
  pub named : IsNamedPackage i at p q
  pub literals : KeepsLiterals i at p q named.file
  pub renumbered : IsRenumberedPackage (numbers_of i at) p q
  pub keeps : KeepsNames (numbers_of i at) p q

-- So q is p with other numbers, and keeps its names.
abbrev pub GainedNamesRenumber : Type 0
GainedNamesRenumber = (number : ℕ) (p q : Package) (g : GainsOwnName number p q) → (at : ℕ) × IsGainedAt (gained_by number p q g) at p q

-- The package after the edit, q, has no fault of members or of types, if p has none, and exports what p exports.
pub record IsAsFaultless (p q : Package) : Type 0 where
  pub members : ((f : Fault) → IsMemberFault p f → ⊥) → (f : Fault) → IsMemberFault q f → ⊥
  pub types : ((f : Fault) → IsTypeFault p f → ⊥) → (f : Fault) → IsTypeFault q f → ⊥
  pub exports : (e : ExportData) → IsExportData p e → IsExportData q e

-- Where each file of p has a world, each file of q is judged as it was in p.
abbrev pub GainedNamesAreJudged : Type 0
GainedNamesAreJudged = (i : Gain) (at : ℕ) (p q : Package) → IsNamedPackage i at p q → HaveWorlds p → (file : ℕ) (s : SourceFile) →
    slice_get q.files file ≡ Some s → IsJudgedAnew (numbers_of i at) p q file s

-- So no fault of members or of types comes, and the export data stay.
abbrev pub GainedNamesBringNoFault : Type 0
GainedNamesBringNoFault = (number : ℕ) (p q : Package) → GainsOwnName number p q → HaveWorlds p → IsAsFaultless p q

-- Where p has no fault of scopes, q has none.
abbrev pub NoScopeFaultComes : Type 0
NoScopeFaultComes = (i : Gain) (at : ℕ) (p q : Package) → IsGainedAt i at p q → ((f : Fault) → IsScopeFault (laid_of p) f → ⊥) →
    (f : Fault) → IsScopeFault (laid_of q) f → ⊥

-- Where p has no fault of qualified identifiers, q has none.
abbrev pub NoUnknownNameComes : Type 0
NoUnknownNameComes = (i : Gain) (at : ℕ) (p q : Package) → IsGainedAt i at p q → ((f : Fault) → IsUnknownFault p.files (exports_in p) (laid_of p) f → ⊥) →
    (f : Fault) → IsUnknownFault q.files (exports_in q) (laid_of q) f → ⊥

-- Where p has no fault of scopes or statements, q has none of statements.
abbrev pub NoMarkFaultComes : Type 0
NoMarkFaultComes = (i : Gain) (at : ℕ) (p q : Package) → IsGainedAt i at p q → ((f : Fault) → IsScopeFault (laid_of p) f → ⊥) →
    ((f : Fault) → IsMarkFault p.files (laid_of p) f → ⊥) → (f : Fault) → IsMarkFault q.files (laid_of q) f → ⊥

-- Where p has no fault of package clauses, q has none.
abbrev pub NoClauseFaultComes : Type 0
NoClauseFaultComes = (i : Gain) (at : ℕ) (p q : Package) → IsGainedAt i at p q → ((f : Fault) → IsClauseFault p.files f → ⊥) →
    (f : Fault) → IsClauseFault q.files f → ⊥

-- Where p has no fault of imports, by the states of their paths, q has none.
abbrev pub NoImportFaultComes : Type 0
NoImportFaultComes = (i : Gain) (at : ℕ) (p q : Package) → IsGainedAt i at p q → (state : List ℕ → ImportState) →
    ((f : Fault) → IsImportFault state p.files f → ⊥) → (f : Fault) → IsImportFault state q.files f → ⊥

-- Where p has no fault, q has none: neither of clauses or imports, by the states of their paths, nor of the later stages.
pub record HasNoMoreFaults (p q : Package) : Type 0 where
  pub outer : (state : List ℕ → ImportState) → HasNoFault (IsOuterFault state p.files) → HasNoFault (IsOuterFault state q.files)
  pub inner : HasNoFault (IsLaterFault p) → HasNoFault (IsLaterFault q)

-- So where each file of p has a world, no fault comes.
abbrev pub GainedNamesAddNoFault : Type 0
GainedNamesAddNoFault = (number : ℕ) (p q : Package) → GainsOwnName number p q → HaveWorlds p → HasNoMoreFaults p q
