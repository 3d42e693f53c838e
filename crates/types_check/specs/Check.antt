-- The faults of a package, stage by stage, and the findings of its check.
use Rattle.std.specs.Prelude.{ℕ, ◌≡◌, Bool, List, [], Option, None, Some, is_some, map, MatchOption}
use Rattle.std.specs.List.Sorted.{IsStrictlySortedBy}
use Rattle.types_declared.specs.declared.fault.Fault.{Fault}
use Rattle.types_declared.specs.contracts.fault.FaultOrd.TheImpl as order
use Rattle.types_declared.specs.Listing.{HoldsExactly}
use Rattle.types_declared.specs.Stage.{HasNoFault, FirstOf}
use Rattle.go_ast.specs.SourceFile.{FileParts, source_of}
use Rattle.go_scope.specs.Packages.{ScopedPackage, scoped}
use Rattle.types_declared.specs.PackageNames.{IsLaidOver}
use Rattle.types_declared.specs.declared.states.ImportState.{ImportState}
use Rattle.types_resolve.specs.Stages.{IsOuterFault, IsInnerFault, IsFaultIn}
use Rattle.types_check.specs.declared.checking.Checked.{Checked}
use Rattle.types_check.specs.declared.checking.CheckedPackage.{CheckedPackage}
use Rattle.types_declared.specs.Package.{Package, ExportData, laid_of}
use Rattle.types_declared.specs.ExportTablesView.{export_data_of}
use Rattle.types_check.specs.Exports.{IsExportData}
use Rattle.types_members.specs.MemberFaults.{IsMemberFault}
use Rattle.types_check.specs.TypeFaults.{IsTypeFault}
use Rattle.types_info.specs.declared.meanings.MeaningTable.{MeaningTable}
use Rattle.types_info.specs.MeaningsView.{AreMeanings}
use Rattle.types_info.specs.MemberUses.{AreEnterings, AreMemberUses, enterings_in, uses_in}
use Rattle.types_info.specs.PackageOf.{IsPackageOf}
use Rattle.types_info.specs.QualifiedIdentifiers.{AreQualified}

-- whether the package at a path exports a name, as p sees it
abbrev pub exports_in : Package → (path name : List ℕ) → Bool
exports_in p path name = is_some ((p.export_data_of path).exported name)

-- f is a fault of the first stage of p that has any; state gives the states of imported paths
abbrev pub IsPackageFault : (List ℕ → ImportState) → Package → Fault → Type 0
IsPackageFault state p = IsFaultIn state p.files (exports_in p) (laid_of p) (IsMemberFault p) (IsTypeFault p)

-- c is the finding of a package whose faults are those with the property P. The faults are sorted by file and token, each once. Where there
-- is none, c has the package's export data, its uses of members, its entries and its qualified identifiers.
pub record IsFindingBy (P : Fault → Type 0) (p : Package) (c : Checked) : Type 0 where
  pub faults : HoldsExactly P c.faults.items
  pub order : IsStrictlySortedBy order.ghosts.cmp c.faults.items
  pub export_data : MatchOption c.export_data (c.faults.items ≡ [] → ⊥) (λ i. (c.faults.items ≡ []) × IsExportData p (export_data_of p.path i))
  pub members : c.faults.items ≡ [] → AreMemberUses p (map uses_in c.members.items)
  pub enterings : c.faults.items ≡ [] → AreEnterings p (map enterings_in c.enterings.items)
  pub qualified : c.faults.items ≡ [] → AreQualified p c.qualified.items

-- c is the finding of p; state gives the states of imported paths
abbrev pub IsFindingOfPackage : (List ℕ → ImportState) → Package → Checked → Type 0
IsFindingOfPackage state p c = IsFindingBy (IsPackageFault state p) p c

-- f is a fault of p, whose clauses and imports have none
abbrev pub IsLaterFault : Package → Fault → Type 0
IsLaterFault p = FirstOf (IsInnerFault p.files (exports_in p) (laid_of p)) (FirstOf (IsMemberFault p) (IsTypeFault p))

-- c is the finding of a path and files: the faults of their clauses or imports, or where these have none, the finding of the package that
-- they make.
pub data IsFindingIn (path : List ℕ) (files : List FileParts) (state : List ℕ → ImportState) (name_of : List ℕ → Option (List ℕ))
    (export_data_of : List ℕ → ExportData) (c : Checked) : Type 0 where
  outside : (c.faults.items ≡ [] → ⊥) → HoldsExactly (IsOuterFault state (map source_of files)) c.faults.items → c.export_data ≡ None →
      IsFindingIn path files state name_of export_data_of c
  inside : {p : Package} → HasNoFault (IsOuterFault state (map source_of files)) → IsPackageOf path files name_of export_data_of p →
      IsFindingBy (IsLaterFault p) p c → IsFindingIn path files state name_of export_data_of c

-- c has no fault, and b has the meanings of p's declarations
pub record AreMeaningsOf (p : Package) (c : Checked) (b : MeaningTable) : Type 0 where
  pub faultless : c.faults.items ≡ []
  pub bounds : AreMeanings p b.list.items b.of.items

-- the meanings that c hands back, if any, are those of p's declarations, and c has no fault
abbrev pub AreMeaningsFound : Package → CheckedPackage → Type 0
AreMeaningsFound p c = (b : MeaningTable) → c.bounds ≡ Some b → AreMeaningsOf p c.checked b

-- The clauses and imports of the files have no faults. In the scope table each import without a name declares the name of its package.
pub record IsSoundTable (files : List FileParts) (state : List ℕ → ImportState) (name_of : List ℕ → Option (List ℕ)) (table : ScopedPackage) : Type 0 where
  pub faultless : HasNoFault (IsOuterFault state (map source_of files))
  pub is_laid : IsLaidOver (map source_of files) name_of (scoped files) table

-- the table found, if any, is the scope table of files whose clauses and imports have no faults
abbrev pub IsTableFound : List FileParts → (List ℕ → ImportState) → (List ℕ → Option (List ℕ)) → Option ScopedPackage → Type 0
IsTableFound files state name_of found = (table : ScopedPackage) → found ≡ Some table → IsSoundTable files state name_of table
