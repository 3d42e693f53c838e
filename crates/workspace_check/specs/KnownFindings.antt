-- The finding of a package, and a known verdict on a package.
use Rattle.std.specs.Prelude.{ℕ, ◌≡◌, Bool, true, false, List, [], Option, Some, None, map}
use Rattle.std.specs.Global.{Vec}
use Rattle.base_files.specs.Workspace.{Workspace}
use Rattle.types_expr.specs.declared.found.MemberUse.{MemberUse}
use Rattle.types_expr.specs.declared.found.Entering.{Entering}
use Rattle.types_expr.specs.declared.exports.ExportData.{ExportData}
use Rattle.types_declared.specs.Package.{Package}
use Rattle.types_declared.specs.ExportTablesView.{name_in, known_name, export_data_in, export_data_known, no_export_data}
use Rattle.types_info.specs.MemberUses.{AreEnterings, AreMemberUses, enterings_in, uses_in}
use Rattle.types_info.specs.declared.lists.Qualified.{Qualified}
use Rattle.types_info.specs.QualifiedIdentifiers.{AreQualified}
use Rattle.types_declared.specs.declared.export_tables.ExportTable.{ExportTable}
use Rattle.workspace_check.specs.Verdicts.{Verdict, Verdicts, IsPackageIn, IsFaultBy, IsVerdict, AreVerdictsBelow}
use Rattle.workspace_check.specs.FaultLists.{AreListedFaults}
use Rattle.workspace_check.specs.declared.finding.Finding.{Finding}
use Rattle.workspace_check.specs.declared.known.KnownVerdict.{KnownVerdict}

abbrev pub is_unknown : Option (List ℕ) → Bool
is_unknown None = true
is_unknown (Some name) = false

-- The verdicts that `all` gives: a package without a name there has faults.
abbrev pub verdicts_by : ExportTable → Verdicts
verdicts_by all q = record { faulty = is_unknown (name_in all q); export_data = export_data_in all q }

-- The verdict on one package that follows from its entry: without a name it has faults.
abbrev pub verdict_from : (path : List ℕ) → Option ExportData → Verdict
verdict_from path known = record { faulty = is_unknown (known_name known); export_data = export_data_known path known }

-- `all` has nothing else of a package without a name.
abbrev pub AreNamedEntries : ExportTable → Type 0
AreNamedEntries all = (q : List ℕ) → name_in all q ≡ None → export_data_in all q ≡ no_export_data q

-- The uses of members in the files of `p`, in one list for each file.
pub record AreUsesOf (w : Workspace) (known : Verdicts) (p : List ℕ) (members : List (Vec MemberUse)) : Type 0 where
  pub checked : Package
  pub is_package : IsPackageIn w known p checked
  pub are_uses : AreMemberUses checked (map uses_in members)

-- The entries of values into interfaces in the files of `p`, in one list for each file.
pub record AreEnteringsOf (w : Workspace) (known : Verdicts) (p : List ℕ) (enterings : List (Vec Entering)) : Type 0 where
  pub checked : Package
  pub is_package : IsPackageIn w known p checked
  pub are_enterings : AreEnterings checked (map enterings_in enterings)

-- The qualified identifiers of `p`.
pub record AreQualifiedOf (w : Workspace) (known : Verdicts) (p : List ℕ) (qualified : List Qualified) : Type 0 where
  pub checked : Package
  pub is_package : IsPackageIn w known p checked
  pub are_qualified : AreQualified checked qualified

-- `f` has the faults of `p`, and if there are none, its uses of members, its entries and its qualified identifiers.
pub record IsFinding (w : Workspace) (known : Verdicts) (p : List ℕ) (f : Finding) : Type 0 where
  pub has_path : f.path ≡ p
  pub listed : AreListedFaults (IsFaultBy w known p) f.faults.items
  pub members : f.faults.items ≡ [] → AreUsesOf w known p f.members.items
  pub enterings : f.faults.items ≡ [] → AreEnteringsOf w known p f.enterings.items
  pub qualified : f.faults.items ≡ [] → AreQualifiedOf w known p f.qualified.items

-- `f` is the finding of `p`, by the right verdicts on the packages that it builds on.
pub record IsFindingOf (w : Workspace) (p : List ℕ) (f : Finding) : Type 0 where
  pub known : Verdicts
  pub right : AreVerdictsBelow w p known
  pub finding : IsFinding w known p f

-- `one` has the finding of `p` and the verdict on `p`.
pub record IsKnownVerdict (w : Workspace) (p : List ℕ) (one : KnownVerdict) : Type 0 where
  pub right : IsVerdict w p (verdict_from p one.known)
  pub finding : IsFindingOf w p one.finding

-- If there is a known verdict, it is that on `p`.
abbrev pub IsVerdictIfKnown : Workspace → List ℕ → Option KnownVerdict → Type 0
IsVerdictIfKnown w p found = (one : KnownVerdict) → found ≡ Some one → IsKnownVerdict w p one
