-- Steps of checking a workspace: an order of packages, what a package sees, faults with their places, and the finding of each package after
-- the other.
use Rattle.std.specs.Prelude.{ℕ, ◌≡◌, ◌<◌, ◌↔◌, ◌⊎◌, true, List, [], ◌∷◌, ◌++◌, length, map, Option, Some, None}
use Rattle.std.specs.Prelude.{slice_get, slice_index_or, MatchOption, Contains, IsTrue}
use Rattle.std.specs.List.Sorted.{IsStrictlyIncreasing}
use Rattle.std.proofs.Math.ListN.{set}
use Rattle.base_files.specs.Workspace.{Workspace}
use Rattle.base_files.specs.Packages.{package_paths, package_files}
use Rattle.types_declared.specs.declared.fault.Fault.{Fault}
use Rattle.types_declared.specs.Listing.{HoldsExactly}
use Rattle.go_ast.specs.SourceFile.{SourceFile, FileParts, source_of}
use Rattle.workspace_graph.specs.FaultyFiles.{FaultyParts}
use Rattle.workspace_graph.specs.Graphs.{ListsPackages, OfPackage}
use Rattle.workspace_graph.specs.Packages.{IsInClosure, PackageImports}
use Rattle.workspace_graph.specs.Parsed.{AreParsed}
use Rattle.workspace_graph.specs.Reaching.{AreBackMarks}
use Rattle.types_declared.specs.declared.states.ImportState.{ImportState}
use Rattle.types_resolve.specs.Stages.{IsOuterFault}
use Rattle.types_declared.specs.ExportTablesView.{name_in, export_data_in, export_data_of, HasSameEntry, AddsExportData}
use Rattle.types_declared.specs.Package.{ExportData as Seen}
use Rattle.types_expr.specs.declared.exports.ExportData.{ExportData}
use Rattle.types_declared.specs.declared.export_tables.ExportTable.{ExportTable}
use Rattle.types_check.specs.declared.checking.Checked.{Checked}
use Rattle.types_check.specs.Check.{IsFindingIn}
use Rattle.workspace_check.specs.Faults.{placed, placed_in}
use Rattle.workspace_check.specs.Verdicts.{Verdicts, BuildsOn, IsFaultBy, HasExportData, IsVerdictBy, IsVerdict, AreStates, AreSeen}
use Rattle.workspace_check.specs.FaultLists.{AreListedFaults}
use Rattle.workspace_check.specs.KnownFindings.{verdicts_by, AreNamedEntries, AreUsesOf, AreEnteringsOf, AreQualifiedOf, IsFinding, IsFindingOf}
use Rattle.workspace_check.specs.declared.fault.FileFault.{FileFault}
use Rattle.workspace_check.specs.declared.finding.Finding.{Finding}
use Rattle.workspace_check.specs.declared.found_package.FoundPackage.{FoundPackage}
use Rattle.workspace_check.specs.declared.judging.JudgedPackage.{JudgedPackage}
use Rattle.workspace_check.specs.declared.gathered.Gathered.{Gathered}
use Rattle.workspace_check.specs.declared.gathered.Taken.{Taken}
use Rattle.workspace_check.specs.declared.known.KnownVerdict.{KnownVerdict}
use Rattle.workspace_check.specs.declared.progress.Progress.{Progress}

-- An order

-- `size` is the number of packages in the closure of `p`.
pub record IsClosureSize (w : Workspace) (p : List ℕ) (size : ℕ) : Type 0 where
  pub numbers : List ℕ
  pub rising : IsStrictlyIncreasing numbers
  pub holds : ListsPackages w (IsInClosure w p) numbers
  pub is : size ≡ length numbers

-- The sizes of the closures of the first `count` packages.
pub record AreClosureSizes (w : Workspace) (count : ℕ) (sizes : List ℕ) : Type 0 where
  pub size : length sizes ≡ count
  pub each : (i : ℕ) (p : List ℕ) → i < count → slice_get (package_paths w) i ≡ Some p → IsClosureSize w p (slice_index_or sizes i 0)

-- All packages, each once and after those that it builds on.
pub record IsBuildOrder (w : Workspace) (order : List ℕ) : Type 0 where
  pub each : (n : ℕ) → Contains order n ↔ (n < length (package_paths w))
  pub once : (i j n : ℕ) → slice_get order i ≡ Some n → slice_get order j ≡ Some n → i ≡ j
  pub behind : (i n m : ℕ) (p q : List ℕ) → slice_get order i ≡ Some n → slice_get (package_paths w) n ≡ Some p → slice_get (package_paths w) m ≡ Some q →
      BuildsOn w p q →
      (j : ℕ) × (j < i) × (slice_get order j ≡ Some m)

-- What a package sees

-- The names and the export data of packages are the same in both tables.
pub record HasSameEntries (old new : ExportTable) : Type 0 where
  pub names : (q : List ℕ) → name_in new q ≡ name_in old q
  pub export_table : (q : List ℕ) → export_data_in new q ≡ export_data_in old q

-- `all` has the export data of just the packages that `p` sees.
abbrev pub SeesExactly : Workspace → List ℕ → ExportTable → Type 0
SeesExactly w p all = AreSeen w (verdicts_by all) p (name_in all) (export_data_in all)

-- Faults with their places

-- The faults of files that have no tree, with their places.
abbrev pub unread_faults : List FaultyParts → List FileFault
unread_faults files = map (λ f. placed f.path f.fault) files

-- `f` is `fault` with its place in its file, which is among `files`.
pub record IsPlacedFault (files : List FileParts) (fault : Fault) (f : FileFault) : Type 0 where
  pub source : SourceFile
  pub in_file : slice_get (map source_of files) fault.file ≡ Some source
  pub at : f ≡ placed_in source fault

-- `f` is one of `faults` with its place.
pub record IsSomePlacedFault (files : List FileParts) (faults : List Fault) (f : FileFault) : Type 0 where
  pub fault : Fault
  pub among : Contains faults fault
  pub is_placed : IsPlacedFault files fault f

-- The fault was added with its place, if its file is among `files`.
abbrev pub AddsPlaced : List FileParts → Fault → List FileFault → List FileFault → Type 0
AddsPlaced files fault old new = (f : FileFault) → Contains new f ↔ (Contains old f ⊎ IsPlacedFault files fault f)

-- One package

-- The result of checking `p`, each of whose files has a tree, by what `p` sees of others.
pub record IsCheckResult (w : Workspace) (known : Verdicts) (p : List ℕ) (c : Checked) : Type 0 where
  pub files : List FileParts
  pub parsed : AreParsed (package_files w p) files []
  pub state : List ℕ → ImportState
  pub are_states : AreStates w known p state
  pub name_of : List ℕ → Option (List ℕ)
  pub export_data_of : List ℕ → Seen
  pub are_seen : AreSeen w known p name_of export_data_of
  pub is_found : IsFindingIn p files state name_of export_data_of c

-- `p` imports a package with faults.
pub record ImportsFaulty (w : Workspace) (known : Verdicts) (p : List ℕ) : Type 0 where
  pub path : List ℕ
  pub imports : PackageImports w p path
  pub is_faulty : (known path).faulty ≡ true

-- The result of checking `p` that stopped at faults of clauses or imports. Each file of `p` has a tree.
pub record IsStoppedResult (w : Workspace) (known : Verdicts) (p : List ℕ) (c : Checked) : Type 0 where
  pub files : List FileParts
  pub parsed : AreParsed (package_files w p) files []
  pub state : List ℕ → ImportState
  pub are_states : AreStates w known p state
  pub some : c.faults.items ≡ [] → ⊥
  pub faults : HoldsExactly (IsOuterFault state (map source_of files)) c.faults.items
  pub export_data : c.export_data ≡ None

-- The faults of `p`, or else its export data, its uses of members, its entries and its qualified identifiers.
pub record IsJudged (w : Workspace) (known : Verdicts) (p : List ℕ) (j : JudgedPackage) : Type 0 where
  pub listed : AreListedFaults (IsFaultBy w known p) j.faults.items
  pub has_export_data : MatchOption j.export_data (j.faults.items ≡ [] → ⊥) (λ i. (j.faults.items ≡ []) × HasExportData w known p (export_data_of p i))
  pub uses : j.faults.items ≡ [] → AreUsesOf w known p j.members.items
  pub enterings : j.faults.items ≡ [] → AreEnteringsOf w known p j.enterings.items
  pub qualified : j.faults.items ≡ [] → AreQualifiedOf w known p j.qualified.items

-- The export data of `path` was added, if there is any.
abbrev pub AddsOptional : (old new : ExportTable) (path : List ℕ) → Option ExportData → Type 0
AddsOptional old new path None = new ≡ old
AddsOptional old new path (Some i) = AddsExportData old new path i

-- `all` has the right verdicts on the packages whose numbers satisfy `Is`, and no names of other packages or of paths that are no package.
pub record AreKnown (w : Workspace) (Is : ℕ → Type 0) (all : ExportTable) : Type 0 where
  pub right : (n : ℕ) (p : List ℕ) → Is n → slice_get (package_paths w) n ≡ Some p → IsVerdict w p (verdicts_by all p)
  pub fresh : (n : ℕ) (p : List ℕ) → (Is n → ⊥) → slice_get (package_paths w) n ≡ Some p → name_in all p ≡ None
  pub outside : (q : List ℕ) → (Contains (package_paths w) q → ⊥) → name_in all q ≡ None
  pub whole : AreNamedEntries all

-- `finding` was found in `p` by the verdicts in `all`, and `more` is `all` with the verdict on `p`.
pub record LearnsFinding (w : Workspace) (p : List ℕ) (finding : Finding) (all more : ExportTable) : Type 0 where
  pub is_finding : IsFinding w (verdicts_by all) p finding
  pub is_verdict : IsVerdictBy w (verdicts_by all) p (verdicts_by more p)
  pub elsewhere : (q : List ℕ) → (q ≡ p → ⊥) → HasSameEntry all more q
  pub whole : AreNamedEntries more

-- Known findings of some packages

-- The finding of the package `n` is known.
abbrev pub IsGathered : List (Option Finding) → ℕ → Type 0
IsGathered findings n = (f : Finding) × (slice_get findings n ≡ Some (Some f))

-- The known findings are right, and so are the verdicts on their packages. There is a place for each of the first `count` packages.
pub record AreGathered (w : Workspace) (count : ℕ) (all : Gathered) : Type 0 where
  pub size : length all.findings.items ≡ count
  pub verdicts : AreKnown w (IsGathered all.findings.items) all.export_table
  pub each : (n : ℕ) (p : List ℕ) (f : Finding) → slice_get (package_paths w) n ≡ Some p → slice_get all.findings.items n ≡ Some (Some f) → IsFindingOf w p f

-- The package `p` of this number was judged, and its finding and verdict were added.
pub record AddsFinding (w : Workspace) (p : List ℕ) (number : ℕ) (old new : Gathered) : Type 0 where
  pub finding : Finding
  pub is_set : new.findings.items ≡ set old.findings.items number (Some finding)
  pub learns : LearnsFinding w p finding old.export_table new.export_table

-- The finding of `p` was missing and is added, or it was known and nothing changed.
abbrev pub LearnsIfMissing : Workspace → List ℕ → ℕ → (old new : Gathered) → Type 0
LearnsIfMissing w p n old new = ((IsGathered old.findings.items n → ⊥) × AddsFinding w p n old new) ⊎ (IsGathered old.findings.items n × (new ≡ old))

-- The findings of all packages of `numbers` are known, and every known finding is right.
pub record AreAllGathered (w : Workspace) (numbers : List ℕ) (all : Gathered) : Type 0 where
  pub right : AreGathered w (length (package_paths w)) all
  pub each : (m : ℕ) → Contains numbers m → IsGathered all.findings.items m

-- The findings as a list of options in which none is missing.
abbrev pub somes : List Finding → List (Option Finding)
somes findings = map (λ (f : Finding). Some f) findings

-- The findings of all packages are known and right.
pub record KnowsAllFindings (w : Workspace) (all : Gathered) : Type 0 where
  pub right : AreGathered w (length (package_paths w)) all
  pub each : (n : ℕ) → n < length (package_paths w) → IsGathered all.findings.items n

-- A package is judged after those that it builds on

-- The findings of all packages that `p` builds on are known.
abbrev pub AreKnownBelow : Workspace → List ℕ → Gathered → Type 0
AreKnownBelow w p all = (q : List ℕ) → BuildsOn w p q → (n : ℕ) × (IsGathered all.findings.items n × (slice_get (package_paths w) n ≡ Some q))

-- Numbers of packages in rising order, with each package also all that it builds on.
pub record HoldAllBelow (w : Workspace) (numbers : List ℕ) : Type 0 where
  pub rising : IsStrictlyIncreasing numbers
  pub in_range : (n : ℕ) → Contains numbers n → n < length (package_paths w)
  pub below : (n m : ℕ) (p q : List ℕ) → Contains numbers n → slice_get (package_paths w) n ≡ Some p → slice_get (package_paths w) m ≡ Some q →
      BuildsOn w p q → Contains numbers m

-- Known findings are right, and only of packages of `numbers`.
pub record AreGatheredOf (w : Workspace) (numbers : List ℕ) (all : Gathered) : Type 0 where
  pub right : AreGathered w (length (package_paths w)) all
  pub just : (n : ℕ) → IsGathered all.findings.items n → Contains numbers n

-- Known findings are right, and only of packages of `numbers`; if `knew_each` is true, all of these have one.
pub record AreTakenOf (w : Workspace) (numbers : List ℕ) (taken : Taken) : Type 0 where
  pub gathered : AreGatheredOf w numbers taken.all
  pub each : IsTrue taken.knew_each → (n : ℕ) → Contains numbers n → IsGathered taken.all.findings.items n

-- Known findings are kept. If `knew_each` is true after, it was true before, and the finding of the package `number` is known.
pub record KnewOneMore (number : ℕ) (old new : Taken) : Type 0 where
  pub kept : (n : ℕ) → IsGathered old.all.findings.items n → IsGathered new.all.findings.items n
  pub before : IsTrue new.knew_each → IsTrue old.knew_each
  pub here : IsTrue new.knew_each → IsGathered new.all.findings.items number

-- Findings are known of just the packages of `numbers`, and they are right.
pub record KnowsExactly (w : Workspace) (numbers : List ℕ) (all : Gathered) : Type 0 where
  pub gathered : AreGatheredOf w numbers all
  pub each : (n : ℕ) → Contains numbers n → IsGathered all.findings.items n

-- If `n` is among `numbers`, `LearnsIfMissing` relates both tables; else nothing changed.
abbrev pub LearnsIfAmong : Workspace → List ℕ → List ℕ → ℕ → (old new : Gathered) → Type 0
LearnsIfAmong w numbers p n old new = (Contains numbers n × LearnsIfMissing w p n old new) ⊎ ((Contains numbers n → ⊥) × (new ≡ old))

-- The findings of the package `p` and of all packages that it builds on are known and right.
pub record IsKnownWithBelow (w : Workspace) (p : List ℕ) (number : ℕ) (all : Gathered) : Type 0 where
  pub right : AreGathered w (length (package_paths w)) all
  pub own : IsGathered all.findings.items number
  pub below : AreKnownBelow w p all

-- A verdict was added at the end, if there is one.
abbrev pub PushesOptional : (old new : List KnownVerdict) → Option KnownVerdict → Type 0
PushesOptional old new None = new ≡ old
PushesOptional old new (Some one) = new ≡ old ++ one ∷ []

-- The finding of the package `number`, with all export data and these verdicts.
pub record IsFoundPackage (number : ℕ) (all : Gathered) (verdicts : List KnownVerdict) (made : FoundPackage) : Type 0 where
  pub finding : slice_get all.findings.items number ≡ Some (Some made.finding)
  pub export_table : made.export_table ≡ all.export_table
  pub found : made.found.items ≡ verdicts

-- The findings of all packages that the package `number` builds on are known; `progress` has the numbers of these, and marks on the
-- packages that import it.
pub record IsProgress (w : Workspace) (number : ℕ) (progress : Progress) : Type 0 where
  pub right : AreGathered w (length (package_paths w)) progress.all
  pub below : OfPackage w number (λ p. AreKnownBelow w p progress.all)
  pub built_on : OfPackage w number (λ p. ListsPackages w (BuildsOn w p) progress.below.built_on)
  pub back : OfPackage w number (λ p. AreBackMarks w p progress.below.back.items)
