-- If the closure of a package has the same texts in two workspaces, the package has equal verdicts and fault lists in both.
use Rattle.std.proofs.Common.{ℕ, ◌≡◌, List, sym, subst, ◌∙◌}
use Rattle.std.specs.Prelude.{Contains}
use Rattle.std.specs.Cmp.{IsTotalOrder, on_total}
use Rattle.std.specs.Cmp.Lexicographic.{nat_list_cmp_total}
use Rattle.base_files.specs.Packages.{package_paths, package_files}
use Rattle.base_files.specs.Workspace.{Workspace}
use Rattle.workspace_graph.specs.Packages.{PackageImports, IsInClosure, itself, through}
use Rattle.law_tokens.proofs.OwnPaths.{entry_cmp, files_sorted}
use Rattle.types_declared.specs.Package.{Package}
use Rattle.workspace_check.specs.declared.fault.FileFault.{FileFault}
use Rattle.workspace_check.specs.Verdicts.{BuildsOn, Verdict, Verdicts}
use Rattle.workspace_check.specs.Verdicts.{IsPackageIn, IsVerdict}
use Rattle.workspace_check.specs.Verdicts.{follows, AreVerdictsBelow}
use Rattle.workspace_check.specs.declared.finding.Finding.{Finding}
use Rattle.workspace_check.specs.declared.known.KnownVerdict.{KnownVerdict}
use Rattle.workspace_check.specs.FaultLists.{ListsPackageFaults}
use Rattle.workspace_check.specs.KnownFindings.{verdict_from, IsFindingOf, IsKnownVerdict}
use Rattle.workspace_check.specs.Closures.{HasSameClosure}
use Rattle.workspace_check.proofs.Closed.{from_package, to_package, in_closure_then}
use Rattle.workspace_check.proofs.Members.{one_sorted}
use Rattle.workspace_check.proofs.PackageFiles.{package_file, in_folder}
use Rattle.workspace_check.proofs.StandsAlike.{StandsAlike, package_there, by_there, listed_there, finding_there}

-- one workspace for another

entry_total : IsTotalOrder entry_cmp
entry_total = on_total (λ (e : List ℕ × List ℕ). e.0) nat_list_cmp_total

pub same_back : (w x : Workspace) (p : List ℕ) → HasSameClosure w x p → HasSameClosure x w p
same_back w x p same e = ((same e).1, (same e).0)

-- a package of the closure, with a file of it, is one of the other's, with that file
carried : (w x : Workspace) (p : List ℕ) → HasSameClosure w x p → (q : List ℕ) (e : List ℕ × List ℕ) → IsInClosure w p q → Contains (package_files w q) e →
    IsInClosure x p q × Contains (package_files x q) e
carried w x p same q e closed has =
    let there = (same e).0 (record { path = q; in_closure = closed; of_package = has }) in
    let is : there.path ≡ q = sym (in_folder x there.path e there.of_package) ∙ in_folder w q e has in
    (subst (IsInClosure x p) is there.in_closure, subst (λ r. Contains (package_files x r) e) is there.of_package)

pub closed_there : (w x : Workspace) (p : List ℕ) → HasSameClosure w x p → (q : List ℕ) → IsInClosure w p q → IsInClosure x p q
closed_there w x p same q closed =
    let file = package_file w q (to_package w p q closed) in
    (carried w x p same q file.0 closed file.1).0

pub files_there : (w x : Workspace) (p : List ℕ) → HasSameClosure w x p → (q : List ℕ) → IsInClosure w p q → package_files w q ≡ package_files x q
files_there w x p same q closed =
    one_sorted entry_total (package_files w q) (package_files x q) (files_sorted w q) (files_sorted x q)
    (λ e has. (carried w x p same q e closed has).1)
    (λ e has. (carried x w p (same_back w x p same) q e (closed_there w x p same q closed) has).1)

imports_there : (w x : Workspace) (p : List ℕ) → HasSameClosure w x p → (q r : List ℕ) → IsInClosure w p q → PackageImports w q r → PackageImports x q r
imports_there w x p same q r closed i = record {
  entry = i.entry;
  of_package = (carried w x p same q i.entry closed i.of_package).1;
  file = i.file;
  parsed = i.parsed;
  imports = i.imports;
}

-- from a package of the closure on
on_there : (w x : Workspace) (p : List ℕ) → HasSameClosure w x p → (q r : List ℕ) → IsInClosure w p q → IsInClosure w q r → IsInClosure x q r
on_there w x p same q _ closed (itself has) = itself (to_package x p q (closed_there w x p same q closed))
on_there w x p same q r closed (through {q = m} i rest) =
    through (imports_there w x p same q m closed i) (on_there w x p same m r (in_closure_then w p q m closed (through i (itself (from_package w m r rest))))
    rest)

pub same_within : (w x : Workspace) (p : List ℕ) → HasSameClosure w x p → (q : List ℕ) → IsInClosure w p q → HasSameClosure w x q
same_within w x p same q closed e = (
  λ h. record {
    path = h.path;
    in_closure = on_there w x p same q h.path closed h.in_closure;
    of_package = (carried w x p same h.path e (in_closure_then w p q h.path closed h.in_closure) h.of_package).1;
  },
  λ h.
      let back = same_back w x p same in
      let there = closed_there w x p same q closed in
      record {
        path = h.path;
        in_closure = on_there x w p back q h.path there h.in_closure;
        of_package = (carried x w p back h.path e (in_closure_then x p q h.path there h.in_closure) h.of_package).1;
      },
)

pub builds_there : (w x : Workspace) (p : List ℕ) → HasSameClosure w x p → (q : List ℕ) → BuildsOn w p q → BuildsOn x p q
builds_there w x p same q on = record {
  imported = closed_there w x p same q on.imported;
  not_back = λ back. on.not_back (on_there x w p (same_back w x p same) q p (closed_there w x p same q on.imported) back);
}

-- what is found in p

pub own_there : (w x : Workspace) (p : List ℕ) → HasSameClosure w x p → Contains (package_paths w) p → Contains (package_paths x) p
own_there w x p same own = to_package x p p (closed_there w x p same p (itself own))

stands_there : (w x : Workspace) (p : List ℕ) → HasSameClosure w x p → Contains (package_paths w) p → StandsAlike w x p
stands_there w x p same own = record {
  files = files_there w x p same p (itself own);
  missing = λ q i none has. (
      let there = imports_there w x p same p q (itself own) i in
      let closed : IsInClosure x p q = through there (itself has) in
      none (to_package w p q (closed_there x w p (same_back w x p same) q closed)));
  round = λ q i round. on_there w x p same q p (through i (itself (from_package w q p round))) round;
  builds = builds_there w x p same;
  back = builds_there x w p (same_back w x p same);
}

stands_back : (w x : Workspace) (p : List ℕ) → HasSameClosure w x p → Contains (package_paths w) p → StandsAlike x w p
stands_back w x p same own = stands_there x w p (same_back w x p same) (own_there w x p same own)

pub local_verdict : (w x : Workspace) (p : List ℕ) (v : Verdict) → Contains (package_paths w) p → HasSameClosure w x p → IsVerdict w p v → IsVerdict x p v
local_verdict w x p v own same (follows known below by) =
    follows known
    (λ q on.
    let here = builds_there x w p (same_back w x p same) q on in
    local_verdict w x q (known q) (to_package w p q here.imported) (same_within w x p same q here.imported) (below q here))
    (by_there w x p (stands_there w x p same own) (stands_back w x p same own) known v by)

local_below : (w x : Workspace) (p : List ℕ) (known : Verdicts) → HasSameClosure w x p → AreVerdictsBelow w p known → AreVerdictsBelow x p known
local_below w x p known same right = λ q on.
    let here = builds_there x w p (same_back w x p same) q on in
    local_verdict w x q (known q) (to_package w p q here.imported) (same_within w x p same q here.imported) (right q here)

pub local_list : (w x : Workspace) (p : List ℕ) (list : List FileFault) → Contains (package_paths w) p → HasSameClosure w x p →
    ListsPackageFaults w p list → ListsPackageFaults x p list
local_list w x p list own same h = record {
  known = h.known;
  right = local_below w x p h.known same h.right;
  listed =
      listed_there w x p (stands_there w x p same own) (stands_back w x p same own) h.known list h.listed;
}

pub locally_checked : (w x : Workspace) (p : List ℕ) (known : Verdicts) (c : Package) → Contains (package_paths w) p → HasSameClosure w x p →
    AreVerdictsBelow w p known → IsPackageIn w known p c →
    AreVerdictsBelow x p known × IsPackageIn x known p c
locally_checked w x p known c own same right h = (local_below w x p known same right, package_there w x p (stands_there w x p same own) known c h)

pub local_finding : (w x : Workspace) (p : List ℕ) (f : Finding) → Contains (package_paths w) p → HasSameClosure w x p → IsFindingOf w p f → IsFindingOf x p f
local_finding w x p f own same h = record {
  known = h.known;
  right = local_below w x p h.known same h.right;
  finding = finding_there w x p (stands_there w x p same own) (stands_back w x p same own) h.known f h.finding;
}

pub told_there : (w x : Workspace) (p : List ℕ) (one : KnownVerdict) → Contains (package_paths w) p → HasSameClosure w x p → IsKnownVerdict w p one →
    IsKnownVerdict x p one
told_there w x p one own same told = record {
  right = local_verdict w x p (verdict_from p one.known) own same told.right;
  finding = local_finding w x p one.finding own same told.finding;
}
