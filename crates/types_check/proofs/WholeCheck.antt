-- The check of a package from its package clauses on, for each package of a path, files and export data.
use Rattle.std.proofs.Common.{ℕ, ◌≡◌, Bool, true, false, nat_eq, List, ap, sym, subst, ◌∙◌, vec_len}
use Rattle.std.specs.Prelude.{Option, None, Contains, map}
use Rattle.std.specs.Global.{Vec}
use Rattle.std.specs.List.Sorted.{IsStrictlySortedBy}
use Rattle.types_declared.specs.declared.fault.Fault.{Fault}
use Rattle.types_declared.specs.contracts.fault.FaultOrd.TheImpl as order
use Rattle.types_declared.specs.Listing.{HoldsExactly}
use Rattle.types_declared.specs.Stage.{HasNoFault, FirstOf}
use Rattle.go_ast.specs.SourceFile.{SourceFile, FileParts, source_of}
use Rattle.types_declared.specs.declared.states.ImportState.{ImportState}
use Rattle.types_resolve.specs.Clauses.{IsClauseFault}
use Rattle.types_resolve.specs.Imports.{IsImportFault}
use Rattle.types_resolve.specs.Stages.{IsOuterFault}
use Rattle.types_check.specs.declared.checking.Checked.{Checked}
use Rattle.types_declared.specs.Package.{Package, ExportData}
use Rattle.types_info.specs.PackageOf.{IsPackageOf}
use Rattle.types_check.specs.Check.{IsPackageFault, IsLaterFault, IsFindingBy, IsFindingOfPackage, IsFindingIn, outside, inside}
use Rattle.types_check.proofs.OneLaid.{one_package}
use Rattle.types_check.proofs.Staging.{nothing_in, some_found, none_found, checked_same, after_both, ends_with, goes_on}

-- the faults of clauses and imports, and the later ones
from_outer : (state : List ℕ → ImportState) (p : Package) (files : List SourceFile) → p.files ≡ files → (c : Checked) →
    IsFindingBy (FirstOf (IsOuterFault state files) (IsLaterFault p)) p c → IsFindingOfPackage state p c
from_outer state p files e c h =
    checked_same (FirstOf (IsOuterFault state p.files) (IsLaterFault p)) (IsPackageFault state p) p c
    (after_both (IsClauseFault p.files) (IsImportFault state p.files) (IsLaterFault p))
    (subst (λ fs. IsFindingBy (FirstOf (IsOuterFault state fs) (IsLaterFault p)) p c) (sym e) h)

its_files : (path : List ℕ) (files : List FileParts) (name_of : List ℕ → Option (List ℕ)) (export_data_of : List ℕ → ExportData) (p : Package) →
    IsPackageOf path files name_of export_data_of p →
    p.files ≡ map source_of files
its_files path files name_of export_data_of p h = ap (λ (q : Package). q.files) h.is_package

-- a package with faults of clauses or imports
pub outer_ends : (state : List ℕ → ImportState) (path : List ℕ) (files : List FileParts) (name_of : List ℕ → Option (List ℕ))
    (export_data_of : List ℕ → ExportData) (p : Package) →
    IsPackageOf path files name_of export_data_of p → (c : Checked) (found : Vec Fault) (b : Bool) → c.faults ≡ found → c.export_data ≡ None →
    b ≡ nat_eq (vec_len found) 0 → b ≡ false →
    HoldsExactly (IsOuterFault state (map source_of files)) found.items → IsStrictlySortedBy order.ghosts.cmp found.items → IsFindingOfPackage state p c
outer_ends state path files name_of export_data_of p h c found b same none is fails listed sorted =
    from_outer state p (map source_of files) (its_files path files name_of export_data_of p h) c
    (ends_with (IsOuterFault state (map source_of files)) (IsLaterFault p) p c found b same none is fails listed sorted)

-- the finding of files with faults of clauses or imports, where there is no package
pub found_outside : (path : List ℕ) (files : List FileParts) (state : List ℕ → ImportState) (name_of : List ℕ → Option (List ℕ))
    (export_data_of : List ℕ → ExportData) (c : Checked) (found : Vec Fault) (b : Bool) →
    c.faults ≡ found → c.export_data ≡ None → b ≡ nat_eq (vec_len found) 0 → b ≡ false → HoldsExactly (IsOuterFault state (map source_of files)) found.items →
    IsFindingIn path files state name_of export_data_of c
found_outside path files state name_of export_data_of c found b same none is fails listed =
    outside (λ e. some_found found b is fails (sym (ap (λ (v : Vec Fault). v.items) same) ∙ e))
    (subst (λ (v : Vec Fault). HoldsExactly (IsOuterFault state (map source_of files)) v.items) (sym same) listed) none

-- a package without such faults is the one that was checked
pub outer_goes_on : (state : List ℕ → ImportState) (path : List ℕ) (files : List FileParts) (name_of : List ℕ → Option (List ℕ))
    (export_data_of : List ℕ → ExportData) (p q : Package) →
    IsPackageOf path files name_of export_data_of p → IsPackageOf path files name_of export_data_of q → (found : Vec Fault) (b : Bool) →
    b ≡ nat_eq (vec_len found) 0 → b ≡ true →
    HoldsExactly (IsOuterFault state (map source_of files)) found.items → (c : Checked) → IsFindingBy (IsLaterFault q) q c → IsFindingOfPackage state p c
outer_goes_on state path files name_of export_data_of p q h k found b is passes listed c checked =
    from_outer state p (map source_of files) (its_files path files name_of export_data_of p h) c
    (goes_on (IsOuterFault state (map source_of files)) (IsLaterFault p) p found b is passes listed c
    (subst (λ z. IsFindingBy (IsLaterFault z) z c) (one_package path files name_of export_data_of q p k h) checked))

pub found_inside : (path : List ℕ) (files : List FileParts) (state : List ℕ → ImportState) (name_of : List ℕ → Option (List ℕ))
    (export_data_of : List ℕ → ExportData) (p : Package) →
    IsPackageOf path files name_of export_data_of p → (found : Vec Fault) (b : Bool) → b ≡ nat_eq (vec_len found) 0 → b ≡ true →
    HoldsExactly (IsOuterFault state (map source_of files)) found.items → (c : Checked) →
    IsFindingBy (IsLaterFault p) p c → IsFindingIn path files state name_of export_data_of c
found_inside path files state name_of export_data_of p h found b is passes listed c checked =
    let none : HasNoFault (IsOuterFault state (map source_of files)) = λ f by.
    nothing_in f (subst (λ fs. Contains fs f) (none_found found b is passes) (listed.holds f by)) in
    inside {p = p} none h checked
