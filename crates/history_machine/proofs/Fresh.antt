-- Fresh deliveries, and the unit that a table has at a package's number.
use Rattle.std.proofs.Common.{◌≡◌, ℕ, true, false, List, Option, Some, None, MatchOption, Bor, is_some, slice_get}
use Rattle.std.proofs.lemmas.Bool.{true≢false, false≢true}
use Rattle.base_files.specs.Packages.{package_paths}
use Rattle.build_unit.specs.Inputs.{AreInputs}
use Rattle.build_unit.specs.declared.built.Built.{Built}
use Rattle.build_unit.specs.declared.job.JobRecord.{JobRecord}
use Rattle.build_unit.specs.declared.unit.Unit.{Unit as PackageUnit}
use Rattle.build_carry.specs.Finished.{Table}
use Rattle.build_carry.proofs.FinishedUnits.{unit_at}
use Rattle.history_machine.specs.State.{State}
use Rattle.history_machine.specs.Deliveries.{IsFresh, HasUnit}

pub is_fresh : (state : State) (job : JobRecord) (built : Built) → built.package ≡ job.package → job.number ≡ state.number →
    built.number ≡ state.number → AreInputs state.files job.package job.inputs × AreInputs state.files job.package built.inputs → IsFresh state job built
is_fresh state job built package_is job_is built_is both = record {
  same_package = package_is;
  job_number = job_is;
  built_number = built_is;
  job_inputs = both.0;
  built_inputs = both.1;
}

-- ---- what the table has at a number
abbrev pub Holds : Table → ℕ → Option (Bor PackageUnit) → Type 0
Holds table n found = MatchOption found ((unit : PackageUnit) → slice_get table n ≡ Some (Some unit) → ⊥) (λ unit. slice_get table n ≡ Some (Some unit.now))

pub is_there : (table : Table) (n : ℕ) (found : Option (Bor PackageUnit)) → true ≡ is_some found → Holds table n found → (unit : PackageUnit) ×
    (slice_get table n ≡ Some (Some unit))
is_there table n (Some unit) some holds = (unit.now, holds)
is_there table n None some holds = absurd (true≢false some)

pub not_there : (table : Table) (n : ℕ) (found : Option (Bor PackageUnit)) → false ≡ is_some found → Holds table n found → (unit : PackageUnit) →
    slice_get table n ≡ Some (Some unit) → ⊥
not_there table n (Some unit) none holds = absurd (false≢true none)
not_there table n None none holds = holds

pub no_unit : (state : State) (p : List ℕ) (n : ℕ) → slice_get (package_paths state.files) n ≡ Some p →
    ((unit : PackageUnit) → slice_get state.finished n ≡ Some (Some unit) → ⊥) → HasUnit state p → ⊥
no_unit state p n at none has = none has.0 (unit_at state.files state.finished p has.0 n at has.1)
