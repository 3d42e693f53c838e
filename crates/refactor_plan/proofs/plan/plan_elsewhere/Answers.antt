-- The answers to the goals of `plan::plan_elsewhere`.
use Rattle.types_declared.specs.PackageView.{package_of}
use Rattle.refs_binding.proofs.PackageReaders.{package_read}
use Rattle.refactor_plan.proofs.plan.plan_elsewhere.Goals as goal

pub of-requires : goal.of-requires
of-requires c = record { in_range = c.requires.in_range }

pub plan_unit-requires-clause-numbered : goal.plan_unit-requires-clause-numbered
plan_unit-requires-clause-numbered c = record { in_range = c.requires.in_range }

pub plan_unit-requires-clause-unit : goal.plan_unit-requires-clause-unit
plan_unit-requires-clause-unit c = package_read _ c.in_ok-reader.reader (package_of c.unit.result) c.in_ok-reader.ensures.at c.unit.ensures
