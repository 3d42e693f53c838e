-- The package that is read is the one of the number.
use Rattle.std.proofs.Common.{subst}
use Rattle.std.specs.Prelude.{IfNone}
use Rattle.std.proofs.lemmas.Result.{IfOk-weaker}
use Rattle.types_declared.specs.PackageView.{package_of}
use Rattle.refs_binding.specs.declared.indexed.Numbered.{Numbered}
use Rattle.refs_binding.specs.Indexed.{IsPackageNumbered}
use Rattle.refactor_units.specs.LevelNames.{HasNoLevelNumber, IsLevelNumber}
use Rattle.refactor_units.proofs.LevelAt.{none_of_number}
use Rattle.refactor_units.proofs.Missed.{none_then}
use Rattle.refactor_units.proofs.level.level_name_in.Goals as goal

pub returns-clause-finds : goal.returns-clause-finds
returns-clause-finds c =
    let is = subst (λ (v : Numbered). IsPackageNumbered v (package_of c.unit.result)) c.in_ok-reader.ensures.at c.unit.ensures in
    IfOk-weaker c.level_name.result (λ given. IfNone given (IsLevelNumber (package_of c.unit.result) c.args.n → ⊥))
    (λ given. IfNone given (HasNoLevelNumber c.args.at c.args.n))
    (λ given none. none_then given none (none_of_number c.args.at (package_of c.unit.result) c.args.n is))
    c.level_name.ensures.finds
