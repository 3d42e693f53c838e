-- The package has a number in the state's files, unless the state has no package of this path.
use Rattle.std.proofs.Common.{◌≡◌, ℕ, List, MatchOption, Some, slice_get, subst, ◌∙◌, arith}
use Rattle.std.specs.List.{Contains}
use Rattle.base_files.specs.Packages.{package_paths}
use Rattle.history_machine.specs.State.{State}
use Rattle.history_machine.specs.Deliveries.{IsFresh}
use Rattle.history_book.specs.Fresh.{AreOfState}
use Rattle.history_book.proofs.Numbers.{number_found}
use Rattle.history_book.proofs.fresh.number_of.Goals as goal

pub returns : goal.returns
returns c =
    let job = c.args.job.now in
    let built = c.args.built.now in
    let found = c.number_of.result in
    let s : State = record { number = c.state.inside.number; files = c.state.inside.files; finished = c.state.inside.finished } in
    let package_is : built.package ≡ job.package = c.is_same_package.ensures.0 c.if-not-is_same_package.false in
    let job_is : job.number ≡ s.number = omega (arith, c.number.ensures, c.if-number-state.false) in
    let built_is : built.number ≡ s.number = omega (arith, c.number-built_number.ensures, c.if-built_number-state.false) in
    let at = subst (λ (p : List ℕ). MatchOption found (Contains (package_paths s.files) p → ⊥) (λ number. slice_get (package_paths s.files) number ≡ Some p))
    (c.path.ensures ∙ c.package.ensures) c.number_of.ensures in
    subst (λ (x : State). MatchOption found (IsFresh x job built → ⊥) (AreOfState x job built)) c.state.view_is
    (number_found s job built package_is job_is built_is found at)
