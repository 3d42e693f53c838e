-- The package was finished before, or is finished with the unit that was built.
use Rattle.std.proofs.Common.{◌≡◌, ℕ, ◌<◌, length, Some, slice_get, sym, ap, subst, ◌∙◌}
use Rattle.std.proofs.Math.ListN.{set}
use Rattle.std.proofs.lemmas.List.{length-set}
use Rattle.std.proofs.lemmas.Option.{slice_get_within}
use Rattle.base_files.specs.Packages.{package_paths}
use Rattle.workspace_check.specs.Found.{KnowsVerdicts}
use Rattle.build_unit.specs.declared.unit.Unit.{Unit as PackageUnit}
use Rattle.build_carry.specs.Finished.{Table}
use Rattle.history_machine.specs.State.{State}
use Rattle.build_unit.specs.Inputs.{HasClosuresOf}
use Rattle.build_carry.proofs.LearnedVerdicts.{inputs_closures}
use Rattle.history_machine.proofs.Fresh.{is_there, not_there, no_unit}
use Rattle.history_book.proofs.deliveries.outcome_at.Goals as goal

pub returns-then-is_some : goal.returns-then-is_some
returns-then-is_some c =
    let n = c.args.number in
    let found = is_there c.state.inside.finished n c.get.result (sym c.if-is_some.true ∙ c.is_some.ensures) c.get.ensures in
    (found.0, (n, c.requires.number, subst (λ (x : State). slice_get x.finished n ≡ Some (Some found.0)) c.state.view_is found.1))

pub with_unit-requires : goal.with_unit-requires
with_unit-requires c =
    let n = c.args.number in
    let p = c.args.built.now.package in
    let at : slice_get (package_paths c.state.inside.files) n ≡ Some p =
    subst (λ (x : State). slice_get (package_paths x.files) n ≡ Some p) (sym c.state.view_is) c.requires.number in
    let size : length c.state.inside.finished ≡ length (package_paths c.state.inside.files) = c.state.invariant.0 in
    subst (λ (k : ℕ). n < k) (sym size) (slice_get_within (package_paths c.state.inside.files) n p at)

pub learned-requires : goal.learned-requires
learned-requires c =
    let w = c.args.state.now.files in
    let built = c.args.built.now in
    record {
      own = c.state.invariant.1;
      closures = subst (λ (x : State). HasClosuresOf x.files built.inputs) (sym c.state.view_is)
          (inputs_closures w built.package built.inputs c.requires.inputs);
    }

pub returns : goal.returns
returns c =
    let n = c.args.number in
    let state = c.args.state.now in
    let p = c.args.built.now.package in
    let none : (unit : PackageUnit) → slice_get state.finished n ≡ Some (Some unit) → ⊥ =
    subst (λ (x : State). (unit : PackageUnit) → slice_get x.finished n ≡ Some (Some unit) → ⊥) c.state.view_is
    (not_there c.state.inside.finished n c.get.result (sym c.if-is_some.false ∙ c.is_some.ensures) c.get.ensures) in
    let size : length c.state.inside.finished ≡ length (package_paths c.state.inside.files) = c.state.invariant.0 in
    let is : c.in_ok-finished.finished ≡ set c.state.inside.finished n (Some c.in_ok-unit.unit) = c.in_ok-finished.ensures in
    let gains : c.in_ok-finished.finished ≡ set state.finished n (Some c.args.built.now.unit) =
    is ∙ ap (λ (x : State). set x.finished n (Some c.in_ok-unit.unit)) c.state.view_is ∙
    ap (λ (u : PackageUnit). set state.finished n (Some u)) (c.in_ok-unit.ensures.cases ∙ c.unit-made.ensures) in
    let sized : length c.in_ok-finished.finished ≡ length (package_paths state.files) =
    ap (λ (t : Table). length t) is ∙ length-set c.state.inside.finished n (Some c.in_ok-unit.unit) ∙ size ∙
    ap (λ (x : State). length (package_paths x.files)) c.state.view_is in
    let known : KnowsVerdicts state.files c.in_ok-known.known =
    subst (λ (x : State). KnowsVerdicts x.files c.in_ok-known.known) c.state.view_is c.in_ok-known.ensures in
    (no_unit state p n c.requires.number none, (n, c.requires.number, gains), sized, c.is_right.ensures, known)
