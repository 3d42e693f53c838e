-- An unfinished package waits where no Job of it is out; a finished one doesn't wait.
use Rattle.std.proofs.Common.{◌≡◌, not, Some, slice_get, sym, ap, subst, ◌∙◌}
use Rattle.std.proofs.lemmas.Bool.{false≢true}
use Rattle.base_files.specs.Packages.{package_paths}
use Rattle.build_unit.specs.declared.unit.Unit.{Unit as PackageUnit}
use Rattle.history_machine.specs.State.{State}
use Rattle.history_machine.proofs.Fresh.{is_there, not_there}
use Rattle.history_machine.proofs.Waits.{waits, not_waiting, free_is, untaken_is}
use Rattle.history_machine.proofs.waiting.is_waiting.Goals as goal

pub returns-then-is_none : goal.returns-then-is_none
returns-then-is_none c =
    let n = c.args.number in
    let p = c.deref.result.now in
    let none : (unit : PackageUnit) → slice_get c.args.state.now.finished n ≡ Some (Some unit) → ⊥ =
    subst (λ (x : State). (unit : PackageUnit) → slice_get x.finished n ≡ Some (Some unit) → ⊥) c.state.view_is
    (not_there c.state.inside.finished n c.get.result (sym (c.is_none.ensures ∙ ap not c.if-is_none.true)) c.get.ensures) in
    let at : slice_get (package_paths c.args.state.now.files) n ≡ Some p =
    subst (λ (x : State). slice_get (package_paths x.files) n ≡ Some p) c.state.view_is (c.package.ensures.path ∙ ap Some (sym c.deref.ensures.value)) in (
      λ free. waits c.args.state.now c.args.out.now c.args.visit n p at none (λ taken. free_is c.is_taken.result free (c.is_taken.ensures.1 taken)),
      λ all. untaken_is c.is_taken.result (λ is. (all p at).untaken (c.is_taken.ensures.0 is)),
    )

pub returns-else-is_none : goal.returns-else-is_none
returns-else-is_none c =
    let n = c.args.number in
    let found = is_there c.state.inside.finished n c.get.result (sym (c.is_none.ensures ∙ ap not c.if-is_none.false)) c.get.ensures in
    let has : slice_get c.args.state.now.finished n ≡ Some (Some found.0) =
    subst (λ (x : State). slice_get x.finished n ≡ Some (Some found.0)) c.state.view_is found.1 in (
      λ is. absurd (false≢true (sym c.if-is_none.false ∙ is)),
      λ all. absurd (not_waiting c.args.state.now c.args.out.now c.args.visit n found.0 c.requires has all),
    )
