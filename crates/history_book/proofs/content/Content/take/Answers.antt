-- The Job of the first package that waits, and none where none waits.
use Rattle.std.proofs.Common.{◌≡◌, ℕ, ◌<◌, List, Some, length, slice_get, refl, sym, ap, subst, ◌∙◌}
use Rattle.base_files.specs.Packages.{package_paths}
use Rattle.base_files.specs.Workspace.{Workspace}
use Rattle.build_unit.specs.Inputs.{AreInputs}
use Rattle.build_unit.specs.Units.{IsUnitAt}
use Rattle.build_unit.specs.Jobs.{JobsOut, label_of, with_job}
use Rattle.build_unit.specs.declared.job.JobRecord.{JobRecord}
use Rattle.history_machine.specs.State.{State}
use Rattle.history_book.specs.Histories.{content_of}
use Rattle.history_machine.specs.Machine.{Content}
use Rattle.history_machine.specs.Waiting.{WaitsIn, IsFirstWaiting, IsNextJob}
use Rattle.history_book.proofs.content.Content.take.Goals as goal

pub returns-in_default : goal.returns-in_default
returns-in_default c = (subst (λ (m : Content). (p : List ℕ) → WaitsIn m p → ⊥) c.self.view_is c.in_default.ensures, refl)

pub with_unit-requires : goal.with_unit-requires
with_unit-requires c = record {
  number = subst (λ (s : State). c.in-Some.number < length (package_paths s.files)) (sym c.current.view_is) c.in-Some.ensures.0;
  known = c.current.invariant.1;
  unit = subst (λ (s : State). IsUnitAt s.files c.in-Some.number c.in_ok-unit.unit) (sym c.current.view_is) c.in_ok-unit.ensures;
}

pub returns : goal.returns
returns c =
    let n = c.in-Some.number in
    let p = c.deref.result.now in
    let job = c.in_ok-job.job in
    let state = c.self.inside.history.current in
    let m : Content = content_of c.self.inside.history c.self.inside.limits c.self.inside.out in
    let handed = c.in_ok-job.ensures in
    let here : slice_get (package_paths c.current.inside.files) n ≡ Some p = c.package.ensures.path ∙ ap Some (sym c.deref.ensures.value) in
    let at : slice_get (package_paths state.files) n ≡ Some p = subst (λ (s : State). slice_get (package_paths s.files) n ≡ Some p) c.current.view_is here in
    let named : p ≡ job.package = sym (ap (λ (j : JobRecord). j.package) handed.0 ∙ c.in_ok-package.ensures) in
    let inputs : AreInputs state.files p c.in_ok-inputs.inputs =
    subst (λ (s : State). AreInputs s.files p c.in_ok-inputs.inputs) c.current.view_is (c.in_ok-inputs.ensures p here) in
    let next : IsNextJob m job = record {
      ticket = ap (λ (j : JobRecord). j.ticket) handed.0;
      number = ap (λ (j : JobRecord). j.number) handed.0 ∙ ap (λ (s : State). s.number) c.current.view_is;
      visit = ap (λ (j : JobRecord). j.visit) handed.0;
      first = subst (IsFirstWaiting state m.out m.visit) named (c.in-Some.ensures.1 p at);
      inputs = subst (λ (x : Workspace). AreInputs state.files job.package x) (sym (ap (λ (j : JobRecord). j.inputs) handed.0))
          (subst (λ (q : List ℕ). AreInputs state.files q c.in_ok-inputs.inputs) named inputs);
    } in (
      subst (λ (x : Content). IsNextJob x job) c.self.view_is next,
      ap (λ (x : JobsOut). record m { out = x }) handed.1 ∙ ap (λ (x : Content). record x { out = with_job x.out (label_of job) }) c.self.view_is,
    )
