-- A delivery that has its package's inputs is fresh where the numbers and the packages agree.
use Rattle.std.proofs.Common.{List, ℕ, Some, sym, ap, subst, ◌∙◌}
use Rattle.build_unit.specs.Inputs.{AreInputs}
use Rattle.history_machine.proofs.Fresh.{is_fresh}
use Rattle.history_book.proofs.Comes.{if_comes}
use Rattle.history_book.proofs.deliveries.outcome_on_current.Goals as goal

pub outcome_at-requires : goal.outcome_at-requires
outcome_at-requires c =
    let state = c.args.state.now in
    let built = c.args.built.now in
    let told = c.in-Some.ensures in
    record {
      number = told.there ∙ ap Some (sym told.same_package);
      inputs = subst (λ (p : List ℕ). AreInputs state.files p built.inputs) (sym told.same_package) c.requires.built_inputs;
    }

pub returns : goal.returns
returns c =
    let state = c.args.state.now in
    let job = c.args.job.now in
    let built = c.args.built.now in
    let told = c.in-Some.ensures in
    let fresh = is_fresh state job built told.same_package told.job_number told.built_number (c.requires.job_inputs, c.requires.built_inputs) in
    if_comes state job built fresh c.outcome_at.result c.outcome_at.ensures
