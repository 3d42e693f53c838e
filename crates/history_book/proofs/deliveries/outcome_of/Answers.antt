-- A fresh delivery has the outcome of its package's number.
use Rattle.std.proofs.Common.{List, ℕ, Some, sym, ap, subst, ◌∙◌}
use Rattle.build_unit.specs.Inputs.{AreInputs}
use Rattle.history_book.specs.Fresh.{FindsFresh}
use Rattle.history_book.proofs.Comes.{if_comes}
use Rattle.history_book.proofs.deliveries.outcome_of.Goals as goal

pub outcome_at-requires : goal.outcome_at-requires
outcome_at-requires c =
    let state = c.args.state.now in
    let built = c.args.built.now in
    let told = subst (FindsFresh state c.args.job.now built) c.in-Some.is c.in_ok-number.ensures in
    record {
      number = told.1 ∙ ap Some (sym told.0.same_package);
      inputs = subst (λ (p : List ℕ). AreInputs state.files p built.inputs) (sym told.0.same_package) told.0.built_inputs;
    }

pub returns : goal.returns
returns c =
    let told = subst (FindsFresh c.args.state.now c.args.job.now c.args.built.now) c.in-Some.is c.in_ok-number.ensures in
    if_comes c.args.state.now c.args.job.now c.args.built.now told.0 c.outcome_at.result c.outcome_at.ensures
