-- The answers to the goals of `turning::called_types`.
use Rattle.std.proofs.Common.{◌∙◌, true, false, ap}
use Rattle.std.specs.Prelude.{filter}
use Rattle.refactor_coupled.specs.RenamedTypesView.{definitions_in, rename_of}
use Rattle.refactor_coupled.specs.Turning.{can_turn}
use Rattle.refactor_coupled.proofs.turning.called_types.Goals as goal

pub returns-clause-parts : goal.returns-clause-parts
returns-clause-parts c =
    let t = c.args.types.now in
    record {
      moving = c.in_ok-moving.ensures ∙ ap (filter (can_turn (definitions_in t.types.now) (rename_of t.rename) false)) c.as_slice.ensures.value;
      staying = c.in_ok-staying.ensures ∙ ap (filter (can_turn (definitions_in t.types.now) (rename_of t.rename) true)) c.as_slice-2.ensures.value;
    }
