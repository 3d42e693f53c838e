-- The answers to the goals of `plan::plan_unit`.
use Rattle.std.proofs.Common.{ap, ◌∙◌}
use Rattle.refs_binding.specs.declared.indexed.Numbered.{Numbered}
use Rattle.refactor_plan.proofs.Homes.{home_read}
use Rattle.refactor_plan.proofs.plan.plan_unit.Goals as goal

pub plan_named-requires-clause-read : goal.plan_named-requires-clause-read
plan_named-requires-clause-read c = record {
  is_read = c.bindings_of-read.ensures.read;
  same = ap (λ (a : Numbered). a.workspace.now) c.bindings_of-read.ensures.at ∙ c.requires.same;
}

pub plan_named-requires-clause-home : goal.plan_named-requires-clause-home
plan_named-requires-clause-home c =
    home_read c.args.at c.bindings_of-read.result c.bindings_of-read.ensures.at c.bindings_of-read.ensures.read c.args.declaration.now c.requires.home
