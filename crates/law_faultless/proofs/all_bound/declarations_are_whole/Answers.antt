-- The answers to the goals of `all_bound::declarations_are_whole`.
use Rattle.law_faultless.proofs.WholeBound.{none_broken, variable_whole, function_whole}
use Rattle.law_faultless.proofs.all_bound.declarations_are_whole.Goals as goal

pub returns : goal.returns
returns c = record {
  definitions = (λ w sound known right p is worlds rank b. none_broken w sound known right p is worlds rank b);
  variables = (λ w sound known right p is worlds rank v at. variable_whole w sound known right p is worlds rank v at);
  functions = (λ w sound known right p is worlds rank f at. function_whole w sound known right p is worlds rank f at);
}
