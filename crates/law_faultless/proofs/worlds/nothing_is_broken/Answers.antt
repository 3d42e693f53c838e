-- The answers to the goals of `worlds::nothing_is_broken`.
use Rattle.types_declared.specs.Package.{spelled}
use Rattle.refs_lookup.proofs.DeclaredMembers.{method_bound}
use Rattle.law_faultless.proofs.Fine.{world_unbroken}
use Rattle.law_faultless.proofs.WholeBound.{variable_whole, function_whole, method_of}
use Rattle.law_faultless.proofs.PackageWorlds.{not_broken, have_worlds, have_all_worlds}
use Rattle.law_faultless.proofs.worlds.nothing_is_broken.Goals as goal

pub returns : goal.returns
returns c = record {
  definitions = (λ w sound known right p is rank b. not_broken w sound known right p is rank b);
  variables = (λ w sound known right p is rank v at. variable_whole w sound known right p is (have_worlds w sound known right p is) rank v at);
  functions = (λ w sound known right p is rank f at. function_whole w sound known right p is (have_worlds w sound known right p is) rank f at);
  methods = (λ w sound known right p is rank f at r e. method_of w sound known right p is (have_worlds w sound known right p is) rank f at r e);
  bound_methods = (λ w sound known right p is rank f at r e u stands unbound.
      let m = method_of w sound known right p is (have_worlds w sound known right p is) rank f at r e in
      method_bound w sound known right p is m.0 rank (spelled p f.file f.function.name) f m.1 u stands unbound);
  names = (λ w sound known right p is file s v judged.
      world_unbroken w sound known right (have_all_worlds w sound known right) p is file s v judged);
}
