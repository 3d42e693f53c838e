-- The answers to the goals of `all_bound::functions_with_receivers_are_methods`.
use Rattle.types_declared.specs.Package.{spelled}
use Rattle.refs_lookup.proofs.DeclaredMembers.{method_bound}
use Rattle.law_faultless.proofs.WholeBound.{method_of}
use Rattle.law_faultless.proofs.all_bound.functions_with_receivers_are_methods.Goals as goal

pub returns : goal.returns
returns c = record {
  are_methods = (λ w sound known right p is worlds rank f at r e. method_of w sound known right p is worlds rank f at r e);
  are_bound = (λ w sound known right p is worlds rank f at r e u stands unbound.
      let m = method_of w sound known right p is worlds rank f at r e in
      method_bound w sound known right p is m.0 rank (spelled p f.file f.function.name) f m.1 u stands unbound);
}
