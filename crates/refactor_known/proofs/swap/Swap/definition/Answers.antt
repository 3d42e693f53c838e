-- The answers to the goals of `swap::Swap::definition`.
use Rattle.refactor_known.specs.Swaps.{map_of}
use Rattle.refactor_known.proofs.MovedData.{definition_is}
use Rattle.refactor_known.proofs.swap.Swap.definition.Goals as goal

pub returns : goal.returns
returns c =
    definition_is (map_of c.args.self.now) c.args.definition.now
    (record { underlying = c.in_ok-underlying.underlying; fields = c.in_ok-fields.fields; methods = c.in_ok-methods.methods })
    c.in_ok-underlying.ensures c.in_ok-fields.ensures c.in_ok-methods.ensures
