-- The answers to the goals of `operators::operator_at`.
use Rattle.go_scanner.proofs.NarrowLemmas.{operator_among}
use Rattle.go_scanner.proofs.operators.operator_at.Goals as goal

pub returns-in-None : goal.returns-in-None
returns-in-None c = operator_among c.args.bytes.now c.starting_with.result.now c.first_byte.result c.first_among.result c.first_byte.ensures
    c.starting_with.ensures
    c.first_among.ensures
