-- The answers to the goals of `naming::names_below`.
use Rattle.build_unit.proofs.Named.{with_tables}
use Rattle.build_unit.proofs.naming.names_below.Goals as goal

pub returns : goal.returns
returns c = λ p at.
    with_tables c.args.at.graph.now p c.in_ok-names.names c.in_ok-tables.tables c.in_ok-tables.ensures (c.in_ok-names.ensures p at)
