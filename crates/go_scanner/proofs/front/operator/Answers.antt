-- The answers to the goals of `front::operator`.
use Rattle.std.proofs.Common.{sym, ap, ◌∙◌, length}
use Rattle.go_scanner.proofs.FrontLemmas.{operator_stands, no_operator}
use Rattle.go_scanner.proofs.front.operator.Goals as goal

pub returns-in-Some : goal.returns-in-Some
returns-in-Some c = rw (ap length c.spelling.ensures)
    (operator_stands c.args.bytes.now c.in-Some.operator c.requires c.if-is_fraction.ensures (sym c.operator_at.ensures ∙ c.in-Some.is))

pub returns-in-None : goal.returns-in-None
returns-in-None c = rw c.fault-in-None.ensures (no_operator c.args.bytes.now c.requires (sym c.operator_at.ensures ∙ c.in-None.is))
