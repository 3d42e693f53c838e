-- The answers to the goals of `interfaces::interface_body`.
use Rattle.std.proofs.Common.{sym}
use Rattle.go_parser.proofs.MachineSteps.{exits, fails_first, fails_later, read_as, read_then, read_to_close}
use Rattle.go_parser.proofs.SpelledDeclarations.{interface_spelled}
use Rattle.go_parser.proofs.FormedParts.{interface_formed}
use Rattle.go_parser.proofs.interfaces.interface_body.Goals as goal

pub returns-in_err-at-clause-exact : goal.returns-in_err-at-clause-exact
returns-in_err-at-clause-exact c = exits _ _ _ _ c.in_err-at.field-0.0 c.from_residual.result c.from_residual.ensures.1
    (fails_first c.in_err-at.ensures)

pub returns-in_err-open-clause-exact : goal.returns-in_err-open-clause-exact
returns-in_err-open-clause-exact c = exits _ _ _ _ c.in_err-open.field-0.0 c.from_residual-in_err-open.result c.from_residual-in_err-open.ensures.1
    (fails_later c.in_ok-at.ensures (fails_first c.in_err-open.ensures))

pub returns-in_err-methods-clause-exact : goal.returns-in_err-methods-clause-exact
returns-in_err-methods-clause-exact c = exits _ _ _ _ c.in_err-methods.field-0.0 c.from_residual-in_err-methods.result c.from_residual-in_err-methods.ensures.1
    (fails_later c.in_ok-at.ensures (fails_later c.in_ok-open.ensures.read (fails_first c.in_err-methods.ensures.exact)))

pub returns-clause-exact : goal.returns-clause-exact
returns-clause-exact c = read_as (read_then c.in_ok-at.ensures
    (read_then c.in_ok-open.ensures.read (read_to_close c.in_ok-open.ensures.deeper c.in_ok-methods.ensures.exact)))
    (sym (interface_spelled _ _ _ _))

pub returns-clause-formed : goal.returns-clause-formed
returns-clause-formed c = interface_formed _ _ _ _ c.in_ok-methods.ensures.formed
