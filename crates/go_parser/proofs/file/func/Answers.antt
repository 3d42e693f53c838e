-- The answers to the goals of `file::func`.
use Rattle.std.proofs.Common.{sym}
use Rattle.go_parser.specs.Machine.{last}
use Rattle.go_parser.proofs.MachineSteps.{exits, fails_close, fails_first, fails_later, fails_leads, fails_rule, read_as, read_close, read_rule, read_then}
use Rattle.go_parser.proofs.FormedParts.{func_formed}
use Rattle.go_parser.proofs.SpelledStatements.{func_spelled_as}
use Rattle.go_parser.proofs.MachineSteps.{read_led}
use Rattle.go_parser.proofs.file.func.Goals as goal

pub returns-in_err-receiver-clause-exact : goal.returns-in_err-receiver-clause-exact
returns-in_err-receiver-clause-exact c = exits _ _ _ _ c.in_err-receiver.field-0.0 c.from_residual.result c.from_residual.ensures.1
    (c.in_err-receiver.ensures)

pub returns-in_err-name-clause-exact : goal.returns-in_err-name-clause-exact
returns-in_err-name-clause-exact c = exits _ _ _ _ c.in_err-name.field-0.0 c.from_residual-in_err-name.result c.from_residual-in_err-name.ensures.1
    (fails_leads c.in_ok-receiver.ensures (fails_first c.in_err-name.ensures))

pub returns-in_err-open-clause-exact : goal.returns-in_err-open-clause-exact
returns-in_err-open-clause-exact c = exits _ _ _ _ c.in_err-open.field-0.0 c.from_residual-in_err-open.result c.from_residual-in_err-open.ensures.1
    (fails_leads c.in_ok-receiver.ensures (fails_later c.in_ok-name.ensures (fails_rule last (fails_first c.in_err-open.ensures))))

pub returns-in_err-params-clause-exact : goal.returns-in_err-params-clause-exact
returns-in_err-params-clause-exact c = exits _ _ _ _ c.in_err-params.field-0.0 c.from_residual-in_err-params.result c.from_residual-in_err-params.ensures.1
    (fails_leads c.in_ok-receiver.ensures (fails_later c.in_ok-name.ensures
    (fails_rule last (fails_later c.in_ok-open.ensures.read (fails_first c.in_err-params.ensures.exact)))))

pub returns-in_err-results-clause-exact : goal.returns-in_err-results-clause-exact
returns-in_err-results-clause-exact c = exits _ _ _ _ c.in_err-results.field-0.0 c.from_residual-in_err-results.result c.from_residual-in_err-results.ensures.1
    (fails_leads c.in_ok-receiver.ensures (fails_later c.in_ok-name.ensures
    (fails_rule last (fails_later c.in_ok-open.ensures.read
    (fails_later c.in_ok-params.ensures.exact (fails_close c.in_ok-open.ensures.deeper (fails_first c.in_err-results.ensures.exact)))))))

pub returns-in_err-body-clause-exact : goal.returns-in_err-body-clause-exact
returns-in_err-body-clause-exact c = exits _ _ _ _ c.in_err-body.field-0.0 c.from_residual-in_err-body.result c.from_residual-in_err-body.ensures.1
    (fails_leads c.in_ok-receiver.ensures (fails_later c.in_ok-name.ensures
    (fails_rule last (fails_later c.in_ok-open.ensures.read
    (fails_later c.in_ok-params.ensures.exact
    (fails_close c.in_ok-open.ensures.deeper (fails_later c.in_ok-results.ensures.exact c.in_err-body.ensures.exact)))))))

pub returns-clause-exact : goal.returns-clause-exact
returns-clause-exact c = read_as (read_led c.in_ok-receiver.ensures
    (read_then c.in_ok-name.ensures
    (read_rule last (read_then c.in_ok-open.ensures.read
    (read_then c.in_ok-params.ensures.exact (read_close c.in_ok-open.ensures.deeper (read_then c.in_ok-results.ensures.exact c.in_ok-body.ensures.exact)))))))
    (sym (func_spelled_as _))

pub returns-clause-formed : goal.returns-clause-formed
returns-clause-formed c = func_formed _ c.in_ok-params.ensures.formed c.in_ok-results.ensures.formed c.in_ok-body.ensures.formed
