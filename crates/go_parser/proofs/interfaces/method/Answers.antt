-- The answers to the goals of `interfaces::method`.
use Rattle.go_parser.proofs.MachineSteps.{exits, fails_close, fails_first, fails_later, read_as, read_close, read_then}
use Rattle.go_parser.proofs.FormedParts.{method_formed}
use Rattle.go_parser.proofs.SpelledDeclarations.{method_read_as}
use Rattle.go_parser.proofs.interfaces.method.Goals as goal

pub returns-in_err-name-clause-exact : goal.returns-in_err-name-clause-exact
returns-in_err-name-clause-exact c = exits _ _ _ _ c.in_err-name.field-0.0 c.from_residual.result c.from_residual.ensures.1
    (fails_first c.in_err-name.ensures)

pub returns-in_err-open-clause-exact : goal.returns-in_err-open-clause-exact
returns-in_err-open-clause-exact c = exits _ _ _ _ c.in_err-open.field-0.0 c.from_residual-in_err-open.result c.from_residual-in_err-open.ensures.1
    (fails_later c.in_ok-name.ensures (fails_first c.in_err-open.ensures))

pub returns-in_err-params-clause-exact : goal.returns-in_err-params-clause-exact
returns-in_err-params-clause-exact c = exits _ _ _ _ c.in_err-params.field-0.0 c.from_residual-in_err-params.result c.from_residual-in_err-params.ensures.1
    (fails_later c.in_ok-name.ensures (fails_later c.in_ok-open.ensures.read (fails_first c.in_err-params.ensures.exact)))

pub returns-in_err-results-clause-exact : goal.returns-in_err-results-clause-exact
returns-in_err-results-clause-exact c = exits _ _ _ _ c.in_err-results.field-0.0 c.from_residual-in_err-results.result c.from_residual-in_err-results.ensures.1
    (fails_later c.in_ok-name.ensures (fails_later c.in_ok-open.ensures.read
    (fails_later c.in_ok-params.ensures.exact (fails_close c.in_ok-open.ensures.deeper c.in_err-results.ensures.exact))))

pub returns-clause-exact : goal.returns-clause-exact
returns-clause-exact c = read_as (read_then c.in_ok-name.ensures (read_then c.in_ok-open.ensures.read
    (read_then c.in_ok-params.ensures.exact (read_close c.in_ok-open.ensures.deeper c.in_ok-results.ensures.exact))))
    (method_read_as (record {
      name = c.in_ok-name.name;
      «open» = c.in_ok-open.open;
      params = c.in_ok-params.params;
      close = c.in_ok-params.close;
      results = c.in_ok-results.results;
    }))

pub returns-clause-formed : goal.returns-clause-formed
returns-clause-formed c = method_formed _ c.in_ok-params.ensures.formed c.in_ok-results.ensures.formed
