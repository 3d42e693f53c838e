-- The answers to the goals of `file::file`.
use Rattle.std.proofs.Common.{sym}
use Rattle.go_parser.specs.Machine.{last}
use Rattle.go_parser.proofs.MachineSteps.{exits, fails_first, fails_later, fails_leads, fails_rule, read_as, read_rule, read_then, read_led}
use Rattle.go_parser.proofs.FormedParts.{file_formed}
use Rattle.go_parser.proofs.SpelledStatements.{file_spelled_as}
use Rattle.go_parser.proofs.file.file.Goals as goal

pub returns-in_err-package-clause-exact : goal.returns-in_err-package-clause-exact
returns-in_err-package-clause-exact c = exits _ _ _ _ c.in_err-package.field-0.0 c.from_residual.result c.from_residual.ensures.1
    (fails_rule last (fails_first c.in_err-package.ensures))

pub returns-in_err-name-clause-exact : goal.returns-in_err-name-clause-exact
returns-in_err-name-clause-exact c = exits _ _ _ _ c.in_err-name.field-0.0 c.from_residual-in_err-name.result c.from_residual-in_err-name.ensures.1
    (fails_rule last (fails_later c.in_ok-package.ensures (fails_first c.in_err-name.ensures)))

pub returns-in_err-semicolon-clause-exact : goal.returns-in_err-semicolon-clause-exact
returns-in_err-semicolon-clause-exact c = exits _ _ _ _ c.in_err-semicolon.field-0.0 c.from_residual-in_err-semicolon.result
    c.from_residual-in_err-semicolon.ensures.1
    (fails_rule last (fails_later c.in_ok-package.ensures (fails_later c.in_ok-name.ensures (fails_first c.in_err-semicolon.ensures))))

pub returns-in_err-imports-clause-exact : goal.returns-in_err-imports-clause-exact
returns-in_err-imports-clause-exact c = exits _ _ _ _ c.in_err-imports.field-0.0 c.from_residual-in_err-imports.result c.from_residual-in_err-imports.ensures.1
    (fails_rule last (fails_later c.in_ok-package.ensures
    (fails_later c.in_ok-name.ensures (fails_later c.in_ok-semicolon.ensures c.in_err-imports.ensures.exact))))

pub returns-in_err-decls-clause-exact : goal.returns-in_err-decls-clause-exact
returns-in_err-decls-clause-exact c = exits _ _ _ _ c.in_err-decls.field-0.0 c.from_residual-in_err-decls.result c.from_residual-in_err-decls.ensures.1
    (fails_rule last (fails_later c.in_ok-package.ensures
    (fails_later c.in_ok-name.ensures (fails_later c.in_ok-semicolon.ensures (fails_leads c.in_ok-imports.ensures.exact c.in_err-decls.ensures.exact)))))

pub returns-clause-exact : goal.returns-clause-exact
returns-clause-exact c = read_as (read_rule last (read_then c.in_ok-package.ensures
    (read_then c.in_ok-name.ensures (read_then c.in_ok-semicolon.ensures (read_led c.in_ok-imports.ensures.exact c.in_ok-decls.ensures.exact)))))
    (sym (file_spelled_as _))

pub returns-clause-formed : goal.returns-clause-formed
returns-clause-formed c = file_formed _ c.in_ok-imports.ensures.formed c.in_ok-decls.ensures.formed
