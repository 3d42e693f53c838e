-- The answers to the goals of `groups::group`.
use Rattle.std.proofs.Common.{sym, ◌∙◌}
use Rattle.go_parser.specs.Machine.{first, last, later}
use Rattle.go_parser.proofs.MachineSteps.{exits, fails_first, fails_later, fails_rule, read_rule, read_then, read_to_close}
use Rattle.go_parser.proofs.FormedParts.{several_formed, single_formed}
use Rattle.go_parser.proofs.groups.group.Goals as goal

pub returns-in_err-open-clause-exact : goal.returns-in_err-open-clause-exact
returns-in_err-open-clause-exact g c = exits _ _ _ _ c.in_err-open.field-0.0 c.from_residual.result c.from_residual.ensures.1
    (fails_rule (first (sym c.at.ensures ∙ c.if-at.true)) (fails_first c.in_err-open.ensures))

pub returns-in_err-items-clause-exact : goal.returns-in_err-items-clause-exact
returns-in_err-items-clause-exact g c = exits _ _ _ _ c.in_err-items.field-0.0 c.from_residual-in_err-items.result c.from_residual-in_err-items.ensures.1
    (fails_rule (first (sym c.at.ensures ∙ c.if-at.true)) (fails_later c.in_ok-open.ensures.read (fails_first c.in_err-items.ensures.exact)))

pub returns-then-at-clause-exact : goal.returns-then-at-clause-exact
returns-then-at-clause-exact g c = read_rule (first (sym c.at.ensures ∙ c.if-at.true))
    (read_then c.in_ok-open.ensures.read (read_to_close c.in_ok-open.ensures.deeper c.in_ok-items.ensures.exact))

pub returns-in_err-single-clause-exact : goal.returns-in_err-single-clause-exact
returns-in_err-single-clause-exact g c = exits _ _ _ _ c.in_err-single.field-0.0 c.from_residual-in_err-single.result c.from_residual-in_err-single.ensures.1
    (fails_rule (later (sym c.at.ensures ∙ c.if-at.false) last) c.in_err-single.ensures.exact)

pub returns-clause-exact : goal.returns-clause-exact
returns-clause-exact g c = read_rule (later (sym c.at.ensures ∙ c.if-at.false) last) c.in_ok-single.ensures.exact

pub returns-then-at-clause-formed : goal.returns-then-at-clause-formed
returns-then-at-clause-formed g c = several_formed _ _ _ _ c.in_ok-items.ensures.formed

pub returns-clause-formed : goal.returns-clause-formed
returns-clause-formed g c = single_formed _ _ c.in_ok-single.ensures.formed
