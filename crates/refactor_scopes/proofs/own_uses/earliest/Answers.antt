-- The answers to the goals of `own_uses::earliest`.
use Rattle.std.proofs.Common.{◌∙◌, ap, sym}
use Rattle.std.proofs.Math.Path.{ap₂}
use Rattle.refactor_scopes.specs.Numbers.{earlier}
use Rattle.refactor_scopes.proofs.own_uses.earliest.Goals as goal

pub returns-in-None-default : goal.returns-in-None-default
returns-in-None-default c = ap (λ o. earlier o c.args.b) (sym c.in-None-default.is-0)

pub returns-in-Some-None : goal.returns-in-Some-None
returns-in-Some-None c = c.in-Some-None.is-0 ∙ ap₂ earlier (sym c.in-Some-None.is-0) (sym c.in-Some-None.is-1)
