-- The answers to the goals of `may_use::may_be_exported`.
use Rattle.std.proofs.Common.{ap, ◌∙◌}
use Rattle.go_scope.specs.Named.{name_value}
use Rattle.refs_uses.proofs.may_use.may_be_exported.Goals as goal

pub returns-in-Some : goal.returns-in-Some
returns-in-Some c = λ shown. c.is_exported.ensures ∙ shown c.in-Some.name.now (ap name_value c.in-Some.is)
