-- The answers to the goals of `judged_uses::may_be_called`.
use Rattle.std.proofs.Common.{ap, sym, ◌∙◌}
use Rattle.std.proofs.lemmas.Bool.{false≢true}
use Rattle.go_scope.specs.Named.{name_value}
use Rattle.refactor_members.proofs.judged_uses.may_be_called.Goals as goal

pub returns-else-is_name : goal.returns-else-is_name
returns-else-is_name c = λ none. (
  (λ e. false≢true (sym none ∙ c.is_name-else-is_name.ensures.1 e)),
  (c.in-Some.called.now, (ap name_value c.in-Some.is, (λ e. false≢true (sym c.if-is_name.false ∙ c.is_name.ensures.1 e)))),
)
