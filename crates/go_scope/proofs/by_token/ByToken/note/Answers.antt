-- The answers to the goals of `by_token::ByToken::note`.
use Rattle.std.proofs.Common.{sym, refl, ◌∙◌}
use Rattle.go_scope.specs.ByToken.{later}
use Rattle.go_scope.proofs.by_token.ByToken.note.Goals as goal

pub returns-in-Some : goal.returns-in-Some
returns-in-Some c = later {earlier = c.in-Some.field-0} (sym c.get.ensures ∙ c.in-Some.is) (λ f t. refl)
