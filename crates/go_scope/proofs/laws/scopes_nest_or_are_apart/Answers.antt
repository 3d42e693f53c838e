-- The answers to the goals of `laws::scopes_nest_or_are_apart`.
use Rattle.go_scope.proofs.Nests.{scopes_nest}
use Rattle.go_scope.proofs.laws.scopes_nest_or_are_apart.Goals as goal

pub returns : goal.returns
returns c = λ l w d e md me p hd he. scopes_nest l w d e md me p hd he
