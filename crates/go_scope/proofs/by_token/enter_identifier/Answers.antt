-- The answers to the goals of `by_token::enter_identifier`.
use Rattle.std.proofs.Common.{ap, sym, subst, ◌∙◌}
use Rattle.std.proofs.lemmas.Result.{on_ok_weaker}
use Rattle.go_scope.specs.Bindings.{is_implied}
use Rattle.go_scope.specs.ByToken.{numbers_in, SetsIfUnset, stands}
use Rattle.go_scope.proofs.by_token.enter_identifier.Goals as goal

pub returns : goal.returns
returns c =
    on_ok_weaker c.note.result
    (λ q. stands (sym (ap is_implied c.role.ensures) ∙ sym c.is_implied.ensures ∙ c.if-is_implied.false)
    (subst (λ p. SetsIfUnset (numbers_in c.args.found.now) (numbers_in c.note.new.self) p c.args.u) c.place.ensures q)) c.note.ensures
