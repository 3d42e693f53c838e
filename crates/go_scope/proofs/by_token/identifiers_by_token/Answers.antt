-- The answers to the goals of `by_token::identifiers_by_token`.
use Rattle.go_scope.specs.Packages.{layout_in}
use Rattle.go_scope.specs.ByToken.{numbers_in}
use Rattle.go_scope.proofs.TokenRows.{next_identifier}
use Rattle.go_scope.proofs.by_token.identifiers_by_token.Goals as goal

pub loop-u-preserved : goal.loop-u-preserved
loop-u-preserved c = next_identifier (layout_in c.args.identifiers.now) c.loop-u.u (numbers_in c.loop-u.found) (numbers_in c.enter_identifier.new.found)
    c.in_ok-enter_identifier.ensures c.loop-u.invariant
