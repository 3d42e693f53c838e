-- The answers to the goals of `reaching::are_unexported`.
use Rattle.std.proofs.Common.{ap}
use Rattle.go_scope.specs.Named.{name_value}
use Rattle.refactor_members.proofs.reaching.are_unexported.Goals as goal

pub returns-in-Some : goal.returns-in-Some
returns-in-Some c = λ t.
    let both = c.is_neither_exported.ensures t in
    record { old = c.in-Some.called.now; has_old = ap name_value c.in-Some.is; not_old = both.0; not_new = both.1 }
