-- The answers to the goals of `scope_uses::numbered`.
use Rattle.std.proofs.Common.{◌<◌, arith}
use Rattle.refs_binding.specs.Binding.{IsPredeclaredNumber}
use Rattle.refs_binding.proofs.scope_uses.numbered.Goals as goal

pub returns-then-d-lt-PREDECLARED : goal.returns-then-d-lt-PREDECLARED
returns-then-d-lt-PREDECLARED c = λ u b. (c.if-d-lt-PREDECLARED.true, b)

pub returns-in_ok-clone : goal.returns-in_ok-clone
returns-in_ok-clone c = λ u b.
    let unknown : IsPredeclaredNumber c.args.d → ⊥ = λ h. let lt : c.args.d < 11 = h in absurd (omega arith) in
    (c.in_ok-clone.ensures.cases, unknown, b)
