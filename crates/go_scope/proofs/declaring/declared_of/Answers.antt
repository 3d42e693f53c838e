-- The answers to the goals of `declaring::declared_of`.
use Rattle.std.proofs.Common.{ℕ, ◌≡◌, arith, length, subst}
use Rattle.go_scope.specs.Contents.{AreDeclaredUpTo}
use Rattle.go_scope.proofs.declaring.declared_of.Goals as goal

pub loop-d-init : goal.loop-d-init
loop-d-init c = c.in_ok-declared.ensures c.args.names.now

pub returns : goal.returns
returns c =
    let P : ℕ → Type 0 = λ n. AreDeclaredUpTo c.args.identifiers.now c.args.names.now n c.loop-d.declared in
    let e : c.loop-d.d ≡ length c.args.identifiers.now = omega arith in
    subst P e c.loop-d.invariant
