-- The answers to the goals of `numbers::is_use_of`.
use Rattle.std.proofs.Common.{eqb-true}
use Rattle.go_scope.specs.Bindings.{use_bound}
use Rattle.go_scope.specs.Packages.{layout_in, names_in}
use Rattle.go_scope.proofs.Nests.{nests}
use Rattle.go_scope.proofs.Uniqueness.{bound_once}
use Rattle.refactor_scopes.proofs.numbers.is_use_of.Goals as goal

pub returns-else-bound-d : goal.returns-else-bound-d
returns-else-bound-d c =
    let l = layout_in c.args.table.now in
    let names = names_in c.args.table.now in (
      (λ same. absurd (c.if-bound-d.false (eqb-true c.in-Some.bound c.args.d same))),
      (λ own. absurd (c.if-bound-d.false
          (bound_once l (nests l c.is_well_formed.ensures) names c.args.u c.in-Some.bound c.args.d c.in-Some.ensures (use_bound own.is_use own.binds)))),
    )
