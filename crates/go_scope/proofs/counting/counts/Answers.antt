-- The answers to the goals of `counting::counts`.
use Rattle.go_scope.specs.Numbering.{numerals}
use Rattle.go_scope.specs.Table.{layout_of}
use Rattle.go_scope.proofs.Leading.{counts_if, counts_only, not_if, not_both}
use Rattle.go_scope.proofs.counting.counts.Goals as goal

pub returns-then-leads : goal.returns-then-leads
returns-then-leads c =
    let l = layout_of c.args.identifiers.now in
    let names = numerals c.args.names.now in (
      (λ t. counts_if l names c.args.d (c.leads.ensures.0 c.if-leads.true) (λ w. not_both c.is_displaced_import.result t (c.is_displaced_import.ensures.1 w))),
      (λ x. not_if c.is_displaced_import.result (λ g. (counts_only l names c.args.d x).1 (c.is_displaced_import.ensures.0 g))),
    )
