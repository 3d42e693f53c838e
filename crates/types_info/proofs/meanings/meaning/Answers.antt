-- The answers to the goals of `meanings::meaning`.
use Rattle.std.proofs.Common.{ap, subst, sym, ◌∙◌}
use Rattle.go_scope.specs.Bindings.{block_of}
use Rattle.types_expr.specs.World.{Local}
use Rattle.types_expr.specs.WorldView.{bound_of}
use Rattle.types_declared.specs.MeaningOf.{IsMeaningOf, local}
use Rattle.types_declared.specs.PackageView.{package_of}
use Rattle.types_info.proofs.meanings.meaning.Goals as goal

pub returns-in-Inner : goal.returns-in-Inner
unfolding bound_of
returns-in-Inner c =
    subst (λ x. IsMeaningOf (package_of c.args.pkg) c.args.d (Local x.index)) (sym c.place.ensures)
    (local {file = c.in-Inner.field-0} {from = c.in-Inner.field-1} {to = c.in-Inner.field-2}
    (ap block_of (sym c.role.ensures) ∙ sym c.block.ensures ∙ c.in-Inner.is))
