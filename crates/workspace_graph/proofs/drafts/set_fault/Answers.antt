-- The faulty file replaces the removed tree.
use Rattle.std.proofs.Common.{[], refl, sym, subst}
use Rattle.std.specs.Arc.{arc_value}
use Rattle.workspace_graph.specs.Drafts.{WereImports}
use Rattle.workspace_graph.proofs.RenewedImports.{renewed_out, some_weaker}
use Rattle.workspace_graph.proofs.drafts.set_fault.Goals as goal

pub renew_imports-requires : goal.renew_imports-requires
renew_imports-requires c =
    let old = c.args.draft.now.package.trees.items in
    let new = c.take_tree-taken.new.trees.items in
    let taken = c.take_tree-taken in
    some_weaker c.args.draft.now.imports (λ paths held. subst (λ gone. WereImports (arc_value paths).keys gone [] new) (sym c.as_ref.ensures.value)
    (renewed_out (arc_value paths).keys old new taken.result.tree [] held c.path.result.now taken.result.place taken.ensures.out taken.ensures.gone refl))
    c.requires.imports
