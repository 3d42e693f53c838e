-- The answers to the goals of `signatures::add_results`.
use Rattle.std.proofs.Common.{arith, ap, sym, ◌∙◌}
use Rattle.go_ast.specs.Tree as tree
use Rattle.go_ast.specs.View.{list_view, type_view}
use Rattle.go_ast.specs.FileView.{results_view}
use Rattle.types_declared.specs.MeaningOf.{result_types}
use Rattle.types_info.specs.SignatureView.{tree_of}
use Rattle.types_declared.proofs.Appending.{appends_as, appends_all, appends_none, appends_one}
use Rattle.types_info.proofs.SignatureParts.{type_part, types_from}
use Rattle.types_info.proofs.signatures.add_results.Goals as goal

pub returns-in-None : goal.returns-in-None
unfolding results_view
returns-in-None c =
    appends_as tree_of c.args.found.now.items c.args.found.now.items _ _ (appends_none tree_of c.args.found.now.items)
    (ap (λ r. result_types (results_view r)) (sym c.in-None.is))

pub returns-in_ok-push-in-Single : goal.returns-in_ok-push-in-Single
unfolding results_view
returns-in_ok-push-in-Single c =
    appends_as tree_of c.args.found.now.items c.push.new.self.items _ _
    (appends_one tree_of c.args.found.now.items c.push.new.self.items _ c.in_ok-push-in-Single.ensures.items)
    (ap (λ r. result_types (results_view r)) (sym c.in-Single.is))

pub returns-after-loop-item : goal.returns-after-loop-item
unfolding results_view
returns-after-loop-item c =
    appends_as tree_of c.args.found.now.items c.loop-item.found.items _ _
    (appends_all tree_of c.args.found.now.items c.loop-item.found.items type_part c.deref-item-items.result.now c.loop-item.item-index (omega arith)
    c.loop-item.invariant)
    (types_from c.deref-item-items.result.now ∙ ap (λ xs. result_types (tree.results c.in-Several.«open» (list_view type_view xs) c.in-Several.close))
    c.deref-item-items.ensures.value ∙
    ap (λ r. result_types (results_view r)) (sym c.in-Several.is))
