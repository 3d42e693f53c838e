-- The answers to the goals of `declarations::push_var_specs`.
use Rattle.std.proofs.Common.{◌++◌, ◌∙◌, ap, append-nil, refl, sym}
use Rattle.std.specs.List.{flat_map}
use Rattle.std.proofs.lemmas.Result.{on_ok_weaker}
use Rattle.go_ast.specs.View.{group_view}
use Rattle.go_ast.specs.FileView.{global_view}
use Rattle.types_declared.specs.Files.{group_items}
use Rattle.types_declared.proofs.DeclaredParts.{several_from}
use Rattle.build_object.specs.SourceView.{source_of}
use Rattle.build_object.specs.PackagesView.{type_in}
use Rattle.build_object.specs.Objects.{global_variables}
use Rattle.build_object.specs.ObjectText.{declaration_text}
use Rattle.build_object.proofs.Loops.{rest_step, rest_end}
use Rattle.build_object.proofs.TextParts.{var_spec_text, var_specs_text, var_specs_more}
use Rattle.build_object.proofs.declarations.push_var_specs.Goals as goal

pub returns-in-Single : goal.returns-in-Single
unfolding group_view
returns-in-Single c =
    on_ok_weaker c.push_var_spec.result
    (λ q. q ∙ ap (λ ds. c.args.text.now.items ++ flat_map (declaration_text (type_in c.args.source.now.packages.now)) ds)
    (sym (append-nil (global_variables (source_of c.args.source.now) (global_view c.in-Single.spec))) ∙
    ap (λ g. flat_map (global_variables (source_of c.args.source.now)) (group_items (group_view global_view g))) (sym c.in-Single.is)))
    c.push_var_spec.ensures

pub loop-item-preserved : goal.loop-item-preserved
loop-item-preserved c =
    rest_step (var_specs_text c.args.source.now) (var_spec_text c.args.source.now) (var_specs_more c.args.source.now) _ c.loop-item.text.items
    c.push_var_spec-in-loop-item.new.text.items c.deref-item-items.result.now
    c.loop-item.item-index c.item-item.result c.loop-item-test.true c.item-item.is c.loop-item.invariant c.in_ok-push_var_spec-in-Several.ensures

pub returns-after-loop-item : goal.returns-after-loop-item
returns-after-loop-item c =
    rest_end (var_specs_text c.args.source.now) refl _ c.loop-item.text.items c.deref-item-items.result.now c.loop-item.item-index c.loop-item-test.false
    c.loop-item.invariant
    ∙ ap (λ ds. c.args.text.now.items ++ flat_map (declaration_text (type_in c.args.source.now.packages.now)) ds)
    (several_from (global_variables (source_of c.args.source.now)) global_view c.args.group.now c.in-Several.«open» c.in-Several.items c.in-Several.close
    _ c.in-Several.is c.deref-item-items.ensures.value)
