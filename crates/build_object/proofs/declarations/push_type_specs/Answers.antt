-- The answers to the goals of `declarations::push_type_specs`.
use Rattle.std.proofs.Common.{◌++◌, ◌∙◌, ap, append-nil, refl, sym}
use Rattle.std.specs.List.{flat_map}
use Rattle.std.proofs.lemmas.Result.{on_ok_weaker}
use Rattle.go_ast.specs.View.{group_view}
use Rattle.go_ast.specs.FileView.{type_spec_view}
use Rattle.types_declared.specs.Files.{group_items}
use Rattle.types_declared.proofs.DeclaredParts.{several_from}
use Rattle.build_object.specs.SourceView.{source_of}
use Rattle.build_object.specs.PackagesView.{type_in}
use Rattle.build_object.specs.Objects.{declared_type}
use Rattle.build_object.specs.ObjectText.{declaration_text}
use Rattle.build_object.proofs.Loops.{rest_step, rest_end}
use Rattle.build_object.proofs.TextParts.{type_spec_text, type_specs_text, type_specs_more}
use Rattle.build_object.proofs.declarations.push_type_specs.Goals as goal

pub returns-in-Single : goal.returns-in-Single
unfolding group_view
returns-in-Single c =
    on_ok_weaker c.push_type_spec.result
    (λ q. q ∙ ap (λ ds. c.args.text.now.items ++ flat_map (declaration_text (type_in c.args.source.now.packages.now)) ds)
    (sym (append-nil (declared_type (source_of c.args.source.now) (type_spec_view c.in-Single.spec))) ∙
    ap (λ g. flat_map (declared_type (source_of c.args.source.now)) (group_items (group_view type_spec_view g))) (sym c.in-Single.is)))
    c.push_type_spec.ensures

pub loop-item-preserved : goal.loop-item-preserved
loop-item-preserved c =
    rest_step (type_specs_text c.args.source.now) (type_spec_text c.args.source.now) (type_specs_more c.args.source.now) _ c.loop-item.text.items
    c.push_type_spec-in-loop-item.new.text.items c.deref-item-items.result.now
    c.loop-item.item-index c.item-item.result c.loop-item-test.true c.item-item.is c.loop-item.invariant c.in_ok-push_type_spec-in-Several.ensures

pub returns-after-loop-item : goal.returns-after-loop-item
returns-after-loop-item c =
    rest_end (type_specs_text c.args.source.now) refl _ c.loop-item.text.items c.deref-item-items.result.now c.loop-item.item-index c.loop-item-test.false
    c.loop-item.invariant
    ∙ ap (λ ds. c.args.text.now.items ++ flat_map (declaration_text (type_in c.args.source.now.packages.now)) ds)
    (several_from (declared_type (source_of c.args.source.now)) type_spec_view c.args.group.now c.in-Several.«open» c.in-Several.items c.in-Several.close _
    c.in-Several.is c.deref-item-items.ensures.value)
