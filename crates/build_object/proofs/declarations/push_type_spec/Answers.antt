-- The answers to the goals of `declarations::push_type_spec`.
use Rattle.std.proofs.Common.{◌++◌, ◌∙◌, Some, ap, append-nil, sym}
use Rattle.std.specs.Prelude.{option_map}
use Rattle.std.specs.List.{flat_map}
use Rattle.std.proofs.lemmas.Result.{on_ok_weaker}
use Rattle.go_ast.specs.FileView.{body_view, type_spec_view}
use Rattle.types_expr.specs.WorldView.{world_of}
use Rattle.build_object.specs.LineView.{global_of}
use Rattle.build_object.specs.SourceView.{source_of}
use Rattle.build_object.specs.PackagesView.{type_in}
use Rattle.build_object.specs.Objects.{TypeOf, type_declarations, definition_of}
use Rattle.build_object.specs.ObjectText.{declaration_text}
use Rattle.build_object.specs.DeclarationsView.{definition_view}
use Rattle.build_object.proofs.declarations.push_type_spec.Goals as goal

pub returns-in_default : goal.returns-in_default
unfolding type_spec_view
returns-in_default c =
    sym (append-nil c.args.text.now.items)
    ∙ ap (λ o. c.args.text.now.items ++ flat_map (declaration_text (type_in c.args.source.now.packages.now))
    (type_declarations o (definition_of (world_of c.args.source.now.world) (source_of c.args.source.now).asks (body_view c.args.spec.now.body))))
    c.in_default.ensures

pub returns-in-None : goal.returns-in-None
unfolding type_spec_view
returns-in-None c =
    sym (append-nil c.args.text.now.items)
    ∙ (ap (λ d. c.args.text.now.items ++ flat_map (declaration_text (type_in c.args.source.now.packages.now)) (type_declarations (Some (global_of
    c.in-Some.name)) d))
    (ap (option_map definition_view) (sym c.in-None.is) ∙ c.in_ok-defined_as.ensures)
    ∙ ap (λ o. c.args.text.now.items ++ flat_map (declaration_text (type_in c.args.source.now.packages.now))
    (type_declarations o (definition_of (world_of c.args.source.now.world) (source_of c.args.source.now).asks (body_view c.args.spec.now.body))))
    c.in-Some.ensures)

pub returns-in-Some-2 : goal.returns-in-Some-2
unfolding type_spec_view
returns-in-Some-2 c =
    on_ok_weaker c.push_type_line.result
    (λ q. q ∙ (ap (λ z. c.args.text.now.items ++ z) (sym
    (append-nil (declaration_text (type_in c.args.source.now.packages.now) (TypeOf (global_of c.in-Some.name) (definition_view c.in-Some-2.definition)))))
    ∙ (ap (λ d. c.args.text.now.items ++ flat_map (declaration_text (type_in c.args.source.now.packages.now)) (type_declarations (Some (global_of
    c.in-Some.name)) d))
    (ap (option_map definition_view) (sym c.in-Some-2.is) ∙ c.in_ok-defined_as.ensures)
    ∙ ap (λ o. c.args.text.now.items ++ flat_map (declaration_text (type_in c.args.source.now.packages.now))
    (type_declarations o (definition_of (world_of c.args.source.now.world) (source_of c.args.source.now).asks (body_view c.args.spec.now.body))))
    c.in-Some.ensures)))
    c.push_type_line.ensures
