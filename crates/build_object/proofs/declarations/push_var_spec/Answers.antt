-- The answers to the goals of `declarations::push_var_spec`.
use Rattle.std.proofs.Common.{◌++◌, ◌∙◌, Some, ap, append-nil, sym}
use Rattle.std.specs.Prelude.{option_map}
use Rattle.std.specs.List.{flat_map}
use Rattle.std.proofs.lemmas.Result.{on_ok_weaker}
use Rattle.go_ast.specs.View.{list_view, option_view}
use Rattle.go_ast.specs.FileView.{basic_view, global_view, same_index, var_values_view}
use Rattle.types_expr.specs.View.{type_of}
use Rattle.build_object.specs.SourceView.{source_of}
use Rattle.build_object.specs.PackagesView.{type_in}
use Rattle.build_object.specs.Objects.{initials_of, literals_of, variable_declarations}
use Rattle.build_object.specs.ObjectText.{declaration_text}
use Rattle.build_object.proofs.TextParts.{no_variables}
use Rattle.build_object.proofs.declarations.push_var_spec.Goals as goal

pub returns-in-None : goal.returns-in-None
unfolding global_view
returns-in-None c =
    let s = source_of c.args.source.now in
    let names = list_view same_index c.args.spec.now.names.items in
    let values = initials_of s (literals_of (option_view var_values_view c.args.spec.now.values)) in
    sym (append-nil c.args.text.now.items)
    ∙ ap (λ ds. c.args.text.now.items ++ flat_map (declaration_text (type_in c.args.source.now.packages.now)) ds)
    (sym (no_variables s names values) ∙ ap (λ o. variable_declarations s o names values) (ap (option_map type_of) (sym c.in-None.is) ∙
    c.in_ok-written_type.ensures))

pub returns-in-Some : goal.returns-in-Some
unfolding global_view
returns-in-Some c =
    let s = source_of c.args.source.now in
    on_ok_weaker c.push_typed.result
    (λ q. q ∙ ap (λ ds. c.args.text.now.items ++ flat_map (declaration_text (type_in c.args.source.now.packages.now)) ds)
    (ap (λ xs. variable_declarations s (Some (type_of c.in-Some.own)) (list_view same_index xs) (initials_of s (list_view basic_view c.literals.result.now)))
    c.deref.ensures.value
    ∙ (ap (λ ls. variable_declarations s (Some (type_of c.in-Some.own)) (list_view same_index c.args.spec.now.names.items) (initials_of s ls))
    c.literals.ensures
    ∙ ap (λ o. variable_declarations s o (list_view same_index c.args.spec.now.names.items)
    (initials_of s (literals_of (option_view var_values_view c.args.spec.now.values))))
    (ap (option_map type_of) (sym c.in-Some.is) ∙ c.in_ok-written_type.ensures))))
    c.push_typed.ensures
