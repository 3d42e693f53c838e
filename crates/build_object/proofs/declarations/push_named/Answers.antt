-- The answers to the goals of `declarations::push_named`.
use Rattle.std.proofs.Common.{◌++◌, ◌∙◌, Some, ap, append-nil, sym}
use Rattle.std.specs.Prelude.{option_map}
use Rattle.std.specs.List.{flat_map}
use Rattle.std.proofs.lemmas.Result.{on_ok_weaker}
use Rattle.types_expr.specs.View.{type_of}
use Rattle.build_object.specs.LineView.{global_of}
use Rattle.build_object.specs.PackagesView.{type_in}
use Rattle.build_object.specs.Objects.{Variable, known_variable}
use Rattle.build_object.specs.ObjectText.{declaration_text}
use Rattle.build_object.specs.DeclarationsView.{initial_view}
use Rattle.build_object.proofs.declarations.push_named.Goals as goal

pub returns-in-None : goal.returns-in-None
returns-in-None c =
    sym (append-nil c.args.text.now.items)
    ∙ ap (λ o. c.args.text.now.items ++ flat_map (declaration_text (type_in c.args.source.now.packages.now))
    (known_variable (Some (type_of c.args.own.now)) o (option_map initial_view c.args.value))) c.in-None.ensures

pub returns-in-Some : goal.returns-in-Some
returns-in-Some c =
    on_ok_weaker c.push_variable.result
    (λ q. q ∙ (ap (λ z. c.args.text.now.items ++ z) (sym
    (append-nil (declaration_text (type_in c.args.source.now.packages.now)
    (Variable (global_of c.in-Some.name) (type_of c.args.own.now) (option_map initial_view c.args.value)))))
    ∙ ap (λ o. c.args.text.now.items ++ flat_map (declaration_text (type_in c.args.source.now.packages.now))
    (known_variable (Some (type_of c.args.own.now)) o (option_map initial_view c.args.value))) c.in-Some.ensures))
    c.push_variable.ensures
