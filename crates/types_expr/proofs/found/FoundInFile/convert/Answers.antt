-- The answers to the goals of `found::FoundInFile::convert`.
use Rattle.std.proofs.Common.{◌≡◌, List, ◌∷◌, [], ap, sym, ◌∙◌, map, subst, option_map, arith}
use Rattle.types_expr.specs.declared.meaning.ListValue.{ListValue}
use Rattle.types_expr.specs.Judge.{convert}
use Rattle.types_expr.specs.View.{kind_of, type_of}
use Rattle.types_expr.specs.WorldView.{world_of}
use Rattle.types_expr.specs.Found.{list_value, meaning_of, AddsJudged}
use Rattle.types_expr.proofs.Equations.{ok_map}
use Rattle.types_expr.proofs.Items.{only_item}
use Rattle.types_expr.proofs.Misfits.{refused_conversion}
use Rattle.types_expr.proofs.found.FoundInFile.convert.Goals as goal

pub returns-in-Some-2 : goal.returns-in-Some-2
returns-in-Some-2 c =
    let one : c.args.values.now ≡ c.value-item.result ∷ [] = only_item c.args.values.now c.value-item.result (omega arith) (omega arith) c.value-item.is in
    ok_map c.wrong.result (λ m a. subst (λ (vs : List ListValue). AddsJudged (convert (world_of c.args.world.now) c.args.start (type_of c.args.wanted.now)
    (map list_value vs))
    c.args.self.now c.wrong.new.self (meaning_of m)) (sym one)
    (refused_conversion (world_of c.args.world.now) c.args.start (type_of c.args.wanted.now) (list_value c.value-item.result) _
    (ap (option_map kind_of) c.in-Some.is) (sym c.converts.ensures ∙ c.if-converts.false) c.in_ok-enter.ensures.faults c.in_ok-enter.ensures.enterings a))
    c.wrong.ensures
