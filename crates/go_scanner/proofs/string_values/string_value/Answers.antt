-- The answers to the goals of `string_values::string_value`.
use Rattle.go_scanner.proofs.StringValueLemmas.{raw_from, raw_literal, if_ok}
use Rattle.go_scanner.proofs.string_values.string_value.Goals as goal

pub returns-then-literal-eq96 : goal.returns-then-literal-eq96
returns-then-literal-eq96 c = if_ok c.raw_value.result _ _
    (λ value is. raw_from c.args.literal.now value.items (raw_literal c.args.literal.now c.if-literal-eq96.true c.requires) is) c.raw_value.ensures
