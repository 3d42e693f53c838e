-- The answers to the goals of `operators::short_operator`.
use Rattle.std.proofs.Common.{sym, ◌∙◌}
use Rattle.go_scanner.proofs.NarrowLemmas.{short_found}
use Rattle.go_scanner.proofs.operators.short_operator.Goals as goal

pub returns : goal.returns
returns c = short_found c.args.bytes.now c.first_byte-first.result c.second_byte.result c.one_byte_operator.result c.first_byte-first.ensures
    c.second_byte.ensures (sym c.may_join.ensures ∙ c.if-may_join.false) c.one_byte_operator.ensures
