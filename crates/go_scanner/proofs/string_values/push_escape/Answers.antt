-- The answers to the goals of `string_values::push_escape`.
use Rattle.std.proofs.Common.{sym, ◌∙◌}
use Rattle.go_scanner.proofs.StringValueLemmas.{last_form}
use Rattle.go_scanner.proofs.string_values.push_escape.Goals as goal

pub push_character-requires : goal.push_character-requires
push_character-requires c =
    (last_form c.args.escape.now c.small_number-else-first-eq120.result c.in-len1-up.len_at_least c.requires
    (sym c.is_plain_escape.ensures ∙ c.if-is_plain_escape.false) (sym c.is_digit.ensures ∙ c.if-is_digit.false) c.if-first-eq120.false
    c.small_number-else-first-eq120.ensures).character

pub returns-else-first-eq120 : goal.returns-else-first-eq120
returns-else-first-eq120 c =
    let form = last_form c.args.escape.now c.small_number-else-first-eq120.result c.in-len1-up.len_at_least c.requires
    (sym c.is_plain_escape.ensures ∙ c.if-is_plain_escape.false) (sym c.is_digit.ensures ∙ c.if-is_digit.false) c.if-first-eq120.false
    c.small_number-else-first-eq120.ensures in
    rw (← form.value) c.push_character.ensures
