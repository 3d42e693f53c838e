-- The answers to the goals of `laws::one_string_value`.
use Rattle.go_scanner.proofs.StringValueLemmas.{one_string_value}
use Rattle.go_scanner.proofs.laws.one_string_value.Goals as goal

pub returns : goal.returns
returns c = one_string_value
