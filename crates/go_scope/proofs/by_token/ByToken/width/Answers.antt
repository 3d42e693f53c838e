-- The answers to the goals of `by_token::ByToken::width`.
use Rattle.std.proofs.Common.{ap, ◌∙◌, sym}
use Rattle.std.specs.Prelude.{None}
use Rattle.std.proofs.lemmas.List.{get_or_past}
use Rattle.go_scope.specs.ByToken.{row_number}
use Rattle.go_scope.proofs.by_token.ByToken.width.Goals as goal

pub returns : goal.returns
returns c = λ token le. ap (λ r. row_number r token) (sym c.row.ensures) ∙ get_or_past c.row.result.now token None le
