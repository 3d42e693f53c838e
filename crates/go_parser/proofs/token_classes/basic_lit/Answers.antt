-- The answers to the goals of `token_classes::basic_lit`.
use Rattle.std.proofs.Common.{sym, ◌∙◌, refl}
use Rattle.go_ast.specs.Grammar.{is_literal}
use Rattle.go_parser.proofs.MachineSteps.{read_as}
use Rattle.go_parser.proofs.WordSteps.{read_class, token_refused, end_refused, basic_class, basic_refused}
use Rattle.go_parser.proofs.token_classes.basic_lit.Goals as goal

pub returns-in_default : goal.returns-in_default
returns-in_default c = end_refused is_literal _ c.in_default.ensures c.bad_token.ensures

pub returns-in_default-basic_of : goal.returns-in_default-basic_of
returns-in_default-basic_of c = token_refused is_literal _ c.in-Some.first c.in-Some.ensures
    (basic_refused _ _ (sym c.basic_of.ensures ∙ c.in_default-basic_of.is)) c.bad_token-in_default-basic_of.ensures

pub returns : goal.returns
returns c = read_as (read_class is_literal _ c.in-Some.first c.in-Some.ensures (basic_class _ _ _ (sym c.basic_of.ensures ∙ c.in-Some-basic_of.is)).0 refl)
    (basic_class _ _ _ (sym c.basic_of.ensures ∙ c.in-Some-basic_of.is)).1
