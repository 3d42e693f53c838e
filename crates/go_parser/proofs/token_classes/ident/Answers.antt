-- The answers to the goals of `token_classes::ident`.
use Rattle.std.proofs.Common.{sym, ◌∙◌, refl}
use Rattle.go_ast.specs.Grammar.{is_ident}
use Rattle.go_parser.proofs.MachineSteps.{read_as}
use Rattle.go_parser.proofs.WordSteps.{read_class, token_refused, end_refused, ident_class, ident_refused}
use Rattle.go_parser.proofs.token_classes.ident.Goals as goal

pub returns-in_default : goal.returns-in_default
returns-in_default c = end_refused is_ident _ c.in_default.ensures c.bad_token.ensures

pub returns-in_default-ident_of : goal.returns-in_default-ident_of
returns-in_default-ident_of c = token_refused is_ident _ c.in-Some.first c.in-Some.ensures
    (ident_refused _ _ (sym c.ident_of.ensures ∙ c.in_default-ident_of.is)) c.bad_token-in_default-ident_of.ensures

pub returns : goal.returns
returns c = read_as (read_class is_ident _ c.in-Some.first c.in-Some.ensures (ident_class _ _ _ (sym c.ident_of.ensures ∙ c.in-Some-ident_of.is)).0 refl)
    (ident_class _ _ _ (sym c.ident_of.ensures ∙ c.in-Some-ident_of.is)).1
