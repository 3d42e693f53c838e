-- The answers to the goals of `types::types`.
use Rattle.std.proofs.Common.{◌∷◌, ap, sym, ◌∙◌}
use Rattle.go_ast.specs.declared.syntax.Kind.TheVariants as kind
use Rattle.go_ast.specs.Flatten.{sign}
use Rattle.go_parser.specs.Spelling.{type_spelled}
use Rattle.go_ast.specs.Grammar.{TypeUse}
use Rattle.go_parser.specs.Machine.{first, later, last}
use Rattle.go_parser.proofs.MachineSteps.{exits, fails_first, fails_later, fails_rule, read_then, read_rule, read_to_close, read_as, tail_rule}
use Rattle.go_parser.proofs.Spelled.{pointer_tokens, slice_tokens}
use Rattle.go_parser.proofs.Grouping.{slice_is_slice}
use Rattle.go_parser.proofs.types.+types.Goals as goal

pub slice_type-returns-clause-exact : goal.slice_type-returns-clause-exact
slice_type-returns-clause-exact t c = read_as (read_then c.in_ok-open.ensures.read
    (read_then c.in_ok-close.ensures (read_to_close c.in_ok-open.ensures.deeper c.in_ok-element.ensures)))
    (ap (λ x. sign kind.LeftBracket c.in_ok-open.open ∷ sign kind.RightBracket c.in_ok-close.close ∷ type_spelled x) (sym c.in_ok-element-2.ensures.ok) ∙
    sym (slice_tokens _ _ _))

pub type_expr-returns-in_err-star : goal.type_expr-returns-in_err-star
type_expr-returns-in_err-star t c = exits _ _ _ _ c.in_err-star.field-0.0 c.from_residual.result c.from_residual.ensures.1
    (fails_rule (first (sym c.at.ensures ∙ c.if-at.true)) (fails_first c.in_err-star.ensures))

pub type_expr-returns-in_err-target : goal.type_expr-returns-in_err-target
type_expr-returns-in_err-target t c = exits _ _ _ _ c.in_err-target.field-0.0 c.from_residual-in_err-target.result c.from_residual-in_err-target.ensures.1
    (fails_rule (first (sym c.at.ensures ∙ c.if-at.true)) (fails_later c.in_ok-star.ensures.read (fails_first c.in_err-target.ensures)))

pub type_expr-returns-then-at : goal.type_expr-returns-then-at
type_expr-returns-then-at t c = read_as (read_rule (first (sym c.at.ensures ∙ c.if-at.true))
    (read_then c.in_ok-star.ensures.read (read_to_close c.in_ok-star.ensures.deeper c.in_ok-target.ensures)))
    (ap (λ x. sign kind.Star c.in_ok-star.star ∷ type_spelled x) (sym c.in_ok-target-2.ensures.ok) ∙ sym (pointer_tokens _ _))

pub type_expr-returns-then-at-2 : goal.type_expr-returns-then-at-2
type_expr-returns-then-at-2 t c = tail_rule TypeUse _ _ _ _ _ c.slice_type.result
    (later (sym c.at.ensures ∙ c.if-at.false) (first (sym c.at-2.ensures ∙ c.if-at-2.true))) c.slice_type.ensures.exact

pub type_expr-returns : goal.type_expr-returns
type_expr-returns t c = tail_rule TypeUse _ _ _ _ _ c.type_name.result
    (later (sym c.at.ensures ∙ c.if-at.false) (later (sym c.at-2.ensures ∙ c.if-at-2.false) last)) c.type_name.ensures.exact

pub slice_type-returns-clause-slice : goal.slice_type-returns-clause-slice
slice_type-returns-clause-slice t c = slice_is_slice _ _ _
