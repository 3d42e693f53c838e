-- The answers to the goals of `functions::receiver`.
use Rattle.std.proofs.Common.{◌∷◌, [], sym}
use Rattle.go_ast.specs.declared.syntax.Kind.TheVariants as kind
use Rattle.go_ast.specs.Grammar.{One, ReceiverEnd, ReceiverStar, is}
use Rattle.go_parser.specs.Machine.{first, last, later}
use Rattle.go_parser.proofs.MachineSteps.{exits, fails_first, fails_later, fails_leads, read_as, read_then, read_to_close, read_led}
use Rattle.go_parser.proofs.StatementSteps.{leads_optional, read_optional}
use Rattle.go_parser.proofs.SpelledDeclarations.{receiver_spelled_as}
use Rattle.go_parser.proofs.functions.receiver.Goals as goal

pub returns-in_err-open : goal.returns-in_err-open
returns-in_err-open c = exits _ _ _ _ c.in_err-open.field-0.0 c.from_residual.result c.from_residual.ensures.1
    (fails_first c.in_err-open.ensures)

pub returns-in_err-ident : goal.returns-in_err-ident
returns-in_err-ident c = exits _ _ _ _ c.in_err-ident.field-0.0 c.from_residual-in_err-ident.result c.from_residual-in_err-ident.ensures.1
    (fails_later c.in_ok-open.ensures.read (fails_first c.in_err-ident.ensures))

pub returns-in_err-type_name : goal.returns-in_err-type_name
returns-in_err-type_name c = exits _ _ _ _ c.in_err-type_name.field-0.0 c.from_residual-in_err-type_name.result c.from_residual-in_err-type_name.ensures.1
    (fails_later c.in_ok-open.ensures.read (fails_later c.in_ok-ident.ensures
    (fails_later (read_optional ReceiverStar kind.Star _ (λ us e. first e) (λ us e. later e last) c.separator-star.ensures)
    (fails_first c.in_err-type_name.ensures))))

pub returns-in_err-close : goal.returns-in_err-close
returns-in_err-close c = exits _ _ _ _ c.in_err-close.field-0.0 c.from_residual-in_err-close.result c.from_residual-in_err-close.ensures.1
    (fails_later c.in_ok-open.ensures.read (fails_later c.in_ok-ident.ensures
    (fails_later (read_optional ReceiverStar kind.Star _ (λ us e. first e) (λ us e. later e last) c.separator-star.ensures)
    (fails_later c.in_ok-type_name.ensures
    (fails_first (fails_leads (leads_optional ReceiverEnd kind.Comma _ (One (is kind.RightParen) ∷ []) (λ us e. first e) (λ us e. later e last)
    c.separator-comma.ensures) c.in_err-close.ensures))))))

pub returns : goal.returns
returns c = read_as (read_then c.in_ok-open.ensures.read
    (read_then c.in_ok-ident.ensures
    (read_then (read_optional ReceiverStar kind.Star _ (λ us e. first e) (λ us e. later e last) c.separator-star.ensures)
    (read_then c.in_ok-type_name.ensures
    (read_to_close c.in_ok-open.ensures.deeper
    (read_led (leads_optional ReceiverEnd kind.Comma _ (One (is kind.RightParen) ∷ []) (λ us e. first e) (λ us e. later e last) c.separator-comma.ensures)
    c.in_ok-close.ensures)))))) (sym (receiver_spelled_as _))
