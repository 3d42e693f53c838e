-- The answers to the goals of `tokens::expect`.
use Rattle.std.proofs.Common.{◌≡◌, sym, ◌∙◌, false, true}
use Rattle.go_ast.specs.Grammar.{is}
use Rattle.go_parser.specs.Machine.{at}
use Rattle.go_parser.proofs.MachineSteps.{passes_token, token_text, refuses_one, at_end, at_token}
use Rattle.go_parser.proofs.tokens.expect.Goals as goal
use Rattle.go_parser.proofs.tokens.expect.Goals.{in_default-via-in-Some+else-is_kind, in_default-via-in_default}

pub returns-in-Some : goal.returns-in-Some
returns-in-Some c =
    let same : is c.args.kind c.in-Some.first.kind ≡ true = sym c.is_kind.ensures ∙ c.if-is_kind.true in
    record {
      text = token_text c.args.kind c.in-Some.first c.args.tokens.now c.in-Some.rest.now c.in-Some.ensures same;
      passes = passes_token c.args.kind c.in-Some.first c.args.depth c.args.tokens.now c.in-Some.rest.now c.in-Some.ensures same;
    }

pub returns-in_default : goal.returns-in_default
returns-in_default c =
    let refusal : at (is c.args.kind) c.args.tokens.now ≡ false = elim c.in_default.branch [
      | in_default-via-in-Some+else-is_kind w ↦ at_token (is c.args.kind) false w.in-Some.first c.args.tokens.now w.in-Some.rest.now w.in-Some.ensures
          (sym w.is_kind.ensures ∙ w.if-is_kind.false)
      | in_default-via-in_default w ↦ at_end (is c.args.kind) c.args.tokens.now w.in_default.ensures
    ] in
    rw c.bad_token.ensures (refuses_one (is c.args.kind) c.args.depth c.args.tokens.now refusal)
