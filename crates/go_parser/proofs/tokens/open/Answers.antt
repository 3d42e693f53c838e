-- The answers to the goals of `tokens::open`.
use Rattle.std.proofs.Common.{◌≡◌, sym, ◌∙◌, false, true, arith, refl}
use Rattle.go_ast.specs.Grammar.{is}
use Rattle.go_parser.proofs.MachineSteps.{passes_opening, token_text, refuses_opening, opens_too_deep, at_end, at_token}
use Rattle.go_parser.proofs.tokens.open.Goals as goal

pub returns-in_default : goal.returns-in_default
returns-in_default c = rw c.bad_token.ensures (refuses_opening (is c.args.kind) c.args.depth c.args.tokens.now
    (at_end (is c.args.kind) c.args.tokens.now c.in_default.ensures))

pub returns-then-not-is_kind : goal.returns-then-not-is_kind
returns-then-not-is_kind c = rw c.bad_token-then-not-is_kind.ensures
    (refuses_opening (is c.args.kind) c.args.depth c.args.tokens.now
    (at_token (is c.args.kind) false c.in-Some.first c.args.tokens.now c.in-Some.rest.now c.in-Some.ensures (sym c.is_kind.ensures ∙ c.if-not-is_kind.true)))

pub returns-then-depth-ge-LIMIT : goal.returns-then-depth-ge-LIMIT
returns-then-depth-ge-LIMIT c = opens_too_deep (is c.args.kind) c.in-Some.first c.args.depth c.args.tokens.now c.in-Some.rest.now c.in-Some.ensures
    (sym c.is_kind.ensures ∙ c.if-not-is_kind.false) c.if-depth-ge-LIMIT.true

pub returns : goal.returns
returns c =
    let same : is c.args.kind c.in-Some.first.kind ≡ true = sym c.is_kind.ensures ∙ c.if-not-is_kind.false in
    record {
      read = record {
        text = token_text c.args.kind c.in-Some.first c.args.tokens.now c.in-Some.rest.now c.in-Some.ensures same;
        passes = passes_opening c.args.kind c.in-Some.first c.args.depth c.args.tokens.now c.in-Some.rest.now c.in-Some.ensures same c.if-depth-ge-LIMIT.false;
      };
      deeper = refl;
      within = omega arith;
    }
