-- The answers to the goals of `type_faults::add_tokens`.
use Rattle.std.proofs.Common.{arith}
use Rattle.types_check.proofs.TypeFaultParts.{no_tokens, next_token, all_tokens}
use Rattle.types_check.proofs.type_faults.add_tokens.Goals as goal

pub loop-token-init : goal.loop-token-init
loop-token-init c = no_tokens c.args.file c.args.found.now.items

pub loop-token-preserved : goal.loop-token-preserved
loop-token-preserved c =
    next_token c.args.file c.args.tokens.now c.loop-token.token-index 0 c.args.found.now.items c.loop-token.found.items c.push.new.found.items (omega arith)
    c.loop-token.invariant c.in_ok-push.ensures

pub returns : goal.returns
returns c = all_tokens c.args.file c.args.tokens.now c.loop-token.token-index c.args.found.now.items c.loop-token.found.items (omega arith)
    c.loop-token.invariant
