-- The answers to the goals of `call_statements::judge_expr_statement`.
use Rattle.std.proofs.Common.{◌∙◌, ap}
use Rattle.types_expr.specs.Judge.{judge}
use Rattle.types_expr.specs.WorldView.{world_of}
use Rattle.types_expr.specs.Found.{locals_of}
use Rattle.types_stmt.specs.Simple.{without_parentheses, is_statement}
use Rattle.types_stmt.proofs.Chains.{chain_is, named_chain_is, paren_dropped, paren_stands}
use Rattle.types_expr.proofs.Equations.{ok_map}
use Rattle.types_stmt.proofs.LoopProgress.{adds_as}
use Rattle.types_stmt.proofs.call_statements.+judge_expr_statement.Goals as goal

pub returns-in-Chain-clause-found : goal.returns-in-Chain-clause-found
unfolding without_parentheses
returns-in-Chain-clause-found t c =
    ok_map c.judge_chain.result (λ a q. adds_as q (ap (λ x. judge (world_of c.args.scope.world.now) (locals_of c.args.scope.locals.now)
    (without_parentheses x)) (chain_is c.in-Chain.first c.in-Chain.links c.in-Chain.is _ _ c.deref.ensures c.deref-in-Chain.ensures.value)))
    c.judge_chain.ensures.found

pub returns-in-Chain-clause-stands : goal.returns-in-Chain-clause-stands
returns-in-Chain-clause-stands t c =
    ok_map c.judge_chain.result (λ a q. q ∙ ap (is_statement (world_of c.args.scope.world.now) (locals_of c.args.scope.locals.now))
    (chain_is c.in-Chain.first c.in-Chain.links c.in-Chain.is _ _ c.deref.ensures c.deref-in-Chain.ensures.value)) c.judge_chain.ensures.stands

pub returns-in-NamedChain-clause-found : goal.returns-in-NamedChain-clause-found
unfolding without_parentheses
returns-in-NamedChain-clause-found t c =
    ok_map c.judge_chain-in-NamedChain.result (λ a q. adds_as q (ap (λ x. judge (world_of c.args.scope.world.now) (locals_of c.args.scope.locals.now)
    (without_parentheses x)) (named_chain_is c.in-NamedChain.name c.in-NamedChain.links c.in-NamedChain.is _ c.deref-in-NamedChain.ensures.value)))
    c.judge_chain-in-NamedChain.ensures.found

pub returns-in-NamedChain-clause-stands : goal.returns-in-NamedChain-clause-stands
returns-in-NamedChain-clause-stands t c =
    ok_map c.judge_chain-in-NamedChain.result (λ a q. q ∙ ap (is_statement (world_of c.args.scope.world.now) (locals_of c.args.scope.locals.now))
    (named_chain_is c.in-NamedChain.name c.in-NamedChain.links c.in-NamedChain.is _ c.deref-in-NamedChain.ensures.value))
    c.judge_chain-in-NamedChain.ensures.stands

pub returns-in_ok-alone-in-Paren-clause-found : goal.returns-in_ok-alone-in-Paren-clause-found
returns-in_ok-alone-in-Paren-clause-found t c =
    adds_as c.in_ok-alone-in-Paren.ensures.found (ap (judge (world_of c.args.scope.world.now) (locals_of c.args.scope.locals.now))
    (paren_dropped _ _ _ c.in-Paren.is _ c.deref-in-Paren.ensures))

pub returns-in_ok-alone-in-Paren-clause-stands : goal.returns-in_ok-alone-in-Paren-clause-stands
returns-in_ok-alone-in-Paren-clause-stands t c =
    paren_stands (world_of c.args.scope.world.now) (locals_of c.args.scope.locals.now) _ _ _ c.in-Paren.is
