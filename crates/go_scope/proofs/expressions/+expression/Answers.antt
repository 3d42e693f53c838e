-- The answers to the goals of `expressions::expression`.
use Rattle.std.proofs.Common.{ap, sym, ◌∙◌, arith}
use Rattle.go_scope.specs.ExpressionSites.{expr_sites, literal_sites, link_sites}
use Rattle.go_scope.specs.IdentifierViews.{as_source}
use Rattle.go_scope.proofs.Adding.{adds_none, adds_as, adds_then, call_adds, then_adds, each_step, each_all}
use Rattle.go_scope.proofs.Parts.{leaf_none, link_part, operand_part, argument_part, element_part, chain_from, binary_from, call_from, index_from, literal_read}
use Rattle.go_scope.proofs.Parts.{named_binary_from, named_chain_from}
use Rattle.go_ast.specs.View.{expr_view, literal_view, link_view}
use Rattle.go_scope.proofs.expressions.+expression.Goals as goal

pub add_expr-returns-in-Name : goal.add_expr-returns-in-Name
unfolding expr_sites expr_view
add_expr-returns-in-Name t c = call_adds _ _ c.add.result c.add.ensures (ap (λ v. expr_sites (as_source c.args.source.now) (expr_view v)) (sym c.in-Name.is))

pub add_expr-returns-in-Blank : goal.add_expr-returns-in-Blank
unfolding expr_sites expr_view
add_expr-returns-in-Blank t c = call_adds _ _ c.add-in-Blank.result c.add-in-Blank.ensures
    (ap (λ v. expr_sites (as_source c.args.source.now) (expr_view v)) (sym c.in-Blank.is))

pub add_expr-returns-in-Composite : goal.add_expr-returns-in-Composite
unfolding expr_sites expr_view
add_expr-returns-in-Composite t c =
    call_adds _ _ c.add_literal.result c.add_literal.ensures
    (ap (λ l. literal_sites (as_source c.args.source.now) (literal_view l)) c.deref.ensures ∙
    ap (λ v. expr_sites (as_source c.args.source.now) (expr_view v)) (sym c.in-Composite.is))

pub add_expr-returns-in-Paren : goal.add_expr-returns-in-Paren
unfolding expr_sites expr_view
add_expr-returns-in-Paren t c =
    call_adds _ _ c.add_expr.result c.add_expr.ensures
    (ap (λ v. expr_sites (as_source c.args.source.now) (expr_view v)) c.deref-in-Paren.ensures ∙
    ap (λ v. expr_sites (as_source c.args.source.now) (expr_view v)) (sym c.in-Paren.is))

pub add_expr-returns-in-Prefix : goal.add_expr-returns-in-Prefix
unfolding expr_sites expr_view
add_expr-returns-in-Prefix t c =
    call_adds _ _ c.add_expr-in-Prefix.result c.add_expr-in-Prefix.ensures
    (ap (λ v. expr_sites (as_source c.args.source.now) (expr_view v)) c.deref-in-Prefix.ensures ∙
    ap (λ v. expr_sites (as_source c.args.source.now) (expr_view v)) (sym c.in-Prefix.is))

pub add_expr-returns-in-Address : goal.add_expr-returns-in-Address
unfolding expr_sites expr_view
add_expr-returns-in-Address t c =
    call_adds _ _ c.add_literal-in-Address.result c.add_literal-in-Address.ensures
    (ap (λ l. literal_sites (as_source c.args.source.now) (literal_view l)) c.deref-in-Address.ensures ∙
    ap (λ v. expr_sites (as_source c.args.source.now) (expr_view v)) (sym c.in-Address.is))

pub add_expr-returns-in_ok-add_expr-in-Chain : goal.add_expr-returns-in_ok-add_expr-in-Chain
add_expr-returns-in_ok-add_expr-in-Chain t c = then_adds _ _ c.add_links.result c.in_ok-add_expr-in-Chain.ensures c.add_links.ensures
    (chain_from _ _ c.in-Chain.first c.in-Chain.links _ _ c.in-Chain.is c.deref-in-Chain.ensures c.deref-in-Chain-2.ensures.value)

pub add_expr-returns-in_ok-add-in-NamedChain : goal.add_expr-returns-in_ok-add-in-NamedChain
unfolding expr_sites
add_expr-returns-in_ok-add-in-NamedChain t c = then_adds _ _ c.add_links-in-NamedChain.result c.in_ok-add-in-NamedChain.ensures
    c.add_links-in-NamedChain.ensures (named_chain_from _ _ c.in-NamedChain.name c.in-NamedChain.links _ c.in-NamedChain.is c.deref-in-NamedChain.ensures.value)

pub add_links-returns : goal.add_links-returns
add_links-returns t c = each_all (link_part (as_source c.args.source.now)) c.args.links.now c.loop-link.link-index (omega arith) c.loop-link.invariant

pub add_expr-returns-in_ok-add_expr-in-Binary : goal.add_expr-returns-in_ok-add_expr-in-Binary
add_expr-returns-in_ok-add_expr-in-Binary t c = then_adds _ _ c.add_operands.result c.in_ok-add_expr-in-Binary.ensures c.add_operands.ensures
    (binary_from _ _ c.in-Binary.first c.in-Binary.rest _ _ c.in-Binary.is c.deref-in-Binary.ensures c.deref-in-Binary-2.ensures.value)

pub add_expr-returns-in_ok-add-in-NamedBinary : goal.add_expr-returns-in_ok-add-in-NamedBinary
unfolding expr_sites
add_expr-returns-in_ok-add-in-NamedBinary t c = then_adds _ _ c.add_operands-in-NamedBinary.result c.in_ok-add-in-NamedBinary.ensures
    c.add_operands-in-NamedBinary.ensures
    (named_binary_from _ _ c.in-NamedBinary.name c.in-NamedBinary.rest _ c.in-NamedBinary.is c.deref-in-NamedBinary.ensures.value)

pub add_operands-returns : goal.add_operands-returns
add_operands-returns t c =
    each_all (operand_part (as_source c.args.source.now)) c.args.operands.now c.loop-operand.operand-index (omega arith) c.loop-operand.invariant

pub add_expr-returns-in-Number : goal.add_expr-returns-in-Number
unfolding expr_sites expr_view
add_expr-returns-in-Number t c = adds_as (adds_none c.args.found.now.items) (leaf_none _ c.args.expr.now c.in-Number.is)

pub add_expr-returns-in-Number-2 : goal.add_expr-returns-in-Number-2
unfolding expr_sites expr_view
add_expr-returns-in-Number-2 t c = adds_as (adds_none c.args.found.now.items) (leaf_none _ c.args.expr.now c.in-Number.is)

pub add_link-returns-in-Selector : goal.add_link-returns-in-Selector
unfolding link_sites link_view
add_link-returns-in-Selector t c = call_adds _ _ c.add.result c.add.ensures (ap (link_part (as_source c.args.source.now)) (sym c.in-Selector.is))

pub add_link-returns-in-Index : goal.add_link-returns-in-Index
add_link-returns-in-Index t c = call_adds _ _ c.add_expr.result c.add_expr.ensures
    (index_from _ _ c.in-Index.open c.in-Index.index c.in-Index.close _ c.in-Index.is c.deref.ensures)

pub add_link-returns-after-loop-argument : goal.add_link-returns-after-loop-argument
add_link-returns-after-loop-argument t c =
    adds_as (each_all (argument_part (as_source c.args.source.now)) c.deref-argument-items.result.now c.loop-argument.argument-index (omega arith)
    c.loop-argument.invariant)
    (call_from _ _ c.in-Call.open c.in-Call.arguments c.in-Call.close _ c.in-Call.is c.deref-argument-items.ensures.value)

pub add_literal-returns : goal.add_literal-returns
add_literal-returns t c =
    adds_as (adds_then c.in_ok-add_type.ensures (each_all (element_part (as_source c.args.source.now)) c.deref-element-items.result.now
    c.loop-element.element-index (omega arith) c.loop-element.invariant))
    (literal_read _ c.args.literal.now _ c.deref-element-items.ensures.value)

pub add_links-loop-link-preserved : goal.add_links-loop-link-preserved
add_links-loop-link-preserved t c =
    each_step (link_part (as_source c.args.source.now)) c.args.links.now c.loop-link.link-index c.link-item.result (omega arith)
    c.link-item.is c.loop-link.invariant c.in_ok-add_link.ensures

pub add_operands-loop-operand-preserved : goal.add_operands-loop-operand-preserved
add_operands-loop-operand-preserved t c =
    each_step (operand_part (as_source c.args.source.now)) c.args.operands.now c.loop-operand.operand-index c.operand-item.result (omega arith)
    c.operand-item.is c.loop-operand.invariant c.in_ok-add_expr.ensures

pub add_link-loop-argument-preserved : goal.add_link-loop-argument-preserved
add_link-loop-argument-preserved t c =
    each_step (argument_part (as_source c.args.source.now)) c.deref-argument-items.result.now c.loop-argument.argument-index c.argument-item.result
    (omega arith) c.argument-item.is c.loop-argument.invariant c.in_ok-add_expr-in-Call.ensures
