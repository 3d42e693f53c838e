-- The answers to the goals of `expressions::expression`.
use Rattle.std.proofs.Common.{◌∷◌, ◌++◌, [], ◌-◌, ap, sym, ◌∙◌, length, get_or, take_all, option_map, arith, append_assoc}
use Rattle.std.proofs.lemmas.Result.{on_ok_weaker}
use Rattle.go_ast.specs.View.{expr_view, key_view}
use Rattle.go_ast.specs.declared.tree.CompositeLit.{out-CompositeLit}
use Rattle.types_expr.specs.View.{type_of}
use Rattle.build_object.specs.SourceView.{source_of}
use Rattle.types_expr.specs.Lists.{operands_in, arguments_in, elements_in}
use Rattle.build_object.specs.Expressions.{operand_of, operations, argument_lines, keyed_lines, bare_lines, key_position, given_lines}
use Rattle.build_object.specs.Lines.{With, MakeSlice, line_if_known}
use Rattle.build_object.specs.LineView.{line_of}
use Rattle.build_object.specs.Making.{lines_for, mode_of, before_link}
use Rattle.build_object.specs.Operands.{calling, name_operand}
use Rattle.build_object.proofs.Putting.{puts_none, puts_as, puts_then, puts_more}
use Rattle.types_expr.proofs.Equations.{ok_map}
use Rattle.build_object.proofs.Loops.{back_turn, back_end, back_start}
use Rattle.build_object.proofs.Links.{same_item, operations_turn, literal_broken, literal_keyed, literal_bare, goes_nowhere, goes_rule, goes_operate}
use Rattle.build_object.proofs.Going.{puts_on, puts_from, plain_lines, grouped_lines, settled_lines, no_lines, goes_as, goes_behind_as, goes_selector}
use Rattle.build_object.proofs.Going.{goes_index, goes_call, over_none, over_turn, over_end}
use Rattle.build_object.proofs.Trees.{number_here, text_here, name_here, blank_here, composite_here, paren_here, prefix_here, address_here, chain_here}
use Rattle.build_object.proofs.Trees.{named_binary_here, named_chain_here}
use Rattle.build_object.proofs.Trees.{binary_here, selector_here, index_here, call_here, arguments_step, arguments_end, keyed_step, keyed_end, bare_step}
use Rattle.build_object.proofs.Trees.{bare_end, operations_end}
use Rattle.build_object.proofs.expressions.+expression.Goals as goal

pub operand-returns-in-Number : goal.operand-returns-in-Number
operand-returns-in-Number t c = on_ok_weaker c.put_number.result
    (λ q. puts_as (ap (lines_for c.args.want) (number_here (source_of c.args.scope.source.now) c.args.scope.slots.now.places.items _ c.in-Number.is) ∙
    plain_lines c.args.want _) q) c.put_number.ensures

pub operand-returns-in-Text : goal.operand-returns-in-Text
operand-returns-in-Text t c = on_ok_weaker c.put_text.result
    (λ q. puts_as (ap (lines_for c.args.want) (text_here (source_of c.args.scope.source.now) c.args.scope.slots.now.places.items _ c.in-Text.is) ∙
    plain_lines c.args.want _) q) c.put_text.ensures

pub operand-returns-in-Name : goal.operand-returns-in-Name
operand-returns-in-Name t c = on_ok_weaker c.put_name.result
    (λ q. puts_as (ap (lines_for c.args.want) (name_here (source_of c.args.scope.source.now) c.args.scope.slots.now.places.items _ c.in-Name.is)) q)
    c.put_name.ensures

pub operand-returns-in-Blank : goal.operand-returns-in-Blank
operand-returns-in-Blank t c = puts_as (ap (lines_for c.args.want)
    (blank_here (source_of c.args.scope.source.now) c.args.scope.slots.now.places.items _ c.in-Blank.is) ∙ no_lines c.args.want _) (puts_none _)

pub operand-returns-in-Composite : goal.operand-returns-in-Composite
operand-returns-in-Composite t c = on_ok_weaker c.literal.result
    (λ q. puts_as (ap (lines_for c.args.want)
    (composite_here (source_of c.args.scope.source.now) c.args.scope.slots.now.places.items _ c.in-Composite.is _ c.deref.ensures) ∙
    plain_lines c.args.want _) q) c.literal.ensures

pub operand-returns-in-Paren : goal.operand-returns-in-Paren
operand-returns-in-Paren t c = on_ok_weaker c.operand.result
    (λ q. puts_as (ap (lines_for c.args.want)
    (paren_here (source_of c.args.scope.source.now) c.args.scope.slots.now.places.items _ _ _ c.in-Paren.is _ c.deref-in-Paren.ensures) ∙
    grouped_lines c.args.want _) q) c.operand.ensures

pub operand-returns-in_ok-put_prefix-in-Prefix : goal.operand-returns-in_ok-put_prefix-in-Prefix
operand-returns-in_ok-put_prefix-in-Prefix t c = on_ok_weaker c.operand-in-Prefix.result
    (λ q. puts_as (ap (lines_for c.args.want)
    (prefix_here (source_of c.args.scope.source.now) c.args.scope.slots.now.places.items _ _ _ c.in-Prefix.is _ c.deref-in-Prefix.ensures))
    (puts_from c.in_ok-put_prefix-in-Prefix.ensures q)) c.operand-in-Prefix.ensures

pub operand-returns-in_ok-put-in-Address : goal.operand-returns-in_ok-put-in-Address
unfolding line_of
operand-returns-in_ok-put-in-Address t c = on_ok_weaker c.literal-in-Address.result
    (λ q. puts_as (ap (lines_for c.args.want)
    (address_here (source_of c.args.scope.source.now) c.args.scope.slots.now.places.items _ _ c.in-Address.is _ c.deref-in-Address.ensures) ∙
    plain_lines c.args.want _) (puts_then c.in_ok-put-in-Address.ensures q)) c.literal-in-Address.ensures

pub operand-returns-in_ok-want-in-Chain : goal.operand-returns-in_ok-want-in-Chain
operand-returns-in_ok-want-in-Chain t c = on_ok_weaker c.operand-in-Chain.result
    (λ q. puts_as (ap (lines_for c.args.want)
    (chain_here (source_of c.args.scope.source.now) c.args.scope.slots.now.places.items _ _ c.in-Chain.is _ _ c.deref-in-Chain-3.ensures
    c.deref-in-Chain-2.ensures.value) ∙ settled_lines c.args.want _)
    (puts_on (operand_of (source_of c.args.scope.source.now) c.args.scope.slots.now.places.items (expr_view c.deref-in-Chain-3.result.now))
    (ap before_link (ap (λ z. (operand_of (source_of c.args.scope.source.now) c.args.scope.slots.now.places.items (expr_view z)).mode)
    (c.deref-in-Chain-3.ensures ∙ sym c.deref-in-Chain.ensures) ∙ sym c.mode-head.ensures)) c.in_ok-want-in-Chain.ensures q)) c.operand-in-Chain.ensures

pub operand-returns-in_ok-want-in-NamedChain : goal.operand-returns-in_ok-want-in-NamedChain
operand-returns-in_ok-want-in-NamedChain t c = on_ok_weaker c.put_name-in-NamedChain.result
    (λ q. puts_as (ap (lines_for c.args.want)
    (named_chain_here (source_of c.args.scope.source.now) c.args.scope.slots.now.places.items _ _ c.in-NamedChain.is _ c.deref-in-NamedChain.ensures.value) ∙
    settled_lines c.args.want _)
    (puts_on (name_operand (source_of c.args.scope.source.now) c.args.scope.slots.now.places.items c.in-NamedChain.name)
    (ap before_link (sym c.name_mode-head.ensures)) c.in_ok-want-in-NamedChain.ensures q)) c.put_name-in-NamedChain.ensures

pub operand-returns-in_ok-operations-in-Binary : goal.operand-returns-in_ok-operations-in-Binary
operand-returns-in_ok-operations-in-Binary t c = on_ok_weaker c.operand-in-Binary.result
    (λ q. puts_as (ap (lines_for c.args.want)
    (binary_here (source_of c.args.scope.source.now) c.args.scope.slots.now.places.items _ _ c.in-Binary.is _ _ c.deref-in-Binary-2.ensures
    c.deref-in-Binary.ensures.value) ∙ plain_lines c.args.want _)
    (puts_from c.in_ok-operations-in-Binary.ensures q)) c.operand-in-Binary.ensures

pub operand-returns-in_ok-operations-in-NamedBinary : goal.operand-returns-in_ok-operations-in-NamedBinary
operand-returns-in_ok-operations-in-NamedBinary t c = on_ok_weaker c.put_name-in-NamedBinary.result
    (λ q. puts_as (ap (lines_for c.args.want)
    (named_binary_here (source_of c.args.scope.source.now) c.args.scope.slots.now.places.items _ _ c.in-NamedBinary.is _
    c.deref-in-NamedBinary.ensures.value) ∙ plain_lines c.args.want _)
    (puts_from c.in_ok-operations-in-NamedBinary.ensures q)) c.put_name-in-NamedBinary.ensures

pub link-returns-in-Selector : goal.link-returns-in-Selector
link-returns-in-Selector t c = ok_map c.put_selector.result
    (λ w a. goes_as (λ o. selector_here (source_of c.args.scope.source.now) c.args.scope.slots.now.places.items _ _ o c.in-Selector.is)
    (goes_selector (goes_behind_as c.qualifies.ensures a))) c.put_selector.ensures

pub link-returns-in_ok-operand-in-Index : goal.link-returns-in_ok-operand-in-Index
link-returns-in_ok-operand-in-Index t c = goes_as (λ o.
    index_here (source_of c.args.scope.source.now) c.args.scope.slots.now.places.items _ _ _ o c.in-Index.is _ c.deref.ensures)
    (goes_index _ c.args.want c.in_ok-put_index-in-Index.ensures c.in_ok-operand-in-Index.ensures)

pub link-returns-in_ok-arguments-in-Call : goal.link-returns-in_ok-arguments-in-Call
link-returns-in_ok-arguments-in-Call t c = goes_as
    (λ o. call_here (source_of c.args.scope.source.now) c.args.scope.slots.now.places.items _ _ _ o c.in-Call.is _ c.deref-in-Call.ensures.value)
    (goes_call _ _ c.args.want (puts_as
    (ap (λ n. calling n (mode_of c.args.mode)) (ap length c.deref-in-Call.ensures.value ∙ sym (c.len.ensures ∙ c.in-Call.list.ok.0)))
    c.in_ok-put_call-in-Call.ensures) c.in_ok-arguments-in-Call.ensures)

pub chain-loop-i-init : goal.chain-loop-i-init
chain-loop-i-init t c = over_none (source_of c.args.scope.source.now) c.args.scope.slots.now.places.items c.args.links.now _ c.args.head c.args.want
    c.args.code.now (take_all _ c.args.links.now (omega arith))

pub chain-loop-i-preserved : goal.chain-loop-i-preserved
chain-loop-i-preserved t c = over_turn (source_of c.args.scope.source.now) c.args.scope.slots.now.places.items c.args.links.now c.loop-i.i _ c.args.head
    c.mode_before-mode.result c.args.want c.loop-i.want c.in_ok-want.want c.args.code.now c.loop-i.code c.link.new.code (omega arith) (omega arith)
    c.index-links-i.is c.loop-i.invariant c.mode_before-mode.ensures c.in_ok-want.ensures

pub chain-returns : goal.chain-returns
chain-returns t c = over_end (source_of c.args.scope.source.now) c.args.scope.slots.now.places.items c.args.links.now c.loop-i.i c.args.head c.args.want
    c.loop-i.want c.args.code.now c.loop-i.code (omega arith) c.loop-i.invariant

pub given-returns : goal.given-returns
given-returns t c = on_ok_weaker c.operand.result (λ q. puts_then c.in_ok-put_enter.ensures q) c.operand.ensures

pub arguments-loop-i-init : goal.arguments-loop-i-init
arguments-loop-i-init t c = puts_as (ap (λ xs. argument_lines (source_of c.args.scope.source.now) c.args.scope.slots.now.places.items (arguments_in xs))
    (back_start c.args.list.now _ (omega arith)) ∙ arguments_end (source_of c.args.scope.source.now) c.args.scope.slots.now.places.items) (puts_none _)

pub arguments-loop-i-preserved : goal.arguments-loop-i-preserved
arguments-loop-i-preserved t c = back_turn (λ xs. argument_lines (source_of c.args.scope.source.now) c.args.scope.slots.now.places.items (arguments_in xs))
    (λ x. given_lines (source_of c.args.scope.source.now) c.args.scope.slots.now.places.items (expr_view x.value))
    (λ x xs. arguments_step (source_of c.args.scope.source.now) c.args.scope.slots.now.places.items x xs) c.args.list.now _ _ (omega arith) (omega arith)
    (ap (get_or c.args.list.now (c.loop-i.i - 1)) c.index-list-i.is) c.loop-i.invariant c.in_ok-given.ensures

pub arguments-returns : goal.arguments-returns
arguments-returns t c = puts_as (ap (λ xs. argument_lines (source_of c.args.scope.source.now) c.args.scope.slots.now.places.items (arguments_in xs))
    (sym (back_end c.args.list.now c.loop-i.i (omega arith)))) c.loop-i.invariant

pub bare-loop-i-init : goal.bare-loop-i-init
bare-loop-i-init t c = puts_as (ap (λ xs. bare_lines (source_of c.args.scope.source.now) c.args.scope.slots.now.places.items (elements_in xs))
    (back_start c.args.list.now _ (omega arith)) ∙ bare_end (source_of c.args.scope.source.now) c.args.scope.slots.now.places.items) (puts_none _)

pub bare-loop-i-preserved : goal.bare-loop-i-preserved
bare-loop-i-preserved t c = back_turn (λ xs. bare_lines (source_of c.args.scope.source.now) c.args.scope.slots.now.places.items (elements_in xs))
    (λ x. given_lines (source_of c.args.scope.source.now) c.args.scope.slots.now.places.items (expr_view x.value))
    (λ x xs. bare_step (source_of c.args.scope.source.now) c.args.scope.slots.now.places.items x xs) c.args.list.now _ _ (omega arith) (omega arith)
    (ap (get_or c.args.list.now (c.loop-i.i - 1)) c.index-list-i.is) c.loop-i.invariant c.in_ok-given.ensures

pub bare-returns : goal.bare-returns
bare-returns t c = puts_as (ap (λ xs. bare_lines (source_of c.args.scope.source.now) c.args.scope.slots.now.places.items (elements_in xs))
    (sym (back_end c.args.list.now c.loop-i.i (omega arith)))) c.loop-i.invariant

pub keyed-loop-i-init : goal.keyed-loop-i-init
keyed-loop-i-init t c = puts_as (ap (λ xs. keyed_lines (source_of c.args.scope.source.now) c.args.scope.slots.now.places.items (elements_in xs))
    (back_start c.args.list.now _ (omega arith)) ∙ keyed_end (source_of c.args.scope.source.now) c.args.scope.slots.now.places.items) (puts_none _)

pub keyed-loop-i-preserved : goal.keyed-loop-i-preserved
keyed-loop-i-preserved t c = back_turn (λ xs. keyed_lines (source_of c.args.scope.source.now) c.args.scope.slots.now.places.items (elements_in xs))
    (λ x. given_lines (source_of c.args.scope.source.now) c.args.scope.slots.now.places.items (expr_view x.value) ++ line_if_known With
    (key_position (source_of c.args.scope.source.now) (key_view x.key)))
    (λ x xs. keyed_step (source_of c.args.scope.source.now) c.args.scope.slots.now.places.items x xs ∙
    sym (append_assoc (given_lines (source_of c.args.scope.source.now) c.args.scope.slots.now.places.items (expr_view x.value))
    (line_if_known With (key_position (source_of c.args.scope.source.now) (key_view x.key)))
    (keyed_lines (source_of c.args.scope.source.now) c.args.scope.slots.now.places.items (elements_in xs)))) c.args.list.now _ _ (omega arith)
    (omega arith) (ap (get_or c.args.list.now (c.loop-i.i - 1)) c.index-list-i.is) c.loop-i.invariant
    (puts_then c.in_ok-put_key.ensures
    (puts_as (ap (λ x. given_lines (source_of c.args.scope.source.now) c.args.scope.slots.now.places.items (expr_view x.value))
    (same_item c.args.list.now (c.loop-i.i - 1) c.index-list-i.result c.index-list-i-in-loop-i.result (omega arith))) c.in_ok-given.ensures))

pub keyed-returns : goal.keyed-returns
keyed-returns t c = puts_as (ap (λ xs. keyed_lines (source_of c.args.scope.source.now) c.args.scope.slots.now.places.items (elements_in xs))
    (sym (back_end c.args.list.now c.loop-i.i (omega arith)))) c.loop-i.invariant

pub operations-loop-i-init : goal.operations-loop-i-init
operations-loop-i-init t c = goes_nowhere _ (λ a. ap
    (λ xs. operations (source_of c.args.scope.source.now) c.args.scope.slots.now.places.items a (operands_in xs))
    (back_start c.args.rest.now _ (omega arith)) ∙ operations_end (source_of c.args.scope.source.now) c.args.scope.slots.now.places.items a)

pub operations-loop-i-preserved : goal.operations-loop-i-preserved
operations-loop-i-preserved t c = operations_turn (source_of c.args.scope.source.now) c.args.scope.slots.now.places.items c.args.rest.now c.loop-i.i _
    (omega arith) (omega arith) c.index-rest-i.is c.loop-i.invariant c.in_ok-operation.ensures

pub operations-returns : goal.operations-returns
operations-returns t c = goes_rule (λ a. ap (λ xs. operations (source_of c.args.scope.source.now) c.args.scope.slots.now.places.items a (operands_in xs))
    (sym (back_end c.args.rest.now c.loop-i.i (omega arith)))) c.loop-i.invariant

pub operation-returns-in_ok-put-in_default : goal.operation-returns-in_ok-put-in_default
unfolding line_of
operation-returns-in_ok-put-in_default t c = on_ok_weaker c.operand-in_default.result
    (λ q. goes_operate c.args.next.now.op c.in_default.not-And c.in_default.not-Or c.in_ok-put-in_default.ensures q) c.operand-in_default.ensures

pub literal-returns-in_default : goal.literal-returns-in_default
literal-returns-in_default t c = puts_as (literal_broken (source_of c.args.scope.source.now) c.args.scope.slots.now.places.items c.args.lit.now
    (sym c.in_ok-own.ensures ∙ ap (option_map type_of) c.in_default.is)) (puts_none _)

pub literal-returns-then-is_struct : goal.literal-returns-then-is_struct
unfolding line_of
literal-returns-then-is_struct t c = on_ok_weaker c.put.result
    (λ q. puts_as (literal_keyed (source_of c.args.scope.source.now) c.args.scope.slots.now.places.items c.args.lit.now (type_of c.in-Some.own)
    (sym c.in_ok-own.ensures ∙ ap (option_map type_of) c.in-Some.is) c.if-is_struct.ensures)
    (puts_more (puts_as (ap (λ xs. keyed_lines (source_of c.args.scope.source.now) c.args.scope.slots.now.places.items (elements_in xs))
    (sym c.deref.ensures.value)) c.in_ok-keyed.ensures) q)) c.put.ensures

pub literal-returns : goal.literal-returns
unfolding line_of
literal-returns t c = on_ok_weaker c.bare.result (λ q.
    puts_as (literal_bare (source_of c.args.scope.source.now) c.args.scope.slots.now.places.items c.args.lit.now (type_of c.in-Some.own)
    (sym c.in_ok-own.ensures ∙ ap (option_map type_of) c.in-Some.is) c.if-is_struct.ensures)
    (puts_then (puts_as (ap (λ n. MakeSlice n ∷ []) (sym (c.len.ensures ∙ (out-CompositeLit c.args.lit.now).elements.ok.0))) c.in_ok-put.ensures)
    (puts_as (ap (λ xs. bare_lines (source_of c.args.scope.source.now) c.args.scope.slots.now.places.items (elements_in xs))
    (sym c.deref-2.ensures.value)) q))) c.bare.ensures
