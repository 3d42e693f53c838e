-- The answers to the goals of `judge::judging`.
use Rattle.std.proofs.Math.ListN.{drop_of_length-le}
use Rattle.std.proofs.lemmas.List.{map-append}
use Rattle.std.proofs.Common.{◌≡◌, ◌+◌, List, map, option_map, drop, ap, sym, ◌∙◌, refl, subst, true, false}
use Rattle.go_ast.specs.Tree.{no_link}
use Rattle.go_ast.specs.View.{expr_view, link_view, key_view, type_view}
use Rattle.go_ast.specs.declared.tree.CompositeLit.{out-CompositeLit}
use Rattle.types_expr.specs.Judge.{ListValue, followed, as_value, judge, judge_value, judge_link, judge_links, judge_operands, judge_arguments, judge_elements}
use Rattle.types_expr.specs.Judge.{index_of, JudgedElements, judge_type, with_element, element_key, call_of, operation, prefix_of, address_of, means, none_seen}
use Rattle.types_expr.specs.Places.{place_of}
use Rattle.types_expr.specs.World.{name_meaning}
use Rattle.types_expr.specs.View.{type_of, kind_of}
use Rattle.types_expr.specs.WorldView.{world_of}
use Rattle.types_expr.specs.Lists.{links_in, operands_in, arguments_in, elements_in}
use Rattle.types_expr.specs.Found.{meaning_of, locals_of, list_value, seen_of}
use Rattle.types_expr.proofs.Items.{next_item}
use Rattle.types_expr.proofs.AddedJudgements.{ReachedList, reached_list_end, argued_at, reached_start}
use Rattle.types_expr.proofs.AddedJudgements.{reached_step, reached_end, reached_list_start, reached_list_step}
use Rattle.types_expr.proofs.AddedJudgements.{adds_then, adds_meaning, adds_values}
use Rattle.types_expr.proofs.AddedJudgements.{ReachedElements, reached_elements_start, reached_element, reached_elements_end}
use Rattle.types_expr.proofs.AddedJudgements.{reached_elements_as, adds_literal}
use Rattle.types_expr.proofs.Equations.{ok_map, adds_as, list_as, number_judged, text_judged, name_judged, blank_judged, composite_judged, paren_judged}
use Rattle.types_expr.proofs.Equations.{prefix_judged, address_judged, chain_found, binary_found, selector_judged, index_judged, call_judged, links_step}
use Rattle.types_expr.proofs.Equations.{links_end, operands_step, operands_end, arguments_step, arguments_end, elements_step, elements_end, literal_found}
use Rattle.types_expr.proofs.Equations.{named_binary_found, named_chain_found}
use Rattle.types_expr.proofs.judge.+judging.Goals as goal

pub arguments-loop-argument-init : goal.arguments-loop-argument-init
arguments-loop-argument-init t c = subst (λ (vs : List ListValue).
    ReachedList (judge_arguments (world_of c.args.scope.world.now) (locals_of c.args.scope.locals.now) (arguments_in c.args.list.now))
    (judge_arguments (world_of c.args.scope.world.now) (locals_of c.args.scope.locals.now) (arguments_in c.args.list.now)) c.args.found.now c.args.found.now
    vs) (ap (map list_value) (sym c.new-values.ensures.items)) (reached_list_start _)

pub arguments-loop-argument-preserved : goal.arguments-loop-argument-preserved
arguments-loop-argument-preserved t c =
    subst (λ (vs : List ListValue). ReachedList (judge_arguments (world_of c.args.scope.world.now) (locals_of c.args.scope.locals.now)
    (arguments_in c.args.list.now))
    (judge_arguments (world_of c.args.scope.world.now) (locals_of c.args.scope.locals.now)
    (arguments_in (drop (c.loop-argument.argument-index + 1) c.args.list.now))) c.args.found.now c.judge_value.new.found vs)
    (sym (ap (map list_value) c.in_ok-push.ensures.items ∙ map-append list_value c.loop-argument.values.items _))
    (reached_list_step _ (judge_value (world_of c.args.scope.world.now) (locals_of c.args.scope.locals.now) (expr_view c.argument-item.result.value))
    (record { place = c.place_of-place.result; kind = option_map kind_of c.into_kind-kind.result })
    c.loop-argument.invariant c.in_ok-judge_value.ensures (argued_at c.place_of-place.ensures c.into_kind-kind.ensures)
    (ap (λ xs. judge_arguments (world_of c.args.scope.world.now) (locals_of c.args.scope.locals.now) (arguments_in xs))
    (next_item _ _ _ c.loop-argument-test.true c.argument-item.is) ∙
    arguments_step (world_of c.args.scope.world.now) (locals_of c.args.scope.locals.now) c.argument-item.result _))

pub arguments-returns : goal.arguments-returns
arguments-returns t c = reached_list_end c.loop-argument.invariant
    (ap (λ xs. judge_arguments (world_of c.args.scope.world.now) (locals_of c.args.scope.locals.now) (arguments_in xs))
    (drop_of_length-le _ c.loop-argument-test.false) ∙ arguments_end (world_of c.args.scope.world.now) (locals_of c.args.scope.locals.now))

pub binary-loop-operand-preserved : goal.binary-loop-operand-preserved
binary-loop-operand-preserved t c = λ j before a.
    reached_step _ (λ k. judge_operands (world_of c.args.scope.world.now) (locals_of c.args.scope.locals.now) c.args.start k
    (operands_in (drop (c.loop-operand.operand-index + 1) c.args.rest.now)))
    (λ m. followed (judge_value (world_of c.args.scope.world.now) (locals_of c.args.scope.locals.now) (expr_view c.operand-item.result.value))
    (operation (world_of c.args.scope.world.now) c.operand-item.result.op c.args.start m))
    (c.loop-operand.invariant j before a)
    (adds_then (λ x. operation (world_of c.args.scope.world.now) c.operand-item.result.op c.args.start (meaning_of c.loop-operand.meaning) x)
    c.in_ok-right.ensures c.in_ok-meaning.ensures)
    (λ k. ap (λ xs. judge_operands (world_of c.args.scope.world.now) (locals_of c.args.scope.locals.now) c.args.start k (operands_in xs))
    (next_item _ _ _ c.loop-operand-test.true c.operand-item.is) ∙
    operands_step (world_of c.args.scope.world.now) (locals_of c.args.scope.locals.now) c.args.start k c.operand-item.result _)

pub binary-returns : goal.binary-returns
binary-returns t c = record {
  after = λ j before a.
      reached_end _ (c.loop-operand.invariant j before a)
      (λ k. ap (λ xs. judge_operands (world_of c.args.scope.world.now) (locals_of c.args.scope.locals.now) c.args.start k (operands_in xs))
      (drop_of_length-le _ c.loop-operand-test.false) ∙ operands_end (world_of c.args.scope.world.now) (locals_of c.args.scope.locals.now) c.args.start k);
}

pub chain-loop-next-preserved : goal.chain-loop-next-preserved
chain-loop-next-preserved t c = λ j before a.
    reached_step _ (λ k. judge_links (world_of c.args.scope.world.now) (locals_of c.args.scope.locals.now) c.args.at.start c.place_after_link-place.result k
    (links_in (drop (c.loop-next.next-index + 1) c.args.links.now)))
    (λ m. judge_link (world_of c.args.scope.world.now) (locals_of c.args.scope.locals.now) c.args.at.start c.loop-next.place
    (link_view c.next-item.result no_link) m)
    (c.loop-next.invariant j before a) c.in_ok-meaning.ensures
    (λ k. ap (λ xs. judge_links (world_of c.args.scope.world.now) (locals_of c.args.scope.locals.now) c.args.at.start c.loop-next.place k (links_in xs))
    (next_item _ _ _ c.loop-next-test.true c.next-item.is)
    ∙ (links_step (world_of c.args.scope.world.now) (locals_of c.args.scope.locals.now) c.args.at.start c.loop-next.place k c.next-item.result _
    ∙ ap (λ p. judge_links (world_of c.args.scope.world.now) (locals_of c.args.scope.locals.now) c.args.at.start p
    (followed k (judge_link (world_of c.args.scope.world.now) (locals_of c.args.scope.locals.now) c.args.at.start c.loop-next.place
    (link_view c.next-item.result no_link))) (links_in (drop (c.loop-next.next-index + 1) c.args.links.now))) (sym c.place_after_link-place.ensures)))

pub chain-returns : goal.chain-returns
chain-returns t c = record {
  after = λ j before a.
      reached_end _ (c.loop-next.invariant j before a) (λ k.
      ap (λ xs. judge_links (world_of c.args.scope.world.now) (locals_of c.args.scope.locals.now) c.args.at.start c.loop-next.place k (links_in xs))
      (drop_of_length-le _ c.loop-next-test.false) ∙
      links_end (world_of c.args.scope.world.now) (locals_of c.args.scope.locals.now) c.args.at.start c.loop-next.place k);
}

pub elements-returns : goal.elements-returns
elements-returns t c = reached_elements_end c.loop-element.invariant
    (ap (λ xs. judge_elements (world_of c.args.scope.world.now) (locals_of c.args.scope.locals.now) (option_map type_of c.args.own.now)
    (seen_of c.loop-element.seen) (elements_in xs)) (drop_of_length-le _ c.loop-element-test.false) ∙
    elements_end (world_of c.args.scope.world.now) (locals_of c.args.scope.locals.now) (option_map type_of c.args.own.now) (seen_of c.loop-element.seen))

pub judge-returns-in-Name : goal.judge-returns-in-Name
judge-returns-in-Name t c = ok_map c.name_meaning.result
    (λ m e. adds_as (name_judged (world_of c.args.scope.world.now) (locals_of c.args.scope.locals.now) _ c.in-Name.is) (adds_meaning _ e))
    c.name_meaning.ensures

pub judge-returns-in-Composite : goal.judge-returns-in-Composite
judge-returns-in-Composite t c = ok_map c.literal.result
    (λ m a. adds_as (composite_judged (world_of c.args.scope.world.now) (locals_of c.args.scope.locals.now) _ c.in-Composite.is _ c.deref.ensures) a)
    c.literal.ensures

pub judge-returns-in-Paren : goal.judge-returns-in-Paren
judge-returns-in-Paren t c = ok_map c.judge_value.result
    (λ m a. adds_as (paren_judged (world_of c.args.scope.world.now) (locals_of c.args.scope.locals.now) _ _ _ c.in-Paren.is _ c.deref-in-Paren.ensures) a)
    c.judge_value.ensures

pub judge-returns-in_ok-meaning-in-Prefix : goal.judge-returns-in_ok-meaning-in-Prefix
judge-returns-in_ok-meaning-in-Prefix t c = ok_map c.prefix.result
    (λ m a. adds_as (prefix_judged (world_of c.args.scope.world.now) (locals_of c.args.scope.locals.now) _ _ _ c.in-Prefix.is _ c.deref-in-Prefix.ensures)
    (adds_then (prefix_of (world_of c.args.scope.world.now) _ _) c.in_ok-meaning-in-Prefix.ensures a)) c.prefix.ensures

pub judge_link-returns-in-Selector : goal.judge_link-returns-in-Selector
judge_link-returns-in-Selector t c = ok_map c.select.result
    (λ m a. adds_as (selector_judged (world_of c.args.scope.world.now) (locals_of c.args.scope.locals.now) _ _ _ _ _ c.in-Selector.is) a) c.select.ensures

pub judge_link-returns-in_ok-values-in-Call : goal.judge_link-returns-in_ok-values-in-Call
judge_link-returns-in_ok-values-in-Call t c = ok_map c.call.result
    (λ m a. adds_as (call_judged (world_of c.args.scope.world.now) (locals_of c.args.scope.locals.now) _ _ _ _ _ _ c.in-Call.is _ c.deref-in-Call.ensures.value)
    (adds_values (λ vs. call_of (world_of c.args.scope.world.now) c.args.at.start c.args.at.place vs (meaning_of c.args.meaning))
    (list_as refl (ap (map list_value) c.deref-in-Call-2.ensures.value) c.in_ok-values-in-Call.ensures) a)) c.call.ensures

pub judge-returns-in_ok-meaning-in-Chain : goal.judge-returns-in_ok-meaning-in-Chain
judge-returns-in_ok-meaning-in-Chain t c =
    let e : judge (world_of c.args.scope.world.now) (locals_of c.args.scope.locals.now) (expr_view c.args.e.now) ≡ judge_links
    (world_of c.args.scope.world.now) (locals_of c.args.scope.locals.now) c.first_token-start.result c.place_of-place.result
    (judge (world_of c.args.scope.world.now) (locals_of c.args.scope.locals.now) (expr_view c.deref-in-Chain.result.now))
    (links_in c.deref-in-Chain-4.result.now) =
    chain_found (world_of c.args.scope.world.now) (locals_of c.args.scope.locals.now) _ _ c.in-Chain.is _ c.deref-in-Chain-2.result.now
    c.deref-in-Chain-3.result.now _ c.deref-in-Chain.ensures c.deref-in-Chain-2.ensures c.deref-in-Chain-3.ensures c.deref-in-Chain-4.ensures.value _ _
    c.first_token-start.ensures c.place_of-place.ensures in
    ok_map c.chain.result (λ m a. adds_as e (a.after _ _ c.in_ok-meaning-in-Chain.ensures)) c.chain.ensures

pub judge-returns-in_ok-meaning-in-NamedChain : goal.judge-returns-in_ok-meaning-in-NamedChain
judge-returns-in_ok-meaning-in-NamedChain t c =
    let w = world_of c.args.scope.world.now in
    let ls = locals_of c.args.scope.locals.now in
    let n = c.in-NamedChain.name in
    let e : judge w ls (expr_view c.args.e.now) ≡ judge_links w ls n n (means (name_meaning w ls n)) (links_in c.deref-in-NamedChain.result.now) =
    named_chain_found w ls n c.in-NamedChain.links c.in-NamedChain.is _ c.deref-in-NamedChain.ensures.value in
    ok_map c.chain-in-NamedChain.result (λ m a. adds_as e (a.after _ _ (adds_meaning c.args.found.now c.in_ok-meaning-in-NamedChain.ensures)))
    c.chain-in-NamedChain.ensures

pub judge-returns-in_ok-meaning-in-Binary : goal.judge-returns-in_ok-meaning-in-Binary
judge-returns-in_ok-meaning-in-Binary t c =
    let e : judge (world_of c.args.scope.world.now) (locals_of c.args.scope.locals.now) (expr_view c.args.e.now) ≡ judge_operands
    (world_of c.args.scope.world.now) (locals_of c.args.scope.locals.now) c.first_token.result
    (judge_value (world_of c.args.scope.world.now) (locals_of c.args.scope.locals.now) (expr_view c.deref-in-Binary.result.now))
    (operands_in c.deref-in-Binary-3.result.now) =
    binary_found (world_of c.args.scope.world.now) (locals_of c.args.scope.locals.now) _ _ c.in-Binary.is _ c.deref-in-Binary-2.result.now _
    c.deref-in-Binary.ensures c.deref-in-Binary-2.ensures c.deref-in-Binary-3.ensures.value _ c.first_token.ensures in
    ok_map c.binary.result (λ m a. adds_as e (a.after _ _ c.in_ok-meaning-in-Binary.ensures)) c.binary.ensures

pub judge-returns-in_ok-meaning-in-NamedBinary : goal.judge-returns-in_ok-meaning-in-NamedBinary
judge-returns-in_ok-meaning-in-NamedBinary t c =
    let w = world_of c.args.scope.world.now in
    let ls = locals_of c.args.scope.locals.now in
    let n = c.in-NamedBinary.name in
    let e : judge w ls (expr_view c.args.e.now) ≡ judge_operands w ls n (followed (means (name_meaning w ls n)) (as_value n))
    (operands_in c.deref-in-NamedBinary.result.now) =
    named_binary_found w ls n c.in-NamedBinary.rest c.in-NamedBinary.is _ c.deref-in-NamedBinary.ensures.value in
    ok_map c.binary-in-NamedBinary.result (λ m a. adds_as e (a.after _ _
    (adds_then (as_value n) (adds_meaning c.args.found.now c.in_ok-own-in-NamedBinary.ensures) c.in_ok-meaning-in-NamedBinary.ensures)))
    c.binary-in-NamedBinary.ensures

pub elements-loop-element-preserved : goal.elements-loop-element-preserved
elements-loop-element-preserved t c =
    reached_elements_as c.with-elements.ensures.whole c.with-elements.ensures.unkeyed
    (reached_element (world_of c.args.scope.world.now)
    (element_key (world_of c.args.scope.world.now) (option_map type_of c.args.own.now) (seen_of c.loop-element.seen)
    (key_view c.element-item.result.key)) (place_of (expr_view c.element-item.result.value)) c.place_of-place.result
    (judge_value (world_of c.args.scope.world.now) (locals_of c.args.scope.locals.now) (expr_view c.element-item.result.value))
    (option_map kind_of c.into_kind-kind.result) (option_map (λ t. type_of t.now) c.in_ok-key.key.wanted)
    c.loop-element.invariant c.in_ok-key.key c.in_ok-key.ensures.key c.in_ok-judge_value.ensures c.in_ok-fits.ensures c.place_of-place.ensures
    c.into_kind-kind.ensures refl refl refl
    (ap (λ xs. judge_elements (world_of c.args.scope.world.now) (locals_of c.args.scope.locals.now) (option_map type_of c.args.own.now)
    (seen_of c.loop-element.seen) (elements_in xs)) (next_item _ _ _ c.loop-element-test.true c.element-item.is)
    ∙ (elements_step (world_of c.args.scope.world.now) (locals_of c.args.scope.locals.now) (option_map type_of c.args.own.now) (seen_of c.loop-element.seen)
    c.element-item.result _
    ∙ ap (λ s. with_element (world_of c.args.scope.world.now)
    (element_key (world_of c.args.scope.world.now) (option_map type_of c.args.own.now) (seen_of c.loop-element.seen)
    (key_view c.element-item.result.key)) (place_of (expr_view c.element-item.result.value))
    (judge_value (world_of c.args.scope.world.now) (locals_of c.args.scope.locals.now) (expr_view c.element-item.result.value))
    (judge_elements (world_of c.args.scope.world.now) (locals_of c.args.scope.locals.now) (option_map type_of c.args.own.now) s
    (elements_in (drop (c.loop-element.element-index + 1) c.args.list.now)))) (sym c.in_ok-key.ensures.seen))))

pub elements-loop-element-init : goal.elements-loop-element-init
elements-loop-element-init t c =
    subst (λ (r : JudgedElements). ReachedElements (judge_elements (world_of c.args.scope.world.now) (locals_of c.args.scope.locals.now)
    (option_map type_of c.args.own.now) none_seen (elements_in c.args.list.now)) r c.args.found.now c.args.found.now true false)
    (ap (λ s. judge_elements (world_of c.args.scope.world.now) (locals_of c.args.scope.locals.now) (option_map type_of c.args.own.now) s
    (elements_in c.args.list.now)) (sym c.new-seen.ensures)) (reached_elements_start _)

pub judge-returns-in-Number : goal.judge-returns-in-Number
unfolding kind_of
judge-returns-in-Number t c = adds_as (number_judged (world_of c.args.scope.world.now) (locals_of c.args.scope.locals.now) _ c.in-Number.is)
    (adds_meaning _ c.value.ensures)

pub judge-returns-in-Text : goal.judge-returns-in-Text
unfolding kind_of
judge-returns-in-Text t c = adds_as (text_judged (world_of c.args.scope.world.now) (locals_of c.args.scope.locals.now) _ c.in-Text.is)
    (adds_meaning _ c.value-in-Text.ensures)

pub judge-returns-in-Blank : goal.judge-returns-in-Blank
unfolding meaning_of
judge-returns-in-Blank t c = adds_as (blank_judged (world_of c.args.scope.world.now) (locals_of c.args.scope.locals.now) _ c.in-Blank.is) (adds_meaning _ refl)

pub judge-returns-in_ok-meaning-in-Address : goal.judge-returns-in_ok-meaning-in-Address
judge-returns-in_ok-meaning-in-Address t c = ok_map c.into_address.result
    (λ m e. adds_as (address_judged (world_of c.args.scope.world.now) (locals_of c.args.scope.locals.now) _ _ c.in-Address.is _ c.deref-in-Address.ensures)
    (adds_then address_of c.in_ok-meaning-in-Address.ensures (adds_as (sym e) (adds_meaning _ refl)))) c.into_address.ensures

pub judge_link-returns-in_ok-value-in-Index : goal.judge_link-returns-in_ok-value-in-Index
judge_link-returns-in_ok-value-in-Index t c =
    let inside = expr_view c.deref.result.now in
    let stands = c.place_of-place.ensures ∙ ap (λ e. place_of (expr_view e)) (c.deref-in-Index.ensures ∙ sym c.deref.ensures) in
    ok_map c.index.result
    (λ m a. adds_as (index_judged (world_of c.args.scope.world.now) (locals_of c.args.scope.locals.now) _ _ _ _ _ _ c.in-Index.is _ c.deref.ensures)
    (adds_then (λ s. followed (judge_value (world_of c.args.scope.world.now) (locals_of c.args.scope.locals.now) inside)
    (index_of (world_of c.args.scope.world.now) c.args.at.start (place_of inside) s)) c.in_ok-operand-in-Index.ensures
    (adds_then (index_of (world_of c.args.scope.world.now) c.args.at.start (place_of inside)
    (meaning_of c.in_ok-operand-in-Index.operand)) c.in_ok-value-in-Index.ensures
    (adds_as (ap (λ p. index_of (world_of c.args.scope.world.now) c.args.at.start p (meaning_of c.in_ok-operand-in-Index.operand)
    (meaning_of c.in_ok-value-in-Index.value)) (sym stands)) a)))) c.index.ensures

pub literal-returns : goal.literal-returns
literal-returns t c = ok_map c.literal_meaning.result
    (λ m a. adds_as (literal_found (world_of c.args.scope.world.now) (locals_of c.args.scope.locals.now) c.args.lit.now c.first_of_type-start.result
    c.deref.result.now c.first_of_type-start.ensures c.deref.ensures.value)
    (adds_literal (world_of c.args.scope.world.now) c.first_of_type-start.result
    (judge_type (world_of c.args.scope.world.now) (type_view (out-CompositeLit c.args.lit.now).literal_type))
    (λ own. judge_elements (world_of c.args.scope.world.now) (locals_of c.args.scope.locals.now) own none_seen (elements_in c.deref.result.now))
    c.in_ok-own.ensures c.in_ok-elements.ensures a)) c.literal_meaning.ensures

pub judge_value-returns : goal.judge_value-returns
judge_value-returns t c = ok_map c.as_value.result (λ m a. adds_then (as_value (place_of (expr_view c.args.e.now))) c.in_ok-meaning.ensures
    (adds_as (ap (λ p. as_value p (meaning_of c.in_ok-meaning.meaning)) (sym c.place_of.ensures)) a)) c.as_value.ensures

pub chain-loop-next-init : goal.chain-loop-next-init
chain-loop-next-init t c = λ j before a. reached_start (λ k. judge_links (world_of c.args.scope.world.now) (locals_of c.args.scope.locals.now)
    c.args.at.start c.args.at.place k (links_in c.args.links.now)) a

pub binary-loop-operand-init : goal.binary-loop-operand-init
binary-loop-operand-init t c = λ j before a. reached_start (λ k. judge_operands (world_of c.args.scope.world.now) (locals_of c.args.scope.locals.now)
    c.args.start k (operands_in c.args.rest.now)) a
