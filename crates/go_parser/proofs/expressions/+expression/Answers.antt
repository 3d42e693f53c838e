-- The answers to the goals of `expressions::expression`.
use Rattle.std.proofs.Common.{subst, length, vec_len, ◌∷◌, ◌++◌, ◌<◌, [], ap, sym, ◌∙◌, refl, append-nil, false, true, arith}
use Rattle.std.proofs.lemmas.List.{nil_from_length}
use Rattle.std.proofs.lemmas.Bool.{eqb-true}
use Rattle.go_ast.specs.declared.syntax.Kind.TheVariants as kind
use Rattle.go_ast.specs.Grammar.{A, Close, Binaries, Links, Elements, ElementList, MoreElements, Arguments, MoreArguments}
use Rattle.go_parser.specs.Machine.{first, later, last}
use Rattle.go_parser.specs.Parsing.{list_rest}
use Rattle.go_ast.specs.Flatten.{sign, binary_kind, prefix_kind, all_tokens, expr_tokens, type_tokens}
use Rattle.go_ast.specs.View.{expr_view, literal_view}
use Rattle.go_ast.specs.WellFormed.{IsExpr, IsExprIn, IsLiteral, strength_of}
use Rattle.go_parser.specs.Grouping.{Each, IsLink, IsUnary, IsOperand, IsOperandOf, is_slice, is_literal_type, literal_type_of}
use Rattle.go_ast.specs.declared.tree.Element.{Element}
use Rattle.go_ast.specs.declared.tree.ExprItem.{ExprItem}
use Rattle.go_parser.proofs.Grouping.{so_far_none, so_far_push, each_push, composite_grouped, name_grouped, prefix_grouped, address_grouped, paren_grouped}
use Rattle.go_parser.proofs.Grouping.{literal_wf, literal_typed, selector_wf, index_wf, call_wf}
use Rattle.go_parser.proofs.Grouping.{IsSeparatedSoFar, named_not_in_header, not_zero, operator_strength, unary_strength, push_some}
use Rattle.go_parser.specs.Spelling.{expr_spelled, literal_spelled, link_spelled, operand_spelled, expr_item_spelled, element_spelled}
use Rattle.go_parser.proofs.MachineSteps.{exits, fails_first, fails_later, fails_rule, fails_leads, fails_more, fails_after, read_then, read_rule}
use Rattle.go_parser.proofs.MachineSteps.{read_to_close, read_as, read_on, read_led, read_through, leads_here, leads_then, leads_close, leads_rule, leads_on}
use Rattle.go_parser.proofs.MachineSteps.{leads_as, leads_after, leads_to_end, tail_rule, tail_on, tail_through, continued_by}
use Rattle.go_parser.proofs.MachineSteps.{leads_first, continued_here, continued_led, tail_continued, tail_led}
use Rattle.go_parser.proofs.Lists.{list_separated, list_ends, leads_rest}
use Rattle.go_parser.proofs.Passages.{unary_literal, unary_name, address_name, address_slice, element_key, element_value}
use Rattle.go_parser.proofs.Lengths.{some_here, expr_some, element_some, read_no_longer, read_shorter, leads_no_longer, leads_shorter, separator_no_longer}
use Rattle.go_parser.proofs.Strengths.{some_operator, strength_at_most, as_expression}
use Rattle.go_parser.specs.Strength.{strength_at}
use Rattle.go_parser.proofs.Spelled.{all_tokens_push, no_tokens, none_tokens, name_tokens, composite_tokens, address_tokens, paren_tokens, prefix_tokens}
use Rattle.go_parser.proofs.Spelled.{selector_tokens, index_tokens, call_tokens, literal_row_tokens}
use Rattle.go_parser.proofs.expressions.+expression.Goals as goal

pub addressed-returns-in_err-literal_type-clause-exact : goal.addressed-returns-in_err-literal_type-clause-exact
addressed-returns-in_err-literal_type-clause-exact t c = exits _ _ _ _ c.in_err-literal_type.field-0.0 c.from_residual.result c.from_residual.ensures.1
    (fails_leads (address_name c.args.header c.args.depth c.args.tokens.now (sym c.type_is_named.ensures ∙ c.if-type_is_named.true))
    (fails_more (A Elements ∷ []) c.in_err-literal_type.ensures.exact))

pub addressed-returns-then-type_is_named-clause-exact : goal.addressed-returns-then-type_is_named-clause-exact
addressed-returns-then-type_is_named-clause-exact t c =
    tail_through _ _ _ c.literal.result (address_name c.args.header c.args.depth c.args.tokens.now (sym c.type_is_named.ensures ∙ c.if-type_is_named.true))
    (tail_on (A Elements ∷ []) _ _ _ c.literal.result c.in_ok-literal_type.ensures.exact c.literal.ensures.exact)

pub addressed-returns-in_err-literal_type-2-clause-exact : goal.addressed-returns-in_err-literal_type-2-clause-exact
addressed-returns-in_err-literal_type-2-clause-exact t c =
    exits _ _ _ _ c.in_err-literal_type-2.field-0.0 c.from_residual-in_err-literal_type-2.result c.from_residual-in_err-literal_type-2.ensures.1
    (fails_rule (address_slice c.args.header c.args.tokens.now (sym c.type_is_named.ensures ∙ c.if-type_is_named.false))
    (fails_more (A Elements ∷ []) c.in_err-literal_type-2.ensures.exact))

pub addressed-returns-clause-exact : goal.addressed-returns-clause-exact
addressed-returns-clause-exact t c = tail_rule _ _ _ _ _ _ c.literal-2.result
    (address_slice c.args.header c.args.tokens.now (sym c.type_is_named.ensures ∙ c.if-type_is_named.false))
    (tail_on (A Elements ∷ []) _ _ _ c.literal-2.result c.in_ok-literal_type-2.ensures.exact c.literal-2.ensures.exact)

pub expression-returns-clause-exact : goal.expression-returns-clause-exact
expression-returns-clause-exact t c = as_expression c.args.header _ _ _ _ c.binary.result c.binary.ensures.exact c.binary.ensures.ends

pub binary-returns-in_err-first-clause-exact : goal.binary-returns-in_err-first-clause-exact
binary-returns-in_err-first-clause-exact t c = exits _ _ _ _ c.in_err-first.field-0.0 c.from_residual.result c.from_residual.ensures.1
    (fails_first c.in_err-first.ensures.exact)

pub binary-returns-then-strength_at-strength-clause-exact : goal.binary-returns-then-strength_at-strength-clause-exact
binary-returns-then-strength_at-strength-clause-exact t c = leads_first c.in_ok-first.ensures.exact

pub binary-returns-then-strength_at-strength-clause-strong : goal.binary-returns-then-strength_at-strength-clause-strong
binary-returns-then-strength_at-strength-clause-strong t c = omega (arith, unary_strength c.args.header _ c.in_ok-first.ensures.grouped, c.requires.most)

pub binary-binary_rest-requires : goal.binary-binary_rest-requires
binary-binary_rest-requires t c =
    let unary = c.in_ok-first.ensures in
    let six = unary_strength c.args.header _ unary.grouped in
    let fewer = read_shorter (expr_some c.in_ok-first.first) unary.exact in (
      omega (arith, c.decreases, fewer),
      (c.requires.least, (unary.grouped.expr, (omega (arith, six, strength_at_most c.in_ok-first.rest.now), omega (arith, six, c.requires.most)))),
    )

pub binary-returns-clause-exact : goal.binary-returns-clause-exact
binary-returns-clause-exact t c = tail_led (A (Binaries c.args.header) ∷ []) (A (Binaries c.args.header) ∷ []) _ _ c.binary_rest.result
    c.in_ok-first.ensures.exact c.binary_rest.ensures.exact

pub binary_rest-returns-then-next-strength-clause-exact : goal.binary_rest-returns-then-next-strength-clause-exact
binary_rest-returns-then-next-strength-clause-exact t c = continued_here

pub binary_rest-returns-in_err-whole-clause-exact : goal.binary_rest-returns-in_err-whole-clause-exact
binary_rest-returns-in_err-whole-clause-exact t c = exits _ _ _ _ c.in_err-whole.field-0.0 c.from_residual.result c.from_residual.ensures.1
    c.in_err-whole.ensures.exact

pub binary_rest-binary_rest-requires : goal.binary_rest-binary_rest-requires
binary_rest-binary_rest-requires t c =
    let level = c.in_ok-whole.ensures in (
      omega (arith, c.decreases, level.shorter),
      (c.requires.least, (level.grouped.expr, (omega (arith, level.ends, level.grouped.same), omega (arith, level.grouped.same, c.if-next-strength.false)))),
    )

pub binary_rest-returns-clause-exact : goal.binary_rest-returns-clause-exact
binary_rest-returns-clause-exact t c = tail_continued (A (Binaries c.args.header) ∷ []) _ _ c.binary_rest.result c.in_ok-whole.ensures.exact
    c.binary_rest.ensures.exact

pub binary_level-operators-init : goal.binary_level-operators-init
binary_level-operators-init t c = record {
  leads = leads_as leads_here
      (sym (none_tokens operand_spelled) ∙ ap (all_tokens operand_spelled) (sym c.new-operands.ensures.items));
  kept = refl;
  grouped =
      subst (Each (IsOperandOf c.args.header c.args.strength)) (sym c.new-operands.ensures.items) tt;
  weaker = omega (arith, c.requires.next);
  begun = λ none. refl;
  further = λ some. absurd (some c.new-operands.ensures.items);
  shorter = omega arith;
}

pub binary_level-returns-in_err-op-clause-exact : goal.binary_level-returns-in_err-op-clause-exact
binary_level-returns-in_err-op-clause-exact t c = exits _ _ _ _ c.in_err-op.field-0.0 c.from_residual.result c.from_residual.ensures.1
    (fails_leads c.operators.invariant.leads
    (fails_rule (first (some_operator c.operators.rest.now (omega (arith, c.strength_at.ensures, c.operators-test.true, c.requires.least))))
    (fails_first c.in_err-op.ensures)))

pub binary_level-returns-in_err-value-clause-exact : goal.binary_level-returns-in_err-value-clause-exact
binary_level-returns-in_err-value-clause-exact t c = exits _ _ _ _ c.in_err-value.field-0.0 c.from_residual-in_err-value.result
    c.from_residual-in_err-value.ensures.1
    (fails_leads c.operators.invariant.leads
    (fails_rule (first (some_operator c.operators.rest.now (omega (arith, c.strength_at.ensures, c.operators-test.true, c.requires.least))))
    (fails_later c.in_ok-op.ensures c.in_err-value.ensures.exact)))

pub binary_level-operators-preserved : goal.binary_level-operators-preserved
binary_level-operators-preserved t c = record {
  leads = leads_as (leads_on c.operators.invariant.leads
      (leads_rule (first (some_operator c.operators.rest.now (omega (arith, c.strength_at.ensures, c.operators-test.true, c.requires.least))))
      (leads_then c.in_ok-op.ensures c.in_ok-value.ensures.exact)))
      (all_tokens_push operand_spelled _ _ ∙ ap (all_tokens operand_spelled) (sym c.in_ok-push.ensures.items));
  kept = c.operators.invariant.kept;
  grouped = subst (Each (IsOperandOf c.args.header c.args.strength)) (sym c.in_ok-push.ensures.items)
      (each_push (IsOperandOf c.args.header c.args.strength) _ _ c.operators.invariant.grouped (record {
        same = (let s = operator_strength c.in_ok-op.op c.in_ok-op.at c.operators.rest.now c.in_ok-op.after.now c.in_ok-op.ensures.text in
            omega (arith, s, c.strength_at.ensures, c.operators-test.true));
        stronger = (let s = c.in_ok-value.ensures.strong in omega (arith, s));
        expr = c.in_ok-value.ensures.grouped;
      }));
  weaker = c.in_ok-value.ensures.ends;
  begun = λ none. absurd (push_some _ _ (sym c.in_ok-push.ensures.items ∙ none));
  further = λ some. omega (
    arith,
    read_shorter (some_here (sign (binary_kind c.in_ok-op.op) c.in_ok-op.at) []) c.in_ok-op.ensures,
    leads_no_longer c.in_ok-value.ensures.exact,
    c.operators.invariant.shorter,
  );
  shorter = omega (arith, read_no_longer c.in_ok-op.ensures, leads_no_longer c.in_ok-value.ensures.exact, c.operators.invariant.shorter);
}

pub binary_level-returns-clause-exact : goal.binary_level-returns-clause-exact
binary_level-returns-clause-exact t c = continued_led c.operators.invariant.leads
    (ap (λ x. x ++ all_tokens operand_spelled c.operators.operands.items) (ap expr_tokens (sym c.operators.invariant.kept)) ∙
    sym c.in_ok-whole.ensures.tokens)

pub unary-returns-clause-exact : goal.unary-returns-clause-exact
unary-returns-clause-exact t c = tail_rule _ _ _ _ _ _ c.operand.result (later (sym c.at.ensures ∙ c.if-at.false) last) c.operand.ensures.exact

pub named-returns-in_err-literal_type-clause-exact : goal.named-returns-in_err-literal_type-clause-exact
named-returns-in_err-literal_type-clause-exact t c = exits _ _ _ _ c.in_err-literal_type.field-0.0 c.from_residual.result c.from_residual.ensures.1
    (fails_leads (unary_literal c.args.header c.args.depth c.args.tokens.now c.requires (sym c.literal_is_named.ensures ∙ c.if-literal_is_named.true))
    (fails_more (A Elements ∷ A (Links c.args.header) ∷ []) c.in_err-literal_type.ensures.exact))

pub named-returns-in_err-literal-clause-exact : goal.named-returns-in_err-literal-clause-exact
named-returns-in_err-literal-clause-exact t c = exits _ _ _ _ c.in_err-literal.field-0.0 c.from_residual-in_err-literal.result
    c.from_residual-in_err-literal.ensures.1
    (fails_leads (unary_literal c.args.header c.args.depth c.args.tokens.now c.requires (sym c.literal_is_named.ensures ∙ c.if-literal_is_named.true))
    (fails_after c.in_ok-literal_type.ensures.exact (fails_first c.in_err-literal.ensures.exact)))

pub named-returns-then-literal_is_named-clause-exact : goal.named-returns-then-literal_is_named-clause-exact
named-returns-then-literal_is_named-clause-exact t c =
    tail_through _ _ _ c.chain.result
    (unary_literal c.args.header c.args.depth c.args.tokens.now c.requires (sym c.literal_is_named.ensures ∙ c.if-literal_is_named.true))
    (tail_on (A (Links c.args.header) ∷ []) _ _ _ c.chain.result
    (read_as (read_on c.in_ok-literal_type.ensures.exact c.in_ok-literal.ensures.exact) (sym (composite_tokens _))) c.chain.ensures.exact)

pub named-returns-in_err-name-clause-exact : goal.named-returns-in_err-name-clause-exact
named-returns-in_err-name-clause-exact t c = exits _ _ _ _ c.in_err-name.field-0.0 c.from_residual-in_err-name.result c.from_residual-in_err-name.ensures.1
    (fails_leads (unary_name c.args.header c.args.depth c.args.tokens.now c.requires (sym c.literal_is_named.ensures ∙ c.if-literal_is_named.false))
    (fails_first c.in_err-name.ensures))

pub named-returns-clause-exact : goal.named-returns-clause-exact
named-returns-clause-exact t c = tail_through _ _ _ c.chain-2.result
    (unary_name c.args.header c.args.depth c.args.tokens.now c.requires (sym c.literal_is_named.ensures ∙ c.if-literal_is_named.false))
    (tail_on (A (Links c.args.header) ∷ []) _ _ _ c.chain-2.result (read_as c.in_ok-name.ensures (sym (name_tokens _))) c.chain-2.ensures.exact)

pub operand-returns-in_err-op-clause-exact : goal.operand-returns-in_err-op-clause-exact
operand-returns-in_err-op-clause-exact t c = exits _ _ _ _ c.in_err-op.field-0.0 c.from_residual.result c.from_residual.ensures.1
    (fails_rule (first (sym c.at_prefix.ensures ∙ c.if-at_prefix.true)) (fails_first c.in_err-op.ensures))

pub operand-returns-in_err-inner-clause-exact : goal.operand-returns-in_err-inner-clause-exact
operand-returns-in_err-inner-clause-exact t c = exits _ _ _ _ c.in_err-inner.field-0.0 c.from_residual-in_err-inner.result
    c.from_residual-in_err-inner.ensures.1
    (fails_rule (first (sym c.at_prefix.ensures ∙ c.if-at_prefix.true)) (fails_later c.in_ok-op.ensures.read (fails_first c.in_err-inner.ensures.exact)))

pub operand-returns-then-at_prefix-clause-exact : goal.operand-returns-then-at_prefix-clause-exact
operand-returns-then-at_prefix-clause-exact t c = read_as
    (read_rule (first (sym c.at_prefix.ensures ∙ c.if-at_prefix.true))
    (read_then c.in_ok-op.ensures.read (read_to_close c.in_ok-op.ensures.deeper c.in_ok-inner.ensures.exact)))
    (ap (λ x. sign (prefix_kind c.in_ok-op.op) c.in_ok-op.at ∷ expr_spelled x) (sym c.in_ok-operand.ensures.ok) ∙ sym (prefix_tokens _ _ _))

pub operand-returns-in_err-at-clause-exact : goal.operand-returns-in_err-at-clause-exact
operand-returns-in_err-at-clause-exact t c = exits _ _ _ _ c.in_err-at.field-0.0 c.from_residual-in_err-at.result c.from_residual-in_err-at.ensures.1
    (fails_rule (later (sym c.at_prefix.ensures ∙ c.if-at_prefix.false) (first (sym c.at.ensures ∙ c.if-at.true))) (fails_first c.in_err-at.ensures))

pub operand-returns-in_err-literal-clause-exact : goal.operand-returns-in_err-literal-clause-exact
operand-returns-in_err-literal-clause-exact t c = exits _ _ _ _ c.in_err-literal.field-0.0 c.from_residual-in_err-literal.result
    c.from_residual-in_err-literal.ensures.1
    (fails_rule (later (sym c.at_prefix.ensures ∙ c.if-at_prefix.false) (first (sym c.at.ensures ∙ c.if-at.true)))
    (fails_later c.in_ok-at.ensures.read (fails_first c.in_err-literal.ensures.exact)))

pub operand-returns-then-at-clause-exact : goal.operand-returns-then-at-clause-exact
operand-returns-then-at-clause-exact t c = read_as
    (read_rule (later (sym c.at_prefix.ensures ∙ c.if-at_prefix.false) (first (sym c.at.ensures ∙ c.if-at.true)))
    (read_then c.in_ok-at.ensures.read (read_to_close c.in_ok-at.ensures.deeper c.in_ok-literal.ensures.exact))) (sym (address_tokens _ _))

pub operand-returns-in_err-first-clause-exact : goal.operand-returns-in_err-first-clause-exact
operand-returns-in_err-first-clause-exact t c = exits _ _ _ _ c.in_err-first.field-0.0 c.from_residual-in_err-first.result
    c.from_residual-in_err-first.ensures.1
    (fails_rule (later (sym c.at_prefix.ensures ∙ c.if-at_prefix.false)
    (later (sym c.at.ensures ∙ c.if-at.false) (first (sym c.at_leaf.ensures ∙ c.if-at_leaf.true)))) (fails_first c.in_err-first.ensures.exact))

pub operand-returns-then-at_leaf-clause-exact : goal.operand-returns-then-at_leaf-clause-exact
operand-returns-then-at_leaf-clause-exact t c = tail_rule _ _ _ _ _ _ c.chain.result
    (later (sym c.at_prefix.ensures ∙ c.if-at_prefix.false) (later (sym c.at.ensures ∙ c.if-at.false) (first (sym c.at_leaf.ensures ∙ c.if-at_leaf.true))))
    (tail_on (A (Links c.args.header) ∷ []) _ _ _ c.chain.result c.in_ok-first.ensures.exact c.chain.ensures.exact)

pub operand-returns-in_err-open-clause-exact : goal.operand-returns-in_err-open-clause-exact
operand-returns-in_err-open-clause-exact t c = exits _ _ _ _ c.in_err-open.field-0.0 c.from_residual-in_err-open.result c.from_residual-in_err-open.ensures.1
    (fails_rule (later (sym c.at_prefix.ensures ∙ c.if-at_prefix.false)
    (later (sym c.at.ensures ∙ c.if-at.false) (later (sym c.at_leaf.ensures ∙ c.if-at_leaf.false) (first (sym c.at-2.ensures ∙ c.if-at-2.true)))))
    (fails_first c.in_err-open.ensures))

pub operand-returns-in_err-inner-2-clause-exact : goal.operand-returns-in_err-inner-2-clause-exact
operand-returns-in_err-inner-2-clause-exact t c = exits _ _ _ _ c.in_err-inner-2.field-0.0 c.from_residual-in_err-inner-2.result
    c.from_residual-in_err-inner-2.ensures.1
    (fails_rule (later (sym c.at_prefix.ensures ∙ c.if-at_prefix.false)
    (later (sym c.at.ensures ∙ c.if-at.false) (later (sym c.at_leaf.ensures ∙ c.if-at_leaf.false) (first (sym c.at-2.ensures ∙ c.if-at-2.true)))))
    (fails_later c.in_ok-open.ensures.read (fails_first c.in_err-inner-2.ensures.exact)))

pub operand-returns-in_err-close-clause-exact : goal.operand-returns-in_err-close-clause-exact
operand-returns-in_err-close-clause-exact t c = exits _ _ _ _ c.in_err-close.field-0.0 c.from_residual-in_err-close.result
    c.from_residual-in_err-close.ensures.1
    (fails_rule (later (sym c.at_prefix.ensures ∙ c.if-at_prefix.false)
    (later (sym c.at.ensures ∙ c.if-at.false) (later (sym c.at_leaf.ensures ∙ c.if-at_leaf.false) (first (sym c.at-2.ensures ∙ c.if-at-2.true)))))
    (fails_later c.in_ok-open.ensures.read (fails_later c.in_ok-inner-2.ensures.exact (fails_first c.in_err-close.ensures))))

pub operand-returns-then-at-2-clause-exact : goal.operand-returns-then-at-2-clause-exact
operand-returns-then-at-2-clause-exact t c = tail_rule _ _ _ _ _ _ c.chain-then-at-2.result
    (later (sym c.at_prefix.ensures ∙ c.if-at_prefix.false)
    (later (sym c.at.ensures ∙ c.if-at.false) (later (sym c.at_leaf.ensures ∙ c.if-at_leaf.false) (first (sym c.at-2.ensures ∙ c.if-at-2.true)))))
    (tail_on (A (Links c.args.header) ∷ []) _ _ _ c.chain-then-at-2.result
    (read_as (read_then c.in_ok-open.ensures.read (read_then c.in_ok-inner-2.ensures.exact (read_to_close c.in_ok-open.ensures.deeper c.in_ok-close.ensures)))
    (ap (λ x. sign kind.LeftParen c.in_ok-open.open ∷ (expr_spelled x ++ (sign kind.RightParen c.in_ok-close.close ∷ [])))
    (sym c.in_ok-inner-3.ensures.ok) ∙ sym (paren_tokens _ _ _))) c.chain-then-at-2.ensures.exact)

pub operand-returns-in_err-literal_type-clause-exact : goal.operand-returns-in_err-literal_type-clause-exact
operand-returns-in_err-literal_type-clause-exact t c =
    exits _ _ _ _ c.in_err-literal_type.field-0.0 c.from_residual-in_err-literal_type.result c.from_residual-in_err-literal_type.ensures.1
    (fails_rule (later (sym c.at_prefix.ensures ∙ c.if-at_prefix.false)
    (later (sym c.at.ensures ∙ c.if-at.false) (later (sym c.at_leaf.ensures ∙ c.if-at_leaf.false) (later (sym c.at-2.ensures ∙ c.if-at-2.false) last))))
    (fails_more (A Elements ∷ A (Links c.args.header) ∷ []) c.in_err-literal_type.ensures.exact))

pub operand-returns-in_err-literal-2-clause-exact : goal.operand-returns-in_err-literal-2-clause-exact
operand-returns-in_err-literal-2-clause-exact t c =
    exits _ _ _ _ c.in_err-literal-2.field-0.0 c.from_residual-in_err-literal-2.result c.from_residual-in_err-literal-2.ensures.1
    (fails_rule (later (sym c.at_prefix.ensures ∙ c.if-at_prefix.false)
    (later (sym c.at.ensures ∙ c.if-at.false) (later (sym c.at_leaf.ensures ∙ c.if-at_leaf.false) (later (sym c.at-2.ensures ∙ c.if-at-2.false) last))))
    (fails_after c.in_ok-literal_type.ensures.exact (fails_first c.in_err-literal-2.ensures.exact)))

pub operand-returns-clause-exact : goal.operand-returns-clause-exact
operand-returns-clause-exact t c = tail_rule _ _ _ _ _ _ c.chain-2.result
    (later (sym c.at_prefix.ensures ∙ c.if-at_prefix.false)
    (later (sym c.at.ensures ∙ c.if-at.false) (later (sym c.at_leaf.ensures ∙ c.if-at_leaf.false) (later (sym c.at-2.ensures ∙ c.if-at-2.false) last))))
    (tail_on (A (Links c.args.header) ∷ []) _ _ _ c.chain-2.result
    (read_as (read_on c.in_ok-literal_type.ensures.exact c.in_ok-literal-2.ensures.exact) (sym (composite_tokens _))) c.chain-2.ensures.exact)

pub literal-returns-in_err-open-clause-exact : goal.literal-returns-in_err-open-clause-exact
literal-returns-in_err-open-clause-exact t c = exits _ _ _ _ c.in_err-open.field-0.0 c.from_residual.result c.from_residual.ensures.1
    (fails_rule last (fails_first c.in_err-open.ensures))

pub literal-elements-init : goal.literal-elements-init
literal-elements-init t c = record {
  leads = leads_as leads_here
      (sym (none_tokens element_spelled) ∙ ap (all_tokens element_spelled) (sym c.new-elements.ensures.items));
  kept = refl;
  grouped =
      subst (Each {X = Element} (λ i. IsExpr (expr_view i.value))) (sym c.new-elements.ensures.items) tt;
  separated =
      subst (IsSeparatedSoFar {X = Element} (λ i. i.comma) true) (sym c.new-elements.ensures.items) (so_far_none _);
  shorter = omega arith;
}

pub literal-returns-in_err-element-clause-exact : goal.literal-returns-in_err-element-clause-exact
literal-returns-in_err-element-clause-exact t c = exits _ _ _ _ c.in_err-element.field-0.0 c.from_residual-in_err-element.result
    c.from_residual-in_err-element.ensures.1
    (fails_rule last (fails_later c.in_ok-open.ensures.read
    (fails_more (Close ∷ []) (fails_leads
    (leads_rest (list_rest ElementList kind.RightBrace) (c.goes_on.ensures.separated c.elements-test.true) c.elements.invariant.leads)
    c.in_err-element.ensures.exact))))

pub literal-elements-smaller : goal.literal-elements-smaller
literal-elements-smaller t c = leads_shorter (element_some c.in_ok-element.element) c.in_ok-element.ensures.exact

pub literal-elements-preserved : goal.literal-elements-preserved
literal-elements-preserved t c = record {
  leads = leads_as (leads_rest (list_rest ElementList kind.RightBrace) (sym c.is_some-more.ensures)
      (leads_on (leads_rest (list_rest ElementList kind.RightBrace) (c.goes_on.ensures.separated c.elements-test.true) c.elements.invariant.leads)
      c.in_ok-element.ensures.exact)) (all_tokens_push element_spelled _ _ ∙ ap (all_tokens element_spelled) (sym c.in_ok-push.ensures.items));
  kept = c.elements.invariant.kept;
  grouped = subst (Each {X = Element} (λ i. IsExpr (expr_view i.value))) (sym c.in_ok-push.ensures.items)
      (each_push {X = Element} (λ i. IsExpr (expr_view i.value)) _ _ c.elements.invariant.grouped c.in_ok-element.ensures.grouped);
  separated = subst (λ b. IsSeparatedSoFar {X = Element} (λ i. i.comma) b c.push.new.list.items) (sym c.is_some-more.ensures)
      (subst (IsSeparatedSoFar {X = Element} (λ i. i.comma) _) (sym c.in_ok-push.ensures.items)
      (so_far_push {X = Element} (λ i. i.comma) c.elements.more c.elements.elements.items c.in_ok-element.element
      (c.goes_on.ensures.separated c.elements-test.true) c.elements.invariant.separated));
  shorter = omega (arith, leads_no_longer c.in_ok-element.ensures.exact, c.elements.invariant.shorter);
}

pub literal-returns-in_err-close-clause-exact : goal.literal-returns-in_err-close-clause-exact
literal-returns-in_err-close-clause-exact t c = exits _ _ _ _ c.in_err-close.field-0.0 c.from_residual-in_err-close.result
    c.from_residual-in_err-close.ensures.1
    (fails_rule last (fails_later c.in_ok-open.ensures.read
    (fails_more (Close ∷ []) (fails_leads
    (list_ends ElementList kind.RightBrace _ _ _ _ _ _ (λ ts e. first e) (λ e. c.goes_on.ensures.ends c.elements-test.false e)
    c.elements.invariant.leads) c.in_err-close.ensures))))

pub literal-returns-clause-exact : goal.literal-returns-clause-exact
literal-returns-clause-exact t c = continued_by (read_rule last
    (read_then c.in_ok-open.ensures.read
    (read_to_close c.in_ok-open.ensures.deeper
    (read_led (list_ends ElementList kind.RightBrace _ _ _ _ _ _ (λ ts e. first e) (λ e. c.goes_on.ensures.ends c.elements-test.false e)
    c.elements.invariant.leads) c.in_ok-close.ensures))))
    (ap (λ x. x ++ (sign kind.LeftBrace c.in_ok-open.open ∷
    (all_tokens element_spelled c.elements.elements.items ++ (sign kind.RightBrace c.in_ok-close.close ∷ []))))
    (ap type_tokens (sym c.elements.invariant.kept)) ∙ (sym (literal_row_tokens _ _ _ _) ∙ ap literal_spelled (sym c.in_ok-boxed.ensures.ok)))

pub element-returns-in_err-name-clause-exact : goal.element-returns-in_err-name-clause-exact
element-returns-in_err-name-clause-exact t c = exits _ _ _ _ c.in_err-name.field-0.0 c.from_residual.result c.from_residual.ensures.1
    (fails_rule (later c.requires last) (fails_more (A MoreElements ∷ [])
    (fails_leads (element_key c.args.depth c.args.tokens.now (sym c.begins_key.ensures ∙ c.if-begins_key.true)) (fails_first c.in_err-name.ensures))))

pub element-returns-in_err-colon-clause-exact : goal.element-returns-in_err-colon-clause-exact
element-returns-in_err-colon-clause-exact t c = exits _ _ _ _ c.in_err-colon.field-0.0 c.from_residual-in_err-colon.result
    c.from_residual-in_err-colon.ensures.1
    (fails_rule (later c.requires last) (fails_more (A MoreElements ∷ [])
    (fails_leads (element_key c.args.depth c.args.tokens.now (sym c.begins_key.ensures ∙ c.if-begins_key.true))
    (fails_later c.in_ok-name.ensures (fails_first c.in_err-colon.ensures)))))

pub element-returns-in_err-value-clause-exact : goal.element-returns-in_err-value-clause-exact
element-returns-in_err-value-clause-exact t c = exits _ _ _ _ c.in_err-value.field-0.0 c.from_residual-in_err-value.result
    c.from_residual-in_err-value.ensures.1
    (fails_rule (later c.requires last) (fails_more (A MoreElements ∷ [])
    (fails_leads (element_key c.args.depth c.args.tokens.now (sym c.begins_key.ensures ∙ c.if-begins_key.true))
    (fails_later c.in_ok-name.ensures (fails_later c.in_ok-colon.ensures c.in_err-value.ensures.exact)))))

pub element-returns-then-begins_key-clause-exact : goal.element-returns-then-begins_key-clause-exact
element-returns-then-begins_key-clause-exact t c =
    leads_rule (later c.requires last)
    (leads_after (read_through (element_key c.args.depth c.args.tokens.now (sym c.begins_key.ensures ∙ c.if-begins_key.true))
    (read_then c.in_ok-name.ensures (read_then c.in_ok-colon.ensures c.in_ok-value.ensures.exact)))
    (list_separated ElementList MoreElements kind.Comma kind.RightBrace _ _ _ _ (λ ts e. first e) (λ ts e. later e last) c.separator-comma.ensures))

pub element-returns-in_err-value-2-clause-exact : goal.element-returns-in_err-value-2-clause-exact
element-returns-in_err-value-2-clause-exact t c = exits _ _ _ _ c.in_err-value-2.field-0.0 c.from_residual-in_err-value-2.result
    c.from_residual-in_err-value-2.ensures.1
    (fails_rule (later c.requires last) (fails_more (A MoreElements ∷ [])
    (fails_leads (element_value c.args.depth c.args.tokens.now (sym c.begins_key.ensures ∙ c.if-begins_key.false)) c.in_err-value-2.ensures.exact)))

pub element-returns-clause-exact : goal.element-returns-clause-exact
element-returns-clause-exact t c = leads_rule (later c.requires last)
    (leads_after (read_through (element_value c.args.depth c.args.tokens.now (sym c.begins_key.ensures ∙ c.if-begins_key.false))
    c.in_ok-value-2.ensures.exact)
    (list_separated ElementList MoreElements kind.Comma kind.RightBrace _ _ _ _ (λ ts e. first e) (λ ts e. later e last) c.separator-comma-2.ensures))

pub chain-links-init : goal.chain-links-init
chain-links-init t c = record {
  leads = leads_as leads_here (sym (none_tokens link_spelled) ∙ ap (all_tokens link_spelled) (sym c.new-links.ensures.items));
  kept = refl;
  grouped = subst (Each IsLink) (sym c.new-links.ensures.items) tt;
  shorter = omega arith;
}

pub chain-links-preserved : goal.chain-links-preserved
chain-links-preserved t c = record {
  leads = leads_as (leads_on c.links.invariant.leads c.in_ok-next.ensures.exact)
      (all_tokens_push link_spelled c.links.links.items c.in_ok-next.next ∙ ap (all_tokens link_spelled) (sym c.in_ok-push.ensures.items));
  kept = c.links.invariant.kept;
  grouped = subst (Each IsLink) (sym c.in_ok-push.ensures.items) (each_push IsLink _ _ c.links.invariant.grouped c.in_ok-next.ensures.grouped);
  shorter = omega (arith, c.in_ok-next.ensures.shorter, c.links.invariant.shorter);
}

pub chain-returns-then-is_empty-clause-exact : goal.chain-returns-then-is_empty-clause-exact
chain-returns-then-is_empty-clause-exact t c = continued_by
    (leads_to_end c.links.invariant.leads
    (later (c.begins_link.ensures.dot c.links-test.false)
    (later (c.begins_link.ensures.bracket c.links-test.false) (later (c.begins_link.ensures.paren c.links-test.false) last))))
    (ap (λ x. expr_spelled c.args.first ++ x)
    (no_tokens link_spelled c.links.links.items
    (nil_from_length c.links.links.items (sym c.links.links.ok.0 ∙ eqb-true (vec_len c.links.links) 0 (sym c.is_empty.ensures ∙ c.if-is_empty.true)))) ∙
    (append-nil _ ∙ ap expr_tokens (sym c.links.invariant.kept)))

pub chain-returns-clause-exact : goal.chain-returns-clause-exact
chain-returns-clause-exact t c = continued_by (leads_to_end c.links.invariant.leads
    (later (c.begins_link.ensures.dot c.links-test.false)
    (later (c.begins_link.ensures.bracket c.links-test.false) (later (c.begins_link.ensures.paren c.links-test.false) last))))
    (ap (λ x. x ++ all_tokens link_spelled c.links.links.items) (ap expr_tokens (sym c.links.invariant.kept)) ∙ sym c.in_ok-whole.ensures.tokens)

pub link-returns-in_err-dot-clause-exact : goal.link-returns-in_err-dot-clause-exact
link-returns-in_err-dot-clause-exact t c = exits _ _ _ _ c.in_err-dot.field-0.0 c.from_residual.result c.from_residual.ensures.1
    (fails_rule (first (sym c.at.ensures ∙ c.if-at.true)) (fails_first c.in_err-dot.ensures))

pub link-returns-in_err-name-clause-exact : goal.link-returns-in_err-name-clause-exact
link-returns-in_err-name-clause-exact t c = exits _ _ _ _ c.in_err-name.field-0.0 c.from_residual-in_err-name.result c.from_residual-in_err-name.ensures.1
    (fails_rule (first (sym c.at.ensures ∙ c.if-at.true)) (fails_later c.in_ok-dot.ensures (fails_first c.in_err-name.ensures)))

pub link-returns-then-at-clause-exact : goal.link-returns-then-at-clause-exact
link-returns-then-at-clause-exact t c = leads_as (leads_rule (first (sym c.at.ensures ∙ c.if-at.true))
    (leads_then c.in_ok-dot.ensures (leads_then c.in_ok-name.ensures leads_here))) (sym (selector_tokens _ _))

pub link-returns-in_err-open-clause-exact : goal.link-returns-in_err-open-clause-exact
link-returns-in_err-open-clause-exact t c = exits _ _ _ _ c.in_err-open.field-0.0 c.from_residual-in_err-open.result c.from_residual-in_err-open.ensures.1
    (fails_rule (later (sym c.at.ensures ∙ c.if-at.false) (first (sym c.at-2.ensures ∙ c.if-at-2.true))) (fails_first c.in_err-open.ensures))

pub link-returns-in_err-inner-clause-exact : goal.link-returns-in_err-inner-clause-exact
link-returns-in_err-inner-clause-exact t c = exits _ _ _ _ c.in_err-inner.field-0.0 c.from_residual-in_err-inner.result c.from_residual-in_err-inner.ensures.1
    (fails_rule (later (sym c.at.ensures ∙ c.if-at.false) (first (sym c.at-2.ensures ∙ c.if-at-2.true)))
    (fails_later c.in_ok-open.ensures.read (fails_first c.in_err-inner.ensures.exact)))

pub link-returns-in_err-close-clause-exact : goal.link-returns-in_err-close-clause-exact
link-returns-in_err-close-clause-exact t c = exits _ _ _ _ c.in_err-close.field-0.0 c.from_residual-in_err-close.result c.from_residual-in_err-close.ensures.1
    (fails_rule (later (sym c.at.ensures ∙ c.if-at.false) (first (sym c.at-2.ensures ∙ c.if-at-2.true)))
    (fails_later c.in_ok-open.ensures.read (fails_later c.in_ok-inner.ensures.exact (fails_first c.in_err-close.ensures))))

pub link-returns-then-at-2-clause-exact : goal.link-returns-then-at-2-clause-exact
link-returns-then-at-2-clause-exact t c = leads_as
    (leads_rule (later (sym c.at.ensures ∙ c.if-at.false) (first (sym c.at-2.ensures ∙ c.if-at-2.true)))
    (leads_then c.in_ok-open.ensures.read
    (leads_then c.in_ok-inner.ensures.exact (leads_then c.in_ok-close.ensures (leads_close c.in_ok-open.ensures.deeper leads_here)))))
    (ap (λ e. sign kind.LeftBracket c.in_ok-open.open ∷ (expr_spelled e ++ (sign kind.RightBracket c.in_ok-close.close ∷ [])))
    (sym c.in_ok-index.ensures.ok) ∙ sym (index_tokens _ _ _))

pub link-returns-in_err-open-2-clause-exact : goal.link-returns-in_err-open-2-clause-exact
link-returns-in_err-open-2-clause-exact t c = exits _ _ _ _ c.in_err-open-2.field-0.0 c.from_residual-in_err-open-2.result
    c.from_residual-in_err-open-2.ensures.1
    (fails_rule (later (sym c.at.ensures ∙ c.if-at.false)
    (later (sym c.at-2.ensures ∙ c.if-at-2.false) (first (c.requires (sym c.at.ensures ∙ c.if-at.false) (sym c.at-2.ensures ∙ c.if-at-2.false)))))
    (fails_first c.in_err-open-2.ensures))

pub link-returns-in_err-arguments-clause-exact : goal.link-returns-in_err-arguments-clause-exact
link-returns-in_err-arguments-clause-exact t c = exits _ _ _ _ c.in_err-arguments.field-0.0 c.from_residual-in_err-arguments.result
    c.from_residual-in_err-arguments.ensures.1
    (fails_rule (later (sym c.at.ensures ∙ c.if-at.false)
    (later (sym c.at-2.ensures ∙ c.if-at-2.false) (first (c.requires (sym c.at.ensures ∙ c.if-at.false) (sym c.at-2.ensures ∙ c.if-at-2.false)))))
    (fails_later c.in_ok-open-2.ensures.read (fails_first c.in_err-arguments.ensures.exact)))

pub link-returns-clause-exact : goal.link-returns-clause-exact
link-returns-clause-exact t c = leads_as (leads_rule
    (later (sym c.at.ensures ∙ c.if-at.false)
    (later (sym c.at-2.ensures ∙ c.if-at-2.false) (first (c.requires (sym c.at.ensures ∙ c.if-at.false) (sym c.at-2.ensures ∙ c.if-at-2.false)))))
    (leads_then c.in_ok-open-2.ensures.read (leads_then c.in_ok-arguments.ensures.exact (leads_close c.in_ok-open-2.ensures.deeper leads_here))))
    (ap (λ x. sign kind.LeftParen c.in_ok-open-2.open ∷ x) (append-nil _) ∙ sym (call_tokens _ _ _))

pub arguments-arguments-init : goal.arguments-arguments-init
arguments-arguments-init t c = record {
  leads = leads_as leads_here
      (sym (none_tokens expr_item_spelled) ∙ ap (all_tokens expr_item_spelled) (sym c.new-arguments.ensures.items));
  grouped =
      subst (Each {X = ExprItem} (λ i. IsExpr (expr_view i.value))) (sym c.new-arguments.ensures.items) tt;
  separated =
      subst (IsSeparatedSoFar {X = ExprItem} (λ i. i.comma) true) (sym c.new-arguments.ensures.items) (so_far_none _);
  shorter = omega arith;
}

pub arguments-returns-in_err-value-clause-exact : goal.arguments-returns-in_err-value-clause-exact
arguments-returns-in_err-value-clause-exact t c = exits _ _ _ _ c.in_err-value.field-0.0 c.from_residual.result c.from_residual.ensures.1
    (fails_leads (leads_rest (list_rest Arguments kind.RightParen) (c.goes_on.ensures.separated c.arguments-test.true) c.arguments.invariant.leads)
    (fails_rule (later (c.goes_on.ensures.open c.arguments-test.true) last) (fails_first c.in_err-value.ensures.exact)))

pub arguments-arguments-smaller : goal.arguments-arguments-smaller
arguments-arguments-smaller t c = omega (
  arith,
  read_shorter (expr_some c.in_ok-value.value) c.in_ok-value.ensures.exact,
  separator_no_longer kind.Comma c.separator-comma.result.0 c.in_ok-value.after.now c.separator-comma.result.1.now c.separator-comma.ensures,
)

pub arguments-arguments-preserved : goal.arguments-arguments-preserved
arguments-arguments-preserved t c = record {
  leads = leads_as (leads_rest (list_rest Arguments kind.RightParen) (sym c.is_some-more.ensures)
      (leads_on (leads_rest (list_rest Arguments kind.RightParen) (c.goes_on.ensures.separated c.arguments-test.true) c.arguments.invariant.leads)
      (leads_rule (later (c.goes_on.ensures.open c.arguments-test.true) last)
      (leads_then c.in_ok-value.ensures.exact
      (list_separated Arguments MoreArguments kind.Comma kind.RightParen _ _ _ _ (λ ts e. first e) (λ ts e. later e last) c.separator-comma.ensures)))))
      (all_tokens_push expr_item_spelled _ _ ∙ ap (all_tokens expr_item_spelled) (sym c.in_ok-push.ensures.items));
  grouped = subst (Each {X = ExprItem} (λ i. IsExpr (expr_view i.value))) (sym c.in_ok-push.ensures.items)
      (each_push {X = ExprItem} (λ i. IsExpr (expr_view i.value)) _ _ c.arguments.invariant.grouped c.in_ok-value.ensures.grouped.grouped);
  separated = subst (λ b. IsSeparatedSoFar {X = ExprItem} (λ i. i.comma) b c.push.new.list.items) (sym c.is_some-more.ensures)
      (subst (IsSeparatedSoFar {X = ExprItem} (λ i. i.comma) _) (sym c.in_ok-push.ensures.items)
      (so_far_push {X = ExprItem} (λ i. i.comma) c.arguments.more c.arguments.arguments.items _ (c.goes_on.ensures.separated c.arguments-test.true)
      c.arguments.invariant.separated));
  shorter = omega (
    arith,
    read_no_longer c.in_ok-value.ensures.exact,
    separator_no_longer kind.Comma c.separator-comma.result.0 c.in_ok-value.after.now c.separator-comma.result.1.now c.separator-comma.ensures,
    c.arguments.invariant.shorter,
  );
}

pub arguments-returns-in_err-close-clause-exact : goal.arguments-returns-in_err-close-clause-exact
arguments-returns-in_err-close-clause-exact t c = exits _ _ _ _ c.in_err-close.field-0.0 c.from_residual-in_err-close.result
    c.from_residual-in_err-close.ensures.1
    (fails_leads (list_ends Arguments kind.RightParen _ _ _ _ _ _ (λ ts e. first e) (λ e. c.goes_on.ensures.ends c.arguments-test.false e)
    c.arguments.invariant.leads) c.in_err-close.ensures)

pub arguments-returns-clause-exact : goal.arguments-returns-clause-exact
arguments-returns-clause-exact t c = read_led (list_ends Arguments kind.RightParen _ _ _ _ _ _ (λ ts e. first e)
    (λ e. c.goes_on.ensures.ends c.arguments-test.false e) c.arguments.invariant.leads) c.in_ok-close.ensures

pub named-chain-requires : goal.named-chain-requires
named-chain-requires t c = (
  let l = read_no_longer (read_on c.in_ok-literal_type.ensures.exact c.in_ok-literal.ensures.exact) in
      omega (arith, c.decreases, l),
  composite_grouped c.args.header _
      (record {
        grouped = c.in_ok-literal.ensures.grouped;
        unnamed = λ e.
            named_not_in_header c.args.header _ (sym c.literal_is_named.ensures ∙ c.if-literal_is_named.true) e;
      }),
)

pub named-chain-requires-2 : goal.named-chain-requires-2
named-chain-requires-2 t c = (let l = read_no_longer c.in_ok-name.ensures in omega (arith, c.decreases, l), name_grouped c.args.header _)

pub operand-returns-then-at_prefix-clause-grouped : goal.operand-returns-then-at_prefix-clause-grouped
operand-returns-then-at_prefix-clause-grouped t c =
    prefix_grouped c.args.header _ _ _ (subst (λ x. IsUnary c.args.header (expr_view x)) (sym c.in_ok-operand.ensures.ok) c.in_ok-inner.ensures.grouped)

pub operand-returns-then-at-clause-grouped : goal.operand-returns-then-at-clause-grouped
operand-returns-then-at-clause-grouped t c = address_grouped c.args.header _ _ c.in_ok-literal.ensures.grouped

pub operand-chain-requires : goal.operand-chain-requires
operand-chain-requires t c = (let l = read_no_longer c.in_ok-first.ensures.exact in omega (arith, c.decreases, l), c.in_ok-first.ensures.grouped c.args.header)

pub operand-chain-requires-then-at-2 : goal.operand-chain-requires-then-at-2
operand-chain-requires-then-at-2 t c = (
  let l = read_no_longer
      (read_then c.in_ok-open.ensures.read (read_then c.in_ok-inner-2.ensures.exact c.in_ok-close.ensures)) in
      omega (arith, c.decreases, l),
  paren_grouped c.args.header _ _ _ (subst (λ x. IsExprIn false (expr_view x)) (sym c.in_ok-inner-3.ensures.ok) c.in_ok-inner-2.ensures.grouped),
)

pub operand-chain-requires-2 : goal.operand-chain-requires-2
operand-chain-requires-2 t c = (
  let l = read_no_longer (read_on c.in_ok-literal_type.ensures.exact c.in_ok-literal-2.ensures.exact) in
      omega (arith, c.decreases, l),
  composite_grouped c.args.header _
      (record { grouped = c.in_ok-literal-2.ensures.grouped; unnamed = λ e. ap is_slice c.in_ok-literal-2.ensures.typed ∙ c.in_ok-literal_type.ensures.slice }),
)

pub literal-returns-clause-grouped : goal.literal-returns-clause-grouped
literal-returns-clause-grouped t c = subst (λ l. IsLiteral (literal_view l)) (sym c.in_ok-boxed.ensures.ok)
    (literal_wf _ _ _ _ (ap is_literal_type c.elements.invariant.kept ∙ c.requires) c.elements.invariant.grouped
    c.elements.invariant.separated.separated)

pub literal-returns-clause-typed : goal.literal-returns-clause-typed
literal-returns-clause-typed t c = ap (λ l. literal_type_of (literal_view l)) c.in_ok-boxed.ensures.ok ∙ (literal_typed _ _ _ _ ∙ c.elements.invariant.kept)

pub link-returns-then-at-clause-grouped : goal.link-returns-then-at-clause-grouped
link-returns-then-at-clause-grouped t c = selector_wf _ _

pub link-returns-then-at-2-clause-grouped : goal.link-returns-then-at-2-clause-grouped
link-returns-then-at-2-clause-grouped t c =
    index_wf _ _ _ (subst (λ e. IsExprIn false (expr_view e)) (sym c.in_ok-index.ensures.ok) c.in_ok-inner.ensures.grouped)

pub link-returns-clause-grouped : goal.link-returns-clause-grouped
link-returns-clause-grouped t c = call_wf _ _ _ c.in_ok-arguments.ensures.grouped

pub chain-returns-clause-grouped : goal.chain-returns-clause-grouped
chain-returns-clause-grouped t c = c.in_ok-whole.ensures.grouped c.args.header
    (subst (IsOperand c.args.header) (sym c.links.invariant.kept) c.requires) c.links.invariant.grouped
    (λ e. not_zero (vec_len c.links.links) (sym c.is_empty.ensures ∙ c.if-is_empty.false) (c.links.links.ok.0 ∙ ap length e))

pub binary_level-returns-clause-grouped : goal.binary_level-returns-clause-grouped
binary_level-returns-clause-grouped t c = c.in_ok-whole.ensures.grouped c.args.header c.args.strength
    (subst (IsExprIn c.args.header) (sym c.operators.invariant.kept) c.requires.formed)
    (subst (λ x. c.args.strength < strength_of x) (sym c.operators.invariant.kept) c.requires.stronger) c.operators.invariant.grouped
    (λ none. omega (arith, ap strength_at (c.operators.invariant.begun none), c.requires.next, c.strength_at.ensures, c.operators-test.false))

pub binary_level-returns-clause-shorter : goal.binary_level-returns-clause-shorter
binary_level-returns-clause-shorter t c = c.operators.invariant.further
    (λ none. omega (arith, ap strength_at (c.operators.invariant.begun none), c.requires.next, c.strength_at.ensures, c.operators-test.false))
