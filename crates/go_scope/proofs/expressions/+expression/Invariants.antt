-- The invariants of the loops of `expressions::expression`.
use Rattle.std.proofs.Common.{take}
use Rattle.std.specs.List.{flat_map}
use Rattle.go_scope.specs.IdentifierViews.{as_source, AddsTo}
use Rattle.go_scope.proofs.Parts.{link_part, operand_part, argument_part, element_part}
use Rattle.go_scope.proofs.expressions.+expression.Given as goal

abbrev pub invariant-add_links-loop-link : goal.invariant-add_links-loop-link
invariant-add_links-loop-link l = AddsTo l.initial.found.items l.found.items (flat_map (link_part (as_source l.source)) (take l.link-index l.links))

abbrev pub invariant-add_operands-loop-operand : goal.invariant-add_operands-loop-operand
invariant-add_operands-loop-operand l = AddsTo l.initial.found.items l.found.items
    (flat_map (operand_part (as_source l.source)) (take l.operand-index l.operands))

abbrev pub invariant-add_link-loop-argument : goal.invariant-add_link-loop-argument
invariant-add_link-loop-argument l = AddsTo l.initial.found.items l.found.items
    (flat_map (argument_part (as_source l.source)) (take l.argument-index l.argument-items))

abbrev pub invariant-add_literal-loop-element : goal.invariant-add_literal-loop-element
invariant-add_literal-loop-element l = AddsTo l.initial.found.items l.found.items
    (flat_map (element_part (as_source l.source)) (take l.element-index l.element-items))
