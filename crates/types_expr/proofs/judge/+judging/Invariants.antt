-- The invariants of the loops of `judge::judging`.
use Rattle.std.proofs.Common.{drop, map, option_map}
use Rattle.types_expr.specs.declared.found.FoundInFile.{FoundInFile}
use Rattle.types_expr.specs.Judge.{Judged, judge_links, judge_operands, judge_arguments, judge_elements, none_seen}
use Rattle.types_expr.specs.View.{type_of}
use Rattle.types_expr.specs.WorldView.{world_of}
use Rattle.types_expr.specs.Lists.{links_in, operands_in, arguments_in, elements_in}
use Rattle.types_expr.specs.Found.{AddsJudged, locals_of, meaning_of, list_value, seen_of}
use Rattle.types_expr.proofs.AddedJudgements.{Reached, ReachedList, ReachedElements}
use Rattle.types_expr.proofs.judge.+judging.Given as goal

abbrev pub invariant-arguments-loop-argument : goal.invariant-arguments-loop-argument
invariant-arguments-loop-argument l =
    ReachedList (judge_arguments (world_of l.scope.world.now) (locals_of l.scope.locals.now) (arguments_in l.list))
    (judge_arguments (world_of l.scope.world.now) (locals_of l.scope.locals.now) (arguments_in (drop l.argument-index l.list)))
    l.fn.found l.found (map list_value l.values.items)

abbrev pub invariant-binary-loop-operand : goal.invariant-binary-loop-operand
invariant-binary-loop-operand l = (j : Judged) (before : FoundInFile) → AddsJudged j before l.fn.found (meaning_of l.fn.meaning) →
    Reached (judge_operands (world_of l.scope.world.now) (locals_of l.scope.locals.now) l.start j (operands_in l.rest))
    (λ k. judge_operands (world_of l.scope.world.now) (locals_of l.scope.locals.now) l.start k (operands_in (drop l.operand-index l.rest)))
    before l.found (meaning_of l.meaning)

abbrev pub invariant-chain-loop-next : goal.invariant-chain-loop-next
invariant-chain-loop-next l = (j : Judged) (before : FoundInFile) → AddsJudged j before l.fn.found (meaning_of l.fn.meaning) →
    Reached (judge_links (world_of l.scope.world.now) (locals_of l.scope.locals.now) l.fn.at.start l.fn.at.place j (links_in l.links))
    (λ k. judge_links (world_of l.scope.world.now) (locals_of l.scope.locals.now) l.fn.at.start l.place k (links_in (drop l.next-index l.links)))
    before l.found (meaning_of l.meaning)

abbrev pub invariant-elements-loop-element : goal.invariant-elements-loop-element
invariant-elements-loop-element l =
    ReachedElements (judge_elements (world_of l.scope.world.now) (locals_of l.scope.locals.now) (option_map type_of l.own) none_seen (elements_in l.list))
    (judge_elements (world_of l.scope.world.now) (locals_of l.scope.locals.now) (option_map type_of l.own) (seen_of l.seen)
    (elements_in (drop l.element-index l.list)))
    l.fn.found l.found l.elements.whole l.elements.unkeyed
