-- The answers to the goals of `scope::Scope::mode_before`.
use Rattle.std.proofs.Common.{◌-◌, ap, ◌∙◌, arith}
use Rattle.build_object.specs.SourceView.{source_of}
use Rattle.build_object.specs.Making.{before_link, mode_of}
use Rattle.build_object.proofs.Links.{stands_at_once, selector_stands, index_stands, call_stands}
use Rattle.build_object.proofs.scope.SlotScope.mode_before.Goals as goal

pub returns-then-number-eq0 : goal.returns-then-number-eq0
returns-then-number-eq0 c = λ o same. ap (λ p. before_link p.mode)
    (stands_at_once (source_of c.args.self.source.now) c.args.self.slots.now.places.items c.args.links.now c.args.number o (omega arith)) ∙ same

pub returns-in-Selector : goal.returns-in-Selector
returns-in-Selector c = λ o same. ap before_link (selector_stands (source_of c.args.self.source.now) c.args.self.slots.now.places.items c.args.links.now
    c.args.number (c.args.number - 1) _ _ _ (mode_of c.args.head) _ _ (omega arith) (omega arith) c.index-links-last.is c.in-Selector.is
    c.is_qualifier.ensures c.selector_mode.ensures o same)

pub returns-in-Index : goal.returns-in-Index
unfolding before_link mode_of
returns-in-Index c = λ o same. ap before_link (index_stands (source_of c.args.self.source.now) c.args.self.slots.now.places.items c.args.links.now
    c.args.number (c.args.number - 1) _ _ _ _ o (omega arith) (omega arith) c.index-links-last.is c.in-Index.is)

pub returns-in-Call : goal.returns-in-Call
unfolding before_link mode_of
returns-in-Call c = λ o same. ap before_link (call_stands (source_of c.args.self.source.now) c.args.self.slots.now.places.items c.args.links.now
    c.args.number (c.args.number - 1) _ _ _ _ o (omega arith) (omega arith) c.index-links-last.is c.in-Call.is)
