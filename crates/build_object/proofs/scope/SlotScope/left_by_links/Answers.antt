-- The answers to the goals of `scope::Scope::left_by_links`.
use Rattle.std.proofs.Common.{◌+◌, ap, sym, ◌∙◌, refl}
use Rattle.build_object.specs.SourceView.{source_of}
use Rattle.build_object.specs.Operands.{value_count}
use Rattle.build_object.specs.Making.{mode_of}
use Rattle.build_object.proofs.Modes.{same_left}
use Rattle.build_object.proofs.Links.{selector_stands, index_stands, call_stands}
use Rattle.build_object.proofs.scope.SlotScope.left_by_links.Goals as goal

pub returns-in-Selector : goal.returns-in-Selector
returns-in-Selector c = λ o same. ap value_count (selector_stands (source_of c.args.self.source.now) c.args.self.slots.now.places.items c.args.links.now
    (c.args.last + 1) c.args.last _ _ _ (mode_of c.args.head) _ _ refl c.requires c.index-links-last.is c.in-Selector.is c.is_qualifier.ensures
    c.selector_mode.ensures o same) ∙ sym c.values.ensures

pub returns-in-Index : goal.returns-in-Index
returns-in-Index c = λ o same. ap value_count (index_stands (source_of c.args.self.source.now) c.args.self.slots.now.places.items c.args.links.now
    (c.args.last + 1) c.args.last _ _ _ _ o refl c.requires c.index-links-last.is c.in-Index.is)

pub returns-in-Call : goal.returns-in-Call
returns-in-Call c = λ o same. ap value_count (call_stands (source_of c.args.self.source.now) c.args.self.slots.now.places.items c.args.links.now
    (c.args.last + 1) c.args.last _ _ _ _ o refl c.requires c.index-links-last.is c.in-Call.is)
    ∙ (same_left _ _ (c.mode_before.ensures o same) ∙ sym c.left_by_call.ensures)
