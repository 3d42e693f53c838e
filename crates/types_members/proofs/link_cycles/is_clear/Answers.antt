-- The answers to the goals of `link_cycles::is_clear`.
use Rattle.types_members.proofs.Reaching.{clear_by_test}
use Rattle.types_members.proofs.link_cycles.is_clear.Goals as goal

pub returns : goal.returns
returns c =
    clear_by_test c.args.links.now c.args.searches.now.turns.items c.deref.result.now c.deref-2.result.now c.row.result.now c.args.number
    c.value_at-turn.result c.has_value_among.result c.deref.ensures.value c.deref-2.ensures.value c.row.ensures c.value_at-turn.ensures
    (c.requires.falling c.if-not-searches.false) c.has_value_among.ensures
