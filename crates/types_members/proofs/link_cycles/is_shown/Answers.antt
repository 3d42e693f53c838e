-- The answers to the goals of `link_cycles::is_shown`.
use Rattle.types_members.proofs.Reaching.{shown_by_test}
use Rattle.types_members.proofs.link_cycles.is_shown.Goals as goal

pub returns : goal.returns
returns c =
    let searches = c.args.searches.now in
    shown_by_test c.args.links.now searches.turns.items searches.origins.items searches.ends.items c.deref.result.now c.deref-2.result.now c.row.result.now
    searches.falls c.has_value_among.result c.args.number c.value_at-origin.result c.requires.linked c.requires.in_range c.requires.tells c.deref.ensures.value
    c.deref-2.ensures.value c.row.ensures c.value_at-origin.ensures c.has_value_among.ensures
