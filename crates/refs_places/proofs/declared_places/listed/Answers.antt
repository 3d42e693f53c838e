-- The answers to the goals of `declared_places::listed`.
use Rattle.std.proofs.Common.{length, sym, ◌∙◌}
use Rattle.std.specs.Prelude.{None}
use Rattle.std.proofs.lemmas.List.{get_or_past, get_or_default}
use Rattle.base_lemmas.proofs.Tests.{not_below}
use Rattle.refs_places.proofs.declared_places.listed.Goals as goal

pub returns-in-None : goal.returns-in-None
returns-in-None c = sym (get_or_past c.args.places.now c.args.number None (not_below c.args.number (length c.args.places.now) c.in-None.ensures.lookup.2))

pub returns-in-Some : goal.returns-in-Some
returns-in-Some c =
    c.as_ref.ensures.value ∙ c.in-Some.ensures.lookup.1 ∙ get_or_default c.args.places.now c.args.number c.in-Some.place.now None c.in-Some.ensures.lookup.3.0
