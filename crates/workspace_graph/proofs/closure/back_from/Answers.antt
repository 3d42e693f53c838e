-- What is marked in the end leads back, or is not reached.
use Rattle.std.proofs.Common.{◌∙◌}
use Rattle.workspace_graph.proofs.Below.{tell_back}
use Rattle.workspace_graph.proofs.closure.back_from.Goals as goal

pub visit-requires : goal.visit-requires
visit-requires c = record {
  linked = c.requires.linked;
  size = c.flip.ensures.size ∙ c.requires.size;
  start = c.requires.number;
}

pub returns : goal.returns
returns c = λ g linked back reached.
    tell_back g c.args.importers.now linked back c.args.number c.args.marks.items c.flip.new.marks.items c.visit.new.marks.items
    c.in_ok-visit.field-0.items (c.requires.size ∙ back.size) reached c.flip.ensures c.in_ok-visit.ensures
