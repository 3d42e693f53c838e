-- What was marked, where marks are closed.
use Rattle.workspace_graph.proofs.Reached.{closed_still, marks_reached}
use Rattle.workspace_graph.proofs.search.reach.Goals as goal

pub returns-clause-reached : goal.returns-clause-reached
returns-clause-reached c =
    marks_reached c.args.links.now c.args.start c.args.marks.now.items c.in_ok-visit.field-0.items c.visit.new.marks.items c.in_ok-visit.ensures
    c.requires.closed

pub returns-clause-closed : goal.returns-clause-closed
returns-clause-closed c =
    closed_still c.args.links.now c.args.start c.args.marks.now.items c.in_ok-visit.field-0.items c.visit.new.marks.items c.in_ok-visit.ensures
    c.requires.closed
