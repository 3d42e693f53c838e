-- A package that was not marked is noted, and one that was is not.
use Rattle.std.proofs.Common.{true, false}
use Rattle.workspace_graph.proofs.SearchSteps.{finds_more, notes_one, notes_same, mark_read}
use Rattle.workspace_graph.proofs.search.note.Goals as goal

pub returns-in_ok-push-clause-finds : goal.returns-in_ok-push-clause-finds
returns-in_ok-push-clause-finds c = λ first h.
    let found = c.args.found.now.items in
    let marks = c.args.marks.now.items in
    let clear = mark_read marks c.args.number c.index.result.now false c.requires c.index.ensures c.if-not-index.true in
    rw c.in_ok-push.ensures.items (finds_more found marks c.args.number c.requires clear first h)

pub returns-in_ok-push-clause-noted : goal.returns-in_ok-push-clause-noted
returns-in_ok-push-clause-noted c =
    let found = c.args.found.now.items in
    let marks = c.args.marks.now.items in
    let clear = mark_read marks c.args.number c.index.result.now false c.requires c.index.ensures c.if-not-index.true in
    rw c.in_ok-push.ensures.items (notes_one found marks c.args.number c.requires clear)

pub returns-else-not-index-clause-noted : goal.returns-else-not-index-clause-noted
returns-else-not-index-clause-noted c =
    notes_same c.args.found.now.items c.args.marks.now.items c.args.number
    (mark_read c.args.marks.now.items c.args.number c.index.result.now true c.requires c.index.ensures c.if-not-index.false)
