-- The change of the number is one of the changes.
use Rattle.std.proofs.Common.{length, sym, subst, ltb-true}
use Rattle.std.specs.List.{Contains}
use Rattle.std.proofs.lemmas.Option.{IfSome_then}
use Rattle.workspace_graph.proofs.known_edits.staying_change.Goals as goal

pub returns-in-Some : goal.returns-in-Some
returns-in-Some c =
    let changed = c.args.changed.now in
    let found = c.in-Some.ensures.lookup in
    let among : Contains changed c.in-Some.change.now = (c.args.number, ltb-true c.args.number (length changed) (sym found.0), sym found.1) in
    IfSome_then c.staying_at.result c.staying_at.ensures (λ change is. (subst (Contains changed) (sym is.0) among, is.1, is.2))
