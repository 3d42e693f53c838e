-- The verdicts that were found are given.
use Rattle.std.proofs.Common.{sym, subst}
use Rattle.workspace_check.specs.Found.{AreVerdictsOf}
use Rattle.tool_threads.specs.Given.{GiveVerdictsOf}
use Rattle.tool_threads.proofs.together.note_part.Goals as goal

pub take_in_each-requires : goal.take_in_each-requires
take_in_each-requires c =
    let w = c.args.graph.now in
    let here = subst (GiveVerdictsOf w) c.in-Ok.is c.requires.part in
    record { found = subst (AreVerdictsOf w) (sym c.as_slice.ensures.value) here; room = c.requires.room; known = c.requires.known }
