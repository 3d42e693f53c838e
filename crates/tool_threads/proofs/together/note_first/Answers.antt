-- The first thread keeps its promise, and the others have theirs.
use Rattle.std.proofs.Common.{◌≡◌, subst, sym}
use Rattle.std.proofs.lemmas.List.Elements.{All-drop, All-same}
use Rattle.base_files.specs.Workspace.{Workspace}
use Rattle.tool_threads.specs.Given.{GiveVerdictsOf}
use Rattle.tool_threads.proofs.together.note_first.Goals as goal

pub note_part-requires : goal.note_part-requires
note_part-requires g c =
    let w = c.args.graph.now in
    let named = subst (λ thread. thread.promise.graph.value ≡ w) (sym c.remove-thread.ensures.value) (c.requires.threads 0 c.remove-thread.result
    c.requires.some) in
    record { part = subst (λ (v : Workspace). GiveVerdictsOf v c.join-part.result) named c.join-part.ensures; room = c.requires.room; known = c.requires.known }

pub returns-clause-threads : goal.returns-clause-threads
returns-clause-threads g c =
    All-same (λ thread. thread.promise.graph.value ≡ c.args.graph.now) _ _ c.remove-thread.ensures.items
    (All-drop (λ thread. thread.promise.graph.value ≡ c.args.graph.now) 1 c.args.threads.now.items c.requires.threads)
