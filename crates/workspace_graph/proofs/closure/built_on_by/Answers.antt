-- What is left where the marks are flipped is reached, and does not lead back.
use Rattle.std.proofs.Common.{ℕ, Bool, List, length, subst}
use Rattle.std.proofs.lemmas.Result.{IfOk-weaker}
use Rattle.workspace_graph.specs.Imports.{LinkTable}
use Rattle.workspace_graph.specs.Search.{InvertsMarks, ListsMarked, UnmarksBelow}
use Rattle.workspace_graph.specs.Closures.{IsBuiltOnList}
use Rattle.workspace_graph.proofs.Below.{built_on_is}
use Rattle.workspace_graph.proofs.closure.built_on_by.Goals as goal

pub returns : goal.returns
returns c =
    let flips = subst (λ (ms : List Bool). InvertsMarks ms c.flip.new.marks.items) c.in_ok-marks.ensures.items c.flip.ensures in
    IfOk-weaker c.marked.result (ListsMarked c.deref.result.now (length c.deref.result.now))
    (λ below. (g : LinkTable) (p : ℕ) → UnmarksBelow g p c.args.back.now → IsBuiltOnList g p below)
    (λ numbers held g p tells. built_on_is g p c.args.back.now c.flip.new.marks.items numbers tells flips
    (subst (λ (ms : List Bool). ListsMarked ms (length ms) numbers) c.deref.ensures.value held)) c.marked.ensures
