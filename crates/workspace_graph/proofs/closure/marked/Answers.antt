-- One package further: it is in the list exactly if it is marked.
use Rattle.std.proofs.Common.{◌≡◌, ℕ, List, length, arith, subst, sym, ◌∙◌}
use Rattle.std.proofs.lemmas.Bool.{false≢true}
use Rattle.workspace_graph.specs.Search.{ListsMarked, IsMarked}
use Rattle.workspace_graph.proofs.OrderedPackages.{ListsBelow-yes, ListsBelow-no}
use Rattle.workspace_graph.proofs.closure.marked.Goals as goal
use Rattle.workspace_graph.proofs.closure.marked.Goals.{then-mark+in_ok-push, else-mark}

pub loop-number-preserved : goal.loop-number-preserved
loop-number-preserved c =
    let P = IsMarked c.args.marks.now in
    let list = c.loop-number.list.items in
    let n = c.loop-number.number in
    elim c.if-mark.branch [
      | then-mark+in_ok-push w ↦ rw (w.list-is, w.in_ok-push.ensures.items) (ListsBelow-yes P list n c.loop-number.invariant w.if-mark.true)
      | else-mark w ↦ rw w.list-is (ListsBelow-no P list n c.loop-number.invariant (λ m. false≢true (sym w.if-mark.false ∙ m)))
    ]

pub returns : goal.returns
returns c =
    let marks = c.args.marks.now in
    let n = c.loop-number.number in
    let all : n ≡ length marks = omega (arith, c.loop-number-test.false, c.loop-number.auto.number-end) in
    subst (λ (k : ℕ). ListsMarked marks k c.from_numbers.result) all
    (subst (λ (l : List ℕ). ListsMarked marks n l) (sym c.from_numbers.ensures) c.loop-number.invariant)
