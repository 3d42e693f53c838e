-- One package further: it is in the list exactly if it imports the path.
use Rattle.std.proofs.Common.{ℕ, ◌≡◌, length, sym, subst, ◌∙◌, arith}
use Rattle.std.proofs.lemmas.Bool.{false≢true}
use Rattle.workspace_graph.specs.Growth.{ImportsAt}
use Rattle.workspace_graph.specs.Imports.{ListsBelow}
use Rattle.workspace_graph.proofs.OrderedPackages.{ListsBelow-no, ListsBelow-none, ListsBelow-yes}
use Rattle.workspace_graph.proofs.grown.importing.Goals as goal
use Rattle.workspace_graph.proofs.grown.importing.Goals.{then-imports_coming+in_ok-push, else-imports_coming}

pub loop-number-init : goal.loop-number-init
loop-number-init c = ListsBelow-none (ImportsAt c.args.grown.packages.now c.args.path.now) c.new-list.result.items c.new-list.ensures.items

pub loop-number-preserved : goal.loop-number-preserved
loop-number-preserved c =
    let P : ℕ → Type 0 = ImportsAt c.args.grown.packages.now c.args.path.now in
    let list = c.loop-number.list.items in
    let n = c.loop-number.number in
    elim c.if-imports_coming.branch [
      | then-imports_coming+in_ok-push w ↦ rw (w.list-is, w.in_ok-push.ensures.items)
          (ListsBelow-yes P list n c.loop-number.invariant (c.imports_coming.ensures.0 w.if-imports_coming.true))
      | else-imports_coming w ↦ rw w.list-is (ListsBelow-no P list n c.loop-number.invariant (λ h.
          false≢true (sym w.if-imports_coming.false ∙ c.imports_coming.ensures.1 h)))
    ]

pub returns : goal.returns
returns c =
    let packages = c.args.grown.packages.now in
    let all : c.loop-number.number ≡ length packages = omega (arith, c.loop-number-test.false, c.loop-number.auto.number-end) in
    subst (λ k. ListsBelow (ImportsAt packages c.args.path.now) k c.loop-number.list.items) all c.loop-number.invariant
