-- One row more, and all of them at the end.
use Rattle.std.proofs.Common.{◌≡◌, ◌≤◌, ◌<◌, ◌++◌, ◌∷◌, [], ℕ, List, length, take, ap, sym, ◌∙◌, arith}
use Rattle.std.proofs.lemmas.List.{take_all, take_more}
use Rattle.workspace_graph.specs.Imports.{LinkTable, row_of}
use Rattle.workspace_graph.proofs.importers.Chains.rows.Goals as goal

pub loop-number-preserved : goal.loop-number-preserved
loop-number-preserved c = λ lists are.
    let n = c.loop-number.number in
    let row : c.deref.result.now ≡ row_of lists n = c.deref.ensures.value ∙ c.in_ok-fill_row.ensures lists are in
    let lt : n < length lists = omega (arith, c.loop-number-test.true, c.len-number-end.ensures, are.size, c.args.self.now.latest.ok.0) in
    c.in_ok-add_row.ensures
    ∙ (ap (λ (g : LinkTable). g ++ c.deref.result.now ∷ []) (c.loop-number.invariant lists are)
    ∙ (ap (λ (r : List ℕ). take n lists ++ r ∷ []) row ∙ sym (take_more lists n [] lt)))

pub returns : goal.returns
returns c = λ lists are.
    let all : length lists ≤ c.loop-number.number =
    omega (arith, c.loop-number-test.false, c.len-number-end.ensures, are.size, c.args.self.now.latest.ok.0) in
    c.loop-number.invariant lists are ∙ take_all c.loop-number.number lists all
