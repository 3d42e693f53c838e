-- One importer more is passed, until none is left.
use Rattle.std.proofs.Common.{◌≡◌, ◌-◌, ◌<◌, ◌++◌, ℕ, List, Some, slice_get, length, reverse, ap, sym, ◌∙◌, arith}
use Rattle.std.proofs.lemmas.List.{get_or_read}
use Rattle.std.proofs.lemmas.Option.{slice_get-get_or}
use Rattle.workspace_graph.proofs.Chained.{chain_end, chain_read, chain_within, passed_more}
use Rattle.workspace_graph.proofs.importers.Chains.fill_row.Goals as goal

pub index-noted-requires : goal.index-noted-requires
index-noted-requires c =
    let got = c.loop-left.invariant c.requires.chained.0 c.requires.chained.1 in
    let within = chain_within c.args.self.now.noted.items got.1 in
    omega (arith, within, c.loop-left-test.true, c.args.self.now.noted.ok.0)

pub loop-left-smaller : goal.loop-left-smaller
loop-left-smaller c =
    let noted = c.args.self.now.noted.items in
    let one = c.index-noted.result.now in
    let got = c.loop-left.invariant c.requires.chained.0 c.requires.chained.1 in
    let within = chain_within noted got.1 in
    let lt : c.loop-left.left - 1 < length noted = omega (arith, within, c.loop-left-test.true) in
    let at : slice_get noted (c.loop-left.left - 1) ≡ Some one =
    slice_get-get_or noted (c.loop-left.left - 1) one lt ∙ ap Some (sym (get_or_read noted (c.loop-left.left - 1) one lt c.index-noted.ensures one)) in
    (chain_read noted one got.1 c.loop-left-test.true at).smaller

pub loop-left-preserved : goal.loop-left-preserved
loop-left-preserved c = λ lists are.
    let noted = c.args.self.now.noted.items in
    let one = c.index-noted.result.now in
    let got = c.loop-left.invariant lists are in
    let within = chain_within noted got.1 in
    let lt : c.loop-left.left - 1 < length noted = omega (arith, within, c.loop-left-test.true) in
    let at : slice_get noted (c.loop-left.left - 1) ≡ Some one =
    slice_get-get_or noted (c.loop-left.left - 1) one lt ∙ ap Some (sym (get_or_read noted (c.loop-left.left - 1) one lt c.index-noted.ensures one)) in
    let read = chain_read noted one got.1 c.loop-left-test.true at in
    (read.rest, read.chain, rw c.in_ok-push.ensures.items (passed_more read.rest c.loop-left.row.items got.0 _ one.importer read.is got.2))

pub returns : goal.returns
returns c = λ lists are.
    let got = c.loop-left.invariant lists are in
    let none : c.loop-left.left ≡ 0 = omega (arith, c.loop-left-test.false) in
    c.reverse.ensures.items
    ∙ (ap (λ (l : List ℕ). l ++ reverse c.loop-left.row.items) (sym (chain_end c.args.self.now.noted.items got.1 none)) ∙ got.2)
