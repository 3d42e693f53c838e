-- One number further.
use Rattle.std.proofs.Common.{◌≡◌, ◌+◌, ◌<◌, ◌≤◌, ◌^◌, ℕ, length, get_or, sym, ap, subst, ◌∙◌, arith}
use Rattle.std.proofs.lemmas.List.{get_or_read}
use Rattle.workspace_graph.specs.Shifts.{shifted}
use Rattle.workspace_graph.proofs.InPlace.{replaced_all, replaced_more, replaced_next, replaced_none}
use Rattle.workspace_graph.proofs.link_rows.shift_from.Goals as goal

pub loop-index-init : goal.loop-index-init
loop-index-init c = replaced_none (shifted c.args.place) c.args.begin c.args.numbers.now.items

pub shifted-requires : goal.shifted-requires
shifted-requires c =
    let items = c.loop-index.numbers.items in
    let index = c.loop-index.index in
    let so = c.loop-index.invariant in
    let within : index < length items = omega (arith, c.loop-index-test.true, c.len-index-end.ensures, c.args.numbers.now.ok.0, so.size) in
    let is : c.index-number.result.now ≡ get_or items index 0 = get_or_read items index c.index-number.result.now within c.index-number.ensures 0 in
    let P : ℕ → Type 0 = λ number. number + 1 < 2 ^ 64 in
    subst P (sym is) (replaced_next P (shifted c.args.place) c.args.begin index c.args.numbers.now.items items so within c.requires.small)

pub loop-index-preserved : goal.loop-index-preserved
loop-index-preserved c =
    let items = c.loop-index.numbers.items in
    let index = c.loop-index.index in
    let so = c.loop-index.invariant in
    let within : index < length items = omega (arith, c.loop-index-test.true, c.len-index-end.ensures, c.args.numbers.now.ok.0, so.size) in
    let is : c.index-number.result.now ≡ get_or items index 0 = get_or_read items index c.index-number.result.now within c.index-number.ensures 0 in
    replaced_more (shifted c.args.place) c.args.begin index c.args.numbers.now.items items c.shifted.result within
    (c.shifted.ensures ∙ ap (shifted c.args.place) is) so

pub returns : goal.returns
returns c =
    let items = c.loop-index.numbers.items in
    let index = c.loop-index.index in
    let so = c.loop-index.invariant in
    let end : length items ≤ index = omega (arith, c.loop-index-test.false, c.len-index-end.ensures, c.args.numbers.now.ok.0, so.size) in
    replaced_all (shifted c.args.place) c.args.begin index c.args.numbers.now.items items c.requires.begin end so
