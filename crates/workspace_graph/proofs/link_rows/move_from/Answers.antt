-- One bound further.
use Rattle.std.proofs.Common.{◌≡◌, ◌+◌, ◌-◌, ◌<◌, ◌≤◌, ◌^◌, ℕ, length, get_or, sym, ap, subst, arith}
use Rattle.std.proofs.lemmas.List.{get_or_read}
use Rattle.workspace_graph.proofs.InPlace.{replaced_all, replaced_more, replaced_next, replaced_none}
use Rattle.workspace_graph.proofs.link_rows.move_from.Goals as goal

pub loop-index-init : goal.loop-index-init
loop-index-init c = replaced_none (λ end. end - c.args.down + c.args.up) c.args.begin c.args.bounds.now.items

pub overflow_sub-end : goal.overflow_sub-end
overflow_sub-end c =
    let items = c.loop-index.bounds.items in
    let index = c.loop-index.index in
    let so = c.loop-index.invariant in
    let down : ℕ = c.args.down in
    let up : ℕ = c.args.up in
    let within : index < length items = omega (arith, c.loop-index-test.true, c.len-index-end.ensures, c.args.bounds.now.ok.0, so.size) in
    let is : c.index-end.result.now ≡ get_or items index 0 = get_or_read items index c.index-end.result.now within c.index-end.ensures 0 in
    let P : ℕ → Type 0 = λ end. (down ≤ end) × (end - down + up < 2 ^ 64) in
    (subst P (sym is) (replaced_next P (λ end. end - down + up) c.args.begin index c.args.bounds.now.items items so within c.requires.fits)).0

pub overflow_add-end : goal.overflow_add-end
overflow_add-end c =
    let items = c.loop-index.bounds.items in
    let index = c.loop-index.index in
    let so = c.loop-index.invariant in
    let down : ℕ = c.args.down in
    let up : ℕ = c.args.up in
    let within : index < length items = omega (arith, c.loop-index-test.true, c.len-index-end.ensures, c.args.bounds.now.ok.0, so.size) in
    let is : c.index-end.result.now ≡ get_or items index 0 = get_or_read items index c.index-end.result.now within c.index-end.ensures 0 in
    let P : ℕ → Type 0 = λ end. (down ≤ end) × (end - down + up < 2 ^ 64) in
    let fits : P c.index-end.result.now =
    subst P (sym is) (replaced_next P (λ end. end - down + up) c.args.begin index c.args.bounds.now.items items so within c.requires.fits) in
    omega (arith, fits.1)

pub loop-index-preserved : goal.loop-index-preserved
loop-index-preserved c =
    let items = c.loop-index.bounds.items in
    let index = c.loop-index.index in
    let so = c.loop-index.invariant in
    let down : ℕ = c.args.down in
    let up : ℕ = c.args.up in
    let within : index < length items = omega (arith, c.loop-index-test.true, c.len-index-end.ensures, c.args.bounds.now.ok.0, so.size) in
    let is : c.index-end.result.now ≡ get_or items index 0 = get_or_read items index c.index-end.result.now within c.index-end.ensures 0 in
    replaced_more (λ end. end - down + up) c.args.begin index c.args.bounds.now.items items (c.index-end.result.now - down + up) within
    (ap (λ end. end - down + up) is) so

pub returns : goal.returns
returns c =
    let items = c.loop-index.bounds.items in
    let index = c.loop-index.index in
    let so = c.loop-index.invariant in
    let end : length items ≤ index = omega (arith, c.loop-index-test.false, c.len-index-end.ensures, c.args.bounds.now.ok.0, so.size) in
    replaced_all (λ end. end - c.args.down + c.args.up) c.args.begin index c.args.bounds.now.items items c.requires.begin end so
