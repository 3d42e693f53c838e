-- The answers to the goals of `reachability::Reachable::follow`.
use Rattle.std.proofs.Common.{ℕ, ◌≡◌, ◌+◌, ◌<◌, length, get_or, ap, sym, subst, ◌∙◌, arith}
use Rattle.std.specs.Prelude.{slice_get}
use Rattle.std.specs.List.{Contains}
use Rattle.std.proofs.lemmas.List.{get_or_read}
use Rattle.std.proofs.lemmas.List.Elements.{Contains-get_or}
use Rattle.types_declared.specs.Reachability.{LinksTo, links_from}
use Rattle.types_declared.proofs.ReachableParts.{IsPassed, marks_as, marks_then, passed_next, passed_more, passed_all, passed_held}
use Rattle.types_declared.proofs.reachability.Reachable.follow.Goals as goal

pub mark-requires-clause-in_range : goal.mark-requires-clause-in_range
mark-requires-clause-in_range c =
    let row = c.row-number-items.result.now in
    let q : ℕ = get_or row c.loop-number.number-index 0 in
    let held : Contains row q = Contains-get_or row c.loop-number.number-index 0 c.loop-number-test.true in
    let leads : LinksTo c.args.links.now c.index.result.now q = subst (λ xs. Contains xs q) c.row-number-items.ensures held in
    let below : q < length c.args.links.now = c.requires.linked c.index.result.now q leads in
    let size = c.loop-number.invariant.marked.size in
    omega (arith, size, c.requires.size)

pub loop-number-preserved : goal.loop-number-preserved
loop-number-preserved c =
    let row = c.row-number-items.result.now in
    let i = c.loop-number.number-index in
    record {
      listed = c.in_ok-mark.ensures.listed;
      marked = marks_then c.args.self.now.found.items c.args.self.now.marks.items c.loop-number.self.found.items c.loop-number.self.marks.items
          c.mark.new.self.found.items c.mark.new.self.marks.items (IsPassed row i)
          (λ q. q ≡ get_or row i 0) (IsPassed row (i + 1)) c.loop-number.invariant.marked c.in_ok-mark.ensures.marked (passed_next row i) (passed_more row i);
    }

pub returns-clause-marked : goal.returns-clause-marked
returns-clause-marked c =
    let row = c.row-number-items.result.now in
    let i = c.loop-number.number-index in
    let found = c.args.self.now.found.items in
    let from : c.index.result.now ≡ get_or found c.args.place 0 = get_or_read found c.args.place c.index.result.now c.requires.place c.index.ensures 0 in
    let is : row ≡ links_from (slice_get c.args.links.now (get_or found c.args.place 0)) = c.row-number-items.ensures ∙
    ap (λ a. links_from (slice_get c.args.links.now a)) from in
    let end : i ≡ length row = omega arith in
    marks_as found c.args.self.now.marks.items c.loop-number.self.found.items c.loop-number.self.marks.items (IsPassed row i)
    (LinksTo c.args.links.now (get_or found c.args.place 0))
    (λ q leads. passed_all row i q end (subst (λ xs. Contains xs q) (sym is) leads)) (λ q p. subst (λ xs. Contains xs q) is (passed_held row i q end p))
    c.loop-number.invariant.marked
