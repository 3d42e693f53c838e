-- A search is over where all that was found is followed.
use Rattle.std.proofs.Common.{◌≡◌, ◌<◌, ℕ, List, [], length, get_or, ap, sym, subst, ◌∙◌, arith, refl}
use Rattle.std.proofs.lemmas.List.Sums.{count_by-le-length}
use Rattle.workspace_graph.specs.Search.{ListsNewMarks, AreImportsMarked}
use Rattle.workspace_graph.proofs.SearchSteps.{finds_none, followed_more, marked_within}
use Rattle.workspace_graph.proofs.Reached.{found_first, found_more}
use Rattle.workspace_graph.proofs.search.visit.Goals as goal

pub note-requires : goal.note-requires
note-requires c = (let lt = c.requires.start in omega (arith, c.requires.size))

pub loop-place-init : goal.loop-place-init
loop-place-init c =
    let none : c.in_ok-found.found.items ≡ [] = c.in_ok-found.ensures.items in
    let more = c.in_ok-note.ensures.noted in
    record {
      finds = c.in_ok-note.ensures.finds c.args.marks.now.items
          (subst (λ (f : List ℕ). ListsNewMarks c.args.marks.now.items f c.args.marks.now.items) (sym none) (finds_none c.args.marks.now.items));
      begun = more.holds c.args.start refl;
      followed = λ i lt q leads. absurd (omega arith);
      reached = found_first c.args.links.now c.args.start c.in_ok-found.found.items c.args.marks.now.items c.note.new.found.items c.note.new.marks.items
          c.requires.start (ap length none) more;
      within = omega arith;
    }

pub follow-requires : goal.follow-requires
follow-requires c =
    let inv = c.loop-place.invariant in
    let f = c.loop-place.found.items in
    let here : c.loop-place.place < length f = omega (arith, c.len.ensures, c.loop-place-test.true) in
    let size : length c.loop-place.marks.items ≡ length c.args.links.now = inv.finds.size ∙ c.requires.size in
    record {
      linked = c.requires.linked;
      size = size;
      within = subst (λ (n : ℕ). get_or f c.loop-place.place 0 < n) size
          (marked_within c.loop-place.marks.items (get_or f c.loop-place.place 0) (inv.finds.marked c.loop-place.place here));
      place = here;
    }

pub loop-place-preserved : goal.loop-place-preserved
loop-place-preserved c =
    let inv = c.loop-place.invariant in
    let g = c.args.links.now in
    let f = c.loop-place.found.items in
    let m = c.loop-place.marks.items in
    let h = c.follow.new.found.items in
    let n = c.follow.new.marks.items in
    let more = c.in_ok-follow.ensures.noted in
    let here : c.loop-place.place < length f = omega (arith, c.len.ensures, c.loop-place-test.true) in
    record {
      finds = c.in_ok-follow.ensures.finds c.args.marks.now.items inv.finds;
      begun = more.kept c.args.start inv.begun;
      followed = followed_more g f m h n c.loop-place.place here inv.followed more;
      reached = found_more g c.args.start f m h n c.loop-place.place c.requires.linked here inv.reached more;
      within = omega (arith, more.longer);
    }

pub loop-place-smaller : goal.loop-place-smaller
loop-place-smaller c =
    let inv = c.loop-place.invariant in
    let m = c.loop-place.marks.items in
    let most = count_by-le-length (λ b. b) m in
    let here : c.loop-place.place < length c.loop-place.found.items = omega (arith, c.len.ensures, c.loop-place-test.true) in
    let size : length m ≡ length c.args.links.now = inv.finds.size ∙ c.requires.size in
    let counted = inv.finds.counted in
    omega arith

pub returns : goal.returns
returns c =
    let inv = c.loop-place.invariant in
    let f = c.loop-place.found.items in
    let m = c.loop-place.marks.items in
    let end : c.loop-place.place ≡ length f = omega (arith, inv.within, c.len.ensures, c.loop-place-test.false) in
    record {
      finds = inv.finds;
      begun = inv.begun;
      followed = subst (AreImportsMarked c.args.links.now f m) end inv.followed;
      reached = inv.reached;
    }
