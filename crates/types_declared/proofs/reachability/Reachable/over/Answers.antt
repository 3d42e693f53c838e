-- The answers to the goals of `reachability::Reachable::over`.
use Rattle.std.proofs.Common.{◌≡◌, ◌<◌, length, get_or, ◌∙◌, arith, inl, inr, subst}
use Rattle.types_declared.specs.Reachability.{HasMark, first}
use Rattle.types_declared.proofs.ReachableParts.{followed_more, reached_more, ordered_more, holds_reached, IsFollowed}
use Rattle.types_declared.proofs.reachability.Reachable.over.Goals as goal

pub loop-place-init : goal.loop-place-init
loop-place-init c =
    let more = c.in_ok-begin.ensures.marked in
    record {
      size = more.size ∙ c.in_ok-spread.ensures.size;
      listed = c.in_ok-begin.ensures.listed;
      begun = more.holds;
      sound = λ q m. elim (more.only q m) [ inl k ↦ absurd (c.in_ok-spread.ensures.none q k) | inr b ↦ first b ];
      followed = λ i q lt leads. absurd (omega arith);
      ordered = λ i lt. elim (more.only (get_or c.begin.new.self.found.items i 0) (c.in_ok-begin.ensures.listed.marked i lt))
          [ inl k ↦ absurd (c.in_ok-spread.ensures.none (get_or c.begin.new.self.found.items i 0) k) | inr b ↦ inl b ];
      within = omega arith;
    }

pub loop-place-preserved : goal.loop-place-preserved
loop-place-preserved c =
    let inv = c.loop-place.invariant in
    let more = c.in_ok-follow.ensures.marked in
    let f = c.loop-place.spread.found.items in
    let m = c.loop-place.spread.marks.items in
    let g = c.follow.new.self.found.items in
    let n = c.follow.new.self.marks.items in
    let here : c.loop-place.place < length f = omega (arith, c.len.ensures, c.loop-place-test.true) in
    record {
      size = more.size ∙ inv.size;
      listed = c.in_ok-follow.ensures.listed;
      begun = λ q b. more.keeps q (inv.begun q b);
      sound = reached_more c.args.links.now (HasMark c.args.begins.now) f m g n c.loop-place.place here inv.listed inv.sound more;
      followed = followed_more c.args.links.now f m g n c.loop-place.place here inv.followed more;
      ordered = ordered_more c.args.links.now (HasMark c.args.begins.now) f m g n c.loop-place.place here inv.listed c.in_ok-follow.ensures.listed
          inv.ordered more;
      within = omega (arith, more.longer);
    }

pub returns-clause-reached : goal.returns-clause-reached
returns-clause-reached c =
    let inv = c.loop-place.invariant in
    let f = c.loop-place.spread.found.items in
    let m = c.loop-place.spread.marks.items in
    let end : c.loop-place.place ≡ length f = omega (arith, inv.within, c.len.ensures, c.loop-place-test.false) in
    λ q. (
      inv.sound q,
      holds_reached c.args.links.now (HasMark c.args.begins.now) f m inv.listed inv.begun
          (subst (IsFollowed c.args.links.now f m) end inv.followed) q,
    )
