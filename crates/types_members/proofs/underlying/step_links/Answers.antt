-- The answers to the goals of `underlying::step_links`.
use Rattle.std.proofs.Common.{◌≡◌, ◌<◌, length, ap, ◌∙◌, arith}
use Rattle.std.specs.Prelude.{Some, slice_get}
use Rattle.std.proofs.lemmas.Option.{slice_get_read}
use Rattle.types_members.proofs.Steps.{no_link, next_link, all_links}
use Rattle.types_members.proofs.underlying.step_links.Goals as goal

pub loop-rank-init : goal.loop-rank-init
loop-rank-init c = no_link c.args.steps.now c.in_ok-links.links.items (omega (arith, c.in_ok-links.ensures.size)) c.in_ok-links.ensures.none

pub note_step-requires : goal.note_step-requires
note_step-requires c = λ to e.
    let is : slice_get c.args.steps.now c.loop-rank.rank ≡ Some c.index-steps-rank.result =
    slice_get_read c.args.steps.now (length c.args.steps.now) c.loop-rank.rank c.index-steps-rank.result (omega arith) (omega arith) c.index-steps-rank.is in
    let lt : to < length c.args.steps.now = c.requires c.loop-rank.rank to (is ∙ ap Some e) in
    omega (arith, c.loop-rank.invariant.size)

pub loop-rank-preserved : goal.loop-rank-preserved
loop-rank-preserved c =
    next_link c.args.steps.now c.loop-rank.links.items c.note_step.new.links.items c.loop-rank.rank c.index-steps-rank.result
    (slice_get_read c.args.steps.now (length c.args.steps.now) c.loop-rank.rank c.index-steps-rank.result (omega arith) (omega arith) c.index-steps-rank.is)
    c.in_ok-note_step.ensures c.loop-rank.invariant

pub returns : goal.returns
returns c = all_links c.args.steps.now c.loop-rank.links.items c.loop-rank.rank (omega arith) c.loop-rank.invariant
