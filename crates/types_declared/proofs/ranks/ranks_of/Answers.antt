-- The answers to the goals of `ranks::ranks_of`.
use Rattle.std.proofs.Common.{rules, arith, ◌≡◌, ◌∙◌, length, subst, ap, replicate, None}
use Rattle.std.proofs.lemmas.Option.{slice_get-get_or}
use Rattle.go_scope.specs.Packages.{layout_in}
use Rattle.types_declared.proofs.Ranking.{AreRanksBelow, ranks_next, ranks_none, ranks_whole}
use Rattle.types_declared.proofs.ranks.ranks_of.Goals as goal

pub loop-rank-init : goal.loop-rank-init
loop-rank-init c =
    ranks_none c.args.places.now (layout_in c.args.table.now) (length c.args.table.now.sites) c.in_ok-ranks.ranks.items
    (c.in_ok-ranks.ensures.items_if_clones_equal (search rules) ∙ ap (λ n. replicate n None) c.len.ensures)

pub note_rank-requires : goal.note_rank-requires
note_rank-requires c = c.loop-rank.invariant.all

pub loop-rank-preserved : goal.loop-rank-preserved
loop-rank-preserved c =
    let places = c.args.places.now in
    let rank = c.loop-rank.rank in
    ranks_next places (layout_in c.args.table.now) (length c.args.table.now.sites) rank c.loop-rank.ranks.items c.note_rank.new.ranks.items _
    (slice_get-get_or places rank _ (omega arith)) c.note_rank.ensures c.loop-rank.invariant

pub returns : goal.returns
returns c =
    let e : c.loop-rank.rank ≡ length c.args.places.now = omega arith in
    ranks_whole c.args.places.now (layout_in c.args.table.now) (length c.args.table.now.sites) c.loop-rank.ranks.items
    (subst (λ n. AreRanksBelow c.args.places.now (layout_in c.args.table.now) (length c.args.table.now.sites) n c.loop-rank.ranks.items) e
    c.loop-rank.invariant)
