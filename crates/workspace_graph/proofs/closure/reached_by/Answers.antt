-- One package further.
use Rattle.std.proofs.Common.{rules, ◌≡◌, ℕ, length, get_or, replicate, false, ap, sym, subst, ◌∙◌, arith}
use Rattle.std.proofs.lemmas.Bool.{false≢true}
use Rattle.std.proofs.lemmas.List.{length-replicate}
use Rattle.workspace_graph.specs.Search.{AreReached, IsMarked}
use Rattle.workspace_graph.proofs.Reached.{none_in, reached_none, reached_closed, reached_more, reached_skip}
use Rattle.workspace_graph.proofs.closure.reached_by.Goals as goal
use Rattle.workspace_graph.proofs.closure.reached_by.Goals.{then-starts-start+in_ok-reach, else-starts-start}

pub loop-start-init : goal.loop-start-init
loop-start-init c =
    let g = c.args.links.now in
    let marks = c.in_ok-marks.marks.items in
    let is : marks ≡ replicate (length g) false =
    subst (λ (n : ℕ). marks ≡ replicate n false) c.len.ensures (c.in_ok-marks.ensures.items_if_clones_equal (search rules)) in
    reached_none g c.args.starts.now marks (ap length is ∙ length-replicate (length g) false) (none_in marks (length g) is)

pub reach-requires : goal.reach-requires
reach-requires c = record {
  linked = c.requires.linked;
  size = c.loop-start.invariant.size;
  start = omega arith;
  closed = reached_closed c.args.links.now c.args.starts.now c.loop-start.start c.loop-start.marks.items c.requires.linked c.loop-start.invariant;
}

pub loop-start-preserved : goal.loop-start-preserved
loop-start-preserved c =
    let g = c.args.links.now in
    let starts = c.args.starts.now in
    let n = c.loop-start.start in
    let m = c.loop-start.marks.items in
    elim c.if-starts-start.branch [
      | then-starts-start+in_ok-reach w ↦
          let marked : IsMarked starts n = w.if-starts-start.true in
          rw w.marks-is (reached_more g starts n m w.reach.new.marks.items c.loop-start.invariant marked w.in_ok-reach.ensures.reached)
      | else-starts-start w ↦
          let clear : get_or starts n false ≡ false = w.if-starts-start.false in
          rw w.marks-is (reached_skip g starts n m c.loop-start.invariant (λ m. false≢true (sym clear ∙ m)))
    ]

pub returns : goal.returns
returns c =
    let all : c.loop-start.start ≡ length c.args.links.now = omega (arith, c.loop-start-test.false, c.loop-start.auto.start-end) in
    subst (λ (n : ℕ). AreReached c.args.links.now c.args.starts.now n c.loop-start.marks.items) all c.loop-start.invariant
