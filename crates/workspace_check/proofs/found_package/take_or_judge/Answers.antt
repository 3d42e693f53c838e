-- The answers to the goals of `found_package::take_or_judge`.
use Rattle.std.proofs.Common.{sym, ◌∙◌, arith}
use Rattle.std.proofs.lemmas.Bool.{false≢true}
use Rattle.workspace_check.proofs.Underway.{judged_behind}
use Rattle.workspace_check.proofs.found_package.take_or_judge.Goals as goal

pub returns-then-knows : goal.returns-then-knows
returns-then-knows c = λ p at. record { right = c.requires.all; own = c.knows.ensures.0 c.if-knows.true; below = c.requires.below p at }

pub take_known-requires : goal.take_known-requires
take_known-requires c = record {
  number = c.requires.number;
  known = c.requires.known;
  all = c.requires.all;
  unknown = λ g. false≢true (sym c.if-knows.false ∙ c.knows.ensures.1 g);
}

pub judge_next-requires : goal.judge_next-requires
judge_next-requires c = record {
  in_range = c.requires.number;
  cycles = λ i j p q none at_i at_j imports. absurd (omega (arith, none));
  all = c.in_ok-take_known.ensures.right;
}

pub returns : goal.returns
returns c = λ p at.
    let taken = c.in_ok-take_known.ensures in
    judged_behind c.args.graph.now p c.args.number c.take_known.new.all c.judge_next.new.all at taken.right
    (λ q on. (let k = c.requires.below p at q on in (k.0, (taken.kept k.0 k.1.0, k.1.1)))) (c.in_ok-judge_next.ensures p at)
