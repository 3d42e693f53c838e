-- Where each verdict is known nothing comes; else what comes is shared.
use Rattle.std.proofs.Common.{ℕ, ◌≡◌, ◌<◌, length, sym, subst, arith}
use Rattle.std.proofs.lemmas.Result.{IfOk-weaker}
use Rattle.base_files.specs.Packages.{package_paths}
use Rattle.workspace_check.specs.Found.{KnowsVerdicts}
use Rattle.workspace_check.specs.declared.known.Known.{Known}
use Rattle.build_carry.specs.Learned.{HasVerdictAt, LearnsFrom}
use Rattle.build_carry.proofs.TakenVerdicts.{learns_nothing}
use Rattle.build_carry.proofs.learning.learned_from.Goals as goal

pub returns-then-knows_each : goal.returns-then-knows_each
returns-then-knows_each c =
    let w = c.args.files.now in
    let own = c.args.own.now in
    let each : (n : ℕ) → n < length (package_paths w) → HasVerdictAt own n = λ n lt.
    let below : n < length (package_paths w) = lt in
    subst (λ (k : Known). HasVerdictAt k n) c.get.ensures (c.knows_each.ensures c.if-knows_each.true n (omega (arith, below, c.len.ensures))) in
    subst (LearnsFrom w own c.args.judged.now c.args.found.now) (sym c.in_ok-same.ensures.cases)
    (learns_nothing w own c.args.judged.now c.args.found.now each c.requires.own)

pub with_kept-requires : goal.with_kept-requires
with_kept-requires c = record {
  own = subst (KnowsVerdicts c.args.files.now) (sym c.get-2.ensures) c.requires.own;
  from = record { right = c.requires.found; before = c.in_ok-marks.ensures.before; after = c.in_ok-marks.ensures.after };
}

pub returns : goal.returns
returns c =
    let w = c.args.files.now in
    let known = c.in_ok-known.known in
    let learns = LearnsFrom w c.args.own.now c.args.judged.now c.args.found.now in
    let told = subst (λ (own : Known). LearnsFrom w own c.args.judged.now c.args.found.now known) c.get-2.ensures c.in_ok-known.ensures in
    IfOk-weaker c.new.result (λ shared. shared ≡ known) learns (λ shared is. subst learns (sym is) told) c.new.ensures
