-- The verdicts stay, and the earlier ones beside them change nothing.
use Rattle.std.proofs.Common.{◌≡◌, sym, subst}
use Rattle.std.proofs.lemmas.Result.{IfOk-weaker}
use Rattle.workspace_check.specs.Found.{KnowsVerdicts}
use Rattle.workspace_check.proofs.Telling.{known_same, known_still}
use Rattle.history_machine.proofs.resting.beside_earlier.Goals as goal

pub keep_earlier-requires : goal.keep_earlier-requires
keep_earlier-requires c = subst (KnowsVerdicts c.left.inside.files) (sym c.get.ensures) c.left.invariant.1

pub returns : goal.returns
returns c =
    let w = c.args.files.now in
    let awake = c.in_ok-awake.awake in
    let beside = c.keep_earlier.new.self in
    let right = known_same w c.args.known.now awake c.in_ok-awake.ensures.same c.requires in
    let still = known_still w awake beside c.keep_earlier.ensures right in
    IfOk-weaker c.new.result (λ shared. shared ≡ beside) (KnowsVerdicts w) (λ shared is. subst (KnowsVerdicts w) (sym is) still) c.new.ensures
