-- What is carried over is that of the state's own table.
use Rattle.std.proofs.Common.{sym, subst}
use Rattle.std.proofs.lemmas.Result.{IfOk-weaker}
use Rattle.base_files.specs.Workspace.{Workspace}
use Rattle.build_carry.specs.Finished.{HasNoUnit}
use Rattle.build_carry.specs.Carried.{IsCarried}
use Rattle.history_machine.specs.State.{State}
use Rattle.history_book.proofs.following.carried_bare.Goals as goal

pub nothing_carried-requires : goal.nothing_carried-requires
nothing_carried-requires c = subst (λ (s : State). HasNoUnit s.finished) (sym c.current.view_is) c.requires

pub returns-clause-units : goal.returns-clause-units
returns-clause-units c =
    let state = c.args.current.now in
    let files = c.args.files.now in
    IfOk-weaker c.nothing_carried.result (λ carried. (before : Workspace) → IsCarried before c.current.inside.finished files carried.0)
    (λ carried. IsCarried state.files state.finished files carried.0)
    (λ carried right. subst (λ (s : State). IsCarried state.files s.finished files carried.0) c.current.view_is (right state.files))
    c.nothing_carried.ensures.units

pub returns-clause-known : goal.returns-clause-known
returns-clause-known c = c.nothing_carried.ensures.known
