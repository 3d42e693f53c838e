-- Verdicts are added to a copy of what is known.
use Rattle.std.proofs.Common.{◌≡◌, sym, subst}
use Rattle.std.proofs.lemmas.Result.{IfOk-weaker}
use Rattle.workspace_check.specs.Found.{KnowsVerdicts}
use Rattle.build_carry.proofs.learning.with_verdicts.Goals as goal

pub copy_with_places-requires : goal.copy_with_places-requires
copy_with_places-requires c = subst (KnowsVerdicts c.args.files.now) (sym c.get.ensures) c.requires.own

pub take_in_each-requires : goal.take_in_each-requires
take_in_each-requires c = record { found = c.requires.found; room = c.in_ok-known.ensures.room; known = c.in_ok-known.ensures.known }

pub returns : goal.returns
returns c =
    let known = c.take_in_each.new.known in
    let right = KnowsVerdicts c.args.files.now in
    IfOk-weaker c.new.result (λ shared. shared ≡ known) right (λ shared is. subst right (sym is) c.in_ok-take_in_each.ensures.known) c.new.ensures
