-- The answers to the goals of `interfaces_turned::first_turned`.
use Rattle.std.proofs.Common.{◌≡◌, List, arith, subst, take}
use Rattle.std.specs.Prelude.{None}
use Rattle.std.proofs.lemmas.List.{take_all}
use Rattle.types_expr.specs.declared.symbol.Symbol.{Symbol}
use Rattle.refactor_coupled.specs.FirstTurns.{KeepsFirstOf}
use Rattle.refactor_coupled.proofs.TurnedNames.{kept_first}
use Rattle.refactor_coupled.proofs.TypeNames.{IsTurnedAmong, none_turned, turned_next}
use Rattle.refactor_coupled.proofs.interfaces_turned.first_turned.Goals as goal

pub loop-named-init : goal.loop-named-init
loop-named-init c =
    none_turned c.args.workspace.now (record { types = c.types_of.result; rename = c.args.rename }) c.in_ok-called.called.all.items

pub loop-named-preserved : goal.loop-named-preserved
loop-named-preserved c =
    turned_next c.args.workspace.now (record { types = c.types_of.result; rename = c.args.rename }) c.in_ok-called.called.all.items c.args.interfaces.now
    c.loop-named.named-index c.named-item.result c.loop-named-test.true c.named-item.is c.loop-named.first c.keep_if_turned.new.first
    c.loop-named.invariant c.in_ok-keep_if_turned.ensures

pub returns : goal.returns
returns c =
    let all : take c.loop-named.named-index c.args.interfaces.now ≡ c.args.interfaces.now =
    take_all c.loop-named.named-index c.args.interfaces.now (omega (arith, c.loop-named-test.false)) in
    kept_first c.args.workspace.now c.has_no_faults.ensures (record { types = c.types_of.result; rename = c.args.rename }) c.types_of.ensures
    c.in_ok-called.called.all.items c.args.interfaces.now c.in_ok-called.ensures.all c.requires c.loop-named.first
    (subst (λ (l : List Symbol). KeepsFirstOf (IsTurnedAmong c.args.workspace.now (record { types = c.types_of.result; rename = c.args.rename })
    c.in_ok-called.called.all.items l) None c.loop-named.first) all c.loop-named.invariant)
