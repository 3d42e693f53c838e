-- The answers to the goals of `interfaces_turned::keep_if_turned`.
use Rattle.std.proofs.Common.{sym, ◌∙◌}
use Rattle.refactor_coupled.proofs.TypeNames.{turned_kept, unturned_kept}
use Rattle.refactor_coupled.proofs.interfaces_turned.keep_if_turned.Goals as goal

pub returns-then-not-turns_named : goal.returns-then-not-turns_named
returns-then-not-turns_named c =
    unturned_kept c.args.workspace.now c.args.types.now c.args.called.now.all.items c.args.named.now (sym c.turns_named.ensures ∙ c.if-not-turns_named.true)
    c.args.first.now

pub returns : goal.returns
returns c =
    turned_kept c.args.workspace.now c.args.types.now c.args.called.now.all.items c.args.named.now (sym c.turns_named.ensures ∙ c.if-not-turns_named.false)
    c.in_ok-found.found c.args.first.now c.keep_found.new.first c.in_ok-found.ensures c.keep_found.ensures
