-- The answers to the goals of `tables::add`.
use Rattle.std.proofs.Common.{◌≡◌, false, subst, sym, ◌∙◌}
use Rattle.std.specs.Prelude.{is_some}
use Rattle.refactor_known.specs.Tables.{entry_at}
use Rattle.refactor_known.proofs.Entries.{added}
use Rattle.refactor_known.proofs.tables.add.Goals as goal

pub returns : goal.returns
returns g c =
    added (g.T.Movable.moves c.args.swap.now) c.args.table.now c.insert.new.self c.in_ok-key.key c.args.name.now.items c.in_ok-value.value c.args.value.now
    (c.in_ok-key.ensures.items ∙ c.deref.ensures.value)
    (subst (λ n. is_some (entry_at c.args.table.now n) ≡ false) c.as_slice.ensures.value (sym c.contains_key.ensures ∙ c.if-contains_key.false))
    c.in_ok-insert.ensures.updates c.in_ok-value.ensures
