-- The desk stays as it is, and sees the files still.
use Rattle.std.proofs.Common.{sym, subst}
use Rattle.history_book.specs.CurrentUnits.{AreKnownIn}
use Rattle.server_commands.proofs.acting.learn_after.Goals as goal

pub learn_units-requires : goal.learn_units-requires
learn_units-requires g c =
    let same = subst (AreKnownIn c.args.files.now) c.in-Some.is c.requires.units in
    subst (λ w. g.D.Desk.sees c.learn.new.self w) (sym same) (subst (λ d. g.D.Desk.sees d c.args.files.now) (sym c.learn.ensures) c.requires.seen)
