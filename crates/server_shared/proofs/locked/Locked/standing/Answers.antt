-- What is told is of the locked book.
use Rattle.std.proofs.Common.{ap, ◌∙◌, length, refl, rules}
use Rattle.server_shared.proofs.locked.Locked.standing.Goals as goal

pub returns : goal.returns
returns g c = (
  c.args.self.now.book,
  c.args.self.now.most_is,
  c.journal.ensures.reached,
  record { state = c.in_ok-snapshot.ensures; begun = c.begun.ensures; entries = search rules },
)
