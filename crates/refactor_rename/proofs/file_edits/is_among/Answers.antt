-- The answers to the goals of `file_edits::is_among`.
use Rattle.std.proofs.Common.{rules, refl}
use Rattle.std.proofs.lemmas.Bool.{false≢true}
use Rattle.std.proofs.lemmas.Fn.{always_returns_same}
use Rattle.refactor_rename.proofs.Searching.{compared, found_is, none_is}
use Rattle.refactor_rename.proofs.file_edits.is_among.Goals as goal

pub returns-in-Ok : goal.returns-in-Ok
returns-in-Ok c = (
  (λ e. found_is c.args.places.now (record { path = c.args.path.now; offset = c.args.offset }) c.in-Ok.field-0 c.in-Ok.ensures.bound
      (c.in-Ok.ensures.position (compared (record { path = c.args.path.now; offset = c.args.offset }))
      (always_returns_same _ _ _ (λ a r f k. (search rules, search rules))))),
  (λ has. refl),
)

pub returns-in-Err : goal.returns-in-Err
returns-in-Err c = (
  (λ e. absurd (false≢true e)),
  (λ has. absurd (none_is c.args.places.now (record { path = c.args.path.now; offset = c.args.offset }) c.in-Err.field-0 c.requires
      (c.in-Err.ensures.position (compared (record { path = c.args.path.now; offset = c.args.offset }))
      (always_returns_same _ _ _ (λ a r f k. (search rules, search rules)))) has)),
)
