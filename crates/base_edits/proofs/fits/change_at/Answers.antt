-- A change that compares equal is of the path, and where none does none is.
use Rattle.std.proofs.Common.{rules}
use Rattle.std.proofs.lemmas.Fn.{always_returns_same}
use Rattle.base_edits.proofs.Searched.{found_is, none_is, search_cmp}
use Rattle.base_edits.proofs.fits.change_at.Goals as goal

pub returns-in-Ok : goal.returns-in-Ok
returns-in-Ok c =
    found_is c.args.changed.now c.args.path.now c.in-Ok.place c.index-changed-place.result c.requires c.in-Ok.ensures.bound
    (c.in-Ok.ensures.position (search_cmp c.args.path.now) (always_returns_same _ _ _ (λ a r f k. (search rules, search rules))))
    c.index-changed-place.is

pub returns-in-Err : goal.returns-in-Err
returns-in-Err c = none_is c.args.changed.now c.args.path.now c.in-Err.field-0 c.requires
    (c.in-Err.ensures.position (search_cmp c.args.path.now) (always_returns_same _ _ _ (λ a r f k. (search rules, search rules))))
