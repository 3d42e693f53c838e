-- The answers to the goals of `interfaces_turned::keep_found`.
use Rattle.std.proofs.Common.{◌≡◌, rules}
use Rattle.std.specs.Prelude.{Some, None}
use Rattle.refactor_coupled.proofs.FirstKept.{found_kept, nothing_found}
use Rattle.refactor_coupled.proofs.interfaces_turned.keep_found.Goals as goal

pub returns-in-Some : goal.returns-in-Some
returns-in-Some c =
    let is : c.args.found ≡ Some c.in-Some.place = search rules in
    found_kept c.args.found c.in-Some.place c.args.first.now c.keep_first.new.first is c.keep_first.ensures

pub returns-in_default : goal.returns-in_default
returns-in_default c =
    let none : c.args.found ≡ None = search rules in
    nothing_found c.args.found c.args.first.now none
