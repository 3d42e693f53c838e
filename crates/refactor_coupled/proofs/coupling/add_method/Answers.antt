-- The answers to the goals of `coupling::add_method`.
use Rattle.std.proofs.Common.{◌≡◌, rules}
use Rattle.std.specs.Prelude.{Some}
use Rattle.std.proofs.lemmas.Result.{on_ok_weaker}
use Rattle.refactor_coupled.specs.Reached.{declaration_called}
use Rattle.refactor_coupled.specs.RenamedTypesView.{definitions_in}
use Rattle.refactor_coupled.proofs.Listed.{one_to_add}
use Rattle.refactor_coupled.proofs.coupling.add_method.Goals as goal

pub returns-in-Some-2 : goal.returns-in-Some-2
returns-in-Some-2 c =
    let t = c.args.types.now in
    let e = c.in-Some-2.declaration in
    let called = declaration_called (definitions_in t.types.now) (definitions_in t.types.now c.args.named.now) t.rename.old.now in
    let is : called ≡ Some e = search rules in
    on_ok_weaker c.add_unless_listed.result (λ h. one_to_add c.args.set.now.items c.add_unless_listed.new.set.items called e is h) c.add_unless_listed.ensures
