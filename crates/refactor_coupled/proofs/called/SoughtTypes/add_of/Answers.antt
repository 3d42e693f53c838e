-- The answers to the goals of `called::SoughtTypes::add_of`.
use Rattle.std.proofs.Common.{◌≡◌, [], ◌∷◌, rules}
use Rattle.std.specs.Prelude.{Some, None}
use Rattle.types_expr.specs.WorldView.{definitions_at}
use Rattle.refs_binding.proofs.AddingAll.{all_none, call_all}
use Rattle.refactor_coupled.specs.Called.{IsSoughtAmong, IsSoughtType}
use Rattle.refactor_coupled.proofs.SoughtLists.{among_as, none_at_path}
use Rattle.refactor_coupled.proofs.called.SoughtTypes.add_of.Goals as goal

pub returns-in-None : goal.returns-in-None
returns-in-None c =
    let t = c.args.self.now in
    let path = c.args.path.now in
    let none : definitions_at t.types.now path ≡ None = search rules in
    all_none c.args.found.now.items (IsSoughtType t.types.now t.old.now t.new.now t.only_interfaces (path ∷ []))
    (none_at_path t.types.now t.old.now t.new.now t.only_interfaces path none)

pub returns-in-Some : goal.returns-in-Some
returns-in-Some c =
    let t = c.args.self.now in
    let path = c.args.path.now in
    let own = c.in-Some.own.now in
    let is : definitions_at t.types.now path ≡ Some own = search rules in
    call_all c.args.found.now.items c.add_among.new.found.items (IsSoughtAmong t.types.now t.old.now t.new.now t.only_interfaces path own)
    (IsSoughtType t.types.now t.old.now t.new.now t.only_interfaces (path ∷ [])) c.add_among.result
    (λ s. (among_as t.types.now t.old.now t.new.now t.only_interfaces path own is s).0)
    (λ s. (among_as t.types.now t.old.now t.new.now t.only_interfaces path own is s).1) c.add_among.ensures
