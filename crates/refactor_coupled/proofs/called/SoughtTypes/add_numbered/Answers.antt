-- The answers to the goals of `called::SoughtTypes::add_numbered`.
use Rattle.std.proofs.Common.{◌≡◌, ◌∙◌, [], ◌∷◌, get_or, ap, sym}
use Rattle.std.specs.Prelude.{Some, slice_get}
use Rattle.std.proofs.lemmas.Option.{slice_get-get_or}
use Rattle.base_files.specs.Packages.{package_paths}
use Rattle.refs_binding.proofs.AddingAll.{call_all}
use Rattle.refactor_coupled.specs.Called.{IsSoughtOf, IsSoughtType}
use Rattle.refactor_coupled.proofs.SoughtLists.{numbered_as}
use Rattle.refactor_coupled.proofs.called.SoughtTypes.add_numbered.Goals as goal

pub returns : goal.returns
returns c =
    let t = c.args.self.now in
    let paths = package_paths c.args.workspace.now.graph in
    let path = c.path_of.result.now in
    let there = slice_get-get_or paths c.args.number [] c.requires in
    let at : slice_get paths c.args.number ≡ Some path = there ∙ ap Some (sym (c.path_of.ensures (get_or paths c.args.number []) there)) in
    call_all c.args.found.now.items c.add_of.new.found.items (IsSoughtType t.types.now t.old.now t.new.now t.only_interfaces (path ∷ []))
    (IsSoughtOf t.types.now t.old.now t.new.now t.only_interfaces paths c.args.number) c.add_of.result
    (λ s. (numbered_as t.types.now t.old.now t.new.now t.only_interfaces paths c.args.number path at s).0)
    (λ s. (numbered_as t.types.now t.old.now t.new.now t.only_interfaces paths c.args.number path at s).1) c.add_of.ensures
