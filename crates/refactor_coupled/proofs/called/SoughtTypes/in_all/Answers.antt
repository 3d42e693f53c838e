-- The answers to the goals of `called::SoughtTypes::in_all`.
use Rattle.std.proofs.Common.{◌≡◌, [], length, rules, subst}
use Rattle.std.specs.Prelude.{◌↔◌, Contains}
use Rattle.base_files.specs.Packages.{package_paths}
use Rattle.types_expr.specs.declared.symbol.Symbol.{Symbol}
use Rattle.refs_binding.proofs.AddingAll.{none_below, next_below}
use Rattle.refactor_coupled.specs.Called.{IsSoughtOf, IsSoughtType}
use Rattle.refactor_coupled.proofs.SoughtLists.{all_sought}
use Rattle.refactor_coupled.proofs.called.SoughtTypes.in_all.Goals as goal

pub loop-number-init : goal.loop-number-init
loop-number-init c =
    let t = c.args.self.now in
    none_below (IsSoughtOf t.types.now t.old.now t.new.now t.only_interfaces (package_paths c.args.workspace.now.graph)) c.new-found.result.items

pub loop-number-preserved : goal.loop-number-preserved
loop-number-preserved c =
    let t = c.args.self.now in
    next_below (IsSoughtOf t.types.now t.old.now t.new.now t.only_interfaces (package_paths c.args.workspace.now.graph)) c.new-found.result.items
    c.loop-number.found.items c.add_numbered.new.found.items c.loop-number.number c.loop-number.invariant c.in_ok-add_numbered.ensures

pub returns : goal.returns
returns c =
    let t = c.args.self.now in
    let paths = package_paths c.args.workspace.now.graph in
    let empty : c.new-found.result.items ≡ [] = search rules in
    let all : c.loop-number.number ≡ length paths = search rules in
    subst (λ ds. (s : Symbol) → Contains c.loop-number.found.items s ↔ IsSoughtType ds t.old.now t.new.now t.only_interfaces paths s) c.requires
    (all_sought t.types.now t.old.now t.new.now t.only_interfaces paths c.loop-number.number c.new-found.result.items c.loop-number.found.items empty all
    c.loop-number.invariant)
