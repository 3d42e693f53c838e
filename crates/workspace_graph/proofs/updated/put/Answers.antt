-- The package is put where the one with its path was, if it has a file.
use Rattle.std.proofs.Common.{ℕ, List, ap, sym, subst, ◌∙◌, arith}
use Rattle.std.specs.List.{insert}
use Rattle.workspace_graph.specs.Changed.{has_file}
use Rattle.workspace_graph.specs.Updated.{Removes}
use Rattle.workspace_graph.specs.declared.package.ParsedPackage.{ParsedPackage}
use Rattle.workspace_graph.proofs.Numbers.{path_of_package}
use Rattle.workspace_graph.proofs.UpdatedPackages.{place_within, puts_none, puts_one}
use Rattle.workspace_graph.proofs.updated.put.Goals as goal

pub returns-then-not-has_file : goal.returns-then-not-has_file
returns-then-not-has_file c =
    let one : ParsedPackage = c.args.one.now in
    let old = c.args.packages.now.items in
    let middle = c.take_out-place.new.packages.items in
    puts_none one old middle c.take_out-place.result (subst (λ (q : List ℕ). Removes path_of_package q old middle c.take_out-place.result) c.path.ensures
    c.take_out-place.ensures)
    (sym (c.has_file.ensures ∙ ap has_file c.package.ensures) ∙ c.if-not-has_file.true)

pub insert-requires : goal.insert-requires
insert-requires c =
    let within = place_within path_of_package c.path.result.now c.args.packages.now.items c.take_out-place.new.packages.items c.take_out-place.result
    c.take_out-place.ensures in
    omega (arith, within, c.take_out-place.new.packages.ok.0)

pub returns : goal.returns
returns c =
    let one : ParsedPackage = c.args.one.now in
    let old = c.args.packages.now.items in
    let middle = c.take_out-place.new.packages.items in
    puts_one one old middle c.take_out-place.result (subst (λ (q : List ℕ). Removes path_of_package q old middle c.take_out-place.result) c.path.ensures
    c.take_out-place.ensures)
    c.insert.new.self.items (sym (c.has_file.ensures ∙ ap has_file c.package.ensures) ∙ c.if-not-has_file.false)
    (c.in_ok-insert.ensures.items ∙ ap (insert middle c.take_out-place.result) c.in_ok-clone.ensures.cases)
