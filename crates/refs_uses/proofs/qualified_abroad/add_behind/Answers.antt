-- The answers to the goals of `qualified_abroad::add_behind`.
use Rattle.std.proofs.Common.{◌≡◌, map, ap, sym, ◌∙◌}
use Rattle.std.proofs.lemmas.Result.{on_ok_weaker}
use Rattle.go_ast.specs.SourceFile.{source_of}
use Rattle.types_declared.specs.Package.{Package}
use Rattle.workspace_check.proofs.OnePackage.{one_sources}
use Rattle.refs_binding.specs.Workspaces.{known_in}
use Rattle.refs_binding.proofs.Units.{package_there}
use Rattle.refs_uses.proofs.UsedAbroad.{listed_behind}
use Rattle.refs_uses.proofs.qualified_abroad.add_behind.Goals as goal

pub returns : goal.returns
returns c =
    let w = c.args.at.workspace.now.graph in
    let found = c.args.at.workspace.now.findings in
    let n = c.args.at.number in
    let there = package_there w found c.has_no_faults.ensures n c.requires.in_range in
    let p = there.0 in
    let is = there.1 in
    let checked = is.is_package.is_checked in
    let files = map source_of c.trees-files.result.now in
    let same : files ≡ p.files =
    one_sources (c.trees-files.ensures p.path is.has_number) checked.parsed ∙ sym (ap (λ (x : Package). x.files) checked.is_package.is_package) in
    on_ok_weaker c.add_all_listed.result (λ adds. listed_behind w (known_in found) n p is c.args.path.now c.args.name.now files same
    c.qualified_of-lists.result.now
    (c.qualified_of-lists.ensures p is) c.args.spots.now.items c.add_all_listed.new.spots.items adds) c.add_all_listed.ensures
