-- The answers to the goals of `packages::read_package`.
use Rattle.std.specs.Prelude.{Bool}
use Rattle.std.specs.Global.{Vec}
use Rattle.types_declared.specs.Package.{Package}
use Rattle.refs_binding.specs.Indexed.{IsPackageNumbered}
use Rattle.refs_binding.specs.Workspaces.{known_in}
use Rattle.refs_binding.specs.declared.indexed.Numbered.{Numbered}
use Rattle.refs_binding.proofs.Units.{list_of_sound, package_there}
use Rattle.refactor_follow.specs.PlainPackages.{IsPlainPackage}
use Rattle.refactor_follow.specs.declared.imports.FollowedName.{FollowedName}
use Rattle.refactor_follow.proofs.MarkedRows.{value_holds}
use Rattle.refactor_follow.proofs.PlainTokens.{marks_uses, no_conflict}
use Rattle.refactor_follow.proofs.packages.read_package.Goals as goal

abbrev AreFound : Numbered → FollowedName → Vec (Vec Bool) → Type 0
AreFound at new rows = (p : Package) → IsPackageNumbered at p → IsPlainPackage p new.path.now new.name.now rows.items

pub plain_uses-requires : goal.plain_uses-requires
plain_uses-requires c = record { in_range = c.requires }

pub read_by_table-requires : goal.read_by_table-requires
read_by_table-requires c = record { in_range = c.requires }

pub returns-in-None-clause-conflict : goal.returns-in-None-clause-conflict
returns-in-None-clause-conflict c = c.read_by_table.ensures.conflict

pub returns-in-None-clause-uses : goal.returns-in-None-clause-uses
returns-in-None-clause-uses c = c.read_by_table.ensures.uses

pub returns-in-Some-clause-conflict : goal.returns-in-Some-clause-conflict
returns-in-Some-clause-conflict c =
    let w = c.args.workspace.now.graph in
    let found = c.args.workspace.now.findings in
    let sound = c.has_no_faults.ensures in
    let there = package_there w found sound c.args.number c.requires in
    let at : Numbered = record { workspace = c.args.workspace; number = c.args.number } in
    let plain = value_holds (AreFound at c.args.new) c.in_ok-plain_uses.field-0 c.in-Some.rows c.in-Some.is c.in_ok-plain_uses.ensures in
    record {
      inside = there.0;
      is_package = there.1;
      first =
          no_conflict w (list_of_sound w found sound) (known_in found) sound.findings.right there.0 there.1.is_package c.args.new.path.now
          c.args.new.name.now c.in-Some.rows.items (plain there.0 there.1);
    }

pub returns-in-Some-clause-uses : goal.returns-in-Some-clause-uses
returns-in-Some-clause-uses c = λ p is.
    let w = c.args.workspace.now.graph in
    let found = c.args.workspace.now.findings in
    let sound = c.has_no_faults.ensures in
    let at : Numbered = record { workspace = c.args.workspace; number = c.args.number } in
    let plain = value_holds (AreFound at c.args.new) c.in_ok-plain_uses.field-0 c.in-Some.rows c.in-Some.is c.in_ok-plain_uses.ensures in
    marks_uses w (list_of_sound w found sound) (known_in found) sound.findings.right p is.is_package c.args.new.path.now c.args.new.name.now
    c.in-Some.rows.items (plain p is)
