-- The answers to the goals of `type_faults::add_file`.
use Rattle.std.proofs.Common.{map}
use Rattle.std.proofs.lemmas.Result.{on_ok_weaker}
use Rattle.types_stmt.specs.View.{checked_of}
use Rattle.types_info.specs.MemberUses.{uses_in, enterings_in}
use Rattle.types_declared.specs.PackageView.{package_of}
use Rattle.types_check.proofs.TypeFaultParts.{faults_of_file, uses_of_file, enterings_of_file}
use Rattle.types_check.proofs.type_faults.add_file.Goals as goal

pub returns-clause-faults : goal.returns-clause-faults
returns-clause-faults c =
    on_ok_weaker c.add.result
    (λ h. faults_of_file (package_of c.args.of.now.pkg) c.requires.one c.args.file (checked_of c.in_ok-checked.checked) c.args.typed.now.faults.items
    c.add.new.self.faults.items c.in_ok-checked.ensures.checked h)
    c.add.ensures.faults

pub returns-clause-members : goal.returns-clause-members
returns-clause-members c =
    on_ok_weaker c.add.result
    (λ h. uses_of_file (package_of c.args.of.now.pkg) c.args.file (checked_of c.in_ok-checked.checked) (map uses_in c.args.typed.now.members.items)
    (map uses_in c.add.new.self.members.items) c.in_ok-checked.ensures.checked h)
    c.add.ensures.members

pub returns-clause-enterings : goal.returns-clause-enterings
returns-clause-enterings c =
    on_ok_weaker c.add.result
    (λ h. enterings_of_file (package_of c.args.of.now.pkg) c.args.file (checked_of c.in_ok-checked.checked)
    (map enterings_in c.args.typed.now.enterings.items) (map enterings_in c.add.new.self.enterings.items) c.in_ok-checked.ensures.checked h)
    c.add.ensures.enterings
