-- The answers to the goals of `type_faults::type_faults`.
use Rattle.std.proofs.Common.{◌≡◌, length, arith, map}
use Rattle.std.proofs.Math.ListN.{length-map}
use Rattle.types_declared.proofs.ItemFaults.{below_next}
use Rattle.types_declared.proofs.Stages.{same_listed}
use Rattle.go_ast.specs.SourceFile.{source_of}
use Rattle.types_check.specs.TypeFaults.{IsTypeFault}
use Rattle.types_check.specs.TypesView.{IsTypeFaultIn}
use Rattle.types_info.specs.MemberUses.{AreUsesIn, AreEnteringsIn, uses_in, enterings_in}
use Rattle.types_declared.specs.PackageView.{package_of}
use Rattle.types_check.proofs.TypeFaultParts.{next_list, all_faults, all_lists}
use Rattle.types_check.proofs.type_faults.type_faults.Goals as goal

pub loop-file-preserved : goal.loop-file-preserved
loop-file-preserved c =
    let p = package_of c.args.pkg in
    record {
      faults = below_next (IsTypeFaultIn p) _ c.loop-file.typed.faults.items c.add_file.new.typed.faults.items c.loop-file.file c.loop-file.invariant.faults
          c.in_ok-add_file.ensures.faults;
      members = next_list (AreUsesIn p) c.loop-file.file (map uses_in c.loop-file.typed.members.items) (map uses_in c.add_file.new.typed.members.items)
          c.in_ok-add_file.ensures.members c.loop-file.invariant.members;
      enterings = next_list (AreEnteringsIn p) c.loop-file.file (map enterings_in c.loop-file.typed.enterings.items)
          (map enterings_in c.add_file.new.typed.enterings.items) c.in_ok-add_file.ensures.enterings c.loop-file.invariant.enterings;
      kept = c.in_ok-add_file.ensures.bounds;
    }

pub returns : goal.returns
returns c =
    let p = package_of c.args.pkg in
    let size : length p.files ≡ length c.args.pkg.files.now = length-map c.args.pkg.files.now source_of in
    let n : c.loop-file.file ≡ length p.files = omega (arith, size) in
    record {
      listed = same_listed (IsTypeFault p) c.loop-file.typed.faults.items c.sort.new.found.items
          (all_faults p c.loop-file.file c.loop-file.typed.faults.items n c.loop-file.invariant.faults) c.sort.ensures.same;
      order = c.sort.ensures.order;
      members = all_lists (AreUsesIn p) p c.loop-file.file _ n c.loop-file.invariant.members;
      enterings = all_lists (AreEnteringsIn p) p c.loop-file.file _ n c.loop-file.invariant.enterings;
      bounds = c.loop-file.invariant.kept;
    }
