-- The answers to the goals of `objects::push_files`.
use Rattle.std.proofs.Common.{◌≡◌, subst, length, arith}
use Rattle.types_declared.specs.PackageView.{package_of}
use Rattle.build_object.specs.ObjectSteps.{PrintsFiles}
use Rattle.build_object.proofs.Whole.{no_files, one_file_more}
use Rattle.build_object.proofs.objects.push_files.Goals as goal

pub loop-file-init : goal.loop-file-init
loop-file-init c = record {
  puts = no_files (package_of c.args.origin.unit) c.args.origin.members.now c.args.origin.enterings.now c.args.origin.packages.now c.args.origin.names.now
      c.args.text.now.items;
  kept = c.requires.bounds;
}

pub loop-file-preserved : goal.loop-file-preserved
loop-file-preserved c = record {
  puts = one_file_more (package_of c.args.origin.unit) c.loop-file.file c.args.origin.members.now c.args.origin.enterings.now c.args.origin.packages.now
      c.args.origin.names.now
      c.loop-file.others c.in_ok-others.others c.args.text.now.items c.loop-file.text.items c.push_file.new.text.items
      c.loop-file.invariant.puts c.in_ok-others.ensures.puts;
  kept = c.in_ok-others.ensures.bounds;
}

pub returns : goal.returns
returns c =
    let e : c.loop-file.file ≡ length c.args.origin.unit.files.now = omega arith in
    subst (λ n. PrintsFiles (package_of c.args.origin.unit) n c.args.origin.members.now c.args.origin.enterings.now c.args.origin.packages.now
    c.args.origin.names.now c.loop-file.others
    c.args.text.now.items c.loop-file.text.items) e c.loop-file.invariant.puts
