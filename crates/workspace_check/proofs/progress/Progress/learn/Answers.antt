-- The answers to the goals of `progress::Progress::learn`.
use Rattle.base_files.specs.Packages.{package_paths}
use Rattle.types_info.proofs.MeaningLists.{slice_get_some}
use Rattle.workspace_check.proofs.Underway.{learnt_behind}
use Rattle.workspace_check.proofs.progress.Progress.learn.Goals as goal

pub learn_checked-requires : goal.learn_checked-requires
learn_checked-requires c = record {
  in_range = c.requires.in_range;
  all = c.requires.right.right;
  unknown = c.requires.unknown;
  path = c.requires.path;
  checked = c.requires.checked;
}

pub returns : goal.returns
returns c =
    let w = c.args.graph.now in
    let n = c.args.number in
    let was = c.requires.right in
    let old = c.args.self.now.all in
    let new = c.learn_checked.new.all in
    let p = slice_get_some (package_paths w) n c.requires.in_range in
    let known = learnt_behind w p.0 n old new p.1 was.right (was.below p.0 p.1) c.requires.unknown (c.in_ok-learn_checked.ensures p.0 p.1) in
    record {
      right = known.right;
      below = λ q at. (learnt_behind w q n old new at was.right (was.below q at) c.requires.unknown (c.in_ok-learn_checked.ensures q at)).below;
      built_on = was.built_on;
      back = was.back;
    }
