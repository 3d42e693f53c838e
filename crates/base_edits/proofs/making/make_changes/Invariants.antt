-- What is made so far, with what the changes that are left make.
use Rattle.std.proofs.Common.{◌≡◌, ◌++◌, drop}
use Rattle.std.specs.List.{filter_map}
use Rattle.base_edits.specs.Inverse.{undo_of, drop_of}
use Rattle.base_edits.specs.Made.{with_files, file_made}
use Rattle.base_edits.proofs.making.make_changes.Given as goal

abbrev pub invariant-loop-change : goal.invariant-loop-change
invariant-loop-change l = record {
  files : with_files (filter_map (file_made l.files) (drop l.change-index l.changed)) l.making.files ≡ with_files (filter_map (file_made l.files) l.changed)
      l.fn.making.files;
  back : l.making.back.items ++ filter_map (undo_of l.files) (drop l.change-index l.changed) ≡ l.fn.making.back.items ++ filter_map (undo_of l.files) l.changed;
  lost : l.making.lost.items ++ filter_map (drop_of l.files) (drop l.change-index l.changed) ≡ l.fn.making.lost.items ++ filter_map (drop_of l.files) l.changed;
}
