-- The paths so far.
use Rattle.std.proofs.Common.{◌≡◌, ◌++◌, map, take}
use Rattle.std.specs.List.{filter_map}
use Rattle.base_edits.specs.Fits.{new_path}
use Rattle.history_records.proofs.edit_sets.new_paths.Given as goal

abbrev pub invariant-loop-change : goal.invariant-loop-change
invariant-loop-change l = l.paths.items ≡ filter_map (λ c. new_path c.fate) (take l.change-index l.changed)

abbrev pub invariant-loop-file : goal.invariant-loop-file
invariant-loop-file l = l.paths.items ≡ filter_map (λ c. new_path c.fate) l.changed ++ map (λ file. file.0) (take l.file-index l.added)
