-- The invariants of the loops of `path_list::all_paths`.
use Rattle.std.proofs.Common.{◌≡◌, take}
use Rattle.base_files.specs.Packages.{package_paths}
use Rattle.history_machine.proofs.path_list.all_paths.Given as goal

-- the paths so far
abbrev pub invariant-loop-number : goal.invariant-loop-number
invariant-loop-number l = l.paths.items ≡ take l.number (package_paths l.files)
