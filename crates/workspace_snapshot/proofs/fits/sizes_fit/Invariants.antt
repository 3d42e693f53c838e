-- The files that are left fit into the room that is left just where all files fit.
use Rattle.std.specs.Prelude.{◌↔◌}
use Rattle.std.specs.FinMap as map
use Rattle.workspace_snapshot.specs.Fits.{SizesFit}
use Rattle.workspace_snapshot.proofs.fits.sizes_fit.Given as goal

abbrev pub invariant-loop-text : goal.invariant-loop-text
invariant-loop-text l = SizesFit l.each l.all (map.entries l.files) ↔ SizesFit l.each l.room l.text-iterator
