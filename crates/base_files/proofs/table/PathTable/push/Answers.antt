-- The paths still rise.
use Rattle.std.proofs.Common.{sym, subst, ◌∙◌}
use Rattle.base_files.specs.Entries.{IsAfterAllPaths}
use Rattle.base_files.proofs.Standing.{stays_sorted}
use Rattle.base_files.proofs.Pushing.{put_behind}
use Rattle.base_files.proofs.table.PathTable.push.Goals as goal

pub invariant_of-self-2 : goal.invariant_of-self-2
invariant_of-self-2 g c =
    let es = c.self.inside.entries.items in
    let behind : IsAfterAllPaths c.args.path es = subst (IsAfterAllPaths c.args.path) (sym c.self.view_is) c.requires in
    stays_sorted c.args.path c.args.value es c.push.new.self.items
    (c.in_ok-push.ensures.items ∙ sym (put_behind c.args.path c.args.value es behind)) c.self.invariant
