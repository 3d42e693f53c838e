-- The half that is left has the path's place.
use Rattle.std.proofs.Common.{◌≡◌, ◌+◌, ◌-◌, ◌/◌, ◌<◌, true, length, get_or, take, sym, subst, add-one, arith, rules}
use Rattle.std.specs.Ordering.{is_gt}
use Rattle.base_files.specs.Workspace.{path_cmp}
use Rattle.base_files.proofs.WorkspaceLaws.{path_cmp_total}
use Rattle.base_chunks.specs.Entries.{IsAfterAll}
use Rattle.base_chunks.proofs.Standing.{after_upto}
use Rattle.base_files.proofs.entries.place.Goals as goal

pub halving-preserved-then-is_gt : goal.halving-preserved-then-is_gt
halving-preserved-then-is_gt g c =
    let es = c.args.entries.now in
    let m = c.halving.low + (c.halving.high - c.halving.low) / 2 in
    let d = c.index-entries-middle.result in
    let within : m < length es = omega arith in
    let gt : is_gt (path_cmp c.args.path.now (get_or es m d).0) ≡ true = search rules in
    record {
      order = omega arith;
      within = c.halving.invariant.within;
      front = subst (λ j. IsAfterAll path_cmp c.args.path.now (take j es)) (sym (add-one m))
          (after_upto path_cmp path_cmp_total c.args.path.now es m d c.requires within gt);
      back = c.halving.invariant.back;
    }
