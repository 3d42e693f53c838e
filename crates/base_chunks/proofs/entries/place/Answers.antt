-- The half that is left has the key's place.
use Rattle.std.proofs.Common.{◌≡◌, ◌+◌, ◌-◌, ◌/◌, ◌<◌, true, length, get_or, take, sym, subst, add-one, arith, rules}
use Rattle.std.specs.Ordering.{is_gt}
use Rattle.base_chunks.specs.Entries.{IsAfterAll}
use Rattle.base_chunks.proofs.Standing.{after_upto}
use Rattle.base_chunks.proofs.entries.place.Goals as goal

pub halving-preserved-then-is_gt : goal.halving-preserved-then-is_gt
halving-preserved-then-is_gt g c =
    let es = c.args.entries.now in
    let m = c.halving.low + (c.halving.high - c.halving.low) / 2 in
    let d = c.index-entries-middle.result in
    let within : m < length es = omega arith in
    let gt : is_gt (g.K.Ord.cmp c.args.key.now (get_or es m d).0) ≡ true = search rules in
    record {
      order = omega arith;
      within = c.halving.invariant.within;
      front = subst (λ j. IsAfterAll g.K.Ord.cmp c.args.key.now (take j es)) (sym (add-one m))
          (after_upto g.K.Ord.cmp g.met.K.Ord.total c.args.key.now es m d c.requires within gt);
      back = c.halving.invariant.back;
    }
