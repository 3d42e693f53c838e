-- The answers to the goals of `moves::ends_of`.
use Rattle.std.proofs.Common.{◌+◌, rules, sym, subst}
use Rattle.base_edits.specs.Ends.{IsEnd}
use Rattle.base_edits.proofs.Ending.{begins, first_end, more_ends, next_is_end}
use Rattle.base_edits.proofs.moves.ends_of.Goals as goal

pub loop-edit-init : goal.loop-edit-init
loop-edit-init c =
    let edits = c.args.edits.now in
    record { so_far = first_end edits c.push.new.self.items c.requires (search rules); last = begins edits c.requires }

pub loop-edit-preserved : goal.loop-edit-preserved
loop-edit-preserved c =
    let edits = c.args.edits.now in
    let i = c.loop-edit.edit-index in
    let end = c.loop-edit.end in
    let e = c.edit-item.result in
    record {
      so_far = more_ends edits i c.loop-edit.ends.items c.push-in-loop-edit.new.self.items end c.in_ok-end.end e c.loop-edit-test.true c.edit-item.is
          c.loop-edit.invariant.last c.in_ok-end.ensures c.in_ok-push-2.ensures.items c.loop-edit.invariant.so_far;
      last = subst (IsEnd edits (i + 1)) (sym c.in_ok-end.ensures) (next_is_end edits i end e c.loop-edit.invariant.last c.loop-edit-test.true c.edit-item.is);
    }
