-- The answers to the goals of `numbering::numbers_of`.
use Rattle.std.proofs.Common.{◌+◌, ◌≤◌, arith}
use Rattle.go_scope.specs.Numbering.{number_at, HasName, IsLexical}
use Rattle.go_scope.specs.Table.{layout_of, names_of, IsFirstOf}
use Rattle.go_scope.proofs.Kept.{each_next, sized_next}
use Rattle.go_scope.proofs.NameNumbers.{told_apart}
use Rattle.go_scope.proofs.numbering.numbers_of.Goals as goal

pub loop-u-preserved : goal.loop-u-preserved
loop-u-preserved c =
    let l = layout_of c.args.identifiers.now in
    let names = names_of c.args.identifiers.now in
    record {
      firsts = c.in_ok-next_number.ensures.firsts;
      sized = sized_next c.loop-u.numbers.items c.push.new.self.items c.in_ok-next_number.field-0 c.loop-u.u c.loop-u.invariant.sized
          c.in_ok-push.ensures.items;
      each = each_next (λ k x. IsLexical l k → IsFirstOf (HasName l names (names k)) (k + 1) x) c.loop-u.numbers.items c.push.new.self.items
          c.in_ok-next_number.field-0 c.loop-u.u c.loop-u.invariant.sized c.in_ok-push.ensures.items c.in_ok-next_number.ensures.number c.loop-u.invariant.each;
      below = each_next (λ k x. x ≤ k) c.loop-u.numbers.items c.push.new.self.items c.in_ok-next_number.field-0 c.loop-u.u c.loop-u.invariant.sized
          c.in_ok-push.ensures.items c.in_ok-next_number.ensures.below c.loop-u.invariant.below;
    }

pub returns-clause-apart : goal.returns-clause-apart
returns-clause-apart c = λ d e dlt elt dl el.
    let l = layout_of c.args.identifiers.now in
    let names = names_of c.args.identifiers.now in
    told_apart l names d e _ _ (c.loop-u.invariant.each d 0 (omega arith) dl) (c.loop-u.invariant.each e 0 (omega arith) el)

pub returns-clause-below : goal.returns-clause-below
returns-clause-below c = λ d lt.
    let le : number_at c.loop-u.numbers.items d ≤ d = c.loop-u.invariant.below d 0 (omega arith) in
    omega arith
