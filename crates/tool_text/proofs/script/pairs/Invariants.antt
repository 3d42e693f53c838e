-- The invariants of the loops of `script::pairs`.
use Rattle.std.proofs.Common.{◌≡◌, ◌+◌, ◌++◌, length}
use Rattle.std.specs.List.{flat_map}
use Rattle.tool_text.specs.Diff.{both_lines, lines_of, side_by_side}
use Rattle.tool_text.proofs.script.pairs.Given as goal

abbrev pub invariant-lines : goal.invariant-lines
invariant-lines l = record {
  sides : both_lines l.pairs.items ++ side_by_side (lines_of l.olds) (lines_of l.news) ≡ side_by_side (lines_of l.old) (lines_of l.new);
  olds : flat_map (λ pair. pair.old.now) l.pairs.items ++ l.olds ≡ l.old;
  news : flat_map (λ pair. pair.new.now) l.pairs.items ++ l.news ≡ l.new;
}

abbrev pub decreases-lines : goal.decreases-lines
decreases-lines l = length l.olds + length l.news
