-- The invariants of the loops of `printing::push_lines`.
use Rattle.std.proofs.Common.{◌≡◌, ◌++◌, drop, map, reverse}
use Rattle.build_object.specs.LineView.{line_of}
use Rattle.build_object.specs.PackagesView.{type_in}
use Rattle.build_object.specs.Text.{code_text}
use Rattle.build_object.proofs.printing.push_lines.Given as goal

abbrev pub invariant-loop-i : goal.invariant-loop-i
invariant-loop-i l = l.text.items ≡ l.initial.text.items ++ code_text (type_in l.packages) (reverse (map line_of (drop l.i l.lines)))
