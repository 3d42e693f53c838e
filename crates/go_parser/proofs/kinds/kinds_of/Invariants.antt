-- The invariants of the loops of `kinds::kinds_of`.
use Rattle.std.proofs.Common.{◌≡◌, ◌++◌, ◌≤◌, length, drop}
use Rattle.go_scanner.specs.CutText.{tokens_in}
use Rattle.go_ast.specs.Kinds.{kinds_from, kinds_of}
use Rattle.go_parser.proofs.kinds.kinds_of.Given as goal

abbrev pub invariant-loop-place : goal.invariant-loop-place
invariant-loop-place l = record {
  so_far : l.tokens.items ++ kinds_from l.place l.pieces.text (drop l.place (tokens_in l.pieces)) ≡ kinds_of l.pieces;
  within : l.place ≤ length (tokens_in l.pieces);
}
