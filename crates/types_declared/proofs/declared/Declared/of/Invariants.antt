-- The invariants of the loops of `declared::Declared::of`.
use Rattle.std.proofs.Common.{take, map}
use Rattle.std.specs.List.{flat_map, enumerate_from}
use Rattle.go_ast.specs.SourceFile.{source_of}
use Rattle.types_declared.specs.Package.{variables_in, types_in, functions_in}
use Rattle.types_declared.specs.DeclaredView.{AddsDeclared}
use Rattle.types_declared.proofs.declared.Declared.of.Given as goal

abbrev pub invariant-loop-rank : goal.invariant-loop-rank
invariant-loop-rank l =
    AddsDeclared l.initial.declared l.declared (flat_map variables_in (take l.rank (enumerate_from 0 (map source_of l.files))))
    (flat_map types_in (take l.rank (enumerate_from 0 (map source_of l.files))))
    (flat_map functions_in (take l.rank (enumerate_from 0 (map source_of l.files))))
