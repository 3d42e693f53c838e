-- The invariants of the loops of `names::asked_in_file`.
use Rattle.std.proofs.Common.{◌≡◌, ◌++◌, drop, map}
use Rattle.std.specs.List.{flat_map}
use Rattle.go_ast.specs.SourceFile.{source_of}
use Rattle.types_declared.specs.DeclaredView.{type_of}
use Rattle.build_object.specs.Names.{asked_if}
use Rattle.build_object.specs.SourceView.{asked_of}
use Rattle.build_object.proofs.names.asked_in_file.Given as goal

abbrev pub invariant-loop-own : goal.invariant-loop-own
invariant-loop-own l =
    map asked_of l.asked.items ++ flat_map (asked_if l.path (map source_of l.files) l.file) (map type_of (drop l.own-index l.types))
    ≡ flat_map (asked_if l.path (map source_of l.files) l.file) (map type_of l.types)
