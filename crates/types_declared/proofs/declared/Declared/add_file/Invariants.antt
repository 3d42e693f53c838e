-- The invariants of the loops of `declared::Declared::add_file`.
use Rattle.std.proofs.Common.{take}
use Rattle.std.specs.List.{flat_map}
use Rattle.go_ast.specs.FileView.{decl_view}
use Rattle.types_declared.specs.Package.{decl_variables, decl_types, decl_functions}
use Rattle.types_declared.specs.DeclaredView.{AddsDeclared}
use Rattle.types_declared.proofs.declared.Declared.add_file.Given as goal

abbrev pub invariant-loop-decl : goal.invariant-loop-decl
invariant-loop-decl l =
    AddsDeclared l.initial.self l.self (flat_map (λ d. decl_variables l.rank (decl_view d)) (take l.decl-index l.decl-items))
    (flat_map (λ d. decl_types l.rank (decl_view d)) (take l.decl-index l.decl-items))
    (flat_map (λ d. decl_functions l.rank (decl_view d)) (take l.decl-index l.decl-items))
