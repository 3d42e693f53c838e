-- The invariants of the loops of `files::check_file`.
use Rattle.std.proofs.Common.{◌≡◌, drop, map}
use Rattle.go_ast.specs.FileView.{decl_view}
use Rattle.types_expr.specs.WorldView.{world_of}
use Rattle.types_stmt.specs.Declarations.{check_decls}
use Rattle.types_stmt.specs.View.{checked_of, is_init_in}
use Rattle.types_stmt.proofs.files.check_file.Given as goal

abbrev pub invariant-loop-decl : goal.invariant-loop-decl
invariant-loop-decl l =
    check_decls (world_of l.world) (is_init_in l.world) (checked_of l.checked) (map decl_view (drop l.decl-index l.decl-items)) ≡ check_decls
    (world_of l.world) (is_init_in l.world) (checked_of l.initial.checked) (map decl_view l.decl-items)
