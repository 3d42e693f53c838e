-- The answers to the goals of `files::check_file`.
use Rattle.std.proofs.Common.{◌+◌, ap, sym, ◌∙◌, drop, map}
use Rattle.std.proofs.Math.ListN.{drop_of_length-le}
use Rattle.go_ast.specs.FileView.{decl_view, file_view}
use Rattle.types_expr.specs.WorldView.{world_of}
use Rattle.types_stmt.specs.Declarations.{check_decls, check_file}
use Rattle.types_stmt.specs.View.{checked_of, is_init_in}
use Rattle.types_expr.proofs.Items.{next_item}
use Rattle.types_stmt.proofs.ListEquations.{decls_step, decls_end}
use Rattle.types_stmt.proofs.files.check_file.Goals as goal

pub loop-decl-preserved : goal.loop-decl-preserved
loop-decl-preserved c =
    ap (λ s. check_decls (world_of c.args.world.now) (is_init_in c.args.world.now) s
    (map decl_view (drop (c.loop-decl.decl-index + 1) c.deref-decl-items.result.now))) c.in_ok-check_decl.ensures
    ∙ (sym (ap (λ xs. check_decls (world_of c.args.world.now) (is_init_in c.args.world.now) (checked_of c.loop-decl.checked) (map decl_view xs))
    (next_item _ _ _ c.loop-decl-test.true c.decl-item.is)
    ∙ decls_step (world_of c.args.world.now) (is_init_in c.args.world.now) (checked_of c.loop-decl.checked) c.decl-item.result _) ∙ c.loop-decl.invariant)

pub returns : goal.returns
unfolding check_file file_view
returns c =
    sym (ap (λ xs. check_decls (world_of c.args.world.now) (is_init_in c.args.world.now) (checked_of c.loop-decl.checked) (map decl_view xs))
    (drop_of_length-le _ c.loop-decl-test.false) ∙ decls_end (world_of c.args.world.now) (is_init_in c.args.world.now) (checked_of c.loop-decl.checked))
    ∙ (c.loop-decl.invariant
    ∙ (ap (λ s. check_decls (world_of c.args.world.now) (is_init_in c.args.world.now) s (map decl_view c.deref-decl-items.result.now)) c.new-checked.ensures
    ∙ ap (λ xs. check_decls (world_of c.args.world.now) (is_init_in c.args.world.now) _ (map decl_view xs)) c.deref-decl-items.ensures.value))
