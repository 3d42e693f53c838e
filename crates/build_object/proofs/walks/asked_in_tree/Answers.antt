-- One declaration more, and all of them at the end.
use Rattle.std.proofs.Common.{◌+◌, ap, sym, ◌∙◌, arith, length, map}
use Rattle.std.specs.Prelude.{option_map, slice_get}
use Rattle.go_ast.specs.FileView.{decl_view}
use Rattle.go_ast.specs.SourceFile.{source_of}
use Rattle.types_declared.proofs.DeclaredParts.{decls_from}
use Rattle.build_object.specs.LineView.{function_of}
use Rattle.build_object.specs.RankLookup.{decl_asked}
use Rattle.build_object.proofs.Walking.{walked_next, walked_found, walked_all}
use Rattle.build_object.proofs.walks.asked_in_tree.Goals as goal

pub loop-decl-preserved : goal.loop-decl-preserved
loop-decl-preserved c =
    walked_next (λ d. decl_asked c.args.place.path.now (map source_of c.args.place.files.now) c.args.place.file (decl_view d))
    c.deref-decl-items.result.now c.loop-decl.decl-index c.decl-item.result c.args.rank c.loop-decl.rest
    c.in-Err.left (omega arith) c.decl-item.is c.loop-decl.invariant c.in-Err.ensures

pub returns-in-Ok : goal.returns-in-Ok
returns-in-Ok c =
    ap (λ l. slice_get l c.args.rank) (sym (decls_from (decl_asked c.args.place.path.now (map source_of c.args.place.files.now) c.args.place.file)
    c.file-tree.result.now
    c.deref-decl-items.result.now c.args.tree.now
    c.file-tree.ensures.tree c.deref-decl-items.ensures.value))
    ∙ walked_found (λ d. decl_asked c.args.place.path.now (map source_of c.args.place.files.now) c.args.place.file (decl_view d))
    c.deref-decl-items.result.now c.loop-decl.decl-index c.decl-item.result c.args.rank
    c.loop-decl.rest (option_map function_of c.in-Ok.found) (omega arith) c.decl-item.is c.loop-decl.invariant c.in-Ok.ensures

pub returns : goal.returns
returns c =
    walked_all (λ d. decl_asked c.args.place.path.now (map source_of c.args.place.files.now) c.args.place.file (decl_view d))
    c.deref-decl-items.result.now c.loop-decl.decl-index c.args.rank c.loop-decl.rest (omega arith)
    c.loop-decl.invariant
    ∙ ap (λ l. length l + c.loop-decl.rest) (decls_from (decl_asked c.args.place.path.now (map source_of c.args.place.files.now) c.args.place.file)
    c.file-tree.result.now
    c.deref-decl-items.result.now c.args.tree.now
    c.file-tree.ensures.tree c.deref-decl-items.ensures.value)
