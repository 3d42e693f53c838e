-- The answers to the goals of `statements::add_file`.
use Rattle.std.proofs.Common.{◌≡◌, List, [], ◌∷◌, ◌++◌, ◌∙◌, ap, refl, arith, map}
use Rattle.std.specs.List.{flat_map}
use Rattle.types_declared.proofs.ItemFaults.{each_as, each_step, each_all}
use Rattle.go_ast.specs.declared.tree.File.{File}
use Rattle.go_ast.specs.declared.tree.Decl.{Decl}
use Rattle.go_ast.specs.FileView.{decl_view, file_view}
use Rattle.go_ast.specs.SourceFile.{FileParts, source_of}
use Rattle.types_declared.specs.Laid.{laid_in}
use Rattle.types_resolve.specs.StatementMarks.{StatementMark, IsFaultOfMark, decl_marks, file_marks}
use Rattle.types_resolve.proofs.statements.add_file.Goals as goal

abbrev decl_part : Decl → List StatementMark
decl_part d = decl_marks (decl_view d)

parts_from : (ds : List Decl) → flat_map decl_part ds ≡ flat_map decl_marks (map decl_view ds)
parts_from [] = refl
parts_from (d ∷ ds) = ap (λ z. decl_marks (decl_view d) ++ z) (parts_from ds)

marks_from : (tree : File) (ds : List Decl) (f : FileParts) → tree ≡ f.file → ds ≡ tree.decls.items → flat_map decl_part ds ≡ file_marks (source_of f).tree
unfolding file_view
marks_from tree ds f et ed = ap (flat_map decl_part) (ed ∙ ap (λ t. t.decls.items) et) ∙ parts_from f.file.decls.items

pub loop-decl-preserved : goal.loop-decl-preserved
loop-decl-preserved c =
    each_step (IsFaultOfMark (laid_in c.args.scope.table.now) c.args.scope.rank) c.args.found.now.items c.loop-decl.found.items c.add_decl.new.found.items
    decl_part c.deref-decl-items.result.now c.loop-decl.decl-index c.decl-item.result
    (omega arith) c.decl-item.is c.loop-decl.invariant c.in_ok-add_decl.ensures

pub returns : goal.returns
returns c =
    each_as (IsFaultOfMark (laid_in c.args.scope.table.now) c.args.scope.rank) c.args.found.now.items c.loop-decl.found.items
    (flat_map decl_part c.deref-decl-items.result.now) (file_marks (source_of c.args.file.now).tree)
    (each_all (IsFaultOfMark (laid_in c.args.scope.table.now) c.args.scope.rank) c.args.found.now.items c.loop-decl.found.items decl_part
    c.deref-decl-items.result.now c.loop-decl.decl-index (omega arith) c.loop-decl.invariant)
    (marks_from c.file-tree.result.now c.deref-decl-items.result.now c.args.file.now c.file-tree.ensures.tree c.deref-decl-items.ensures.value)
