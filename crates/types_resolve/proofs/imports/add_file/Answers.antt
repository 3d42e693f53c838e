-- The answers to the goals of `imports::add_file`.
use Rattle.std.proofs.Common.{◌≡◌, List, ◌∙◌, ap, sym, arith, map}
use Rattle.std.specs.List.{flat_map}
use Rattle.types_declared.proofs.ItemFaults.{each_as, each_step, each_all}
use Rattle.types_declared.proofs.FileFaults.{map-flat_map-map}
use Rattle.go_ast.specs.declared.tree.File.{File}
use Rattle.go_ast.specs.declared.tree.ImportDecl.{ImportDecl}
use Rattle.go_ast.specs.Tree.{ImportTree}
use Rattle.go_ast.specs.FileView.{imports_view, file_view}
use Rattle.go_ast.specs.SourceFile.{FileParts, source_of}
use Rattle.types_declared.specs.Files.{RankedSource, group_items, imports_in}
use Rattle.types_declared.specs.States.{state_in}
use Rattle.types_resolve.specs.Imports.{IsFaultOfImport, PlacedImport}
use Rattle.types_resolve.proofs.imports.add_file.Goals as goal

abbrev paired : RankedSource → ImportTree → PlacedImport
paired r i = (r, i)

abbrev decl_part : RankedSource → ImportDecl → List PlacedImport
decl_part r d = map (paired r) (group_items (imports_view d).imports)

imports_from : (r : RankedSource) (tree : File) (ds : List ImportDecl) (f : FileParts) → tree ≡ f.file → ds ≡ tree.imports.items →
    flat_map (decl_part r) ds ≡ map (paired r) (imports_in (source_of f).tree)
unfolding file_view
imports_from r tree ds f et ed =
    ap (flat_map (decl_part r)) (ed ∙ ap (λ t. t.imports.items) et) ∙
    sym (map-flat_map-map (paired r) (λ d. group_items d.imports) imports_view f.file.imports.items)

pub loop-decl-preserved : goal.loop-decl-preserved
loop-decl-preserved c =
    each_step (IsFaultOfImport (state_in c.args.states.now)) c.args.found.now.items c.loop-decl.found.items c.add_import_decl.new.found.items
    (λ d. map (λ i. ((c.args.rank, source_of c.args.file.now), i)) (group_items (imports_view d).imports)) c.deref-decl-items.result.now
    c.loop-decl.decl-index c.decl-item.result
    (omega arith) c.decl-item.is c.loop-decl.invariant c.in_ok-add_import_decl.ensures

pub returns : goal.returns
returns c =
    let Q = IsFaultOfImport (state_in c.args.states.now) in
    each_as Q c.args.found.now.items c.loop-decl.found.items _ _
    (each_all Q c.args.found.now.items c.loop-decl.found.items
    (λ d. map (λ i. ((c.args.rank, source_of c.args.file.now), i)) (group_items (imports_view d).imports)) c.deref-decl-items.result.now
    c.loop-decl.decl-index
    (omega arith) c.loop-decl.invariant)
    (imports_from (c.args.rank, source_of c.args.file.now) c.file-tree.result.now c.deref-decl-items.result.now c.args.file.now c.file-tree.ensures.tree
    c.deref-decl-items.ensures.value)
