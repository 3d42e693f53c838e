-- The answers to the goals of `declared::Declared::add_file`.
use Rattle.std.proofs.Common.{arith}
use Rattle.go_ast.specs.FileView.{decl_view}
use Rattle.types_declared.specs.Package.{decl_variables, decl_types, decl_functions}
use Rattle.types_declared.proofs.AddingDeclared.{adds_none, adds_as, adds_next, adds_all}
use Rattle.types_declared.proofs.DeclaredParts.{decls_from}
use Rattle.types_declared.proofs.declared.Declared.add_file.Goals as goal

pub loop-decl-init : goal.loop-decl-init
loop-decl-init c = adds_none c.args.self.now

pub loop-decl-preserved : goal.loop-decl-preserved
loop-decl-preserved c =
    adds_next c.args.self.now c.loop-decl.self c.add_decl.new.self (λ d. decl_variables c.args.rank (decl_view d))
    (λ d. decl_types c.args.rank (decl_view d)) (λ d. decl_functions c.args.rank (decl_view d))
    c.deref-decl-items.result.now c.loop-decl.decl-index c.decl-item.result (omega arith) c.decl-item.is c.loop-decl.invariant c.in_ok-add_decl.ensures

pub returns : goal.returns
returns c =
    adds_as c.args.self.now c.loop-decl.self _ _ _ _ _ _
    (adds_all c.args.self.now c.loop-decl.self (λ d. decl_variables c.args.rank (decl_view d)) (λ d. decl_types c.args.rank (decl_view d))
    (λ d. decl_functions c.args.rank (decl_view d))
    c.deref-decl-items.result.now c.loop-decl.decl-index (omega arith) c.loop-decl.invariant)
    (decls_from (decl_variables c.args.rank) c.file-tree.result.now c.deref-decl-items.result.now c.args.file.now c.file-tree.ensures.tree
    c.deref-decl-items.ensures.value)
    (decls_from (decl_types c.args.rank) c.file-tree.result.now c.deref-decl-items.result.now c.args.file.now c.file-tree.ensures.tree
    c.deref-decl-items.ensures.value)
    (decls_from (decl_functions c.args.rank) c.file-tree.result.now c.deref-decl-items.result.now c.args.file.now c.file-tree.ensures.tree
    c.deref-decl-items.ensures.value)
