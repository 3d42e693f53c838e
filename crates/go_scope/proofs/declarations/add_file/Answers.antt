-- The answers to the goals of `declarations::add_file`.
use Rattle.std.proofs.Common.{arith}
use Rattle.go_scope.specs.IdentifierViews.{as_source}
use Rattle.go_scope.proofs.Adding.{adds_as, adds_then, each_step, each_all}
use Rattle.go_scope.proofs.FileParts.{imports_part, decl_part, file_read}
use Rattle.go_scope.proofs.declarations.add_file.Goals as goal

pub returns : goal.returns
returns c =
    adds_as (adds_then (adds_then c.in_ok-add.ensures (each_all (imports_part (as_source c.args.source.now)) c.deref-import-items.result.now
    c.loop-import.import-index (omega arith) c.loop-import.invariant))
    (each_all (decl_part (as_source c.args.source.now)) c.deref-decl-items.result.now c.loop-decl.decl-index (omega arith) c.loop-decl.invariant))
    (file_read _ c.args.file.now _ _ c.deref-import-items.ensures.value c.deref-decl-items.ensures.value)

pub loop-import-preserved : goal.loop-import-preserved
loop-import-preserved c =
    each_step (imports_part (as_source c.args.source.now)) c.deref-import-items.result.now c.loop-import.import-index c.import-item.result
    (omega arith) c.import-item.is c.loop-import.invariant c.in_ok-add_imports.ensures

pub loop-decl-preserved : goal.loop-decl-preserved
loop-decl-preserved c =
    each_step (decl_part (as_source c.args.source.now)) c.deref-decl-items.result.now c.loop-decl.decl-index c.decl-item.result (omega arith)
    c.decl-item.is c.loop-decl.invariant c.in_ok-add_decl.ensures
