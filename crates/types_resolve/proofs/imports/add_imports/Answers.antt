-- The answers to the goals of `imports::add_imports`.
use Rattle.std.proofs.Common.{arith}
use Rattle.types_declared.proofs.FileFaults.{next_file, all_files}
use Rattle.go_ast.specs.SourceFile.{source_of}
use Rattle.types_declared.specs.States.{state_in}
use Rattle.types_resolve.specs.Imports.{IsFaultOfImport, placed_imports}
use Rattle.types_resolve.proofs.imports.add_imports.Goals as goal

pub loop-rank-preserved : goal.loop-rank-preserved
loop-rank-preserved c =
    next_file (IsFaultOfImport (state_in c.args.states.now)) c.args.found.now.items c.loop-rank.found.items c.add_file.new.found.items placed_imports
    source_of c.args.files.now c.loop-rank.rank
    c.index-files-rank.result (omega arith) c.index-files-rank.is c.loop-rank.invariant c.in_ok-add_file.ensures

pub returns : goal.returns
returns c =
    all_files (IsFaultOfImport (state_in c.args.states.now)) c.args.found.now.items c.loop-rank.found.items placed_imports source_of c.args.files.now
    c.loop-rank.rank (omega arith) c.loop-rank.invariant
