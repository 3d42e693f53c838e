-- The answers to the goals of `declared::Declared::of`.
use Rattle.std.proofs.Common.{arith}
use Rattle.go_ast.specs.SourceFile.{source_of}
use Rattle.types_declared.specs.Package.{variables_in, types_in, functions_in}
use Rattle.types_declared.specs.DeclaredView.{variable_of, type_of, function_of}
use Rattle.types_declared.proofs.Appending.{from_none}
use Rattle.types_declared.proofs.AddingDeclared.{adds_file, all_files}
use Rattle.types_declared.proofs.declared.Declared.of.Goals as goal

pub loop-rank-preserved : goal.loop-rank-preserved
loop-rank-preserved c =
    adds_file _ c.loop-rank.declared c.add_file.new.self source_of variables_in types_in functions_in c.args.files.now c.loop-rank.rank
    c.index-files-rank.result (omega arith) c.index-files-rank.is
    c.loop-rank.invariant c.in_ok-add_file.ensures

pub returns-clause-variables : goal.returns-clause-variables
returns-clause-variables c =
    from_none variable_of c.new.result.items c.loop-rank.declared.variables.items _ c.new.ensures.items
    (all_files _ c.loop-rank.declared source_of variables_in types_in functions_in c.args.files.now c.loop-rank.rank (omega arith)
    c.loop-rank.invariant).adds_variables

pub returns-clause-types : goal.returns-clause-types
returns-clause-types c =
    from_none type_of c.new-2.result.items c.loop-rank.declared.types.items _ c.new-2.ensures.items
    (all_files _ c.loop-rank.declared source_of variables_in types_in functions_in c.args.files.now c.loop-rank.rank (omega arith)
    c.loop-rank.invariant).adds_types

pub returns-clause-functions : goal.returns-clause-functions
returns-clause-functions c =
    from_none function_of c.new-3.result.items c.loop-rank.declared.functions.items _ c.new-3.ensures.items
    (all_files _ c.loop-rank.declared source_of variables_in types_in functions_in c.args.files.now c.loop-rank.rank (omega arith)
    c.loop-rank.invariant).adds_functions
