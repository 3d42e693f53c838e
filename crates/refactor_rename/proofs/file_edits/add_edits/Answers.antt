-- The answers to the goals of `file_edits::add_edits`.
use Rattle.std.proofs.lemmas.Result.{on_ok_weaker}
use Rattle.go_ast.specs.SourceFile.{source_of}
use Rattle.refactor_rename.specs.FileEdits.{AppendsEdit, AppendsEditsAt, RenamesToken}
use Rattle.refactor_rename.proofs.file_edits.add_edits.Goals as goal

pub returns-clause-adds : goal.returns-clause-adds
returns-clause-adds c =
    let f = source_of c.args.file.now in
    let r = c.args.renamed.now in
    let i = c.args.number in
    let between = c.add_insertion.new.edits.items in
    let after = c.add_replacement.new.edits.items in
    let both = λ (k : AppendsEdit (RenamesToken f r i) between after).
    let is : AppendsEditsAt f r i c.args.edits.now.items after = record {
      between = between;
      inserts = c.in_ok-add_insertion.ensures.adds;
      replaces = k;
    } in is in
    on_ok_weaker c.add_replacement.result both c.add_replacement.ensures.adds
