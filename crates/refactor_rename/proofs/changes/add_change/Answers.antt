-- The answers to the goals of `changes::add_change`.
use Rattle.std.proofs.Common.{refl, ◌∙◌, subst, sym}
use Rattle.go_ast.specs.SourceFile.{source_of}
use Rattle.base_edits.specs.declared.change.FileChange.{FileChange}
use Rattle.base_edits.specs.declared.change.Fate.TheVariants.{Stays}
use Rattle.workspace_check.proofs.Members.{vec_empty}
use Rattle.refactor_rename.specs.FileEdits.{AreFileEdits}
use Rattle.refactor_rename.proofs.Changing.{one_added, none_added}
use Rattle.refactor_rename.proofs.changes.add_change.Goals as goal

pub returns-in_ok-push : goal.returns-in_ok-push
returns-in_ok-push c =
    let f = source_of c.args.file.now in
    let r = c.args.renamed.now in
    let change : FileChange = record { path = c.in_ok-clone.field-0; edits = c.new.result; fate = Stays } in
    one_added f r c.args.changed.now.items c.push.new.self.items change c.in_ok-push.ensures.items (c.in_ok-clone.ensures.cases ∙ c.path.ensures) refl
    (subst (AreFileEdits f r) (sym c.new.ensures) c.in_ok-edits.ensures)

pub returns-else-not-is_empty : goal.returns-else-not-is_empty
returns-else-not-is_empty c =
    none_added (source_of c.args.file.now) c.args.renamed.now c.args.changed.now.items c.in_ok-edits.edits.items
    (vec_empty c.in_ok-edits.edits c.is_empty.result c.is_empty.ensures c.if-not-is_empty.false) c.in_ok-edits.ensures
