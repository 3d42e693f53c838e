-- The answers to the goals of `file_edits::edits_near`.
use Rattle.std.proofs.Common.{subst, sym, ◌∙◌}
use Rattle.std.proofs.lemmas.Bool.{false≢true}
use Rattle.std.proofs.lemmas.Result.{IfOk-weaker}
use Rattle.go_ast.specs.SourceFile.{source_of}
use Rattle.refactor_rename.specs.FileEdits.{AreFileEdits, IsLiteralAt}
use Rattle.refactor_rename.specs.Here.{ArePlacesIn, AreReplacements}
use Rattle.refactor_rename.proofs.PlaceEdits.{file_edits}
use Rattle.refactor_rename.proofs.file_edits.edits_near.Goals as goal

pub returns : goal.returns
returns c =
    let f = source_of c.args.file.now in
    let r = c.args.renamed.now in
    let here = c.places_in-here.result.now in
    let are_in : ArePlacesIn r.places f.path here =
    subst (λ path. ArePlacesIn r.places path here) c.path-path.ensures
    (subst (λ ps. ArePlacesIn ps c.path-path.result.now here) c.as_slice.ensures c.places_in-here.ensures.places) in
    IfOk-weaker c.replacements.result (λ edits. AreReplacements f r.name here edits.items) (λ edits. AreFileEdits f r edits.items)
    (λ edits are. file_edits f r here edits.items are_in
    (λ i is. false≢true (sym c.if-has_literal.false ∙ c.has_literal.ensures i (subst (λ path. IsLiteralAt r.literal path i) (sym c.path-path.ensures) is)))
    are) c.replacements.ensures
