-- The edits replace tokens, and make the text.
use Rattle.std.proofs.Common.{subst}
use Rattle.go_scanner.specs.CutText.{CutText}
use Rattle.go_respelled.specs.Replaced.{AreTokenEdits}
use Rattle.go_respelled.proofs.respelling.respelled_by.Goals as goal

pub respelled_tree-requires : goal.respelled_tree-requires
respelled_tree-requires c =
    let edits = c.args.edits.now in
    let are : AreTokenEdits c.args.like.now.cut edits =
    subst (λ (old : CutText). AreTokenEdits old edits) c.pieces.ensures (c.in_ok-replace.ensures c.if-not-replace.false) in
    record { make = record { order = are.order; made = c.requires }; tokens = are.tokens }
