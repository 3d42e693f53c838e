-- The answers to the goals of `respelling::respelled_tree`.
use Rattle.std.proofs.Common.{◌≡◌, sym, subst, ◌∙◌}
use Rattle.go_scanner.specs.CutText.{CutText}
use Rattle.go_ast.specs.SourceFile.{source_of}
use Rattle.go_respelled.specs.Renamings.{recut}
use Rattle.go_respelled.specs.Replaced.{Respell}
use Rattle.go_respelled.proofs.Walked.{respelled_file}
use Rattle.go_respelled.proofs.respelling.respelled_tree.Goals as goal

pub respelled_pieces-requires : goal.respelled_pieces-requires
respelled_pieces-requires c = subst (λ (old : CutText). Respell old c.args.edits.now c.args.text.now) (sym c.pieces-old.ensures) c.requires

pub sharing_tree-requires : goal.sharing_tree-requires
sharing_tree-requires c =
    let old = c.args.like.now.cut in
    let edits = c.args.edits.now in
    let same : c.in_ok-pieces.pieces ≡ recut edits old = c.in_ok-pieces.ensures ∙ (λ i. recut edits (c.pieces-old.ensures i)) in
    respelled_file c.in_ok-path.path (source_of c.args.like.now) edits c.args.text.now c.in_ok-pieces.pieces c.file.ensures.is_file c.requires same
