-- The edits that were found make the text.
use Rattle.std.proofs.Common.{ℕ, List, IfSome, sym, subst}
use Rattle.go_scanner.specs.CutText.{CutText}
use Rattle.base_edits.specs.declared.edit.Edit.{Edit}
use Rattle.go_respelled.specs.Replaced.{Respell}
use Rattle.go_respelled.proofs.respelling.respelled.Goals as goal

pub respelled_tree-requires : goal.respelled_tree-requires
respelled_tree-requires c =
    let edits = c.in-Some.edits.items in
    let old = c.pieces-old.result.now in
    let new = c.bytes.result.now in
    let found : Respell old edits new = subst (λ o. IfSome o (λ es. Respell old es.items new)) c.in-Some.is c.in_ok-edits.ensures in
    subst (λ (es : List Edit). Respell c.args.like.now.cut es c.args.text.now) (sym c.deref.ensures.value)
    (subst (λ (text : List ℕ). Respell c.args.like.now.cut edits text) c.bytes.ensures
    (subst (λ (o : CutText). Respell o edits new) c.pieces-old.ensures found))
