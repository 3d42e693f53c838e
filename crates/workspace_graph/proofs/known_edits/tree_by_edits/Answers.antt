-- The edits make the text at the path of that of the tree before.
use Rattle.std.proofs.Common.{◌≡◌, Some, sym, ap, ◌∙◌}
use Rattle.std.specs.FinMap.{get}
use Rattle.std.specs.Option.{option_copied}
use Rattle.std.proofs.lemmas.List.Elements.{All-contains}
use Rattle.std.proofs.lemmas.Option.{IfSome_then}
use Rattle.workspace_graph.specs.KnownEdits.{EditsMakeOf}
use Rattle.workspace_graph.proofs.KnownEdits.{text_made}
use Rattle.workspace_graph.proofs.known_edits.tree_by_edits.Goals as goal

pub respelled_by-requires : goal.respelled_by-requires
respelled_by-requires c =
    let known = c.args.known in
    let path = c.args.path.now in
    let change = c.in-Some.change.now in
    let is = c.in-Some.ensures in
    let has : get known.files.now path ≡ Some c.in-Some-get.text.now = sym c.get.ensures ∙ ap option_copied c.in-Some-get.is in
    rw c.as_slice.ensures (text_made known.before.now known.files.now path c.in-Some-get.text.now c.in-Some-tree_of_path.like.now change
    (All-contains (EditsMakeOf known.before.now known.files.now) known.changed.now change c.requires.edits is.0) is.2 is.1 c.in-Some-tree_of_path.ensures has)

pub returns : goal.returns
returns c =
    let known = c.args.known in
    let has : get known.files.now c.args.path.now ≡ Some c.in-Some-get.text.now = sym c.get.ensures ∙ ap option_copied c.in-Some-get.is in
    IfSome_then c.in_ok-made.made c.in_ok-made.ensures (λ tree is. (is.0, has ∙ ap Some (sym is.1)))
