-- The invariants of the loops of `publications::tell_publications`.
use Rattle.std.proofs.Common.{map}
use Rattle.serde_json.specs.View.{view}
use Rattle.lsp_editor.specs.Publications.{TellsAll, publication_view}
use Rattle.lsp_editor.proofs.publications.tell_publications.Given as goal

-- those so far were told of
abbrev pub invariant-loop-one : goal.invariant-loop-one
invariant-loop-one l =
    TellsAll (map publication_view l.yielded) (map view l.initial.values.items) (map view l.values.items) l.initial.editor l.editor
