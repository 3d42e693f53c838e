-- The answers to the goals of `publications::tell_publications`.
use Rattle.std.proofs.Common.{map, refl, sym}
use Rattle.std.proofs.lemmas.List.{append-nil}
use Rattle.serde_json.specs.View.{view}
use Rattle.lsp_editor.proofs.Keeping.{told_next}
use Rattle.lsp_editor.proofs.publications.tell_publications.Goals as goal

pub loop-one-init : goal.loop-one-init
loop-one-init c = (sym (append-nil (map view c.args.values.now.items)), (refl, λ name. refl))

pub loop-one-preserved : goal.loop-one-preserved
loop-one-preserved c =
    told_next (map view c.args.values.now.items) (map view c.loop-one.values.items) (map view c.tell_publication.new.values.items)
    c.args.editor.now c.loop-one.editor c.tell_publication.new.editor c.loop-one.yielded c.in-Some.one c.loop-one.invariant
    c.in_ok-tell_publication.ensures
