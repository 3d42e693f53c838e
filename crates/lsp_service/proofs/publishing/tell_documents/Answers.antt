-- The answers to the goals of `publishing::tell_documents`.
use Rattle.std.proofs.Common.{◌∙◌, String, ap, map, option_map, subst}
use Rattle.std.specs.BTreeMap.{BTreeMap}
use Rattle.std.specs.Map.Iter.{deref_pair}
use Rattle.std.specs.declared.alloc.Global.{Global}
use Rattle.std.proofs.lemmas.Map.Iter.{rest_all, rest_more}
use Rattle.lsp_documents.specs.Changes.{text_made}
use Rattle.lsp_documents.specs.declared.documents.Document.{Document}
use Rattle.lsp_editor.specs.Publications.{publication_view}
use Rattle.lsp_told.proofs.OneMore.{left_first, left_next, none_left}
use Rattle.lsp_service.specs.Publishing.{IsToldAt, IsToldOpen}
use Rattle.lsp_service.proofs.publishing.tell_documents.Goals as goal

pub loop-name-init : goal.loop-name-init
loop-name-init c =
    left_first (IsToldAt c.args.editor.now c.args.found.now) c.args.editor.now.documents.entries.entries c.into_iter-name-iterator.result
    (map publication_view c.new-told.result.items)
    (c.into_iter-name-iterator.ensures.into_iter_gives
    ∙ c.iter-name-items.ensures.rest
    ∙ ap (λ (m : BTreeMap (String Global) Document). m.entries) c.entries.ensures) (ap (map publication_view) c.new-told.ensures.items)

pub loop-name-preserved : goal.loop-name-preserved
loop-name-preserved c =
    let e : String Global × Document = (c.in-Some.name.now, c.in-Some.document.now) in
    let one = option_map publication_view c.in_ok-one.one in
    let left = rest_more deref_pair _ _ _ (c.in-Some.name, c.in-Some.document) c.in-Some.is c.next.ensures.steps in
    left_next (IsToldAt c.args.editor.now c.args.found.now) c.args.editor.now.documents.entries.entries c.loop-name.name-iterator
    c.next.new.self e (map publication_view c.loop-name.told.items) (map publication_view c.push_publication.new.all.items) one left
    c.in_ok-push_publication.ensures
    (subst (λ name. IsToldOpen c.args.editor.now c.args.found.now name c.in-Some.document.now (text_made c.in-Some.document.now.text) one)
    c.as_str.ensures.value c.in_ok-one.ensures) c.loop-name.invariant

pub returns : goal.returns
returns c =
    none_left (IsToldAt c.args.editor.now c.args.found.now) c.args.editor.now.documents.entries.entries c.loop-name.name-iterator
    (map publication_view c.loop-name.told.items) (rest_all deref_pair _ _ _ c.in-None.is c.next.ensures.steps) c.loop-name.invariant
