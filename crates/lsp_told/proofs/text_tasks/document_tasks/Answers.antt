-- The answers to the goals of `text_tasks::document_tasks`.
use Rattle.std.proofs.Common.{◌∙◌, String, ap, subst}
use Rattle.std.specs.BTreeMap.{BTreeMap}
use Rattle.std.specs.Map.Iter.{deref_pair}
use Rattle.std.specs.declared.alloc.Global.{Global}
use Rattle.std.proofs.lemmas.Map.Iter.{rest_all, rest_more}
use Rattle.lsp_documents.specs.Changes.{text_made}
use Rattle.lsp_documents.specs.declared.documents.Document.{Document}
use Rattle.lsp_told.specs.TextTasks.{IsPutAt, IsPutOf}
use Rattle.lsp_told.proofs.OneMore.{left_first, left_next, none_left}
use Rattle.lsp_told.proofs.text_tasks.document_tasks.Goals as goal

pub loop-name-init : goal.loop-name-init
loop-name-init c =
    left_first (IsPutAt c.args.files.now) c.args.documents.now.entries.entries c.into_iter-name-iterator.result c.new-tasks.result.items
    (c.into_iter-name-iterator.ensures.into_iter_gives
    ∙ c.iter-name-items.ensures.rest
    ∙ ap (λ (m : BTreeMap (String Global) Document). m.entries) c.entries.ensures) c.new-tasks.ensures.items

pub loop-name-preserved : goal.loop-name-preserved
loop-name-preserved c =
    let e : String Global × Document = (c.in-Some.name.now, c.in-Some.document.now) in
    let left = rest_more deref_pair _ _ _ (c.in-Some.name, c.in-Some.document) c.in-Some.is c.next.ensures.steps in
    left_next (IsPutAt c.args.files.now) c.args.documents.now.entries.entries c.loop-name.name-iterator c.next.new.self e c.loop-name.tasks.items
    c.push_put.new.tasks.items c.in_ok-put.put left c.in_ok-push_put.ensures
    (subst (λ name. IsPutOf c.args.files.now name (text_made c.in-Some.document.now.text) c.in_ok-put.put) c.as_str.ensures.value
    c.in_ok-put.ensures.found) c.loop-name.invariant

pub returns-clause-found : goal.returns-clause-found
returns-clause-found c =
    none_left (IsPutAt c.args.files.now) c.args.documents.now.entries.entries c.loop-name.name-iterator c.loop-name.tasks.items
    (rest_all deref_pair _ _ _ c.in-None.is c.next.ensures.steps) c.loop-name.invariant
