-- The answers to the goals of `publications::tell_publication`.
use Rattle.std.proofs.lemmas.Result.{on_ok_weaker}
use Rattle.lsp_editor.proofs.publications.tell_publication.Goals as goal

pub returns : goal.returns
returns c = on_ok_weaker c.keep.result (λ kept. (c.in_ok-push_params.ensures, kept)) c.keep.ensures
