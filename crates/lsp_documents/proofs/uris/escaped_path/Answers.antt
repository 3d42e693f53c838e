-- The answers to the goals of `uris::escaped_path`.
use Rattle.std.proofs.lemmas.Bool.{false≢true}
use Rattle.lsp_documents.proofs.Naming.{no_file}
use Rattle.lsp_documents.proofs.uris.escaped_path.Goals as goal

pub returns-else-begins_with_slash : goal.returns-else-begins_with_slash
returns-else-begins_with_slash c =
    no_file c.args.uri.now c.in_ok-text_behind.field-0.now c.without_host-path.result.now c.in_ok-text_behind.ensures c.without_host-path.ensures
    (λ slash. false≢true (c.if-begins_with_slash.ensures.1 slash))
