-- The answers to the goals of `serving::serve_alone`.
use Rattle.std.proofs.Common.{string_bytes}
use Rattle.std.proofs.lemmas.Result.{IfOk-weaker}
use Rattle.lsp_server.proofs.serving.serve_alone.Goals as goal

pub returns : goal.returns
returns g c =
    IfOk-weaker c.serve_over.result _ _ (λ is_orderly serves. (
      string_bytes c.in_ok-folder.folder,
      c.new-editor.result,
      c.default.result,
      g.I.Read.remaining c.serve_over.new.source.reader,
      c.new-editor.ensures,
      serves,
    )) (rw (c.new-source.ensures.bytes, c.in_ok-book.ensures) at c.serve_over.ensures)
