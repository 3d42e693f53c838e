-- The answers to the goals of `output::print_line`.
use Rattle.std.proofs.Common.{◌≡◌, ℕ, ◌+◌, List, ◌++◌, [], ◌∷◌, true, length, ◌∙◌, sym, ap, subst, length-append}
use Rattle.std.proofs.lemmas.Result.{err_from_is_err_and}
use Rattle.server_read.specs.Failures.{WritesText, WritesPart}
use Rattle.server_session.specs.Listings.{package_line}
use Rattle.server_session.specs.Replies.{reply_head}
use Rattle.server_session.proofs.Parts.{then_text, part_of}
use Rattle.server_session.proofs.output.print_line.Goals as goal

-- the first line counts the newline behind the path
head_is : (head path : List ℕ) (number : ℕ) → head ≡ reply_head true number (length path + 1) → head ≡ reply_head true number (length (package_line path))
head_is head path number e = e ∙ ap (λ n. reply_head true number n) (sym (length-append path (10 ∷ [])))

pub returns-in_err-write_whole-clause-written : goal.returns-in_err-write_whole-clause-written
returns-in_err-write_whole-clause-written g c =
    let p = err_from_is_err_and c.from_residual.result c.from_residual.ensures.1 in
    let line = package_line c.args.path.now in
    let counted : c.as_bytes.result.now ≡ reply_head true c.args.number (length c.args.path.now + 1) =
    cc (c.as_bytes.ensures.value, c.as_str.ensures.value, c.head-first_line.ensures) in
    rw p.1 (subst (λ first. WritesPart (g.T.Sink.contents c.args.sink.now) (g.T.Sink.contents c.write_whole.new.sink) (first ++ line))
    (head_is c.as_bytes.result.now c.args.path.now c.args.number counted)
    (part_of (g.T.Sink.contents c.args.sink.now) (g.T.Sink.contents c.write_whole.new.sink) c.as_bytes.result.now line
    c.in_err-write_whole.ensures.written))

pub returns-clause-written : goal.returns-clause-written
returns-clause-written g c =
    let line = package_line c.args.path.now in
    let counted : c.as_bytes.result.now ≡ reply_head true c.args.number (length c.args.path.now + 1) =
    cc (c.as_bytes.ensures.value, c.as_str.ensures.value, c.head-first_line.ensures) in
    subst (λ first. WritesText (g.T.Sink.contents c.args.sink.now) (g.T.Sink.contents c.write_both.new.sink) (first ++ line) c.write_both.result)
    (head_is c.as_bytes.result.now c.args.path.now c.args.number counted)
    (then_text (g.T.Sink.contents c.args.sink.now) (g.T.Sink.contents c.write_whole.new.sink) (g.T.Sink.contents c.write_both.new.sink)
    c.as_bytes.result.now line c.write_both.result c.in_ok-write_whole.ensures.written c.write_both.ensures.written)
