-- The answers to the goals of `pieces::Pieces::text`.
use Rattle.std.proofs.Common.{◌-◌, ◌<◌, ◌≤◌, length, take, drop, sym, ap, ◌∙◌, subst}
use Rattle.base_files.specs.declared.place.Span.{Span}
use Rattle.go_scanner.specs.declared.piece.Piece.{Piece}
use Rattle.go_scanner.specs.CutText.{CutText, tokens_in, token_at}
use Rattle.go_scanner.specs.Spans.{IsTokenText}
use Rattle.go_scanner.proofs.ReadLemmas.{token_read}
use Rattle.go_scanner.proofs.pieces.Pieces.text.Goals as goal

pub part-requires : goal.part-requires
part-requires c =
    let fits = subst (λ (v : CutText). c.args.token < length (tokens_in v)) (sym c.self.view_is) c.requires in
    let token = (token_read (record { text = c.self.inside.file; pieces = c.self.inside.pieces.items }) c.self.inside.tokens.items c.args.token
    c.index.result.now c.self.invariant fits c.index.ensures).is in
    let span = sym c.span-span.ensures in
    record {
      order = subst (λ (s : Span). s.start ≤ s.end) span token.order;
      fits = rw c.bytes.ensures (subst (λ (s : Span). s.end ≤ length c.self.inside.file) span token.fits);
    }

pub returns-clause-class : goal.returns-clause-class
returns-clause-class c =
    let fits = subst (λ (v : CutText). c.args.token < length (tokens_in v)) (sym c.self.view_is) c.requires in
    let v : CutText = record { text = c.self.inside.file; pieces = c.self.inside.pieces.items } in
    let found = token_read v c.self.inside.tokens.items c.args.token c.index.result.now c.self.invariant fits c.index.ensures in
    let bytes = c.part.ensures ∙ ap (λ l. take (c.span-span.result.end - c.span-span.result.start) (drop c.span-span.result.start l)) c.bytes.ensures
    ∙ ap (λ (s : Span). take (s.end - s.start) (drop s.start c.self.inside.file)) c.span-span.ensures in
    let here : IsTokenText c.index.result.now.class c.part.result.now = subst (IsTokenText c.index.result.now.class) (sym bytes) found.is.bytes in
    let at : IsTokenText (token_at v c.args.token).class c.part.result.now = subst (λ (t : Piece). IsTokenText t.class c.part.result.now) found.at here in
    subst (λ (w : CutText). IsTokenText (token_at w c.args.token).class c.part.result.now) c.self.view_is at
