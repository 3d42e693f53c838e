-- The answers to the goals of `replacing::replacements`.
use Rattle.std.proofs.Common.{length, sym, ap, subst, ◌∙◌, refl, arith}
use Rattle.std.specs.List.Sorted.{IsStrictlySortedBy}
use Rattle.std.specs.Ordering.{nat_cmp}
use Rattle.std.proofs.lemmas.Option.{slice_get_read}
use Rattle.base_files.specs.declared.place.Place.{Place}
use Rattle.go_scanner.specs.CutText.{CutText, tokens_in}
use Rattle.go_scanner.specs.Spans.{FollowFrom, AreTokensInOrder, starts}
use Rattle.go_ast.specs.SourceFile.{source_of}
use Rattle.refactor_rename.specs.FileEdits.{AppendsEdit}
use Rattle.refactor_rename.specs.Here.{ReplacesAt}
use Rattle.refactor_rename.proofs.PlaceEdits.{placing_first, placing_next, placed}
use Rattle.refactor_rename.proofs.replacing.replacements.Goals as goal

pub loop-k-init : goal.loop-k-init
loop-k-init c =
    placing_first c.tokens-tokens.result.now (length (source_of c.args.file.now).cut.text) c.args.name.now c.args.here.now c.in_ok-edits.edits.items
    c.in_ok-edits.ensures.items

pub add_replacement-requires : goal.add_replacement-requires
add_replacement-requires c =
    subst (λ l. IsStrictlySortedBy nat_cmp (starts l)) (sym c.tokens-tokens.ensures.tokens) c.tokens-tokens.ensures.order.rise

pub loop-k-preserved : goal.loop-k-preserved
loop-k-preserved c =
    let f = source_of c.args.file.now in
    let ts = c.tokens-tokens.result.now in
    let order = subst (λ l. AreTokensInOrder c.pieces.result.now.text l) (sym c.tokens-tokens.ensures.tokens) c.tokens-tokens.ensures.order in
    let here = c.args.here.now in
    placing_next ts (length f.cut.text) c.args.name.now here order.rise
    (subst (λ (v : CutText). FollowFrom 0 ts (length v.text)) c.pieces.ensures order.follow) c.requires c.loop-k.k c.index-here-k.result
    c.loop-k.edits.items c.add_replacement.new.edits.items
    (slice_get_read here (length here) c.loop-k.k c.index-here-k.result refl (omega arith) c.index-here-k.is)
    (subst (λ (p : Place). AppendsEdit (ReplacesAt ts c.args.name.now p.offset) c.loop-k.edits.items c.add_replacement.new.edits.items) (sym c.index-here-k.is)
    c.in_ok-add_replacement.ensures)
    c.loop-k.invariant

pub returns : goal.returns
returns c =
    let f = source_of c.args.file.now in
    let ts = c.tokens-tokens.result.now in
    let order = subst (λ l. AreTokensInOrder c.pieces.result.now.text l) (sym c.tokens-tokens.ensures.tokens) c.tokens-tokens.ensures.order in
    placed ts (length f.cut.text) c.args.name.now c.args.here.now order.rise
    (subst (λ (v : CutText). FollowFrom 0 ts (length v.text)) c.pieces.ensures order.follow) c.requires f c.loop-k.edits.items c.loop-k.k
    (c.tokens-tokens.ensures.tokens ∙ ap tokens_in c.pieces.ensures) refl (omega arith) c.loop-k.invariant
