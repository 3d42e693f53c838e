-- The answers to the goals of `client::lists_utf8`.
use Rattle.std.proofs.Common.{◌∙◌, sym}
use Rattle.lsp_params.proofs.Listing.{found_utf8, passed_utf8}
use Rattle.lsp_params.proofs.client.lists_utf8.Goals as goal

pub loop-item-preserved : goal.loop-item-preserved
loop-item-preserved c =
    c.loop-item.invariant
    ∙ passed_utf8 c.args.items.now c.loop-item.item-index c.item-item.result c.loop-item-test.true c.item-item.is
    (sym c.is_utf8_name.ensures ∙ c.if-is_utf8_name.false)

pub returns-then-is_utf8_name : goal.returns-then-is_utf8_name
returns-then-is_utf8_name c =
    sym (c.loop-item.invariant
    ∙ found_utf8 c.args.items.now c.loop-item.item-index c.item-item.result c.loop-item-test.true c.item-item.is
    (sym c.is_utf8_name.ensures ∙ c.if-is_utf8_name.true))
