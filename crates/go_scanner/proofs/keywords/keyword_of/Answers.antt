-- The answers to the goals of `keywords::keyword_of`.
use Rattle.std.proofs.Common.{sym, ◌∙◌}
use Rattle.go_scanner.proofs.NarrowLemmas.{keyword_among, no_keyword}
use Rattle.go_scanner.proofs.keywords.keyword_of.Goals as goal

pub returns-then-not-may_begin : goal.returns-then-not-may_begin
returns-then-not-may_begin c = no_keyword c.args.bytes.now c.first_byte-first.result c.second_byte.result c.first_byte-first.ensures
    c.second_byte.ensures (sym c.may_begin.ensures ∙ c.if-not-may_begin.true)

pub returns : goal.returns
returns c = keyword_among c.args.bytes.now c.starting_with.result.now c.first_byte-first.result c.first_among.result c.first_byte-first.ensures
    c.starting_with.ensures c.first_among.ensures
