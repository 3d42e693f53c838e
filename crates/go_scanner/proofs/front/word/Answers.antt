-- The answers to the goals of `front::word`.
use Rattle.std.proofs.Common.{sym, refl, ◌∙◌}
use Rattle.go_scanner.proofs.FrontLemmas.{keyword_stands, name_stands, no_word}
use Rattle.go_scanner.proofs.front.word.Goals as goal

pub returns-then-not-begins_with_letter : goal.returns-then-not-begins_with_letter
returns-then-not-begins_with_letter c = rw c.fault.ensures
    (no_word c.args.bytes.now c.requires.some c.requires.first (sym c.begins_with_letter.ensures ∙ c.if-not-begins_with_letter.true))

pub returns-in-Some : goal.returns-in-Some
returns-in-Some c = keyword_stands c.args.bytes.now _ c.name_run-size.result c.in-Some.keyword c.requires.some c.requires.first
    (sym c.begins_with_letter.ensures ∙ c.if-not-begins_with_letter.false) c.name_run-size.ensures refl (sym c.keyword_of.ensures ∙ c.in-Some.is)

pub returns-in-None : goal.returns-in-None
returns-in-None c = name_stands c.args.bytes.now _ c.name_run-size.result c.requires.some c.requires.first
    (sym c.begins_with_letter.ensures ∙ c.if-not-begins_with_letter.false) c.name_run-size.ensures refl (sym c.keyword_of.ensures ∙ c.in-None.is)
