-- The answers to the goals of `numbering::next_number`.
use Rattle.std.proofs.Common.{◌≡◌, true, false, ap, sym, ◌∙◌}
use Rattle.go_scope.specs.Numbering.{is_lexical}
use Rattle.go_scope.specs.Table.{layout_of, names_of}
use Rattle.go_scope.proofs.NameNumbers.{firsts_skip}
use Rattle.go_scope.proofs.numbering.next_number.Goals as goal

pub returns-else-is_lexical-clause-firsts : goal.returns-else-is_lexical-clause-firsts
returns-else-is_lexical-clause-firsts c =
    let l = layout_of c.args.identifiers.now in
    firsts_skip l (names_of c.args.identifiers.now) c.args.u c.args.firsts.now
    (λ lexical.
    let f : is_lexical (l.role c.args.u) ≡ false = ap is_lexical (sym c.role_at.ensures) ∙ sym c.is_lexical.ensures ∙ c.if-is_lexical.false in
    let z : true ≡ false = sym lexical ∙ f in cc)
    c.requires.firsts

pub returns-else-is_lexical-clause-number : goal.returns-else-is_lexical-clause-number
returns-else-is_lexical-clause-number c = λ lexical.
    let l = layout_of c.args.identifiers.now in
    let f : is_lexical (l.role c.args.u) ≡ false = ap is_lexical (sym c.role_at.ensures) ∙ sym c.is_lexical.ensures ∙ c.if-is_lexical.false in
    let z : true ≡ false = sym lexical ∙ f in cc
