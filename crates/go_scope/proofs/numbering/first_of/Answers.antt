-- The answers to the goals of `numbering::first_of`.
use Rattle.std.proofs.Common.{sym, ◌∙◌}
use Rattle.go_scope.specs.Table.{layout_of, names_of}
use Rattle.go_scope.proofs.NameNumbers.{firsts_later, number_later}
use Rattle.go_scope.proofs.numbering.first_of.Goals as goal

pub returns-in-Some-clause-firsts : goal.returns-in-Some-clause-firsts
returns-in-Some-clause-firsts c =
    firsts_later (layout_of c.args.identifiers.now) (names_of c.args.identifiers.now) c.args.u c.args.firsts.now (record { bytes = c.name_at-bytes.result })
    c.name_at-bytes.ensures c.requires.firsts
    c.in-Some.first (sym (c.copied.ensures ∙ c.get.ensures.value) ∙ c.in-Some.is)

pub returns-in-Some-clause-number : goal.returns-in-Some-clause-number
returns-in-Some-clause-number c =
    number_later (layout_of c.args.identifiers.now) (names_of c.args.identifiers.now) c.args.u c.args.firsts.now (record { bytes = c.name_at-bytes.result })
    c.name_at-bytes.ensures c.requires.firsts
    c.in-Some.first (sym (c.copied.ensures ∙ c.get.ensures.value) ∙ c.in-Some.is)
