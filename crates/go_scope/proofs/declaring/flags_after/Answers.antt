-- The answers to the goals of `declaring::flags_after`.
use Rattle.go_scope.specs.Numbering.{numerals}
use Rattle.go_scope.specs.Table.{layout_of}
use Rattle.go_scope.proofs.Leading.{leads_if_none, leads_not}
use Rattle.go_scope.proofs.declaring.flags_after.Goals as goal

pub returns-in-None-clause-leads : goal.returns-in-None-clause-leads
returns-in-None-clause-leads c =
    let l = layout_of c.args.identifiers.now in
    let names = numerals c.args.names.now in (
      (λ t. leads_if_none l names c.args.d c.args.leader c.in-None.is c.requires.leader (c.declares-declares.ensures.0 t)),
      (λ x. c.declares-declares.ensures.1 x.declares),
    )

pub returns-in-Some-clause-leads : goal.returns-in-Some-clause-leads
returns-in-Some-clause-leads c =
    let l = layout_of c.args.identifiers.now in
    let names = numerals c.args.names.now in (
      (λ t. let z : ⊥ = cc in absurd z),
      (λ x. absurd (leads_not l names c.args.d c.in-Some.field-0 c.args.leader c.in-Some.is c.requires.leader x)),
    )
