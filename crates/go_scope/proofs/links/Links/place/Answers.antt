-- The answers to the goals of `links::Links::place`.
use Rattle.std.proofs.Common.{◌≡◌, length, true, false, sym, ◌∙◌}
use Rattle.std.proofs.lemmas.Result.{IfOk-weaker}
use Rattle.go_scope.specs.Leading.{IsLead, IsLeadInside}
use Rattle.go_scope.specs.Numbering.{numerals}
use Rattle.go_scope.specs.OpenBlocks.{IsLastOpen, IsVisibleInside}
use Rattle.go_scope.specs.Table.{IsNearest, layout_of}
use Rattle.go_scope.proofs.Linking.{outer_without, lasts_without}
use Rattle.go_scope.proofs.links.Links.place.Goals as goal

pub lead-requires-clause-leads : goal.lead-requires-clause-leads
lead-requires-clause-leads c = c.requires.leading.0 c.if-leads.true

pub returns-then-leads-clause-near : goal.returns-then-leads-clause-near
returns-then-leads-clause-near c =
    let l = layout_of c.args.identifiers.now in
    let names = numerals c.args.names.now in
    let d = c.args.d in
    IfOk-weaker c.lead.result (λ before. IsLeadInside l names (names d) d → IsLastOpen l (length c.args.identifiers.now) names (names d) d before)
    (λ near. (IsLead l names d → ⊥) → IsNearest l (IsVisibleInside l names (names d) d) near)
    (λ x h none. absurd (none (c.requires.leading.0 c.if-leads.true))) c.lead.ensures.before

pub returns-else-leads-clause-outer : goal.returns-else-leads-clause-outer
returns-else-leads-clause-outer c =
    outer_without (layout_of c.args.identifiers.now) (numerals c.args.names.now) c.args.d c.args.self.now.outer
    (λ k. let z : true ≡ false = sym (c.requires.leading.1 k) ∙ c.if-leads.false in cc) c.requires.linked.outer

pub returns-else-leads-clause-lasts : goal.returns-else-leads-clause-lasts
returns-else-leads-clause-lasts c =
    lasts_without (layout_of c.args.identifiers.now) (length c.args.identifiers.now) (numerals c.args.names.now) c.args.d c.args.self.now.last.items
    (λ k i. let z : true ≡ false = sym (c.requires.leading.1 k) ∙ c.if-leads.false in cc) c.requires.linked.lasts

pub returns-else-leads-clause-before : goal.returns-else-leads-clause-before
returns-else-leads-clause-before c = λ inside. let z : true ≡ false = sym (c.requires.leading.1 inside.leads) ∙ c.if-leads.false in cc
