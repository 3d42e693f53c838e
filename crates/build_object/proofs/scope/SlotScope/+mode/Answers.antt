-- The answers to the goals of `scope::Scope::mode`.
use Rattle.std.proofs.Common.{◌-◌, ap, sym, ◌∙◌, refl, arith, inl, inr}
use Rattle.build_object.specs.SourceView.{source_of}
use Rattle.build_object.specs.Operands.{Values}
use Rattle.build_object.specs.Making.{mode_of}
use Rattle.build_object.proofs.Trees.{number_here, text_here, name_here, blank_here, composite_here, paren_here, address_here, binary_here, named_binary_here}
use Rattle.build_object.proofs.Links.{chain_alone, chain_behind, named_alone, named_behind, prefix_stands}
use Rattle.build_object.proofs.scope.SlotScope.+mode.Goals as goal

pub returns-in-Name : goal.returns-in-Name
returns-in-Name t c = c.name_mode.ensures ∙ sym
    (ap (λ p. p.mode) (name_here (source_of c.args.self.source.now) c.args.self.slots.now.places.items _ c.in-Name.is))

pub returns-in-Blank : goal.returns-in-Blank
unfolding mode_of
returns-in-Blank t c = sym (ap (λ p. p.mode) (blank_here (source_of c.args.self.source.now) c.args.self.slots.now.places.items _ c.in-Blank.is))

pub returns-then-is_empty : goal.returns-then-is_empty
unfolding mode_of
returns-then-is_empty t c = sym (chain_alone (source_of c.args.self.source.now) c.args.self.slots.now.places.items _ _ c.in-Chain.is _ c.deref.ensures
    (grind (c.if-is_empty.true, c.is_empty.ensures, c.in-Chain.links.ok.0, arith)) _ (sym c.mode-head.ensures) ∙ ap Values (sym c.values.ensures))

pub returns-else-is_empty : goal.returns-else-is_empty
unfolding mode_of
returns-else-is_empty t c = sym (chain_behind (source_of c.args.self.source.now) c.args.self.slots.now.places.items _ _ c.in-Chain.is _ c.deref.ensures _
    c.deref-in-Chain.ensures.value (c.len.result - 1)
    (let h = c.len.ensures ∙ c.in-Chain.links.ok.0 in grind (h, c.if-is_empty.false, c.is_empty.ensures, c.in-Chain.links.ok.0, arith)) _
    (sym c.mode-head.ensures) _ c.left_by_links.ensures)

pub returns-then-is_empty-2 : goal.returns-then-is_empty-2
unfolding mode_of
returns-then-is_empty-2 t c = sym (named_alone (source_of c.args.self.source.now) c.args.self.slots.now.places.items _ _ c.in-NamedChain.is
    (grind (c.if-is_empty-2.true, c.is_empty-in-NamedChain.ensures, c.in-NamedChain.links.ok.0, arith)) _ (sym c.name_mode-head.ensures)
    ∙ ap Values (sym c.values-then-is_empty-2.ensures))

pub returns-else-is_empty-2 : goal.returns-else-is_empty-2
unfolding mode_of
returns-else-is_empty-2 t c = sym (named_behind (source_of c.args.self.source.now) c.args.self.slots.now.places.items _ _ c.in-NamedChain.is _
    c.deref-in-NamedChain.ensures.value (c.len-in-NamedChain.result - 1)
    (let h = c.len-in-NamedChain.ensures ∙ c.in-NamedChain.links.ok.0 in
    grind (h, c.if-is_empty-2.false, c.is_empty-in-NamedChain.ensures, c.in-NamedChain.links.ok.0, arith)) _
    (sym c.name_mode-head.ensures) _ c.left_by_links-in-NamedChain.ensures)

pub returns-in-Number : goal.returns-in-Number
unfolding mode_of
returns-in-Number t c = elim c.in-Number.is [
  | inl q ↦ sym (ap (λ p. p.mode) (number_here (source_of c.args.self.source.now) c.args.self.slots.now.places.items _ q.1))
  | inr r ↦ elim r [
    | inl q ↦ sym (ap (λ p. p.mode) (text_here (source_of c.args.self.source.now) c.args.self.slots.now.places.items _ q.1))
    | inr r ↦ elim r [
      | inl q ↦ sym (ap (λ p. p.mode) (composite_here (source_of c.args.self.source.now) c.args.self.slots.now.places.items _ q.1 _ refl))
      | inr r ↦ elim r [
        | inl q ↦ sym (ap (λ p. p.mode) (paren_here (source_of c.args.self.source.now) c.args.self.slots.now.places.items _ _ _ q.3 _ refl))
        | inr r ↦ elim r [
          | inl q ↦ prefix_stands (source_of c.args.self.source.now) c.args.self.slots.now.places.items _ _ _ q.3
          | inr r ↦ elim r [
            | inl q ↦ sym (ap (λ p. p.mode) (address_here (source_of c.args.self.source.now) c.args.self.slots.now.places.items _ _ q.2 _ refl))
            | inr r ↦ elim r [
              | inl q ↦ sym (ap (λ p. p.mode) (binary_here (source_of c.args.self.source.now) c.args.self.slots.now.places.items _ _ q.2 _ _ refl refl))
              | inr q ↦ sym (ap (λ p. p.mode) (named_binary_here (source_of c.args.self.source.now) c.args.self.slots.now.places.items _ _ q.2 _ refl))
            ]
          ]
        ]
      ]
    ]
  ]
]
