-- The answers to the goals of `links::Links::lead`.
use Rattle.std.proofs.Common.{arith, ℕ, ◌≡◌, ◌<◌, ◌∷◌, [], ◌∙◌, length, ap, sym, subst, None}
use Rattle.go_scope.specs.Bindings.{block_of}
use Rattle.go_scope.specs.Numbering.{numerals}
use Rattle.go_scope.specs.OuterBlocks.{outer_of}
use Rattle.go_scope.specs.Table.{layout_of}
use Rattle.go_scope.proofs.Linking.{inner_if, block_back, outer_with, outer_without, lasts_with, lasts_without, last_within, last_opened, outer_inner_not}
use Rattle.go_scope.proofs.links.Links.lead.Goals as goal

pub index-before-requires : goal.index-before-requires
index-before-requires c =
    let within : c.number_at-name.result < length c.args.self.now.last.items =
    last_within c.args.identifiers.now c.args.names.now c.args.d c.args.self.now c.requires.linked c.requires.numbered c.requires.in_range
    c.number_at-name.result c.number_at-name.ensures in
    omega arith

pub returns-in-None-clause-outer : goal.returns-in-None-clause-outer
returns-in-None-clause-outer c =
    let l = layout_of c.args.identifiers.now in
    let outer : outer_of (block_of (l.role c.args.d)) ≡ None = ap outer_of (sym (c.block.ensures ∙ ap block_of c.role_at.ensures)) ∙ sym c.outer.ensures ∙
    c.in-None.is in
    outer_without l (numerals c.args.names.now) c.args.d c.args.self.now.outer (λ k. inner_if (block_of (l.role c.args.d)) outer) c.requires.linked.outer

pub returns-in-None-clause-lasts : goal.returns-in-None-clause-lasts
returns-in-None-clause-lasts c =
    let xs = c.args.identifiers.now in
    let l = layout_of xs in
    let outer : outer_of (block_of (l.role c.args.d)) ≡ None = ap outer_of (sym (c.block.ensures ∙ ap block_of c.role_at.ensures)) ∙ sym c.outer.ensures ∙
    c.in-None.is in
    let B : ℕ → Type 0 = λ k. k < length xs in
    lasts_with l (length xs) (numerals c.args.names.now) c.args.d c.number_at-name.result c.args.self.now.last.items
    (subst B (sym c.number_at-name.ensures) (c.requires.numbered c.args.d c.requires.in_range)) (ap (λ n. n ∷ []) (sym c.number_at-name.ensures))
    c.requires.leads (inner_if (block_of (l.role c.args.d)) outer) c.requires.linked.lasts

pub returns-in-None-clause-before : goal.returns-in-None-clause-before
returns-in-None-clause-before c = λ inside.
    last_opened c.args.identifiers.now c.args.names.now c.args.d c.args.self.now c.requires.linked c.requires.numbered c.requires.in_range
    c.number_at-name.result c.number_at-name.ensures c.index-before.result.now _ c.index-before.ensures

pub returns-in_ok-insert-in-Some-clause-outer : goal.returns-in_ok-insert-in-Some-clause-outer
returns-in_ok-insert-in-Some-clause-outer c =
    let l = layout_of c.args.identifiers.now in
    let B = block_of (l.role c.args.d) in
    let outer : outer_of B ≡ _ = ap outer_of (sym (c.block.ensures ∙ ap block_of c.role_at.ensures)) ∙ sym c.outer.ensures ∙ c.in-Some.is in
    outer_with l (numerals c.args.names.now) c.args.d c.args.self.now.outer c.insert.new.self (record {
      name = c.number_at-name.result;
      block =
          c.in-Some.block;
    })
    c.requires.leads (ap (λ n. n ∷ []) (sym c.number_at-name.ensures)) (sym (block_back B c.in-Some.block outer))
    (λ q. c.in_ok-insert-in-Some.ensures.updates.0 q)
    c.requires.linked.outer

pub returns-in_ok-insert-in-Some-clause-lasts : goal.returns-in_ok-insert-in-Some-clause-lasts
returns-in_ok-insert-in-Some-clause-lasts c =
    let xs = c.args.identifiers.now in
    let l = layout_of xs in
    let B = block_of (l.role c.args.d) in
    let outer : outer_of B ≡ _ = ap outer_of (sym (c.block.ensures ∙ ap block_of c.role_at.ensures)) ∙ sym c.outer.ensures ∙ c.in-Some.is in
    lasts_without l (length xs) (numerals c.args.names.now) c.args.d c.args.self.now.last.items (λ k i. outer_inner_not B c.in-Some.block outer i)
    c.requires.linked.lasts

pub returns-in_ok-insert-in-Some-clause-before : goal.returns-in_ok-insert-in-Some-clause-before
returns-in_ok-insert-in-Some-clause-before c = λ inside.
    let l = layout_of c.args.identifiers.now in
    let B = block_of (l.role c.args.d) in
    let outer : outer_of B ≡ _ = ap outer_of (sym (c.block.ensures ∙ ap block_of c.role_at.ensures)) ∙ sym c.outer.ensures ∙ c.in-Some.is in
    absurd (outer_inner_not B c.in-Some.block outer inside.inner)
