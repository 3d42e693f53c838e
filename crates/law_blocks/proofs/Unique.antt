-- A token has one block and one start of scope.
use Rattle.std.proofs.Common.{ℕ, ◌≡◌, ◌<◌, ◌≤◌, ◌⊎◌, inl, inr, List, sym, ◌∙◌, ap, subst, arith}
use Rattle.go_ast.specs.Tree.{FileTree}
use Rattle.go_scope.specs.declared.model.Block.{Block}
use Rattle.go_scope.specs.declared.model.Block.TheVariants.{Inner}
use Rattle.law_blocks.specs.Ranges.{Range, BlockRange, file_blocks, import_ranges}
use Rattle.law_blocks.specs.Lookup.{Spans, Surrounds, IsInnermost, IsBlockAmong, inside, outside, IsOuterBlock, imported, not_imported, IsBlockAt}
use Rattle.law_blocks.specs.Lookup.{IsStartAmong, begins, at_once}
use Rattle.law_blocks.proofs.Ranged.{each_in}

innermost_once : (rs : List BlockRange) (t : ℕ) (r s : BlockRange) → IsInnermost rs t r → IsInnermost rs t s → r ≡ s
innermost_once rs t r s x y =
    let P : BlockRange → BlockRange → Type 0 = λ i o. Surrounds o t → (o ≡ i) ⊎ ((o.first < i.first) × (i.last ≤ o.last)) in
    elim (each_in (P r) rs s x.inside y.listed y.surrounds) [
      | inl e ↦ sym e
      | inr a ↦ elim (each_in (P s) rs r y.inside x.listed x.surrounds) [
        | inl e ↦ e
        | inr b ↦ absurd (let sr : s.first < r.first = a.0 in let rs : r.first < s.first = b.0 in omega arith)
      ]
    ]

among_once : (rank : ℕ) (outer : Block) (rs : List BlockRange) (t : ℕ) (b c : Block) → IsBlockAmong rank outer rs t b → IsBlockAmong rank outer rs t c → b ≡ c
among_once rank outer rs t b c (inside r i e) (inside s j d) = e ∙ ap (λ (x : BlockRange). Inner rank x.from x.last) (innermost_once rs t r s i j) ∙ sym d
among_once rank outer rs t b c (inside r i e) (outside g d) = absurd (each_in (λ (o : BlockRange). Surrounds o t → ⊥) rs r g i.listed i.surrounds)
among_once rank outer rs t b c (outside f e) (inside s j d) = absurd (each_in (λ (o : BlockRange). Surrounds o t → ⊥) rs s f j.listed j.surrounds)
among_once rank outer rs t b c (outside f e) (outside g d) = e ∙ sym d

outer_once : (rank : ℕ) (is : List Range) (t : ℕ) (b c : Block) → IsOuterBlock rank is t b → IsOuterBlock rank is t c → b ≡ c
outer_once rank is t b c (imported i l s e) (imported j k r d) = e ∙ sym d
outer_once rank is t b c (imported i l s e) (not_imported g d) = absurd (each_in (λ (o : Range). Spans o t → ⊥) is i g l s)
outer_once rank is t b c (not_imported f e) (imported j k r d) = absurd (each_in (λ (o : Range). Spans o t → ⊥) is j f k r)
outer_once rank is t b c (not_imported f e) (not_imported g d) = e ∙ sym d

pub block_once : (rank : ℕ) (f : FileTree) (t : ℕ) (b c : Block) → IsBlockAt rank f t b → IsBlockAt rank f t c → b ≡ c
block_once rank f t b c x y =
    let e : x.outer ≡ y.outer = outer_once rank (import_ranges f) t x.outer y.outer x.is_outer y.is_outer in
    among_once rank y.outer (file_blocks f) t b c (let P : Block → Type 0 = λ o. IsBlockAmong rank o (file_blocks f) t b in subst P e x.among) y.among

pub start_once : (rs : List Range) (t j k : ℕ) → IsStartAmong rs t j → IsStartAmong rs t k → j ≡ k
start_once rs t j k (begins r l s e a) (begins q m u d b) =
    e ∙ each_in (λ (o : Range). Spans o t → o.last ≡ k) rs r b l s
start_once rs t j k (begins r l s e a) (at_once g d) = absurd (each_in (λ (o : Range). Spans o t → ⊥) rs r g l s)
start_once rs t j k (at_once f e) (begins q m u d b) = absurd (each_in (λ (o : Range). Spans o t → ⊥) rs q f m u)
start_once rs t j k (at_once f e) (at_once g d) = e ∙ sym d
