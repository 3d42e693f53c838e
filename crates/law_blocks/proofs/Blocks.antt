-- The blocks of a file nest or are apart, and each token has one block.
use Rattle.std.proofs.Common.{ℕ, ◌≡◌, ◌<◌, ◌≤◌, ◌⊎◌, inl, inr, List, [], ◌∷◌, Contains, refl, arith}
use Rattle.std.specs.List.{AllByRecursion}
use Rattle.std.proofs.lemmas.Bool.{cases_order}
use Rattle.base_lemmas.proofs.Elements.{first_in, later_in}
use Rattle.go_ast.specs.Flatten.{flatten}
use Rattle.go_scope.specs.declared.model.Block.{Block}
use Rattle.go_scope.specs.declared.model.Block.TheVariants.{Package, File, Inner}
use Rattle.go_scope.specs.Site.{TokenSpellings}
use Rattle.go_scope.proofs.Rising.{rises_of}
use Rattle.law_blocks.specs.Ranges.{Range, BlockRange, file_blocks, import_ranges}
use Rattle.law_blocks.specs.Lookup.{Spans, Surrounds, IsApartOrAround, NestOrAreApart, IsInnermost, IsBlockAmong, inside, outside, IsOuterBlock, imported}
use Rattle.law_blocks.specs.Lookup.{not_imported, IsBlockAt}
use Rattle.law_blocks.specs.Laws.{BlocksNestOrAreApart, TokensHaveOneBlock}
use Rattle.law_blocks.proofs.Ranged.{each_in}
use Rattle.law_blocks.proofs.RangedFiles.{file_nests}
use Rattle.law_blocks.proofs.Unique.{block_once}

pub blocks_nest : BlocksNestOrAreApart
blocks_nest f w =
    let s : TokenSpellings = record { rank = 0; spell = f.spell } in
    let bound = rises_of 0 (flatten f.tree) w.rising in
    file_nests s bound.0 f.tree w.grouped bound.1

ends_or_not : (a b t : ℕ) → a ≤ t → ((a ≤ t) × (t < b)) ⊎ ((a ≤ t) × (t < b) → ⊥)
ends_or_not a b t le = elim (cases_order t b) [
  | inl e ↦ inr (λ h. (let lt : t < b = h.1 in omega arith))
  | inr o ↦ elim o [ inl less ↦ inl (le, less) | inr more ↦ inr (λ h. (let lt : t < b = h.1 in omega arith)) ]
]

-- whether a token is from a first one on, before a last one
holds_or_not : (a b t : ℕ) → ((a ≤ t) × (t < b)) ⊎ ((a ≤ t) × (t < b) → ⊥)
holds_or_not a b t = elim (cases_order t a) [
  | inl e ↦ ends_or_not a b t (omega arith)
  | inr o ↦ elim o [ inl less ↦ inr (λ h. (let le : a ≤ t = h.0 in omega arith)) | inr more ↦ ends_or_not a b t (omega arith) ]
]

none_outside : (t : ℕ) (r : BlockRange) (rs : List BlockRange) → AllByRecursion (λ o. Surrounds o t → ⊥) rs →
    AllByRecursion (λ o. Surrounds o t → (o ≡ r) ⊎ ((o.first < r.first) × (r.last ≤ o.last))) rs
none_outside t r [] h = tt
none_outside t r (o ∷ rs) h = ((λ s. absurd (h.0 s)), none_outside t r rs h.1)

-- the innermost block of a list around a token, or none
find_innermost : (t : ℕ) (rs : List BlockRange) → NestOrAreApart rs →
    ((r : BlockRange) × IsInnermost rs t r) ⊎ AllByRecursion (λ o. Surrounds o t → ⊥) rs
find_innermost t [] n = inr tt
find_innermost t (r ∷ rs) n = elim (find_innermost t rs n.1) [
  | inl found ↦ (let i = found.0 in let x : IsInnermost rs t i = found.1 in inl (
    i,
    record {
      listed = later_in r rs i x.listed;
      surrounds = x.surrounds;
      inside = (
        (λ s. elim (each_in (IsApartOrAround r) rs i n.0 x.listed) [
          | inl apart ↦ absurd (let lt : t < r.last = s.1 in let le : i.first ≤ t = x.surrounds.0 in omega arith)
          | inr around ↦ inr around
        ]),
        x.inside,
      );
    },
  ))
  | inr none ↦ elim (holds_or_not r.first r.last t) [
    | inl s ↦ inl (
      r,
      record {
        listed = first_in r rs;
        surrounds = s;
        inside = ((λ o. inl refl), none_outside t r rs none);
      },
    )
    | inr not ↦ inr (not, none)
  ]
]

find_among : (rank : ℕ) (outer : Block) (t : ℕ) (rs : List BlockRange) → NestOrAreApart rs → (b : Block) × IsBlockAmong rank outer rs t b
find_among rank outer t rs n = elim (find_innermost t rs n) [
  | inl found ↦ (Inner rank found.0.from found.0.last, inside found.0 found.1 refl)
  | inr none ↦ (outer, outside none refl)
]

find_range : (t : ℕ) (is : List Range) → ((i : Range) × (Contains is i × Spans i t)) ⊎ AllByRecursion (λ i. Spans i t → ⊥) is
find_range t [] = inr tt
find_range t (i ∷ is) = elim (holds_or_not i.first i.last t) [
  | inl s ↦ inl (i, (first_in i is, s))
  | inr not ↦ elim (find_range t is) [
    | inl found ↦ inl (found.0, (later_in i is found.0 found.1.0, found.1.1))
    | inr none ↦ inr (not, none)
  ]
]

find_outer : (rank t : ℕ) (is : List Range) → (b : Block) × IsOuterBlock rank is t b
find_outer rank t is = elim (find_range t is) [
  | inl found ↦ (File rank, imported found.0 found.1.0 found.1.1 refl)
  | inr none ↦ (Package, not_imported none refl)
]

pub one_block : TokensHaveOneBlock
one_block rank f w t =
    let outer = find_outer rank t (import_ranges f.tree) in
    let found = find_among rank outer.0 t (file_blocks f.tree) (blocks_nest f w) in
    let x : IsBlockAt rank f.tree t found.0 = record { outer = outer.0; is_outer = outer.1; among = found.1 } in
    (found.0, (x, λ c y. block_once rank f.tree t c found.0 y x))
