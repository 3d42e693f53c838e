-- Lists of identifiers whose blocks and scopes are those of ranges: such lists are joined, and put into a block.
use Rattle.std.proofs.Common.{ℕ, ◌≡◌, ◌<◌, ◌≤◌, ◌⊎◌, inl, inr, List, [], ◌∷◌, ◌++◌, Contains, true, false, refl, sym, subst, arith, suc}
use Rattle.std.specs.List.{AllByRecursion}
use Rattle.std.proofs.lemmas.List.Elements.{Contains-append_left, Contains-append_right}
use Rattle.base_lemmas.proofs.EachElement.{all_append}
use Rattle.base_lemmas.proofs.Elements.{first_in, later_in, nothing_in, first_or_later}
use Rattle.go_ast.specs.declared.syntax.Token.{Token}
use Rattle.go_scope.specs.declared.model.Block.{Block}
use Rattle.go_scope.specs.declared.model.Block.TheVariants.{Inner}
use Rattle.go_scope.specs.Bindings.{block_of, start_of, may_declare, is_implied}
use Rattle.go_scope.specs.Site.{Site}
use Rattle.go_scope.proofs.Regions.{Each, each_append, each_map, Plain, not_both}
use Rattle.go_scope.proofs.Rising.{Rises, rises_le}
use Rattle.law_blocks.specs.Ranges.{Range, BlockRange, range_to}
use Rattle.law_blocks.specs.Lookup.{Spans, Surrounds, IsApartOrAround, NestOrAreApart, IsBlockAmong, inside, outside, IsStartAmong, begins, at_once}

pub all_weaker : {X : Type 0} (P Q : X → Type 0) → ((x : X) → P x → Q x) → (xs : List X) → AllByRecursion P xs → AllByRecursion Q xs
all_weaker P Q f [] a = tt
all_weaker P Q f (x ∷ xs) a = (f x a.0, all_weaker P Q f xs a.1)

pub each_in : {X : Type 0} (P : X → Type 0) (xs : List X) (x : X) → AllByRecursion P xs → Contains xs x → P x
each_in P [] x h c = absurd (nothing_in x c)
each_in P (y ∷ ys) x h c = elim (first_or_later y ys x c) [ inl e ↦ subst P e h.0 | inr l ↦ each_in P ys x h.1 l ]

-- no range holds the token t
abbrev pub NoneSurrounds : List BlockRange → ℕ → Type 0
NoneSurrounds rs t = AllByRecursion (λ o. Surrounds o t → ⊥) rs

abbrev pub NoneSpans : List Range → ℕ → Type 0
NoneSpans es t = AllByRecursion (λ o. Spans o t → ⊥) es

-- all ranges lie from n to q
abbrev pub BlocksLie : ℕ → ℕ → List BlockRange → Type 0
BlocksLie n q rs = AllByRecursion (λ r. (n ≤ r.first) × (r.last ≤ q)) rs

abbrev pub RangesLie : ℕ → ℕ → List Range → Type 0
RangesLie n q es = AllByRecursion (λ r. (n ≤ r.first) × (r.last ≤ q)) es

pub blocks_wider : (n q n' q' : ℕ) (rs : List BlockRange) → n' ≤ n → q ≤ q' → BlocksLie n q rs → BlocksLie n' q' rs
blocks_wider n q n' q' rs hn hq h =
    all_weaker (λ (r : BlockRange). (n ≤ r.first) × (r.last ≤ q)) (λ r. (n' ≤ r.first) × (r.last ≤ q'))
    (λ r a. (omega (arith, a.0), omega (arith, a.1))) rs h

pub ranges_wider : (n q n' q' : ℕ) (es : List Range) → n' ≤ n → q ≤ q' → RangesLie n q es → RangesLie n' q' es
ranges_wider n q n' q' es hn hq h =
    all_weaker (λ (r : Range). (n ≤ r.first) × (r.last ≤ q)) (λ r. (n' ≤ r.first) × (r.last ≤ q'))
    (λ r a. (omega (arith, a.0), omega (arith, a.1))) es h

pub blocks_behind : (n q t : ℕ) (rs : List BlockRange) → t < n → BlocksLie n q rs → NoneSurrounds rs t
blocks_behind n q t rs lt h =
    all_weaker (λ (r : BlockRange). (n ≤ r.first) × (r.last ≤ q)) (λ r. Surrounds r t → ⊥)
    (λ r a s. (let x : n ≤ r.first = a.0 in let y : r.first ≤ t = s.0 in omega arith)) rs h

pub blocks_ahead : (n q t : ℕ) (rs : List BlockRange) → q ≤ t → BlocksLie n q rs → NoneSurrounds rs t
blocks_ahead n q t rs le h =
    all_weaker (λ (r : BlockRange). (n ≤ r.first) × (r.last ≤ q)) (λ r. Surrounds r t → ⊥)
    (λ r a s. (let x : r.last ≤ q = a.1 in let y : t < r.last = s.1 in omega arith)) rs h

pub ranges_behind : (n q t : ℕ) (es : List Range) → t < n → RangesLie n q es → NoneSpans es t
ranges_behind n q t es lt h =
    all_weaker (λ (r : Range). (n ≤ r.first) × (r.last ≤ q)) (λ r. Spans r t → ⊥)
    (λ r a s. (let x : n ≤ r.first = a.0 in let y : r.first ≤ t = s.0 in omega arith)) es h

pub ranges_ahead : (n q t : ℕ) (es : List Range) → q ≤ t → RangesLie n q es → NoneSpans es t
ranges_ahead n q t es le h =
    all_weaker (λ (r : Range). (n ≤ r.first) × (r.last ≤ q)) (λ r. Spans r t → ⊥)
    (λ r a s. (let x : r.last ≤ q = a.1 in let y : t < r.last = s.1 in omega arith)) es h

-- blocks that nest or are apart, and others behind them
nest_append : (n m q : ℕ) (rs ss : List BlockRange) → BlocksLie n m rs → BlocksLie m q ss → NestOrAreApart rs → NestOrAreApart ss → NestOrAreApart (rs ++ ss)
nest_append n m q [] ss hr hs nr ns = ns
nest_append n m q (r ∷ rs) ss hr hs nr ns = (
  all_append (IsApartOrAround r) rs ss nr.0
      (all_weaker (λ (s : BlockRange). (m ≤ s.first) × (s.last ≤ q)) (IsApartOrAround r)
      (λ s a. inl (let x : r.last ≤ m = hr.0.1 in let y : m ≤ s.first = a.0 in omega arith)) ss hs),
  nest_append n m q rs ss hr.1 hs nr.1 ns,
)

-- what is found in a list stays found in a longer one whose other ranges do not hold the token

abbrev Outer : ℕ → BlockRange → BlockRange → Type 0
Outer t r o = Surrounds o t → (o ≡ r) ⊎ ((o.first < r.first) × (r.last ≤ o.last))

outer_of_none : (t : ℕ) (r : BlockRange) (rs : List BlockRange) → NoneSurrounds rs t → AllByRecursion (Outer t r) rs
outer_of_none t r rs h = all_weaker (λ (o : BlockRange). Surrounds o t → ⊥) (Outer t r) (λ o none s. absurd (none s)) rs h

pub block_left : (rank : ℕ) (outer : Block) (rs ss : List BlockRange) (t : ℕ) (b : Block) → NoneSurrounds ss t → IsBlockAmong rank outer rs t b →
    IsBlockAmong rank outer (rs ++ ss) t b
block_left rank outer rs ss t b none (inside r i e) = inside r (record {
  listed = Contains-append_left rs ss r i.listed;
  surrounds = i.surrounds;
  inside = all_append (Outer t r) rs ss i.inside (outer_of_none t r ss none);
}) e
block_left rank outer rs ss t b none (outside f e) = outside (all_append (λ (o : BlockRange). Surrounds o t → ⊥) rs ss f none) e

pub block_right : (rank : ℕ) (outer : Block) (rs ss : List BlockRange) (t : ℕ) (b : Block) → NoneSurrounds rs t → IsBlockAmong rank outer ss t b →
    IsBlockAmong rank outer (rs ++ ss) t b
block_right rank outer rs ss t b none (inside r i e) = inside r (record {
  listed = Contains-append_right rs ss r i.listed;
  surrounds = i.surrounds;
  inside = all_append (Outer t r) rs ss (outer_of_none t r rs none) i.inside;
}) e
block_right rank outer rs ss t b none (outside f e) = outside (all_append (λ (o : BlockRange). Surrounds o t → ⊥) rs ss none f) e

abbrev Ends : ℕ → ℕ → Range → Type 0
Ends t k o = Spans o t → o.last ≡ k

ends_of_none : (t k : ℕ) (es : List Range) → NoneSpans es t → AllByRecursion (Ends t k) es
ends_of_none t k es h = all_weaker (λ (o : Range). Spans o t → ⊥) (Ends t k) (λ o none s. absurd (none s)) es h

pub start_left : (es fs : List Range) (t k : ℕ) → NoneSpans fs t → IsStartAmong es t k → IsStartAmong (es ++ fs) t k
start_left es fs t k none (begins r l s e a) = begins r (Contains-append_left es fs r l) s e (all_append (Ends t k) es fs a (ends_of_none t k fs none))
start_left es fs t k none (at_once a e) = at_once (all_append (λ (o : Range). Spans o t → ⊥) es fs a none) e

pub start_right : (es fs : List Range) (t k : ℕ) → NoneSpans es t → IsStartAmong fs t k → IsStartAmong (es ++ fs) t k
start_right es fs t k none (begins r l s e a) = begins r (Contains-append_right es fs r l) s e (all_append (Ends t k) es fs (ends_of_none t k es none) a)
start_right es fs t k none (at_once a e) = at_once (all_append (λ (o : Range). Spans o t → ⊥) es fs none a) e

-- a declaration from token n on, before q, with the block and the start that the ranges give it
pub record Ranged (rank : ℕ) (outer : Block) (n q : ℕ) (rs : List BlockRange) (es : List Range) (x : Site) : Type 0 where
  pub low : n ≤ x.place.index
  pub high : x.place.index < q
  pub block : IsBlockAmong rank outer rs x.place.index (block_of x.role)
  pub start : IsStartAmong es x.place.index (start_of x.role)
  pub written : is_implied x.role ≡ false

abbrev pub IsRanged : ℕ → Block → ℕ → ℕ → List BlockRange → List Range → Site → Type 0
IsRanged rank outer n q rs es x = may_declare x.role ≡ true → Ranged rank outer n q rs es x

-- identifiers from token n on, before q, in the block `outer`, with the ranges among them
pub record Laid (rank : ℕ) (outer : Block) (n q : ℕ) (rs : List BlockRange) (es : List Range) (xs : List Site) : Type 0 where
  pub blocks : BlocksLie n q rs
  pub nest : NestOrAreApart rs
  pub specs : RangesLie n q es
  pub each : Each (IsRanged rank outer n q rs es) xs

module _ (rank : ℕ) (outer : Block) where
  pub laid_plain : (n q : ℕ) (xs : List Site) → Plain xs → Laid rank outer n q [] [] xs
  laid_plain n q xs p = record {
    blocks = tt;
    nest = tt;
    specs = tt;
    each = each_map (λ x. may_declare x.role ≡ false) (IsRanged rank outer n q [] []) (λ x e m. not_both x e m) xs p;
  }

  pub laid_wider : (n q n' q' : ℕ) (rs : List BlockRange) (es : List Range) (xs : List Site) → n' ≤ n → q ≤ q' → Laid rank outer n q rs es xs →
      Laid rank outer n' q' rs es xs
  laid_wider n q n' q' rs es xs hn hq h = record {
    blocks = blocks_wider n q n' q' rs hn hq h.blocks;
    nest = h.nest;
    specs = ranges_wider n q n' q' es hn hq h.specs;
    each = each_map (IsRanged rank outer n q rs es) (IsRanged rank outer n' q' rs es) (λ x r m. (let y = r m in
        record { low = omega (arith, y.low); high = omega (arith, y.high); block = y.block; start = y.start; written = y.written })) xs h.each;
  }

  pub laid_join : (n m q : ℕ) (rs ss : List BlockRange) (es fs : List Range) (xs ys : List Site) → n ≤ m → m ≤ q → Laid rank outer n m rs es xs →
      Laid rank outer m q ss fs ys → Laid rank outer n q (rs ++ ss) (es ++ fs) (xs ++ ys)
  laid_join n m q rs ss es fs xs ys nm mq h k = record {
    blocks = all_append (λ (r : BlockRange). (n ≤ r.first) × (r.last ≤ q)) rs ss (blocks_wider n m n q rs (omega arith) mq h.blocks)
        (blocks_wider m q n q ss nm (omega arith) k.blocks);
    nest = nest_append n m q rs ss h.blocks k.blocks h.nest k.nest;
    specs = all_append (λ (r : Range). (n ≤ r.first) × (r.last ≤ q)) es fs (ranges_wider n m n q es (omega arith) mq h.specs)
        (ranges_wider m q n q fs nm (omega arith) k.specs);
    each = each_append (IsRanged rank outer n q (rs ++ ss) (es ++ fs)) xs ys
        (each_map (IsRanged rank outer n m rs es) (IsRanged rank outer n q (rs ++ ss) (es ++ fs)) (λ x r may. (let y = r may in
        let high : x.place.index < m = y.high in
        record {
          low = y.low;
          high = omega arith;
          block = block_left rank outer rs ss x.place.index (block_of x.role) (blocks_behind m q x.place.index ss high k.blocks) y.block;
          start = start_left es fs x.place.index (start_of x.role) (ranges_behind m q x.place.index fs high k.specs) y.start;
          written = y.written;
        })) xs h.each)
        (each_map (IsRanged rank outer m q ss fs) (IsRanged rank outer n q (rs ++ ss) (es ++ fs)) (λ x r may. (let y = r may in
        let low : m ≤ x.place.index = y.low in
        record {
          low = omega arith;
          high = y.high;
          block = block_right rank outer rs ss x.place.index (block_of x.role) (blocks_ahead n m x.place.index rs low h.blocks) y.block;
          start = start_right es fs x.place.index (start_of x.role) (ranges_ahead n m x.place.index es low h.specs) y.start;
          written = y.written;
        })) ys k.each);
  }

  pub laid_plain_after : (n q : ℕ) (rs : List BlockRange) (es : List Range) (xs ys : List Site) → Laid rank outer n q rs es xs → Plain ys →
      Laid rank outer n q rs es (xs ++ ys)
  laid_plain_after n q rs es xs ys h p = record {
    blocks = h.blocks;
    nest = h.nest;
    specs = h.specs;
    each = each_append (IsRanged rank outer n q rs es) xs ys h.each
        (each_map (λ x. may_declare x.role ≡ false) (IsRanged rank outer n q rs es) (λ x e m. not_both x e m) ys p);
  }

  pub laid_plain_before : (n q : ℕ) (rs : List BlockRange) (es : List Range) (xs ys : List Site) → Plain xs → Laid rank outer n q rs es ys →
      Laid rank outer n q rs es (xs ++ ys)
  laid_plain_before n q rs es xs ys p h = record {
    blocks = h.blocks;
    nest = h.nest;
    specs = h.specs;
    each = each_append (IsRanged rank outer n q rs es) xs ys
        (each_map (λ x. may_declare x.role ≡ false) (IsRanged rank outer n q rs es) (λ x e m. not_both x e m) xs p) h.each;
  }

-- a declaration of the block b from token n on, before q, whose scope begins at q
abbrev pub AtSpec : Block → ℕ → ℕ → Site → Type 0
AtSpec b n q x = may_declare x.role ≡ true → (n ≤ x.place.index) × (x.place.index < q) × (block_of x.role ≡ b) × (start_of x.role ≡ q) ×
    (is_implied x.role ≡ false)

pub spec_plain : (b : Block) (n q : ℕ) (xs : List Site) → Plain xs → Each (AtSpec b n q) xs
spec_plain b n q xs p = each_map (λ x. may_declare x.role ≡ false) (AtSpec b n q) (λ x e m. not_both x e m) xs p

abbrev pub range : ℕ → ℕ → Range
range n q = record { first = n; last = q }

-- the declarations of a spec, before others
pub laid_head : (rank : ℕ) (b : Block) (n q c : ℕ) (rs : List BlockRange) (es : List Range) (xs ys : List Site) → n ≤ q → q ≤ c → BlocksLie q c rs →
    RangesLie q c es → Each (AtSpec b n q) xs → Laid rank b n c rs (range n q ∷ es) ys → Laid rank b n c rs (range n q ∷ es) (xs ++ ys)
laid_head rank b n q c rs es xs ys nq qc hr he h k = record {
  blocks = k.blocks;
  nest = k.nest;
  specs = k.specs;
  each = each_append (IsRanged rank b n c rs (range n q ∷ es)) xs ys (each_map (AtSpec b n q) (IsRanged rank b n c rs (range n q ∷ es)) (λ x a may.
      (let y = a may in
      let low : n ≤ x.place.index = y.0 in
      let high : x.place.index < q = y.1 in
      let e : start_of x.role ≡ q = y.3 in
      record {
        low = low;
        high = omega arith;
        block = outside (blocks_behind q c x.place.index rs high hr) y.2;
        start = begins (range n q) (first_in (range n q) es) (low, high) e
            ((λ s. sym e), ends_of_none x.place.index (start_of x.role) es (ranges_behind q c x.place.index es high he));
        written = y.4;
      })) xs h) k.each;
}

pub laid_together : (rank : ℕ) (b : Block) (n q : ℕ) (xs : List Site) → n ≤ q → Each (AtSpec b n q) xs → Laid rank b n q [] (range n q ∷ []) xs
laid_together rank b n q xs nq h = record {
  blocks = tt;
  nest = tt;
  specs = ((omega arith, omega arith), tt);
  each = each_map (AtSpec b n q) (IsRanged rank b n q [] (range n q ∷ [])) (λ x a may.
      (let y = a may in
      let low : n ≤ x.place.index = y.0 in
      let high : x.place.index < q = y.1 in
      let e : start_of x.role ≡ q = y.3 in
      record {
        low = low;
        high = high;
        block = outside tt y.2;
        start = begins (range n q) (first_in (range n q) []) (low, high) e ((λ s. sym e), tt);
        written = y.4;
      })) xs h;
}

-- the declarations of the tokens of a spec
pub laid_spec : (rank : ℕ) (b : Block) (n q : ℕ) (ts : List Token) (xs : List Site) → Rises n ts q →
    ((k : ℕ) → n ≤ k → Rises k ts q → Each (AtSpec b k q) xs) → Laid rank b n q [] (range_to q ts) xs
laid_spec rank b n q [] xs h each = record {
  blocks = tt;
  nest = tt;
  specs = tt;
  each = each_map (AtSpec b q q) (IsRanged rank b n q [] []) (λ x a may.
      (let y = a may in let low : q ≤ x.place.index = y.0 in let high : x.place.index < q = y.1 in absurd (omega arith)))
      xs (each q h (omega arith));
}
laid_spec rank b n q (t ∷ ts) xs h each =
    let nt : n ≤ t.place = h.0 in
    let tq : suc t.place ≤ q = rises_le (suc t.place) ts q h.1 in
    laid_wider rank b t.place q n q [] (range_to q (t ∷ ts)) xs nt (omega arith)
    (laid_together rank b t.place q xs (omega arith) (each t.place nt (omega arith, h.1)))

-- declarations in no function
abbrev pub AtLevel : Block → ℕ → ℕ → Site → Type 0
AtLevel b n q x = may_declare x.role ≡ true → (n ≤ x.place.index) × (x.place.index < q) × (block_of x.role ≡ b) × (start_of x.role ≡ 0) ×
    (is_implied x.role ≡ false)

pub laid_level : (rank : ℕ) (b : Block) (n q : ℕ) (xs : List Site) → Each (AtLevel b n q) xs → Laid rank b n q [] [] xs
laid_level rank b n q xs h = record {
  blocks = tt;
  nest = tt;
  specs = tt;
  each = each_map (AtLevel b n q) (IsRanged rank b n q [] []) (λ x a may.
      (let y = a may in record { low = y.0; high = y.1; block = outside tt y.2; start = at_once tt y.3; written = y.4 })) xs h;
}

-- a block of the list lies where all do
at_listed : (n q : ℕ) (rs : List BlockRange) (i : BlockRange) → BlocksLie n q rs → Contains rs i → (n ≤ i.first) × (i.last ≤ q)
at_listed n q rs i h c = each_in (λ (r : BlockRange). (n ≤ r.first) × (r.last ≤ q)) rs i h c

-- identifiers of an inner block, put into a block around it
module _ (rank : ℕ) (outer : Block) (r : BlockRange) where
  within_outer : (t : ℕ) (rs : List BlockRange) (b : Block) → Surrounds r t → BlocksLie (suc r.first) r.last rs →
      IsBlockAmong rank (Inner rank r.from r.last) rs t b → IsBlockAmong rank outer (r ∷ rs) t b
  within_outer t rs b s lie (outside f e) = inside r (record {
    listed = first_in r rs;
    surrounds = s;
    inside = ((λ o. inl refl), outer_of_none t r rs f);
  }) e
  within_outer t rs b s lie (inside i h e) =
      let w : (suc r.first ≤ i.first) × (i.last ≤ r.last) = at_listed (suc r.first) r.last rs i lie h.listed in
      inside i (record {
        listed = later_in r rs i h.listed;
        surrounds = h.surrounds;
        inside = ((λ o. inr (omega (arith, w.0), w.1)), h.inside);
      }) e

  pub laid_inside : (rs : List BlockRange) (es : List Range) (xs : List Site) → r.first ≤ r.last → BlocksLie (suc r.first) r.last rs →
      Laid rank (Inner rank r.from r.last) r.first r.last rs es xs → Laid rank outer r.first r.last (r ∷ rs) es xs
  laid_inside rs es xs le lie h = record {
    blocks = ((omega arith, omega arith), h.blocks);
    nest = (
      all_weaker (λ (s : BlockRange). (suc r.first ≤ s.first) × (s.last ≤ r.last)) (IsApartOrAround r) (λ s a. inr (omega (arith, a.0), a.1)) rs lie,
      h.nest,
    );
    specs = h.specs;
    each = each_map (IsRanged rank (Inner rank r.from r.last) r.first r.last rs es) (IsRanged rank outer r.first r.last (r ∷ rs) es) (λ x a may.
        (let y = a may in
        record {
          low = y.low;
          high = y.high;
          block = within_outer x.place.index rs (block_of x.role) (y.low, y.high) lie y.block;
          start = y.start;
          written = y.written;
        }))
        xs h.each;
  }
