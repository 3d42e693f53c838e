-- Lists of identifiers in a region of a block: the properties of each identifier, and of any two.
use Rattle.std.proofs.Common.{ℕ, ◌≡◌, ◌<◌, ◌≤◌, ◌⊎◌, inl, inr, List, [], ◌∷◌, ◌++◌, true, false, sym, ◌∙◌, arith, suc}
use Rattle.go_scope.specs.declared.model.Block.TheVariants.{Inner}
use Rattle.go_scope.specs.Bindings.{block_of, start_of, is_left_name, may_declare}
use Rattle.go_scope.specs.Site.{Site}

abbrev pub Each : (Site → Type 0) → List Site → Type 0
Each P [] = Unit {0}
Each P (x ∷ xs) = P x × Each P xs

abbrev pub EachPair : (Site → Site → Type 0) → List Site → Type 0
EachPair R [] = Unit {0}
EachPair R (x ∷ xs) = Each (R x) xs × EachPair R xs

pub each_append : (P : Site → Type 0) (xs ys : List Site) → Each P xs → Each P ys → Each P (xs ++ ys)
each_append P [] ys a b = b
each_append P (x ∷ xs) ys a b = (a.0, each_append P xs ys a.1 b)

pub each_map : (P Q : Site → Type 0) → ((x : Site) → P x → Q x) → (xs : List Site) → Each P xs → Each Q xs
each_map P Q f [] a = tt
each_map P Q f (x ∷ xs) a = (f x a.0, each_map P Q f xs a.1)

pub pairs_append : (R : Site → Site → Type 0) (P Q : Site → Type 0) → ((x y : Site) → P x → Q y → R x y) → (xs ys : List Site) →
    Each P xs → Each Q ys → EachPair R xs → EachPair R ys → EachPair R (xs ++ ys)
pairs_append R P Q cross [] ys a b r s = s
pairs_append R P Q cross (x ∷ xs) ys a b r s =
    (each_append (R x) xs ys r.0 (each_map Q (R x) (λ y q. cross x y a.0 q) ys b), pairs_append R P Q cross xs ys a.1 b r.1 s)

pub pairs_of_each : (R : Site → Site → Type 0) (P : Site → Type 0) → ((x y : Site) → P x → P y → R x y) → (xs : List Site) → Each P xs → EachPair R xs
pairs_of_each R P cross [] a = tt
pairs_of_each R P cross (x ∷ xs) a = (each_map P (R x) (λ y q. cross x y a.0 q) xs a.1, pairs_of_each R P cross xs a.1)

-- the numbers of a block

pub inner_from : (f p q g p' q' : ℕ) → Inner f p q ≡ Inner g p' q' → p ≡ p'
inner_from f p q g p' q' e = cc

pub inner_to : (f p q g p' q' : ℕ) → Inner f p q ≡ Inner g p' q' → q ≡ q'
inner_to f p q g p' q' e = cc

pub inner_file : (f p q g p' q' : ℕ) → Inner f p q ≡ Inner g p' q' → f ≡ g
inner_file f p q g p' q' e = cc

-- a declaration of a file block, the package block or the universe block
pub record Flat (x : Site) : Type 0 where
  pub apart : (f a b : ℕ) → block_of x.role ≡ Inner f a b → ⊥
  pub start : start_of x.role ≡ 0
  pub not_left : is_left_name x.role ≡ true → ⊥

-- a declaration of the block itself, whose scope begins in the region
pub record Own (f a b n q : ℕ) (x : Site) : Type 0 where
  pub block : block_of x.role ≡ Inner f a b
  pub above : a ≤ start_of x.role
  pub low : n ≤ start_of x.role
  pub high : start_of x.role ≤ q
  pub stands : (x.place.file ≡ f) × (x.place.index < start_of x.role)
  pub left : is_left_name x.role ≡ true → (a ≤ x.place.index) × (n ≤ x.place.index)

-- a declaration of a block
pub record Framed (f : ℕ) (x : Site) : Type 0 where
  pub from : ℕ
  pub to : ℕ
  pub block : block_of x.role ≡ Inner f from to
  pub not_empty : from < to
  pub low : from ≤ start_of x.role
  pub high : start_of x.role ≤ to
  pub stands : (x.place.file ≡ f) × (x.place.index < start_of x.role)
  pub left : is_left_name x.role ≡ true → from ≤ x.place.index

-- a declaration of a block that lies in the block and in the region
pub record Inside (f a b n q : ℕ) (x : Site) : Type 0 where
  pub frame : Framed f x
  pub above : a < frame.from
  pub below : frame.to ≤ b
  pub first : n ≤ frame.from
  pub last : frame.to ≤ q

abbrev pub Fits : ℕ → ℕ → ℕ → ℕ → ℕ → Site → Type 0
Fits f a b n q x = may_declare x.role ≡ true → Flat x ⊎ (Own f a b n q x ⊎ Inside f a b n q x)

-- two blocks nest or are disjoint, and the scopes of their declarations begin outside of inner blocks
pub record Agree (x y : Site) (p q s p' q' s' : ℕ) : Type 0 where
  pub blocks : ((q ≤ p') ⊎ (q' ≤ p)) ⊎ (((p' < p) × (q ≤ q')) ⊎ (((p < p') × (q' ≤ q)) ⊎ ((p ≡ p') × (q ≡ q'))))
  pub first_outside : p < p' → q' ≤ q → s < p'
  pub second_outside : p' < p → q ≤ q' → q ≤ s'
  pub first_directly : is_left_name x.role ≡ true → p < p' → q' ≤ q → (x.place.index < p') ⊎ (q' ≤ x.place.index)
  pub second_directly : is_left_name y.role ≡ true → p' < p → q ≤ q' → (y.place.index < p) ⊎ (q ≤ y.place.index)

-- a declaration and a later one have scopes in order and blocks that agree
pub record Pair (x y : Site) : Type 0 where
  pub in_order : block_of x.role ≡ block_of y.role → start_of x.role ≤ start_of y.role
  pub agree : (f p q p' q' : ℕ) → block_of x.role ≡ Inner f p q → block_of y.role ≡ Inner f p' q' → Agree x y p q (start_of x.role) p' q' (start_of y.role)

abbrev pub Related : Site → Site → Type 0
Related x y = may_declare x.role ≡ true → may_declare y.role ≡ true → Pair x y

pub flat_first : (x y : Site) → Flat x → Pair x y
flat_first x y h = record {
  in_order = λ e. (let z : start_of x.role ≡ 0 = h.start in omega arith);
  agree = λ f p q p' q' e k. absurd (h.apart f p q e);
}

pub flat_second : (x y : Site) (f a b : ℕ) → block_of x.role ≡ Inner f a b → Flat y → Pair x y
flat_second x y f a b e h = record {
  in_order = λ k. absurd (h.apart f a b (sym k ∙ e));
  agree = λ g p q p' q' i k. absurd (h.apart g p' q' k);
}

-- two declarations of one block
pub same_block : (x y : Site) (f a b : ℕ) → block_of x.role ≡ Inner f a b → block_of y.role ≡ Inner f a b → start_of x.role ≤ start_of y.role → Pair x y
same_block x y f a b e k le = record {
  in_order = λ s. le;
  agree = λ g p q p' q' i j.
      let pa : p ≡ a = inner_from g p q f a b (sym i ∙ e) in
      let qb : q ≡ b = inner_to g p q f a b (sym i ∙ e) in
      let pa' : p' ≡ a = inner_from g p' q' f a b (sym j ∙ k) in
      let qb' : q' ≡ b = inner_to g p' q' f a b (sym j ∙ k) in
      record {
        blocks = inr (inr (inr (omega arith, omega arith)));
        first_outside = λ lt le. absurd (omega arith);
        second_outside = λ lt le. absurd (omega arith);
        first_directly = λ left lt le. absurd (omega arith);
        second_directly = λ left lt le. absurd (omega arith);
      };
}

module _ (f a b n q r : ℕ) (x y : Site) where
  own_inside : Own f a b n q x → Inside f a b (suc q) r y → Pair x y
  own_inside sx sy =
      let fy : Framed f y = sy.frame in
      let above : a < fy.from = sy.above in
      let below : fy.to ≤ b = sy.below in
      let first : suc q ≤ fy.from = sy.first in
      let high : start_of x.role ≤ q = sx.high in
      record {
        in_order = λ e. (let z : a ≡ fy.from = inner_from f a b f fy.from fy.to (sym sx.block ∙ e ∙ fy.block) in absurd (omega arith));
        agree = λ g p u p' u' i j.
            let pa : p ≡ a = inner_from g p u f a b (sym i ∙ sx.block) in
            let ub : u ≡ b = inner_to g p u f a b (sym i ∙ sx.block) in
            let pf : p' ≡ fy.from = inner_from g p' u' f fy.from fy.to (sym j ∙ fy.block) in
            let ut : u' ≡ fy.to = inner_to g p' u' f fy.from fy.to (sym j ∙ fy.block) in
            record {
              blocks = inr (inr (inl (omega arith, omega arith)));
              first_outside = λ lt le. omega arith;
              second_outside = λ lt le. absurd (omega arith);
              first_directly = λ left lt le. inl (let w : x.place.index < start_of x.role = sx.stands.1 in omega arith);
              second_directly = λ left lt le. absurd (omega arith);
            };
      }

  inside_own : Inside f a b n q x → Own f a b (suc q) r y → Pair x y
  inside_own sx sy =
      let fx : Framed f x = sx.frame in
      let above : a < fx.from = sx.above in
      let below : fx.to ≤ b = sx.below in
      let last : fx.to ≤ q = sx.last in
      let low : suc q ≤ start_of y.role = sy.low in
      record {
        in_order = λ e. (let z : fx.from ≡ a = inner_from f fx.from fx.to f a b (sym fx.block ∙ e ∙ sy.block) in absurd (omega arith));
        agree = λ g p u p' u' i j.
            let pf : p ≡ fx.from = inner_from g p u f fx.from fx.to (sym i ∙ fx.block) in
            let ut : u ≡ fx.to = inner_to g p u f fx.from fx.to (sym i ∙ fx.block) in
            let pa : p' ≡ a = inner_from g p' u' f a b (sym j ∙ sy.block) in
            let ub : u' ≡ b = inner_to g p' u' f a b (sym j ∙ sy.block) in
            record {
              blocks = inr (inl (omega arith, omega arith));
              first_outside = λ lt le. absurd (omega arith);
              second_outside = λ lt le. omega arith;
              first_directly = λ left lt le. absurd (omega arith);
              second_directly = λ left lt le. inr (let w : suc q ≤ y.place.index = (sy.left left).1 in omega arith);
            };
      }

  inside_inside : Inside f a b n q x → Inside f a b (suc q) r y → Pair x y
  inside_inside sx sy =
      let fx : Framed f x = sx.frame in
      let fy : Framed f y = sy.frame in
      let last : fx.to ≤ q = sx.last in
      let first : suc q ≤ fy.from = sy.first in
      let nx : fx.from < fx.to = fx.not_empty in
      let ny : fy.from < fy.to = fy.not_empty in
      record {
        in_order = λ e. (let z : fx.from ≡ fy.from = inner_from f fx.from fx.to f fy.from fy.to (sym fx.block ∙ e ∙ fy.block) in absurd (omega arith));
        agree = λ g p u p' u' i j.
            let pf : p ≡ fx.from = inner_from g p u f fx.from fx.to (sym i ∙ fx.block) in
            let ut : u ≡ fx.to = inner_to g p u f fx.from fx.to (sym i ∙ fx.block) in
            let pg : p' ≡ fy.from = inner_from g p' u' f fy.from fy.to (sym j ∙ fy.block) in
            let uu : u' ≡ fy.to = inner_to g p' u' f fy.from fy.to (sym j ∙ fy.block) in
            record {
              blocks = inl (inl (omega arith));
              first_outside = λ lt le. absurd (omega arith);
              second_outside = λ lt le. absurd (omega arith);
              first_directly = λ left lt le. absurd (omega arith);
              second_directly = λ left lt le. absurd (omega arith);
            };
      }

  pub in_regions : Fits f a b n q x → Fits f a b (suc q) r y → Related x y
  in_regions hx hy mx my = elim (hx mx) [
    | inl flat ↦ flat_first x y flat
    | inr sx ↦ elim sx [
      | inl ox ↦ elim (hy my) [
        | inl flat ↦ flat_second x y f a b ox.block flat
        | inr sy ↦ elim sy [
          | inl oy ↦ same_block x y f a b ox.block oy.block (let high : start_of x.role ≤ q = ox.high in let low : suc q ≤ start_of y.role = oy.low in
              omega arith)
          | inr iy ↦ own_inside ox iy
        ]
      ]
      | inr ix ↦ elim (hy my) [
        | inl flat ↦ flat_second x y f ix.frame.from ix.frame.to ix.frame.block flat
        | inr sy ↦ elim sy [ inl oy ↦ inside_own ix oy | inr iy ↦ inside_inside ix iy ]
      ]
    ]
  ]

-- a region may grow
pub wider : (f a b n q n' q' : ℕ) → n' ≤ n → q ≤ q' → (x : Site) → Fits f a b n q x → Fits f a b n' q' x
wider f a b n q n' q' hn hq x h m = elim (h m) [
  | inl flat ↦ inl flat
  | inr s ↦ elim s [
    | inl o ↦ inr (inl (record {
      block = o.block;
      above = o.above;
      low = omega (arith, o.low);
      high = omega (arith, o.high);
      stands = o.stands;
      left = λ left. let w = o.left left in (w.0, omega (arith, w.1));
    }))
    | inr i ↦ inr (inr (record { frame = i.frame; above = i.above; below = i.below; first = omega (arith, i.first); last = omega (arith, i.last) }))
  ]
]

-- identifiers that fit into a block inside another, as identifiers of the outer one
pub outward : (f c d n q a b n' q' : ℕ) → c < d → q ≤ d → a < c → d ≤ b → n' ≤ c → d ≤ q' → (x : Site) → Fits f c d n q x → Fits f a b n' q' x
outward f c d n q a b n' q' cd qd ac db nc dq x h m = elim (h m) [
  | inl flat ↦ inl flat
  | inr s ↦ inr (inr (elim s [
    | inl o ↦ record {
      frame = record {
        from = c;
        to = d;
        block = o.block;
        not_empty = cd;
        low = o.above;
        high = omega (arith, o.high);
        stands = o.stands;
        left = λ left. (o.left left).0;
      };
      above = ac;
      below = db;
      first = nc;
      last = dq;
    }
    | inr i ↦ record {
      frame = i.frame;
      above = omega (arith, i.above);
      below = omega (arith, i.below);
      first = omega (arith, i.above);
      last = omega (arith, i.below);
    }
  ]))
]

-- all identifiers fit into a region, and any two agree
abbrev pub Segment : ℕ → ℕ → ℕ → ℕ → ℕ → List Site → Type 0
Segment f a b n q xs = Each (Fits f a b n q) xs × EachPair Related xs

pub segment_join : (f a b n q r : ℕ) (xs ys : List Site) → n ≤ suc q → q ≤ r → Segment f a b n q xs → Segment f a b (suc q) r ys → Segment f a b n r (xs ++ ys)
segment_join f a b n q r xs ys hn hr x y = (
  each_append (Fits f a b n r) xs ys (each_map (Fits f a b n q) (Fits f a b n r) (wider f a b n q n r (omega arith) hr) xs x.0)
      (each_map (Fits f a b (suc q) r) (Fits f a b n r) (wider f a b (suc q) r n r hn (omega arith)) ys y.0),
  pairs_append Related (Fits f a b n q) (Fits f a b (suc q) r) (in_regions f a b n q r) xs ys x.0 y.0 x.1 y.1,
)

pub segment_widen : (f a b n q n' q' : ℕ) (xs : List Site) → n' ≤ n → q ≤ q' → Segment f a b n q xs → Segment f a b n' q' xs
segment_widen f a b n q n' q' xs hn hq x = (each_map (Fits f a b n q) (Fits f a b n' q') (wider f a b n q n' q' hn hq) xs x.0, x.1)

pub segment_outward : (f c d n q a b n' q' : ℕ) (xs : List Site) → c < d → q ≤ d → a < c → d ≤ b → n' ≤ c → d ≤ q' → Segment f c d n q xs →
    Segment f a b n' q' xs
segment_outward f c d n q a b n' q' xs cd qd ac db nc dq x =
    (each_map (Fits f c d n q) (Fits f a b n' q') (outward f c d n q a b n' q' cd qd ac db nc dq) xs x.0, x.1)

-- identifiers that declare nothing
abbrev pub Plain : List Site → Type 0
Plain xs = Each (λ x. may_declare x.role ≡ false) xs

pub not_both : {A : Type 0} → (x : Site) → may_declare x.role ≡ false → may_declare x.role ≡ true → A
not_both x e m = cc

pub segment_plain : (f a b n q : ℕ) (xs : List Site) → Plain xs → Segment f a b n q xs
segment_plain f a b n q xs h = (
  each_map (λ x. may_declare x.role ≡ false) (Fits f a b n q) (λ x p m. not_both x p m) xs h,
  pairs_of_each Related (λ x. may_declare x.role ≡ false) (λ x y p k m. not_both x p m) xs h,
)

pub segment_plain_after : (f a b n q : ℕ) (xs ys : List Site) → Segment f a b n q xs → Plain ys → Segment f a b n q (xs ++ ys)
segment_plain_after f a b n q xs ys x p = (
  each_append (Fits f a b n q) xs ys x.0 (segment_plain f a b n q ys p).0,
  pairs_append Related (Fits f a b n q) (λ y. may_declare y.role ≡ false) (λ u v hu hv mu mv. not_both v hv mv) xs ys x.0 p x.1
      (segment_plain f a b n q ys p).1,
)

pub segment_plain_before : (f a b n q : ℕ) (xs ys : List Site) → Plain xs → Segment f a b n q ys → Segment f a b n q (xs ++ ys)
segment_plain_before f a b n q xs ys p y = (
  each_append (Fits f a b n q) xs ys (segment_plain f a b n q xs p).0 y.0,
  pairs_append Related (λ x. may_declare x.role ≡ false) (Fits f a b n q) (λ u v hu hv mu. not_both u hu mu) xs ys p y.0 (segment_plain f a b n q xs p).1 y.1,
)

-- declarations in file blocks, the package block and the universe block alone
abbrev pub Level : List Site → Type 0
Level xs = Each (λ x. may_declare x.role ≡ true → Flat x) xs

pub segment_level : (f a b n q : ℕ) (xs : List Site) → Level xs → Segment f a b n q xs
segment_level f a b n q xs h = (
  each_map (λ x. may_declare x.role ≡ true → Flat x) (Fits f a b n q) (λ x p m. inl (p m)) xs h,
  pairs_of_each Related (λ x. may_declare x.role ≡ true → Flat x) (λ x y p k mx my. flat_first x y (p mx)) xs h,
)

pub level_plain : (xs : List Site) → Plain xs → Level xs
level_plain xs p = each_map (λ x. may_declare x.role ≡ false) (λ x. may_declare x.role ≡ true → Flat x) (λ x e m. not_both x e m) xs p

-- declarations of the block whose scopes begin at one token
pub record AtStart (f a b n q : ℕ) (x : Site) : Type 0 where
  pub block : block_of x.role ≡ Inner f a b
  pub start : start_of x.role ≡ q
  pub stands : (x.place.file ≡ f) × (x.place.index < q)
  pub left : is_left_name x.role ≡ true → (a ≤ x.place.index) × (n ≤ x.place.index)

abbrev pub Together : ℕ → ℕ → ℕ → ℕ → ℕ → Site → Type 0
Together f a b n q x = may_declare x.role ≡ true → Flat x ⊎ AtStart f a b n q x

pub segment_together : (f a b n q : ℕ) (xs : List Site) → a ≤ q → n ≤ q → Each (Together f a b n q) xs → Segment f a b n q xs
segment_together f a b n q xs aq nq h = (
  each_map (Together f a b n q) (Fits f a b n q) (λ x t m. elim (t m) [
    | inl flat ↦ inl flat
    | inr s ↦ (let e : start_of x.role ≡ q = s.start in inr (inl (record {
      block = s.block;
      above = omega arith;
      low = omega arith;
      high = omega arith;
      stands = (s.stands.0, omega (arith, s.stands.1));
      left = s.left;
    })))
  ]) xs h,
  pairs_of_each Related (Together f a b n q) (λ x y t u mx my. elim (t mx) [
    | inl flat ↦ flat_first x y flat
    | inr s ↦ elim (u my) [
      | inl flat ↦ flat_second x y f a b s.block flat
      | inr v ↦ same_block x y f a b s.block v.block (let e : start_of x.role ≡ q = s.start in let k : start_of y.role ≡ q = v.start in omega arith)
    ]
  ]) xs h,
)

pub together_plain : (f a b n q : ℕ) (xs : List Site) → Plain xs → Each (Together f a b n q) xs
together_plain f a b n q xs p = each_map (λ x. may_declare x.role ≡ false) (Together f a b n q) (λ x e m. not_both x e m) xs p

-- identifiers at the start of a block come before all others in it
head_first : (f a b : ℕ) (x y : Site) → Together f a b a a x → Fits f a b a b y → Related x y
head_first f a b x y t h mx my = elim (t mx) [
  | inl flat ↦ flat_first x y flat
  | inr s ↦ (let e : start_of x.role ≡ a = s.start in elim (h my) [
    | inl flat ↦ flat_second x y f a b s.block flat
    | inr v ↦ elim v [
      | inl o ↦ same_block x y f a b s.block o.block (let low : a ≤ start_of y.role = o.low in omega arith)
      | inr i ↦ own_inside f a b a a b x y
          (record {
            block = s.block;
            above = omega arith;
            low = omega arith;
            high = omega arith;
            stands = (s.stands.0, omega (arith, s.stands.1));
            left = s.left;
          })
          (record { frame = i.frame; above = i.above; below = i.below; first = i.above; last = i.last })
    ]
  ])
]

pub segment_head : (f a b : ℕ) (xs ys : List Site) → a ≤ b → Each (Together f a b a a) xs → Segment f a b a b ys → Segment f a b a b (xs ++ ys)
segment_head f a b xs ys ab h y =
    let x = segment_together f a b a a xs (omega arith) (omega arith) h in (
      each_append (Fits f a b a b) xs ys (segment_widen f a b a a a b xs (omega arith) ab x).0 y.0,
      pairs_append Related (Together f a b a a) (Fits f a b a b) (head_first f a b) xs ys h y.0 x.1 y.1,
    )
