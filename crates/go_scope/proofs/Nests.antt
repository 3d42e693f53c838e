-- In a well-formed layout scopes nest.
use Rattle.std.proofs.Common.{ℕ, ◌≡◌, ◌<◌, ◌≤◌, ◌⊎◌, inl, inr, true, refl, sym, ◌∙◌, subst, arith}
use Rattle.std.proofs.lemmas.Bool.{cases_order}
use Rattle.go_scope.specs.declared.model.Position.{Position}
use Rattle.go_scope.specs.declared.model.Block.{Block}
use Rattle.go_scope.specs.declared.model.Block.TheVariants.{Universe, Package, File, Inner}
use Rattle.go_scope.specs.declared.model.Scope.TheVariants.{WholeFile}
use Rattle.go_scope.specs.Scopes.{scope_for, Holds, IsInside}
use Rattle.go_scope.specs.declared.model.Role.{Role}
use Rattle.go_scope.specs.declared.model.Role.TheVariants.{Use, Declaring, LeftName, Implied, NotLexical}
use Rattle.go_scope.specs.Bindings.{Layout, MayDeclare, IsLeftName, InScope, block_of, start_of, scope_of, is_left_name, may_declare}
use Rattle.go_scope.specs.WellFormed.{WellFormed, InBlock}
use Rattle.go_scope.proofs.Nesting.{Nested}
use Rattle.go_scope.specs.Scopes.{Nests}

pub left_may : (r : Role) → is_left_name r ≡ true → may_declare r ≡ true
left_may (LeftName b s) e = refl
left_may (Declaring b s) e = refl
left_may (Implied b s) e = refl
left_may Use e = cc
left_may (NotLexical p) e = cc

-- whether a position is in a block
abbrev Within : Block → Position → Type 0
Within (Inner f a b) p = (p.file ≡ f) × (a ≤ p.index) × (p.index < b)
Within (File f) p = p.file ≡ f
Within Package p = Unit {0}
Within Universe p = Unit {0}

-- two inner blocks of a file are equal or disjoint, or one lies in the other
abbrev NestOrPart : Block → Block → Type 0
NestOrPart (Inner f a b) (Inner g a' b') = f ≡ g → ((b ≤ a') ⊎ (b' ≤ a)) ⊎ (((a' < a) × (b ≤ b')) ⊎ (((a < a') × (b' ≤ b)) ⊎ ((a ≡ a') × (b ≡ b'))))
NestOrPart _ _ = Unit {0}

nest_or_part : (l : Layout) → WellFormed l → (d e : ℕ) → MayDeclare l d → MayDeclare l e → (B C : Block) → InBlock l d B → InBlock l e C → NestOrPart B C
nest_or_part l w d e md me (Inner f a b) (Inner g a' b') hd he = λ same.
    w.blocks d e f a b a' b' md me hd (let P : ℕ → Type 0 = λ k. InBlock l e (Inner k a' b') in subst P (sym same) he)
nest_or_part l w d e md me _ _ hd he = tt

same_inner : (f g a b a' b' : ℕ) → f ≡ g → a ≡ a' → b ≡ b' → Inner f a b ≡ Inner g a' b'
same_inner f g a b a' b' p q r = cc

compare_blocks : (B C : Block) (p : Position) → NestOrPart B C → Within B p → Within C p → (B ≡ C) ⊎ (Nests B C ⊎ Nests C B)
compare_blocks (Inner f a b) (Inner g a' b') p n x y =
    let same : f ≡ g = sym x.0 ∙ y.0 in
    elim (n same) [
      | inl o ↦ elim o [ inl h ↦ absurd (omega arith) | inr h ↦ absurd (omega arith) ]
      | inr o ↦ elim o [
        | inl h ↦ inr (inl (same, h.0, h.1))
        | inr o' ↦ elim o' [
          | inl h ↦ inr (inr (sym same, h.0, h.1))
          | inr h ↦ inl (same_inner f g a b a' b' same h.0 h.1)
        ]
      ]
    ]
compare_blocks (Inner f a b) (File g) p n x y = inr (inl (sym x.0 ∙ y))
compare_blocks (Inner f a b) Package p n x y = inr (inl tt)
compare_blocks (Inner f a b) Universe p n x y = inr (inl tt)
compare_blocks (File f) (Inner g a' b') p n x y = inr (inr (sym y.0 ∙ x))
compare_blocks (File f) (File g) p n x y = inl (let e : f ≡ g = sym x ∙ y in cc)
compare_blocks (File f) Package p n x y = inr (inr tt)
compare_blocks (File f) Universe p n x y = inr (inl tt)
compare_blocks Package (Inner g a' b') p n x y = inr (inr tt)
compare_blocks Package (File g) p n x y = inr (inl tt)
compare_blocks Package Package p n x y = inl refl
compare_blocks Package Universe p n x y = inr (inl tt)
compare_blocks Universe (Inner g a' b') p n x y = inr (inr tt)
compare_blocks Universe (File g) p n x y = inr (inr tt)
compare_blocks Universe Package p n x y = inr (inr tt)
compare_blocks Universe Universe p n x y = inl refl

-- a scope lies in its block
abbrev pub Starts : Block → ℕ → Type 0
Starts (Inner f a b) s = (a ≤ s) × (s ≤ b)
Starts _ s = Unit {0}

pub starts_at : (l : Layout) → WellFormed l → (d : ℕ) → MayDeclare l d → (B : Block) → InBlock l d B → Starts B (start_of (l.role d))
starts_at l w d md (Inner f a b) h = w.starts d f a b md h
starts_at l w d md _ h = tt

within : (B : Block) (s : ℕ) (p : Position) → Starts B s → Holds (scope_for B s) p → Within B p
within (Inner f a b) s p h x = (x.0, omega arith, x.2)
within (File f) s p h x = x
within Package s p h x = tt
within Universe s p h x = tt

scope_within : (l : Layout) → WellFormed l → (d u : ℕ) → MayDeclare l d → InScope l d u → Within (block_of (l.role d)) (l.place u)
scope_within l w d u md h = within (block_of (l.role d)) (start_of (l.role d)) (l.place u) (starts_at l w d md (block_of (l.role d)) refl) h

transitive_blocks : (A B C : Block) (p : Position) → Nests A B → Nests B C → Within A p → Within C p → Nests A C
transitive_blocks (Inner f a b) (Inner g c d) (Inner h i j) p m n x z = (m.0 ∙ n.0, omega arith, omega arith)
transitive_blocks (Inner f a b) (Inner g c d) (File h) p m n x z = m.0 ∙ n
transitive_blocks (Inner f a b) (Inner g c d) Package p m n x z = tt
transitive_blocks (Inner f a b) (Inner g c d) Universe p m n x z = tt
transitive_blocks (Inner f a b) Package (Inner h i j) p m n x z = absurd n
transitive_blocks (Inner f a b) Package (File h) p m n x z = sym x.0 ∙ z
transitive_blocks (Inner f a b) Package Package p m n x z = tt
transitive_blocks (Inner f a b) Package Universe p m n x z = tt
transitive_blocks (Inner f a b) (File g) (Inner h i j) p m n x z = absurd n
transitive_blocks (Inner f a b) (File g) (File h) p m n x z = absurd n
transitive_blocks (Inner f a b) (File g) Package p m n x z = tt
transitive_blocks (Inner f a b) (File g) Universe p m n x z = tt
transitive_blocks (Inner f a b) Universe C p m n x z = absurd n
transitive_blocks Package (Inner g c d) C p m n x z = absurd m
transitive_blocks Package Package C p m n x z = absurd m
transitive_blocks Package (File g) (Inner h i j) p m n x z = absurd n
transitive_blocks Package (File g) Package p m n x z = absurd n
transitive_blocks Package (File g) (File h) p m n x z = tt
transitive_blocks Package (File g) Universe p m n x z = tt
transitive_blocks Package Universe C p m n x z = absurd n
transitive_blocks (File f) (Inner g c d) C p m n x z = absurd m
transitive_blocks (File f) Package C p m n x z = absurd m
transitive_blocks (File f) (File g) C p m n x z = absurd m
transitive_blocks (File f) Universe C p m n x z = absurd n
transitive_blocks Universe B C p m n x z = absurd m

later_smaller : (B : Block) (s t : ℕ) (p : Position) → s ≤ t → Holds (scope_for B t) p → Holds (scope_for B s) p
later_smaller (Inner f a b) s t p h x = (x.0, omega arith, x.2)
later_smaller (File f) s t p h x = x
later_smaller Package s t p h x = tt
later_smaller Universe s t p h x = tt

-- the scope of a declaration in an outer block does not begin in an inner block
abbrev BeginsOutside : Block → Block → ℕ → Type 0
BeginsOutside (Inner f a b) (Inner g a' b') s = f ≡ g → a' < a → b ≤ b' → (s < a) ⊎ (b ≤ s)
BeginsOutside _ _ s = Unit {0}

begins_outside_at : (l : Layout) → WellFormed l → (d e : ℕ) → MayDeclare l d → MayDeclare l e → (B C : Block) → InBlock l d B → InBlock l e C →
    BeginsOutside B C (start_of (l.role e))
begins_outside_at l w d e md me (Inner f a b) (Inner g a' b') hd he = λ same.
    w.begins_outside d e f a b a' b' md me hd (let P : ℕ → Type 0 = λ k. InBlock l e (Inner k a' b') in subst P (sym same) he)
begins_outside_at l w d e md me _ _ hd he = tt

Pair : Block → Block → Type 0
Pair B C = (B ≡ Package) × ((f : ℕ) × (C ≡ File f))

nests_in : (B C : Block) (s t : ℕ) (p : Position) → Starts B s → BeginsOutside B C t → Holds (scope_for B s) p → Holds (scope_for C t) p → Nests B C →
    IsInside (scope_for B s) (scope_for C t) ⊎ Pair B C
unfolding Pair
nests_in (Inner f a b) (Inner g c d) s t p st o x y n = elim (o n.0 n.1 n.2) [ inl h ↦ inl (n.0, omega arith, n.2) | inr h ↦ absurd (omega arith) ]
nests_in (Inner f a b) (File g) s t p st o x y n = inl n
nests_in (Inner f a b) Package s t p st o x y n = inl tt
nests_in (Inner f a b) Universe s t p st o x y n = inl tt
nests_in Package (Inner g c d) s t p st o x y n = absurd n
nests_in Package Package s t p st o x y n = absurd n
nests_in Package (File g) s t p st o x y n = inr (refl, (g, refl))
nests_in Package Universe s t p st o x y n = inl tt
nests_in (File f) (Inner g c d) s t p st o x y n = absurd n
nests_in (File f) Package s t p st o x y n = absurd n
nests_in (File f) (File g) s t p st o x y n = absurd n
nests_in (File f) Universe s t p st o x y n = inl tt
nests_in Universe C s t p st o x y n = absurd n

in_nests : (B C : Block) (s t : ℕ) (p : Position) → Starts B s → Starts C t → NestOrPart B C → BeginsOutside C B s → Holds (scope_for B s) p →
    Holds (scope_for C t) p →
    IsInside (scope_for B s) (scope_for C t) → (B ≡ C) ⊎ (Nests B C ⊎ Pair C B)
unfolding Pair
in_nests (Inner f a b) (Inner g c d) s t p sb sc n o x y i =
    elim (compare_blocks (Inner f a b) (Inner g c d) p n (within (Inner f a b) s p sb x) (within (Inner g c d) t p sc y)) [
      | inl e ↦ inl e
      | inr r ↦ elim r [
        | inl m ↦ inr (inl m)
        | inr m ↦ elim (o m.0 m.1 m.2) [ inl h ↦ absurd (omega arith) | inr h ↦ absurd (omega arith) ]
      ]
    ]
in_nests (Inner f a b) (File g) s t p sb sc n o x y i = inr (inl i)
in_nests (Inner f a b) Package s t p sb sc n o x y i = inr (inl tt)
in_nests (Inner f a b) Universe s t p sb sc n o x y i = inr (inl tt)
in_nests (File f) (Inner g c d) s t p sb sc n o x y i = absurd i
in_nests (File f) (File g) s t p sb sc n o x y i = inl (let e : f ≡ g = i in cc)
in_nests (File f) Package s t p sb sc n o x y i = inr (inr (refl, (f, refl)))
in_nests (File f) Universe s t p sb sc n o x y i = inr (inl tt)
in_nests Package (Inner g c d) s t p sb sc n o x y i = absurd i
in_nests Package (File g) s t p sb sc n o x y i = absurd i
in_nests Package Package s t p sb sc n o x y i = inl refl
in_nests Package Universe s t p sb sc n o x y i = inr (inl tt)
in_nests Universe (Inner g c d) s t p sb sc n o x y i = absurd i
in_nests Universe (File g) s t p sb sc n o x y i = absurd i
in_nests Universe Package s t p sb sc n o x y i = absurd i
in_nests Universe Universe s t p sb sc n o x y i = inl refl

-- the left names that are directly in their block, in no block inside of it
abbrev Directly : Block → Block → Position → Type 0
Directly (Inner f a b) (Inner g a' b') p = f ≡ g → a < a' → b' ≤ b → (p.index < a') ⊎ (b' ≤ p.index)
Directly _ _ p = Unit {0}

direct_at : (l : Layout) → WellFormed l → (x z : ℕ) → IsLeftName l x → MayDeclare l z → (B C : Block) → InBlock l x B → InBlock l z C → Directly B C (l.place x)
direct_at l w x z left mz (Inner f a b) (Inner g a' b') hx hz = λ same.
    w.left_directly x z f a b a' b' left mz hx (let P : ℕ → Type 0 = λ k. InBlock l z (Inner k a' b') in subst P (sym same) hz)
direct_at l w x z left mz _ _ hx hz = tt

is_direct : (B C : Block) (p : Position) → NestOrPart C B → Directly B C p → Within B p → Within C p → (f : ℕ) → (a : ℕ) → (b : ℕ) → B ≡ Inner f a b →
    (C ≡ B) ⊎ Nests B C
is_direct (Inner f a b) (Inner g c d) p n o x y _ _ _ e = elim (compare_blocks (Inner g c d) (Inner f a b) p n y x) [
  | inl q ↦ inl q
  | inr r ↦ elim r [
    | inl m ↦ elim (o (sym m.0) m.1 m.2) [ inl h ↦ absurd (omega arith) | inr h ↦ absurd (omega arith) ]
    | inr m ↦ inr m
  ]
]
is_direct (Inner f a b) (File g) p n o x y _ _ _ e = inr (sym x.0 ∙ y)
is_direct (Inner f a b) Package p n o x y _ _ _ e = inr tt
is_direct (Inner f a b) Universe p n o x y _ _ _ e = inr tt
is_direct (File f) C p n o x y _ _ _ e = cc
is_direct Package C p n o x y _ _ _ e = cc
is_direct Universe C p n o x y _ _ _ e = cc

module _ (l : Layout) (w : WellFormed l) where
  left_in : (x : ℕ) → IsLeftName l x → Within (block_of (l.role x)) (l.place x)
  left_in x left =
      let i = w.left_inner x left in
      let s : (i.1 ≤ start_of (l.role x)) × (start_of (l.role x) ≤ i.2) = w.starts x i.0 i.1 i.2 (left_may (l.role x) left) i.3 in
      let before : (l.place x).index < start_of (l.role x) = w.left_before x left in
      let P : Block → Type 0 = λ B. Within B (l.place x) in
      subst P (sym i.3) (i.4, i.5, omega arith)

  not_holds_itself : (B : Block) (s t : ℕ) (p : Position) → ((f : ℕ) × (a : ℕ) × (b : ℕ) × (B ≡ Inner f a b)) → t ≤ s → p.index < t →
      Holds (scope_for B s) p → ⊥
  not_holds_itself (Inner f a b) s t p i le lt h = omega arith
  not_holds_itself (File f) s t p i le lt h = let e : File f ≡ Inner i.0 i.1 i.2 = i.3 in cc
  not_holds_itself Package s t p i le lt h = let e : Package ≡ Inner i.0 i.1 i.2 = i.3 in cc
  not_holds_itself Universe s t p i le lt h = let e : Universe ≡ Inner i.0 i.1 i.2 = i.3 in cc

  pub nests : Nested l
  unfolding Pair
  nests = record {
    size = w.size;
    finite = w.finite;
    comparable = λ a b u ma mb ha hb. compare_blocks (block_of (l.role a)) (block_of (l.role b)) (l.place u)
        (nest_or_part l w a b ma mb (block_of (l.role a)) (block_of (l.role b)) refl refl) (scope_within l w a u ma ha) (scope_within l w b u mb hb);
    transitive = λ a b c u ma mb mc m n ha hb hc. transitive_blocks (block_of (l.role a)) (block_of (l.role b)) (block_of (l.role c)) (l.place u) m n
        (scope_within l w a u ma ha) (scope_within l w c u mc hc);
    shrinking = λ a b u ma mb s lt hb.
        let P : Block → Type 0 = λ B. Holds (scope_for B (start_of (l.role a))) (l.place u) in
        subst P (sym s) (later_smaller (block_of (l.role b)) (start_of (l.role a)) (start_of (l.role b)) (l.place u) (w.in_order a b ma mb s lt) hb);
    direct = λ x z left mz hz.
        let i = w.left_inner x left in
        is_direct (block_of (l.role x)) (block_of (l.role z)) (l.place x)
        (nest_or_part l w z x mz (left_may (l.role x) left) (block_of (l.role z)) (block_of (l.role x)) refl refl)
        (direct_at l w x z left mz (block_of (l.role x)) (block_of (l.role z)) refl refl)
        (left_in x left) (scope_within l w z x mz hz) i.0 i.1 i.2 i.3;
    earlier = λ a x ma left s ha.
        let i = w.left_inner x left in
        elim (cases_order a x) [
          | inl e ↦ absurd (not_holds_itself (block_of (l.role a)) (start_of (l.role a)) (start_of (l.role x)) (l.place x) (i.0, i.1, i.2, s ∙ i.3)
              (let P : ℕ → Type 0 = λ k. start_of (l.role x) ≤ start_of (l.role k) in subst P (sym e) (omega arith)) (w.left_before x left) ha)
          | inr o ↦ elim o [
            | inl lt ↦ lt
            | inr gt ↦ absurd (not_holds_itself (block_of (l.role a)) (start_of (l.role a)) (start_of (l.role x)) (l.place x) (i.0, i.1, i.2, s ∙ i.3)
                (w.in_order x a (left_may (l.role x) left) ma (sym s) gt) (w.left_before x left) ha)
          ]
        ];
    left_inner = λ x left imp.
        let i = w.left_inner x left in
        let e : Inner i.0 i.1 i.2 ≡ File imp.0 = sym i.3 ∙ imp.1 in cc;
    package_holds = λ a u p. let P : Block → Type 0 = λ B. Holds (scope_for B (start_of (l.role a))) (l.place u) in subst P (sym p) tt;
    inside_nests = λ a b u ma mb ha hb i. in_nests (block_of (l.role a)) (block_of (l.role b)) (start_of (l.role a)) (start_of (l.role b)) (l.place u)
        (starts_at l w a ma (block_of (l.role a)) refl) (starts_at l w b mb (block_of (l.role b)) refl)
        (nest_or_part l w a b ma mb (block_of (l.role a)) (block_of (l.role b)) refl refl)
        (begins_outside_at l w b a mb ma (block_of (l.role b)) (block_of (l.role a)) refl refl) ha hb i;
    nests_inside = λ a b u ma mb ha hb n. nests_in (block_of (l.role a)) (block_of (l.role b)) (start_of (l.role a)) (start_of (l.role b)) (l.place u)
        (starts_at l w a ma (block_of (l.role a)) refl)
        (begins_outside_at l w a b ma mb (block_of (l.role a)) (block_of (l.role b)) refl refl) ha hb n;
  }

inside_same : (B : Block) (s t : ℕ) → t ≤ s → IsInside (scope_for B s) (scope_for B t)
inside_same (Inner f a b) s t le = (refl, le, omega arith)
inside_same (File f) s t le = refl
inside_same Package s t le = tt
inside_same Universe s t le = tt

import_inside : (B C : Block) (s t : ℕ) → Pair B C → IsInside (scope_for C t) (scope_for B s)
unfolding Pair
import_inside B C s t h =
    let P : Block → Type 0 = λ D. IsInside (scope_for D t) (scope_for B s) in
    let Q : Block → Type 0 = λ D. IsInside (WholeFile h.1.0) (scope_for D s) in
    subst P (sym h.1.1) (subst Q (sym h.0) tt)

-- two scopes that share a position nest
pub scopes_nest : (l : Layout) → WellFormed l → (d e : ℕ) → MayDeclare l d → MayDeclare l e → (p : Position) →
    Holds (scope_of (l.role d)) p → Holds (scope_of (l.role e)) p → IsInside (scope_of (l.role d)) (scope_of (l.role e)) ⊎
    IsInside (scope_of (l.role e)) (scope_of (l.role d))
scopes_nest l w d e md me p hd he =
    let B = block_of (l.role d) in
    let C = block_of (l.role e) in
    let s = start_of (l.role d) in
    let t = start_of (l.role e) in
    elim (compare_blocks B C p (nest_or_part l w d e md me B C refl refl) (within B s p (starts_at l w d md B refl) hd)
    (within C t p (starts_at l w e me C refl) he)) [
      | inl same ↦
          let P : Block → Type 0 = λ D. IsInside (scope_for B s) (scope_for D t) ⊎ IsInside (scope_for D t) (scope_for B s) in
          subst P same (elim (cases_order s t) [
            | inl k ↦ inl (inside_same B s t (omega arith))
            | inr o ↦ elim o [ inl lt ↦ inr (inside_same B t s (omega arith)) | inr gt ↦ inl (inside_same B s t (omega arith)) ]
          ])
      | inr o ↦ elim o [
        | inl n ↦ elim (nests_in B C s t p (starts_at l w d md B refl) (begins_outside_at l w d e md me B C refl refl) hd he n) [
          | inl i ↦ inl i
          | inr i ↦ inr (import_inside B C s t i)
        ]
        | inr n ↦ elim (nests_in C B t s p (starts_at l w e me C refl) (begins_outside_at l w e d me md C B refl refl) he hd n) [
          | inl i ↦ inr i
          | inr i ↦ inl (import_inside C B t s i)
        ]
      ]
    ]
