-- A name is bound to the nearest declaration: in an inner block, else in the package block, else in the file block, else the predeclared
-- one.
use Rattle.std.proofs.Common.{ℕ, ◌≡◌, ◌<◌, ◌≤◌, ◌⊎◌, inl, inr, List, Option, Some, None, refl, sym, ◌∙◌, ap, subst, arith}
use Rattle.std.specs.Prelude.{◌↔◌, IsSome, MatchOption}
use Rattle.std.proofs.lemmas.Bool.{cases_order}
use Rattle.go_scope.specs.declared.model.Block.{Block}
use Rattle.go_scope.specs.declared.model.Block.TheVariants.{Universe, Package, File, Inner}
use Rattle.go_scope.specs.declared.model.Position.{Position}
use Rattle.go_scope.specs.Bindings.{Layout, Names, MayDeclare, SameBlock, InScope, IsUse, BindsAt, block_of, start_of}
use Rattle.go_scope.specs.Leading.{IsLead, IsLeadInside, IsFirstIn, IsDeclaredInPackage}
use Rattle.go_scope.specs.OpenBlocks.{IsVisibleInside}
use Rattle.go_scope.specs.Scopes.{scope_for, Holds, Nests}
use Rattle.go_scope.specs.Table.{IsCandidate, IsNearest, Precedes}
use Rattle.go_scope.specs.WellFormed.{WellFormed, IsLaidOut, InBlock}
use Rattle.go_scope.proofs.Following.{not_seen_within, seen_behind}
use Rattle.go_scope.proofs.Innermost.{precedes_asym, same_not_nests_back, nests_along_right, bound_of_first}
use Rattle.go_scope.proofs.Leading.{leader_none, leads_once, counts_only}
use Rattle.go_scope.proofs.Nesting.{Nested, NestsAt}
use Rattle.go_scope.proofs.Nests.{nests}
use Rattle.go_scope.proofs.Uniqueness.{same_or_not, use_not_may}

-- a use is not the first declaration of its name in a block
pub use_follows : (l : Layout) (names : Names) (u : ℕ) → IsUse l names u → IsLead l names u → ⊥
use_follows l names u (inl i) k = use_not_may (l.role u) i k.declares.may
use_follows l names u (inr i) k = i.1 k.declares

-- of two declarations with a position in both scopes, the first precedes the second, unless the second one's block lies in the first one's
precedes_by : (l : Layout) → Nested l → (b e u : ℕ) → MayDeclare l b → MayDeclare l e → InScope l b u → InScope l e u → (SameBlock l b e → e < b → ⊥) →
    (NestsAt l e b → ⊥) →
    (e ≡ b) ⊎ Precedes l b e
precedes_by l nested b e u mb me hb he first inner = elim (nested.comparable b e u mb me hb he) [
  | inl s ↦ elim (cases_order b e) [
    | inl same ↦ inl (sym same)
    | inr o ↦ elim o [ inl less ↦ inr (inl (s, less)) | inr more ↦ absurd (first s more) ]
  ]
  | inr o ↦ elim o [ inl n ↦ inr (inr n) | inr n ↦ absurd (inner n) ]
]

-- a name is bound to the nearest declaration
pub nearest_binds : (l : Layout) → WellFormed l → (names : Names) (name : List ℕ) (u : ℕ) (result : Option ℕ) →
    IsNearest l (IsCandidate l names name u) result →
    MatchOption result ((d : ℕ) → BindsAt l names name u d → ⊥) (λ d. BindsAt l names name u d)
nearest_binds l w names name u None h = λ d b. h d (b.named, b.in_scope, (counts_only l names d b.counts).0)
nearest_binds l w names name u (Some b) h =
    let nested = nests l w in
    bound_of_first l nested names name u b (record {
      declares = h.0.2.declares;
      named = h.0.0;
      in_scope = h.0.1;
      precedes = λ e de ne he. precedes_by l nested b e u h.0.2.declares.may de.may h.0.1 he
          (λ s more. h.0.2.first e de (ne ∙ sym h.0.0) (sym s) more)
          (λ n. leader_none l names e de (λ f lf nf sf le.
          let hf : InScope l f u = elim (same_or_not f e) [
            | inl same ↦ (let P : ℕ → Type 0 = λ v. InScope l v u in subst P (sym same) he)
            | inr other ↦ nested.shrinking f e u lf.declares.may de.may sf
                (elim (cases_order f e) [ inl same ↦ absurd (other same) | inr o ↦ elim o [ inl less ↦ less | inr more ↦ absurd (omega arith) ] ]) he
          ] in
          elim (h.1 f (nf ∙ ne, hf, lf)) [
            | inl same ↦ (let P : ℕ → Type 0 = λ v. SameBlock l v e in same_not_nests_back l b e (subst P same sf) n)
            | inr p ↦ elim p [
              | inl s ↦ same_not_nests_back l b e (s.0 ∙ sf) n
              | inr m ↦ precedes_asym l nested b e u h.0.2.declares.may de.may h.0.1 he (inr (nests_along_right l b f e sf m)) (inr n)
            ]
          ]));
    })

-- Of the declarations in inner blocks with a position in their scope, the last is the nearest, since the blocks of earlier ones enclose it.
pub last_nearest : (l : Layout) (size : ℕ) → IsLaidOut l size → (names : Names) (name : List ℕ) (u d : ℕ) → ((e : ℕ) → MayDeclare l e → e < size) →
    IsLeadInside l names name d → InScope l d u → ((e : ℕ) → e < u → IsLeadInside l names name e → InScope l e u → e ≤ d) →
    IsNearest l (IsVisibleInside l names name u) (Some d)
last_nearest l size h names name u d finite inside seen last = (
  (inside, seen),
  λ e c.
      let may = c.0.leads.declares.may in
      let le : e ≤ d = last e (seen_behind l size h e u may (finite e may) c.1 c.0.inner) c.0 c.1 in
      elim ((nests l h.well_formed).comparable e d u may inside.leads.declares.may c.1 seen) [
        | inl same ↦ inl (leads_once l names e d c.0.leads inside.leads (c.0.named ∙ sym inside.named) same)
        | inr o ↦ elim o [
          | inl n ↦ elim (cases_order e d) [
            | inl same ↦ inl same
            | inr p ↦ elim p [
              | inl less ↦ absurd (not_seen_within l h.ordered e d u less may inside.leads.declares.may c.1 seen n inside.inner)
              | inr more ↦ absurd (omega arith)
            ]
          ]
          | inr n ↦ inr (inr n)
        ]
      ],
)

-- the blocks of candidates

round_outer : (B C : Block) (s t : ℕ) (p : Position) → Nests B Package → (Nests C Package → ⊥) → Holds (scope_for B s) p → Holds (scope_for C t) p → Nests B C
round_outer Universe C s t p i other x y = absurd i
round_outer Package C s t p i other x y = absurd i
round_outer (File f) C s t p i other x y = absurd i
round_outer (Inner f a b) Universe s t p i other x y = tt
round_outer (Inner f a b) Package s t p i other x y = tt
round_outer (Inner f a b) (File g) s t p i other x y = sym x.0 ∙ y
round_outer (Inner f a b) (Inner g c z) s t p i other x y = absurd (other tt)

inner_or_not : (B : Block) → Nests B Package ⊎ (Nests B Package → ⊥)
inner_or_not Universe = inr (λ n. n)
inner_or_not Package = inr (λ n. n)
inner_or_not (File f) = inr (λ n. n)
inner_or_not (Inner f a b) = inl tt

module _ (l : Layout) (names : Names) (name : List ℕ) (u : ℕ) where
  -- a declaration in an inner block is nearer than one in any other block
  pub inside_nearest : (d : ℕ) → IsNearest l (IsVisibleInside l names name u) (Some d) → IsNearest l (IsCandidate l names name u) (Some d)
  inside_nearest d h = (
    (h.0.0.named, h.0.1, h.0.0.leads),
    λ e c. elim (inner_or_not (block_of (l.role e))) [
      | inl i ↦ h.1 e (record { leads = c.2; named = c.0; inner = i }, c.1)
      | inr other ↦ inr (inr (round_outer (block_of (l.role d)) (block_of (l.role e)) (start_of (l.role d)) (start_of (l.role e)) (l.place u) h.0.0.inner other
          h.0.1 c.1))
    ],
  )

  -- a block without a declaration of the name
  abbrev pub NoneIn : Block → Type 0
  NoneIn B = (e : ℕ) → IsLead l names e → names e ≡ name → block_of (l.role e) ≡ B → ⊥

  pub none_in : (B : Block) (n : ℕ) → ((e : ℕ) → MayDeclare l e → e < n) → IsFirstIn l names name B n None → NoneIn B
  none_in B n finite h e k named is = h e (finite e k.declares.may) k named is

  module _ (none : (d : ℕ) → IsVisibleInside l names name u d → ⊥) where
    not_inside : {X : Type 0} (e f a b : ℕ) → IsCandidate l names name u e → InBlock l e (Inner f a b) → X
    not_inside e f a b c is =
        let P : Block → Type 0 = λ B. Nests B Package in
        absurd (none e (record { leads = c.2; named = c.0; inner = subst P (sym is) tt }, c.1))

    once : (d e : ℕ) (B : Block) → IsLead l names d → names d ≡ name → InBlock l d B → IsCandidate l names name u e → InBlock l e B → (e ≡ d) ⊎ Precedes l d e
    once d e B k named is c is_e = inl (leads_once l names e d c.2 k (c.0 ∙ sym named) (is_e ∙ sym is))

    round : (d e : ℕ) (B C : Block) → InBlock l d B → InBlock l e C → Nests B C → (e ≡ d) ⊎ Precedes l d e
    round d e B C is_d is_e n =
        let P : Block → Type 0 = λ b. Nests b (block_of (l.role e)) in
        let Q : Block → Type 0 = λ b. Nests B b in
        inr (inr (subst P (sym is_d) (subst Q (sym is_e) n)))

    -- in the file of the position
    own_file : (e g : ℕ) → IsCandidate l names name u e → InBlock l e (File g) → g ≡ (l.place u).file
    own_file e g c is = let P : Block → Type 0 = λ B. Holds (scope_for B (start_of (l.role e))) (l.place u) in sym (subst P is c.1)

    pub package_nearest : (d : ℕ) → IsLead l names d → names d ≡ name → InBlock l d Package → IsNearest l (IsCandidate l names name u) (Some d)
    package_nearest d k named is =
        let P : Block → Type 0 = λ B. Holds (scope_for B (start_of (l.role d))) (l.place u) in (
          (named, subst P (sym is) tt, k),
          λ e c. by_block e c (block_of (l.role e)) refl,
        )
      where
        by_block : (e : ℕ) → IsCandidate l names name u e → (B : Block) → InBlock l e B → (e ≡ d) ⊎ Precedes l d e
        by_block e c (Inner f a b) i = not_inside e f a b c i
        by_block e c Package i = once d e Package k named is c i
        by_block e c (File g) i = round d e Package (File g) is i tt
        by_block e c Universe i = round d e Package Universe is i tt

    module _ (none_package : NoneIn Package) where
      pub file_nearest : (d : ℕ) → IsLead l names d → names d ≡ name → InBlock l d (File (l.place u).file) → IsNearest l (IsCandidate l names name u) (Some d)
      file_nearest d k named is =
          let P : Block → Type 0 = λ B. Holds (scope_for B (start_of (l.role d))) (l.place u) in (
            (named, subst P (sym is) refl, k),
            λ e c. by_block e c (block_of (l.role e)) refl,
          )
        where
          by_block : (e : ℕ) → IsCandidate l names name u e → (B : Block) → InBlock l e B → (e ≡ d) ⊎ Precedes l d e
          by_block e c (Inner f a b) i = not_inside e f a b c i
          by_block e c Package i = absurd (none_package e c.2 c.0 i)
          by_block e c (File g) i = once d e (File (l.place u).file) k named is c (i ∙ ap File (own_file e g c i))
          by_block e c Universe i = round d e (File (l.place u).file) Universe is i tt

      module _ (none_file : NoneIn (File (l.place u).file)) where
        in_universe : (e : ℕ) → IsCandidate l names name u e → (B : Block) → InBlock l e B → InBlock l e Universe
        in_universe e c (Inner f a b) i = not_inside e f a b c i
        in_universe e c Package i = absurd (none_package e c.2 c.0 i)
        in_universe e c (File g) i = absurd (none_file e c.2 c.0 (i ∙ ap File (own_file e g c i)))
        in_universe e c Universe i = i

        pub universe_nearest : (n : ℕ) → ((e : ℕ) → MayDeclare l e → e < n) → (result : Option ℕ) → IsFirstIn l names name Universe n result →
            IsNearest l (IsCandidate l names name u) result
        universe_nearest n finite None h = λ e c. h e (finite e c.2.declares.may) c.2 c.0 (in_universe e c (block_of (l.role e)) refl)
        universe_nearest n finite (Some d) h =
            let P : Block → Type 0 = λ B. Holds (scope_for B (start_of (l.role d))) (l.place u) in (
              (h.2, subst P (sym h.3) tt, h.1),
              λ e c. once d e Universe h.1 h.2 h.3 c (in_universe e c (block_of (l.role e)) refl),
            )

-- whether the package block declares a name
pub in_package : (l : Layout) (names : Names) (name : List ℕ) (n : ℕ) → ((e : ℕ) → MayDeclare l e → e < n) → (o : Option ℕ) →
    IsFirstIn l names name Package n o → IsSome o ↔ IsDeclaredInPackage l names name
in_package l names name n finite None h = (
  (λ t. let z : ⊥ = cc in absurd z),
  λ w. absurd (h w.0 (finite w.0 w.1.0.declares.may) w.1.0 w.1.1 w.1.2),
)
in_package l names name n finite (Some e) h = ((λ t. (e, (h.1, h.2, h.3))), λ w. refl)
