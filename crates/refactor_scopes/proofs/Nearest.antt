-- The declaration of a name that precedes all others that hold a use, among the listed identifiers of the name.
use Rattle.std.proofs.Common.{ℕ, ◌≡◌, ◌<◌, ◌≤◌, ◌+◌, ◌⊎◌, inl, inr, List, Option, Some, None, length, get_or, sym, subst, arith}
use Rattle.std.specs.Prelude.{MatchOption}
use Rattle.std.proofs.lemmas.Bool.{cases_lt}
use Rattle.go_scope.specs.Bindings.{Layout, Names, BindsAt, Declares, InScope}
use Rattle.go_scope.specs.Table.{Precedes}
use Rattle.go_scope.proofs.Nesting.{Nested}
use Rattle.go_scope.proofs.Innermost.{bound_of_first, ordered, precedes_trans}

-- `c` declares, with `u` in its scope
pub record HoldsUse (l : Layout) (names : Names) (u c : ℕ) : Type 0 where
  pub declares : Declares l names c
  pub in_scope : InScope l c u

-- of the first `i` listed numbers, `b` is the declaration that precedes all others with `u` in their scope, or there is none
pub record IsNearestBelow (l : Layout) (names : Names) (numbers : List ℕ) (u i b : ℕ) : Type 0 where
  pub holds : HoldsUse l names u b
  pub place : ℕ
  pub within : place < length numbers
  pub listed : get_or numbers place 0 ≡ b
  pub nearest : (j : ℕ) → j < i → HoldsUse l names u (get_or numbers j 0) → (get_or numbers j 0 ≡ b) ⊎ Precedes l b (get_or numbers j 0)

abbrev pub Nearest : Layout → Names → List ℕ → (u i : ℕ) → Option ℕ → Type 0
Nearest l names numbers u i found =
    MatchOption found ((j : ℕ) → j < i → HoldsUse l names u (get_or numbers j 0) → ⊥) (λ b. IsNearestBelow l names numbers u i b)

module _ (l : Layout) (nested : Nested l) (names : Names) (numbers : List ℕ) (u : ℕ) where
  pub none_yet : Nearest l names numbers u 0 None
  none_yet j lt h = omega arith

  before_or_last : (i j : ℕ) → j < i + 1 → (j < i) ⊎ (j ≡ i)
  before_or_last i j lt = elim (cases_lt j i) [ inl less ↦ inl less | inr ge ↦ inr (omega arith) ]

  -- one number more, which doesn't hold u
  pub not_held : (i : ℕ) (found : Option ℕ) → Nearest l names numbers u i found → (HoldsUse l names u (get_or numbers i 0) → ⊥) →
      Nearest l names numbers u (i + 1) found
  not_held i None h out = λ j lt k. elim (before_or_last i j lt) [
    | inl less ↦ h j less k
    | inr same ↦ out (let P : ℕ → Type 0 = λ v. HoldsUse l names u (get_or numbers v 0) in subst P same k)
  ]
  not_held i (Some b) h out = record {
    holds = h.holds;
    place = h.place;
    within = h.within;
    listed = h.listed;
    nearest = λ j lt k. elim (before_or_last i j lt) [
      | inl less ↦ h.nearest j less k
      | inr same ↦ absurd (out (let P : ℕ → Type 0 = λ v. HoldsUse l names u (get_or numbers v 0) in subst P same k))
    ];
  }

  -- one number more, which holds u: it is the nearer one, or not
  pub held : (i : ℕ) (found : Option ℕ) (n : ℕ) → i < length numbers → Nearest l names numbers u i found → HoldsUse l names u (get_or numbers i 0) →
      MatchOption found (n ≡ get_or numbers i 0)
      (λ b. ((n ≡ get_or numbers i 0) × Precedes l (get_or numbers i 0) b) ⊎ ((n ≡ b) × (Precedes l (get_or numbers i 0) b → ⊥))) →
      Nearest l names numbers u (i + 1) (Some n)
  held i None n inside h k is = record {
    holds = (let P : ℕ → Type 0 = λ v. HoldsUse l names u v in subst P (sym is) k);
    place = i;
    within = inside;
    listed = sym is;
    nearest = λ j lt m. elim (before_or_last i j lt) [
      | inl less ↦ absurd (h j less m)
      | inr same ↦ inl (let P : ℕ → Type 0 = λ v. get_or numbers v 0 ≡ n in subst P (sym same) (sym is))
    ];
  }
  held i (Some b) n inside h k (inl is) = record {
    holds = (let P : ℕ → Type 0 = λ v. HoldsUse l names u v in subst P (sym is.0) k);
    place = i;
    within = inside;
    listed = sym is.0;
    nearest = λ j lt m. elim (before_or_last i j lt) [
      | inl less ↦ inr (let Q : ℕ → Type 0 = λ v. Precedes l v (get_or numbers j 0) in subst Q (sym is.0) (elim (h.nearest j less m) [
        | inl same ↦ (let P : ℕ → Type 0 = λ v. Precedes l (get_or numbers i 0) v in subst P (sym same) is.1)
        | inr q ↦ precedes_trans l nested (get_or numbers i 0) b (get_or numbers j 0) u k.declares.may h.holds.declares.may m.declares.may k.in_scope
            h.holds.in_scope m.in_scope is.1 q
      ]))
      | inr same ↦ inl (let P : ℕ → Type 0 = λ v. get_or numbers v 0 ≡ n in subst P (sym same) (sym is.0))
    ];
  }
  held i (Some b) n inside h k (inr is) = record {
    holds = (let P : ℕ → Type 0 = λ v. HoldsUse l names u v in subst P (sym is.0) h.holds);
    place = h.place;
    within = h.within;
    listed = (let P : ℕ → Type 0 = λ v. get_or numbers h.place 0 ≡ v in subst P (sym is.0) h.listed);
    nearest = λ j lt m.
        let P : ℕ → Type 0 = λ v. (get_or numbers j 0 ≡ v) ⊎ Precedes l v (get_or numbers j 0) in
        subst P (sym is.0) (elim (before_or_last i j lt) [
          | inl less ↦ h.nearest j less m
          | inr same ↦
              let Q : ℕ → Type 0 = λ v. (get_or numbers v 0 ≡ b) ⊎ Precedes l b (get_or numbers v 0) in
              subst Q (sym same) (elim (ordered l nested b (get_or numbers i 0) u h.holds.declares.may k.declares.may h.holds.in_scope k.in_scope) [
                | inl e ↦ inl (sym e)
                | inr o ↦ elim o [ inl q ↦ inr q | inr q ↦ absurd (is.1 q) ]
              ])
        ]);
  }

  -- all numbers: the nearest one is what the name is bound to
  pub is_bound : (name : List ℕ) (found : Option ℕ) (i : ℕ) → length numbers ≤ i → ((j : ℕ) → j < length numbers → names (get_or numbers j 0) ≡ name) →
      ((c : ℕ) → Declares l names c → names c ≡ name → (j : ℕ) × (j < length numbers) × (get_or numbers j 0 ≡ c)) → Nearest l names numbers u i found →
      MatchOption found ((c : ℕ) → BindsAt l names name u c → ⊥) (λ c. BindsAt l names name u c)
  is_bound name None i all named listed h = λ c b.
      let at = listed c b.counts.declares b.named in
      let inside : at.0 < length numbers = at.1 in
      let P : ℕ → Type 0 = λ v. HoldsUse l names u v in
      h at.0 (omega arith) (subst P (sym at.2) (record { declares = b.counts.declares; in_scope = b.in_scope }))
  is_bound name (Some c) i all named listed h = bound_of_first l nested names name u c (record {
    declares = h.holds.declares;
    named = (let P : ℕ → Type 0 = λ v. names v ≡ name in subst P h.listed (named h.place h.within));
    in_scope = h.holds.in_scope;
    precedes = λ e de ne he.
        let at = listed e de ne in
        let inside : at.0 < length numbers = at.1 in
        let P : ℕ → Type 0 = λ v. HoldsUse l names u v in
        let Q : ℕ → Type 0 = λ v. (v ≡ c) ⊎ Precedes l c v in
        subst Q at.2 (h.nearest at.0 (omega arith) (subst P (sym at.2) (record { declares = de; in_scope = he })));
  })
