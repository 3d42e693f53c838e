-- What lists hold.
use Rattle.std.proofs.Common.{ℕ, ◌≡◌, ◌+◌, ◌<◌, ◌≤◌, ◌⊎◌, inl, inr, Bool, true, false, cond, nat_eq, List, [], ◌∷◌, length, vec_len, take}
use Rattle.std.proofs.Common.{filter, get_or, refl, sym, ap, subst, ◌∙◌, arith}
use Rattle.std.specs.Prelude.{Contains}
use Rattle.std.specs.Global.{Vec}
use Rattle.std.proofs.lemmas.Bool.{true≢false, cases_lt, eqb-true, eqb-false}
use Rattle.std.proofs.lemmas.List.{take_more, nil_from_length}
use Rattle.std.proofs.lemmas.List.Elements.{Contains-append_left, Contains-push}
pub use Rattle.workspace_graph.proofs.Collected.{more_cases as taken_or_next}
pub use Rattle.workspace_graph.proofs.SortedLists.{one_sorted}
use Rattle.base_lemmas.proofs.Tests.{not_below}
use Rattle.base_lemmas.proofs.Elements.{nothing_in, first_in, first_or_later, later_in}
use Rattle.types_declared.proofs.ByteKeys.{cases_bytes}

-- nothing, or something

pub some_in : {X : Type 0} (xs : List X) → (xs ≡ [] → ⊥) → (x : X) × Contains xs x
some_in [] ne = absurd (ne refl)
some_in (x ∷ xs) ne = (x, first_in x xs)

pub empty_by : {X : Type 0} (xs : List X) → ((x : X) → Contains xs x → ⊥) → xs ≡ []
empty_by [] none = refl
empty_by (x ∷ xs) none = absurd (none x (first_in x xs))

pub not_empty_by : {X : Type 0} (xs : List X) (x : X) → Contains xs x → xs ≡ [] → ⊥
not_empty_by xs x h e = nothing_in x (subst (λ l. Contains l x) e h)

-- a list one item further

pub still_taken : {X : Type 0} (xs : List X) (k : ℕ) (d x : X) → k < length xs → Contains (take k xs) x → Contains (take (k + 1) xs) x
still_taken xs k d x lt h = subst (λ l. Contains l x) (sym (take_more xs k d lt)) (Contains-append_left (take k xs) (get_or xs k d ∷ []) x h)

pub next_taken : {X : Type 0} (xs : List X) (k : ℕ) (d : X) → k < length xs → Contains (take (k + 1) xs) (get_or xs k d)
next_taken xs k d lt = subst (λ l. Contains l (get_or xs k d)) (sym (take_more xs k d lt)) (Contains-push (take k xs) (get_or xs k d))

-- what a test passes

pub passes : {X : Type 0} (test : X → Bool) (xs : List X) (x : X) → Contains (filter test xs) x → (test x ≡ true) × Contains xs x
passes test [] x h = absurd (nothing_in x h)
passes test (y ∷ ys) x h =
    elim (test y) as (λ b. test y ≡ b → Contains (cond b (y ∷ filter test ys) (filter test ys)) x → (test x ≡ true) × Contains (y ∷ ys) x) [
      | true ↦ λ is c. elim (first_or_later y (filter test ys) x c) [
        | inl e ↦ (subst (λ z. test z ≡ true) e is, subst (Contains (y ∷ ys)) e (first_in y ys))
        | inr d ↦ let r = passes test ys x d in (r.0, later_in y ys x r.1)
      ]
      | false ↦ λ is c. let r = passes test ys x c in (r.0, later_in y ys x r.1)
    ] refl h

pub passed : {X : Type 0} (test : X → Bool) (xs : List X) (x : X) → test x ≡ true → Contains xs x → Contains (filter test xs) x
passed test [] x is h = absurd (nothing_in x h)
passed test (y ∷ ys) x is h =
    elim (test y) as (λ b. test y ≡ b → Contains (cond b (y ∷ filter test ys) (filter test ys)) x) [
      | true ↦ λ here. elim (first_or_later y ys x h) [
        | inl e ↦ subst (Contains (y ∷ filter test ys)) e (first_in y (filter test ys))
        | inr d ↦ later_in y (filter test ys) x (passed test ys x is d)
      ]
      | false ↦ λ here. elim (first_or_later y ys x h) [
        | inl e ↦ absurd (true≢false (sym (subst (λ z. test z ≡ true) (sym e) is) ∙ here))
        | inr d ↦ passed test ys x is d
      ]
    ] refl

-- whether a path is among some

pub cases_contains : (xs : List (List ℕ)) (q : List ℕ) → Contains xs q ⊎ (Contains xs q → ⊥)
cases_contains [] q = inr (λ h. nothing_in q h)
cases_contains (x ∷ xs) q = elim (cases_bytes x q) [
  | inl same ↦ inl (subst (Contains (x ∷ xs)) same (first_in x xs))
  | inr other ↦ elim (cases_contains xs q) [
    | inl there ↦ inl (later_in x xs q there)
    | inr none ↦ inr (λ h. elim (first_or_later x xs q h) [ inl e ↦ other e | inr c ↦ none c ])
  ]
]

-- whether a vector that was tested holds anything

pub vec_holds : {X : Type 0} (xs : Vec X) (b : Bool) → b ≡ nat_eq (vec_len xs) 0 → b ≡ false → xs.items ≡ [] → ⊥
vec_holds xs b is failed e = eqb-false (vec_len xs) 0 (sym is ∙ failed) (xs.ok.0 ∙ ap length e)

pub vec_empty : {X : Type 0} (xs : Vec X) (b : Bool) → b ≡ nat_eq (vec_len xs) 0 → b ≡ true → xs.items ≡ []
vec_empty xs b is passed_it = nil_from_length xs.items (sym xs.ok.0 ∙ eqb-true (vec_len xs) 0 (sym is ∙ passed_it))

-- a test that fails
