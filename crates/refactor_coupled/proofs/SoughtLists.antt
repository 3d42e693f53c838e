-- Lists of sought type definitions, filled rank by rank and package by package.
use Rattle.std.proofs.Common.{ℕ, ◌≡◌, ◌<◌, Bool, true, List, [], ◌∷◌, ◌++◌, length, inl, inr, ap, sym, subst, refl, ◌∙◌}
use Rattle.std.specs.Prelude.{◌↔◌, Some, None, Contains, slice_get}
use Rattle.std.proofs.lemmas.List.Elements.{Contains-append_left, Contains-push, Contains-push_cases}
use Rattle.std.proofs.lemmas.Option.{none-some, same_Some, slice_get_read, slice_get_within}
use Rattle.base_lemmas.proofs.Elements.{first_in, first_or_later, nothing_in}
use Rattle.types_expr.specs.declared.symbol.Symbol.{Symbol}
use Rattle.types_expr.specs.declared.world.Definition.{Definition as Held}
use Rattle.types_expr.specs.declared.world.Definitions.{Definitions}
use Rattle.types_expr.specs.WorldView.{definition_of, definitions_at, imported_at, ranked}
use Rattle.workspace_check.proofs.PackageFiles.{at_rank}
use Rattle.refs_binding.specs.Bindings.{AddsAll}
use Rattle.refs_binding.proofs.AddingAll.{BelowAll, all_numbers}
use Rattle.refactor_coupled.specs.Called.{IsSoughtAmong, IsSoughtAt, IsSoughtHeld, IsSoughtOf, IsSoughtType, is_sought_type}
use Rattle.refactor_coupled.specs.RenamedTypesView.{definitions_in}

-- the definition of a rank
pub held_as : (ds : Definitions) (old new : List ℕ) (only : Bool) (path : List ℕ) (own : List Held) (rank : ℕ) (held : Held) → slice_get own rank ≡ Some held →
    (s : Symbol) → IsSoughtHeld ds old new only path held rank s ↔ IsSoughtAt ds old new only path own rank s
held_as ds old new only path own rank held at s = (
  (λ k. record { held = held; has_rank = at; sought = k.sought; is_symbol = k.is_symbol }),
  (λ k. record {
    sought =
        subst (λ (x : Held). is_sought_type (definitions_in ds) (definition_of x) old new only ≡ true) (same_Some k.held held (sym k.has_rank ∙ at)) k.sought;
    is_symbol = k.is_symbol;
  }),
)

-- all ranks were passed
pub all_ranks : (ds : Definitions) (old new : List ℕ) (only : Bool) (path : List ℕ) (own : List Held) (n : ℕ) (a b : List Symbol) → n ≡ length own →
    AddsAll a b (BelowAll (IsSoughtAt ds old new only path own) n) → AddsAll a b (IsSoughtAmong ds old new only path own)
all_ranks ds old new only path own n a b e h =
    all_numbers (IsSoughtAt ds old new only path own) (IsSoughtAmong ds old new only path own) n a b (λ rank s k. (rank, k))
    (λ s k. (k.0, subst (λ m. k.0 < m) (sym e) (slice_get_within own k.0 k.1.held k.1.has_rank), k.1)) h

-- The package at a path: its definitions are those that its symbols have.

only_path : (path q : List ℕ) → Contains (path ∷ []) q → path ≡ q
only_path path q h = elim (first_or_later path [] q h) [ inl same ↦ same | inr later ↦ absurd (nothing_in q later) ]

at_path : (ds : Definitions) (path : List ℕ) (s : Symbol) → path ≡ s.package → imported_at ds s ≡ ranked (definitions_at ds path) s.rank
at_path ds path s e = ap (λ q. ranked (definitions_at ds q) s.rank) (sym e)

pub none_at_path : (ds : Definitions) (old new : List ℕ) (only : Bool) (path : List ℕ) → definitions_at ds path ≡ None → (s : Symbol) →
    IsSoughtType ds old new only (path ∷ []) s → ⊥
none_at_path ds old new only path none s k =
    none-some k.held (sym (ap (λ o. ranked o s.rank) none) ∙ sym (at_path ds path s (only_path path s.package k.of_package)) ∙ k.is_held)

pub among_as : (ds : Definitions) (old new : List ℕ) (only : Bool) (path : List ℕ) (own : List Held) → definitions_at ds path ≡ Some own → (s : Symbol) →
    IsSoughtAmong ds old new only path own s ↔ IsSoughtType ds old new only (path ∷ []) s
among_as ds old new only path own is s = (
  (λ k.
      let of_path : s.package ≡ path = ap (λ (t : Symbol). t.package) k.1.is_symbol in
      let rank : s.rank ≡ k.0 = ap (λ (t : Symbol). t.rank) k.1.is_symbol in
      record {
        of_package = subst (Contains (path ∷ [])) (sym of_path) (first_in path []);
        held = k.1.held;
        is_held = at_path ds path s (sym of_path) ∙ ap (λ o. ranked o s.rank) is ∙ ap (slice_get own) rank ∙ k.1.has_rank;
        sought = k.1.sought;
      }),
  (λ k.
      let of_path : path ≡ s.package = only_path path s.package k.of_package in (
        s.rank,
        record {
          held = k.held;
          has_rank = sym (ap (λ o. ranked o s.rank) is) ∙ sym (at_path ds path s of_path) ∙ k.is_held;
          sought = k.sought;
          is_symbol = ap (λ q. record { «package» = q; rank = s.rank }) (sym of_path);
        },
      )),
)

-- All packages were passed.
pub all_sought : (ds : Definitions) (old new : List ℕ) (only : Bool) (paths : List (List ℕ)) (n : ℕ) (a b : List Symbol) → a ≡ [] → n ≡ length paths →
    AddsAll a b (BelowAll (IsSoughtOf ds old new only paths) n) → (s : Symbol) → Contains b s ↔ IsSoughtType ds old new only paths s
all_sought ds old new only paths n a b empty e h s = (
  (λ has. elim (h.only s has) [
    | inl before ↦ absurd (nothing_in s (subst (λ l. Contains l s) empty before))
    | inr k ↦
        let of = k.2 in
        let path : of.path ≡ s.package = only_path of.path s.package of.sought.of_package in
        record {
          of_package = subst (Contains paths) path (at_rank paths k.0 of.path of.has_number);
          held = of.sought.held;
          is_held = of.sought.is_held;
          sought = of.sought.sought;
        }
  ]),
  (λ k. h.holds s (
    k.of_package.0,
    subst (λ m. k.of_package.0 < m) (sym e) k.of_package.1,
    record {
      path = s.package;
      has_number = slice_get_read paths (length paths) k.of_package.0 s.package refl k.of_package.1 (sym k.of_package.2);
      sought = record { of_package = first_in s.package []; held = k.held; is_held = k.is_held; sought = k.sought };
    },
  )),
)

-- one symbol more
pub pushed_all : (a b : List Symbol) (s : Symbol) (P : Symbol → Type 0) → b ≡ a ++ s ∷ [] → P s → ((t : Symbol) → P t → t ≡ s) → AddsAll a b P
pushed_all a b s P is p only = record {
  keeps = λ t has. subst (λ l. Contains l t) (sym is) (Contains-append_left a (s ∷ []) t has);
  holds = λ t q. subst (λ l. Contains l t) (sym is) (subst (Contains (a ++ s ∷ [])) (sym (only t q)) (Contains-push a s));
  only = λ t has. elim (Contains-push_cases a s t (subst (λ l. Contains l t) is has)) [ inl was ↦ inl was | inr same ↦ inr (subst P same p) ];
}

-- the package of a number is the one at its path
pub numbered_as : (ds : Definitions) (old new : List ℕ) (only : Bool) (paths : List (List ℕ)) (number : ℕ) (path : List ℕ) →
    slice_get paths number ≡ Some path →
    (s : Symbol) → IsSoughtType ds old new only (path ∷ []) s ↔ IsSoughtOf ds old new only paths number s
numbered_as ds old new only paths number path at s = (
  (λ k. record { path = path; has_number = at; sought = k }),
  (λ k. subst (λ (p : List ℕ). IsSoughtType ds old new only (p ∷ []) s) (same_Some k.path path (sym k.has_number ∙ at)) k.sought),
)
