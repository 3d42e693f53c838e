-- Where a method is asked for under a name, a search finds one.
use Rattle.std.proofs.Common.{ℕ, ◌≡◌, inl, inr, Bool, true, false, List, [], ◌∷◌, ap, sym, subst, ◌∙◌}
use Rattle.std.specs.Prelude.{Option, Some, None}
use Rattle.std.specs.Borrow.{Bor}
use Rattle.std.specs.List.{list_any}
use Rattle.std.proofs.lemmas.Bool.{false≢true, or_cases, or_left, or_right}
use Rattle.types_expr.specs.declared.symbol.Symbol.{Symbol}
use Rattle.types_expr.specs.declared.world.Definition.{Definition as Held}
use Rattle.types_expr.specs.World.{Field as Written}
use Rattle.types_expr.specs.declared.world.Definitions.{Definitions}
use Rattle.types_expr.specs.WorldView.{definition_of, definitions_at, names_written}
use Rattle.types_info.proofs.DeclKinds.{Holds}
use Rattle.types_info.proofs.Implementing.{cover}
use Rattle.refactor_coupled.specs.Reached.{IsAskedName, IsAskedNameOfSome, asks_by_symbol, has_asked, is_asked_among, is_asked_by_some, is_asked_member}

pub any_held : (test : List ℕ → Bool) (names : List (List ℕ)) (name : List ℕ) → Holds names name → test name ≡ true → list_any test names ≡ true
any_held test [] name h is = absurd h
any_held test (other ∷ names) name (inl here) is = or_left (test other) (list_any test names) (subst (λ n. test n ≡ true) (sym here) is)
any_held test (other ∷ names) name (inr later) is = or_right (test other) (list_any test names) (any_held test names name later is)

asked_there : (o : Option Written) (s : Symbol) → is_asked_member o s ≡ true → o ≡ None → ⊥
asked_there None s h none = false≢true h
asked_there (Some f) s h none = absurd (false≢true (sym (ap (λ q. is_asked_member q s) none) ∙ h))

pub asked_is_held : (s : Symbol) (x : Held) (name : List ℕ) → asks_by_symbol (definition_of x) s name ≡ true → has_asked s x ≡ true
asked_is_held s x name h = elim (cover s (Some x) name) [
  | inl none ↦ absurd (asked_there ((definition_of x).field name) s h none)
  | inr among ↦ any_held (asks_by_symbol (definition_of x) s) (names_written (Some x)) name among h
]

asked_of_some : (s : Symbol) (name : List ℕ) (own : List Held) → is_asked_by_some own s name ≡ true → list_any (has_asked s) own ≡ true
asked_of_some s name [] h = absurd (false≢true h)
asked_of_some s name (x ∷ own) h = elim (or_cases (asks_by_symbol (definition_of x) s name) (is_asked_by_some own s name) h) [
  | inl here ↦ or_left (has_asked s x) (list_any (has_asked s) own) (asked_is_held s x name here)
  | inr later ↦ or_right (has_asked s x) (list_any (has_asked s) own) (asked_of_some s name own later)
]

pub none_asked : (s : Symbol) (own : List Held) → list_any (has_asked s) own ≡ false → (name : List ℕ) → is_asked_by_some own s name ≡ true → ⊥
none_asked s own none name h = false≢true (sym none ∙ asked_of_some s name own h)

pub no_package_asked : (o : Option (List Held)) (s : Symbol) → o ≡ None → (name : List ℕ) → is_asked_among o s name ≡ true → ⊥
no_package_asked o s none name h = false≢true (sym (ap (λ q. is_asked_among q s name) none) ∙ h)

pub own_asked : (o : Option (List Held)) (own : List Held) (s : Symbol) → o ≡ Some own → (name : List ℕ) → is_asked_among o s name ≡ is_asked_by_some own s name
own_asked o own s is name = ap (λ q. is_asked_among q s name) is

-- What is told of the definitions of the package is told of the symbol.
pub asked_name_told : (ds : Definitions) (s : Symbol) (own : List Held) → definitions_at ds s.package ≡ Some own → (found : Option (Bor (List ℕ))) →
    IsAskedNameOfSome s own found → IsAskedName ds s found
asked_name_told ds s own is None h =
    λ name asks. none_asked s own h name (sym (own_asked (definitions_at ds s.package) own s is name) ∙ asks)
asked_name_told ds s own is (Some found) h = own_asked (definitions_at ds s.package) own s is found.now ∙ h
