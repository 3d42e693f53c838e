-- The result of a typed getter of the parser for an option with a number.
use Rattle.std.proofs.Common.{◌≡◌, ◌∙◌, ◌<◌, ◌≤◌, ◌^◌, ℕ, List, Option, None, Some, Result, Ok, Err, sym, refl, arith}
use Rattle.std.specs.Str.Parse.{ParsesUnsigned}
use Rattle.clap.specs.Matches.{ReadsOne}
use Rattle.clap.specs.Words.{Row, Text, first_of, one_of}
use Rattle.server_words.specs.CommandRequests.{IsOptionNumber, IsOptional}

module _ {E : Type 0} (G : List ℕ → Result ℕ E → Type 0) (only : (u : List ℕ) (x : Result ℕ E) → G u x → ParsesUnsigned 32 10 u x)
    (option : Text) (rows : List Row) (most : ℕ) (o : Option Text) (at : o ≡ one_of option rows) where
  no_text : (t : Option Text) (n : ℕ) → (t ≡ None → Some n ≡ None) → t ≡ None → ⊥
  no_text t n none e = let bad : Some n ≡ None = none e in absurd cc

  -- a number that was read is the option's
  pub number_read : (n : ℕ) → (o ≡ None → Some n ≡ None) → ((t : List ℕ) → o ≡ Some t → ReadsOne G t (Some n)) → 1 ≤ n → n ≤ most
      → IsOptionNumber option most rows n
  number_read n none value low high = go o refl
    where
      go : (t : Option Text) → o ≡ t → IsOptionNumber option most rows n
      go None e = absurd (no_text o n none e)
      go (Some t) e = let parsed = only t (Ok n) (value t e) in (t, sym at ∙ e, parsed.0.0, parsed.1, low, high)

  pub number_same : (m n : ℕ) → ((t : List ℕ) → o ≡ Some t → ReadsOne G t (Some m)) → IsOptionNumber option most rows n → n ≡ m
  number_same m n value h = let parsed = only h.0 (Ok m) (value h.0 (at ∙ h.1)) in h.3 ∙ sym parsed.1

  pub no_number : most < 2 ^ 32 → ((t : List ℕ) → o ≡ Some t → ReadsOne G t None) → (n : ℕ) → IsOptionNumber option most rows n → ⊥
  no_number small value n h =
      let failed = value h.0 (at ∙ h.1) in
      let high = h.5 in
      let is = h.3 in
      only h.0 (Err failed.0) failed.1 (h.2, omega arith)

-- where an option was given no number from 1 to 1000000, it gives none
pub not_given : (option : Text) (rows : List Row) (s : Text) → Some s ≡ first_of option rows → ((n : ℕ) → IsOptionNumber option 1000000 rows n → ⊥)
    → (given : Option ℕ) → IsOptional option rows given → ⊥
not_given option rows s at none None h = let bad : Some s ≡ None = at ∙ h in absurd cc
not_given option rows s at none (Some n) h = none n h

pub no_socket : (o : Option Text) (text : Text) → None ≡ o → o ≡ Some text → ⊥
no_socket o text none some = let bad : None ≡ Some text = none ∙ some in absurd cc
