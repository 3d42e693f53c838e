-- Texts without what stands before or behind them.
use Rattle.std.proofs.Common.{◌≡◌, ◌∙◌, ◌-◌, ◌≤◌, ℕ, true, false, List, length, drop, take, sym, ap, subst, refl, None, Some}
use Rattle.std.specs.Prelude.{nat_eq}
use Rattle.std.specs.List.{ends_with, starts_with}
use Rattle.std.specs.Str.{IsCharBoundary}
use Rattle.std.specs.Str.Pattern.{FindsTextPrefix, FindsTextSuffix}
use Rattle.std.proofs.lemmas.Str.Pattern.{ends_text, starts_text}
use Rattle.tool_text.specs.Plain.{without_prefix, without_suffix}

pub no_prefix : (prefix text : List ℕ) → FindsTextPrefix prefix text None → text ≡ without_prefix prefix text
no_prefix prefix text h = let e : starts_with nat_eq text prefix ≡ false = sym (starts_text false prefix text h) in rw e refl

pub cut_prefix : (prefix text rest : List ℕ) (n : ℕ) → FindsTextPrefix prefix text (Some n) → rest ≡ drop n text → rest ≡ without_prefix prefix text
cut_prefix prefix text rest n h e =
    let starts : starts_with nat_eq text prefix ≡ true =
    sym (starts_text true prefix text (n, h, subst (IsCharBoundary text) (sym h.0) h.2)) in
    rw starts (e ∙ ap (λ k. drop k text) h.0)

pub no_suffix : (suffix text : List ℕ) → FindsTextSuffix suffix text None → text ≡ without_suffix suffix text
no_suffix suffix text h = let e : ends_with nat_eq text suffix ≡ false = sym (ends_text false suffix text h) in rw e refl

pub cut_suffix : (suffix text front : List ℕ) (n : ℕ) → FindsTextSuffix suffix text (Some n) → front ≡ take (length text - n) text → n ≤ length text
    → front ≡ without_suffix suffix text
cut_suffix suffix text front n h e low =
    let ends : ends_with nat_eq text suffix ≡ true =
    sym (ends_text true suffix text (n, h, low, subst (λ k. IsCharBoundary text (length text - k)) (sym h.0) h.2)) in
    rw ends (e ∙ ap (λ k. take (length text - k) text) h.0)
