-- Parts of a text, and what becomes of them where each word that is a symbol gets a new one.
use Rattle.std.proofs.Common.{◌≡◌, ◌∙◌, ◌==◌, ◌&&◌, inl, inr, ℕ, Bool, true, false, not}
use Rattle.std.proofs.Common.{if◌then◌else◌, List, [], ◌∷◌, ◌++◌, append_assoc, append-nil, refl, sym, ap, subst}
use Rattle.std.proofs.lemmas.Bool.{and_from, and_parts, cases_Bool, false≢true}
use Rattle.std.proofs.lemmas.List.Folds.{list_all-append}
use Rattle.std.specs.List.{list_all}
use Rattle.std.specs.Prelude.{None, Option, Some}
use Rattle.build_names.specs.Words.{behind_symbol, is_break, is_symbol_end, symbol_text, word_by, word_with, words_with}
use Rattle.build_names.proofs.Steps.{at_broken, at_ended, at_longer}
use Rattle.build_names.proofs.Symbols.{behind_none}
use Rattle.law_objects.specs.Legible.{IsLegible, is_name_byte}

-- no byte is `#`
abbrev pub is_plain : List ℕ → Bool
is_plain t = list_all (λ b. not (b == 35)) t

-- no byte stands between words
abbrev pub is_whole : List ℕ → Bool
is_whole t = list_all (λ b. not (is_break b)) t

pub plain_both : (a b : List ℕ) → is_plain a ≡ true → is_plain b ≡ true → is_plain (a ++ b) ≡ true
plain_both a b p q = list_all-append (λ x. not (x == 35)) a b ∙ and_from (is_plain a) (is_plain b) p q

pub whole_both : (a b : List ℕ) → is_whole a ≡ true → is_whole b ≡ true → is_whole (a ++ b) ≡ true
whole_both a b p q = list_all-append (λ x. not (is_break x)) a b ∙ and_from (is_whole a) (is_whole b) p q

pub legible_both : (a b : List ℕ) → IsLegible a → IsLegible b → IsLegible (a ++ b)
legible_both a b p q = list_all-append is_name_byte a b ∙ and_from (list_all is_name_byte a) (list_all is_name_byte b) p q

pub legible_plain : (t : List ℕ) → IsLegible t → is_plain t ≡ true
legible_plain [] is = refl
legible_plain (b ∷ bs) is =
    let parts = and_parts (is_name_byte b) (list_all is_name_byte bs) is in
    and_from (not (b == 35)) (is_plain bs) (and_parts (not (is_break b)) (not (b == 35)) parts.0).1 (legible_plain bs parts.1)

pub legible_whole : (t : List ℕ) → IsLegible t → is_whole t ≡ true
legible_whole [] is = refl
legible_whole (b ∷ bs) is =
    let parts = and_parts (is_name_byte b) (list_all is_name_byte bs) is in
    and_from (not (is_break b)) (is_whole bs) (and_parts (not (is_break b)) (not (b == 35)) parts.0).0 (legible_whole bs parts.1)

-- a `#` is not plain
pub no_hash : (a b : List ℕ) → is_plain (a ++ 35 ∷ b) ≡ true → ⊥
no_hash [] b is = false≢true is
no_hash (x ∷ a) b is = no_hash a b (and_parts (not (x == 35)) (is_plain (a ++ 35 ∷ b)) is).1

opposite : (b : Bool) → not b ≡ true → b ≡ false
opposite true is = absurd (false≢true is)
opposite false is = refl

module _ (path name new : List ℕ) where
  abbrev pub old : List ℕ
  old = symbol_text path name

  -- a word without `#` stays
  pub plain_word : (w : List ℕ) → is_plain w ≡ true → word_with old new w ≡ w
  plain_word w is =
      ap (word_by new w)
      (behind_none old w (λ rest e ends. no_hash path (name ++ rest)
      (subst (λ l. is_plain l ≡ true) (e ∙ append_assoc path (35 ∷ name) rest) is)))

  -- bytes without `#` stay, whether words end among them or not
  pub plain_run : (acc t : List ℕ) (c : ℕ) (rest : List ℕ) → is_plain acc ≡ true → is_plain t ≡ true → is_break c ≡ true →
      words_with old new acc (t ++ c ∷ rest) ≡ (acc ++ t) ++ c ∷ words_with old new [] rest
  plain_run acc [] c rest p q is =
      at_broken old new acc c rest is ∙ ap (λ l. l ++ c ∷ words_with old new [] rest) (plain_word acc p ∙ sym (append-nil acc))
  plain_run acc (b ∷ bs) c rest p q is =
      let parts = and_parts (not (b == 35)) (is_plain bs) q in
      elim (cases_Bool (is_break b)) [
        | inl holds ↦
            at_broken old new acc b (bs ++ c ∷ rest) holds
            ∙ ap (λ l. l ++ b ∷ words_with old new [] (bs ++ c ∷ rest)) (plain_word acc p)
            ∙ ap (λ l. acc ++ b ∷ l) (plain_run [] bs c rest refl parts.1 is)
            ∙ sym (append_assoc acc (b ∷ bs) (c ∷ words_with old new [] rest))
        | inr fails ↦
            at_longer old new acc b (bs ++ c ∷ rest) fails
            ∙ plain_run (acc ++ b ∷ []) bs c rest (plain_both acc (b ∷ []) p (and_from (not (b == 35)) true parts.0 refl)) parts.1 is
            ∙ ap (λ l. l ++ c ∷ words_with old new [] rest) (append_assoc acc (b ∷ []) bs)
      ]

  -- a word that goes on to the next byte between words
  pub whole_run : (acc w : List ℕ) (c : ℕ) (rest : List ℕ) → is_whole w ≡ true → is_break c ≡ true →
      words_with old new acc (w ++ c ∷ rest) ≡ word_with old new (acc ++ w) ++ c ∷ words_with old new [] rest
  whole_run acc [] c rest q is =
      at_broken old new acc c rest is ∙ ap (λ l. word_with old new l ++ c ∷ words_with old new [] rest) (sym (append-nil acc))
  whole_run acc (b ∷ w) c rest q is =
      let parts = and_parts (not (is_break b)) (is_whole w) q in
      at_longer old new acc b (w ++ c ∷ rest) (opposite (is_break b) parts.0)
      ∙ whole_run (acc ++ b ∷ []) w c rest parts.1 is
      ∙ ap (λ l. word_with old new l ++ c ∷ words_with old new [] rest) (append_assoc acc (b ∷ []) w)

  -- The text `a` becomes `b` where a word begins before it and the last word in it ends.
  abbrev pub Turns : List ℕ → List ℕ → Type 0
  Turns a b = (c : ℕ) (rest : List ℕ) → is_break c ≡ true → words_with old new [] (a ++ c ∷ rest) ≡ b ++ c ∷ words_with old new [] rest

  pub turns_plain : (t : List ℕ) → is_plain t ≡ true → Turns t t
  turns_plain t plain c rest is = plain_run [] t c rest refl plain is

  pub turns_word : (w : List ℕ) → is_whole w ≡ true → Turns w (word_with old new w)
  turns_word w whole c rest is = whole_run [] w c rest whole is

  pub turns_joined : (a b : List ℕ) → Turns a b → (c : ℕ) → is_break c ≡ true → (t u : List ℕ) → Turns t u → Turns (a ++ c ∷ t) (b ++ c ∷ u)
  turns_joined a b first c between t u second d rest is =
      ap (words_with old new []) (append_assoc a (c ∷ t) (d ∷ rest))
      ∙ first c (t ++ d ∷ rest) between
      ∙ ap (λ l. b ++ c ∷ l) (second d rest is)
      ∙ sym (append_assoc b (c ∷ u) (d ∷ words_with old new [] rest))

  -- Whole lines: the text `a` becomes `b` where a word begins before it and behind it.
  abbrev pub TurnsLines : List ℕ → List ℕ → Type 0
  TurnsLines a b = (rest : List ℕ) → words_with old new [] (a ++ rest) ≡ b ++ words_with old new [] rest

  pub line_turns : (a b : List ℕ) → Turns a b → TurnsLines (a ++ 10 ∷ []) (b ++ 10 ∷ [])
  line_turns a b turns rest =
      ap (words_with old new []) (append_assoc a (10 ∷ []) rest) ∙ turns 10 rest refl ∙ sym (append_assoc b (10 ∷ []) (words_with old new [] rest))

  pub lines_turn : (a b : List ℕ) → TurnsLines a b → (t u : List ℕ) → TurnsLines t u → TurnsLines (a ++ t) (b ++ u)
  lines_turn a b first t u second rest =
      ap (words_with old new []) (append_assoc a t rest) ∙ first (t ++ rest) ∙ ap (λ l. b ++ l) (second rest)
      ∙ sym (append_assoc b u (words_with old new [] rest))

  pub text_turns : (a b : List ℕ) → TurnsLines a b → words_with old new [] a ≡ b
  text_turns a b turns =
      ap (words_with old new []) (sym (append-nil a)) ∙ turns [] ∙ ap (λ l. b ++ l) (at_ended old new [] ∙ plain_word [] refl) ∙ append-nil b
