-- What stands behind a symbol in a word.
use Rattle.std.proofs.Common.{◌≡◌, ◌≢◌, ◌∙◌, ℕ, ◌&&◌, Bool, true, false, if◌then◌else◌, List}
use Rattle.std.proofs.Common.{◌++◌, length, take, drop, Option, Some, None, refl, sym, ap, subst}
use Rattle.std.specs.Cmp.Lexicographic.{bytes_decides}
use Rattle.std.proofs.Math.Seq.{take-append_seam}
use Rattle.std.proofs.lemmas.List.{append_cancel_left, drop_at, take-append-drop}
use Rattle.build_names.specs.Words.{begins_with, behind_symbol, is_symbol_end}

pub begins : (symbol rest : List ℕ) → begins_with symbol (symbol ++ rest) ≡ true
begins symbol rest = (bytes_decides (take (length symbol) (symbol ++ rest)) symbol).1 (take-append_seam symbol rest)

pub behind_some : (symbol rest : List ℕ) → is_symbol_end rest ≡ true → behind_symbol symbol (symbol ++ rest) ≡ Some rest
behind_some symbol rest ends =
    ap (λ b. if b && is_symbol_end (drop (length symbol) (symbol ++ rest)) then Some (drop (length symbol) (symbol ++ rest)) else None) (begins symbol rest)
    ∙ ap (λ (l : List ℕ). if is_symbol_end l then Some l else None) (drop_at symbol rest (length symbol) refl)
    ∙ ap (λ b. if b then Some rest else None) ends

-- a test that fails
by_test : (a b : Bool) (x : List ℕ) → (a ≡ true → b ≡ true → ⊥) → (if a && b then Some x else None) ≡ None
by_test true true x not = absurd (not refl refl)
by_test true false x not = refl
by_test false b x not = refl

pub behind_none : (symbol word : List ℕ) → ((rest : List ℕ) → word ≡ symbol ++ rest → is_symbol_end rest ≡ true → ⊥) → behind_symbol symbol word ≡ None
behind_none symbol word not =
    by_test (begins_with symbol word) (is_symbol_end (drop (length symbol) word)) (drop (length symbol) word)
    (λ front ends. not (drop (length symbol) word)
    (sym (take-append-drop (length symbol) word) ∙ ap (λ l. l ++ drop (length symbol) word) ((bytes_decides (take (length symbol) word) symbol).0 front)) ends)

-- the word begins with the symbol, but goes on
pub behind_more : (symbol word rest : List ℕ) → word ≡ symbol ++ rest → is_symbol_end rest ≡ false → behind_symbol symbol word ≡ None
behind_more symbol word rest e goes =
    behind_none symbol word (λ other o ends.
    let same : other ≡ rest = append_cancel_left symbol other rest (sym o ∙ e) in
    true_false (sym (subst (λ l. is_symbol_end l ≡ true) same ends) ∙ goes))
  where
    true_false : true ≡ false → ⊥
    true_false e = cc

-- what a search for the symbol finds

pub symbol_found : (symbol word rest : List ℕ) → word ≡ symbol ++ rest → is_symbol_end rest ≡ true → Some rest ≡ behind_symbol symbol word
symbol_found symbol word rest e ends = sym (ap (behind_symbol symbol) e ∙ behind_some symbol rest ends)

pub symbol_longer : (symbol word rest : List ℕ) → word ≡ symbol ++ rest → is_symbol_end rest ≡ false → None ≡ behind_symbol symbol word
symbol_longer symbol word rest e goes = sym (behind_more symbol word rest e goes)

pub symbol_missed : (symbol word : List ℕ) → ((rest : List ℕ) → word ≢ symbol ++ rest) → None ≡ behind_symbol symbol word
symbol_missed symbol word never = sym (behind_none symbol word (λ rest e ends. never rest e))
