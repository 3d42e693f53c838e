-- The words of an object's text, and the symbols of package-level declarations among them.
use Rattle.std.specs.Prelude.{ℕ, ◌==◌, ◌||◌, ◌&&◌, Bool, true, if◌then◌else◌, List, [], ◌∷◌, ◌++◌, Option, None, Some, length, take, drop}
use Rattle.std.specs.Cmp.Lexicographic.{pointwise}
use Rattle.std.specs.List.{between}

-- The package-level declaration `old` of the package at the path is called `new`.
pub record NameChange : Type 0 where
  pub path : List ℕ
  pub old : List ℕ
  pub new : List ℕ

-- Whether the byte stands between words: a blank, a line feed, or one of `( ) , ; { } * [ ]`.
abbrev pub is_break : ℕ → Bool
is_break b = b == 32 || b == 10 || b == 40 || b == 41 || b == 44 || b == 59 || b == 123 || b == 125 || b == 42 || b == 91 || b == 93

-- The symbol of a package-level declaration: the path of its package, `#` and its name.
abbrev pub symbol_text : (path name : List ℕ) → List ℕ
symbol_text path name = path ++ 35 ∷ name

-- Whether a symbol ends before these bytes of its word: there are none, or the first is `#`.
abbrev pub is_symbol_end : List ℕ → Bool
is_symbol_end [] = true
is_symbol_end (b ∷ bs) = b == 35

-- Whether a word begins with these bytes.
abbrev pub begins_with : (front word : List ℕ) → Bool
begins_with front word = pointwise ◌==◌ (take (length front) word) front

-- What stands behind the symbol in a word, if the word is the symbol, or begins with it and a `#`.
abbrev pub behind_symbol : (symbol word : List ℕ) → Option (List ℕ)
behind_symbol symbol word =
    if begins_with symbol word && is_symbol_end (drop (length symbol) word) then Some (drop (length symbol) word) else None

-- The new symbol with what stood behind the old one, or the word itself.
abbrev pub word_by : (new word : List ℕ) → Option (List ℕ) → List ℕ
word_by new word None = word
word_by new word (Some rest) = new ++ rest

-- The word, with the symbol `new` in place of `old` if it is `old`, or begins with it and a `#`.
abbrev pub word_with : (old new word : List ℕ) → List ℕ
word_with old new word = word_by new word (behind_symbol old word)

-- The text behind the first bytes of a word: each word has `new` in place of the symbol `old`, and all else stays.
unfoldable pub words_with : (old new word : List ℕ) → List ℕ → List ℕ
words_with old new word [] = word_with old new word
words_with old new word (b ∷ bs) =
    if is_break b then word_with old new word ++ b ∷ words_with old new [] bs else words_with old new (word ++ b ∷ []) bs

-- The text in which each word that is the symbol of the declaration, or begins with it and a `#`, has the new name.
abbrev pub text_with_name : NameChange → List ℕ → List ℕ
text_with_name c text = words_with (symbol_text c.path c.old) (symbol_text c.path c.new) [] text

-- The new text of the first bytes, and what the rest of the text becomes. The byte at `at` is in the word that begins at `start`, or stands
-- directly behind it.
abbrev pub so_far : (old new text done : List ℕ) → (start at : ℕ) → List ℕ
so_far old new text done start at = done ++ words_with old new (between start at text) (drop at text)
