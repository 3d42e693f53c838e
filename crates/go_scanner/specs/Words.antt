-- Words: names and keywords by their spelling.
use Rattle.std.specs.Prelude.{◌≡◌, ℕ, ◌≤◌, Bool, ◌&&◌, List, [], ◌∷◌, ◌++◌, IsTrue, drop, length, false, IfSome, length}
use Rattle.std.specs.List.{list_all}
use Rattle.std.specs.Str.{encode_utf8_all, all_scalars}
use Rattle.bstr.specs.Utf8.{decoded}
use Rattle.go_scanner.specs.Characters.{is_letter, continues_name}

-- the characters are a name: a letter, and any number of letters and decimal digits
abbrev pub is_name : List ℕ → Bool
is_name [] = false
is_name (c ∷ cs) = is_letter c && list_all continues_name cs && all_scalars (c ∷ cs)

-- the bytes are the UTF-8 of a name
abbrev pub IsWord : List ℕ → Type 0
IsWord bytes = (cs : List ℕ) × IsTrue (is_name cs) × (bytes ≡ encode_utf8_all cs)

-- the first n bytes are characters that may continue a name
pub record NameRunSoFar (bytes : List ℕ) (n : ℕ) : Type 0 where
  pub fits : n ≤ length bytes
  pub chars : List ℕ
  pub scalar : IsTrue (all_scalars chars)
  pub all : IsTrue (list_all continues_name chars)
  pub spelled : bytes ≡ encode_utf8_all chars ++ drop n bytes
  pub long : length (encode_utf8_all chars) ≡ n

-- the first n bytes are the longest prefix of characters that may continue a name
pub record IsNameRun (bytes : List ℕ) (n : ℕ) : Type 0 where
  pub fits : n ≤ length bytes
  pub chars : List ℕ
  pub scalar : IsTrue (all_scalars chars)
  pub all : IsTrue (list_all continues_name chars)
  pub spelled : bytes ≡ encode_utf8_all chars ++ drop n bytes
  pub long : length (encode_utf8_all chars) ≡ n
  pub stops : IfSome (decoded (drop n bytes)).char (λ c. continues_name c ≡ false)
