-- Words and keywords.
use Rattle.std.proofs.Common.{ℕ, ◌≡◌, Bool, true, ◌&&◌, List, [], ◌∷◌, sym, subst, refl}
use Rattle.std.specs.List.{list_all}
use Rattle.std.specs.Str.{IsUtf8, chars, bytes_eq, all_scalars}
use Rattle.std.proofs.lemmas.Bool.{false≢true, and_from, and_parts, or_left}
use Rattle.std.proofs.lemmas.Str.{encodes-chars, scalars-chars, chars_from_encodes}
use Rattle.go_scanner.specs.declared.keywords.Keyword.{Keyword}
use Rattle.go_scanner.specs.Characters.{is_letter, is_decimal_number, continues_name}
use Rattle.go_scanner.specs.Keywords.{keyword_spelling, all_keywords}
use Rattle.go_scanner.specs.Words.{is_name, IsWord}
use Rattle.std.specs.Cmp.Lexicographic.{bytes_decides}
use Rattle.go_scanner.proofs.FrontLemmas.{name_parts}
use Rattle.go_scanner.proofs.IntegerLemmas.{by_test}
use Rattle.go_scanner.proofs.TableLemmas.{each_keyword}
use Rattle.refactor_rename.specs.NewName.{starts_with_letter, is_other_text}

-- characters that begin with a letter, each of which may stand in a name, are those of a word
name_of : (cs : List ℕ) → starts_with_letter cs ≡ true → list_all continues_name cs ≡ true → all_scalars cs ≡ true → is_name cs ≡ true
name_of [] e all sc = absurd (false≢true e)
name_of (c ∷ cs) e all sc = and_from (is_letter c && list_all continues_name cs) (all_scalars (c ∷ cs))
    (and_from (is_letter c) (list_all continues_name cs) e (and_parts (continues_name c) (list_all continues_name cs) all).1) sc

begins_name : (cs : List ℕ) → is_name cs ≡ true → starts_with_letter cs ≡ true
begins_name [] e = absurd (false≢true e)
begins_name (c ∷ cs) e = (name_parts c cs e).0

continues_all : (cs : List ℕ) → is_name cs ≡ true → list_all continues_name cs ≡ true
continues_all [] e = refl
continues_all (c ∷ cs) e = let parts = name_parts c cs e in
    and_from (continues_name c) (list_all continues_name cs) (or_left (is_letter c) (is_decimal_number c) parts.0) parts.1

pub word_of : (bs : List ℕ) → IsUtf8 bs → starts_with_letter (chars bs) ≡ true → list_all continues_name (chars bs) ≡ true → IsWord bs
word_of bs u e all = (chars bs, name_of (chars bs) e all (scalars-chars bs u), sym (encodes-chars bs u))

word_chars : (bs : List ℕ) → IsUtf8 bs → (w : IsWord bs) → is_name (chars bs) ≡ true
word_chars bs u w = subst (λ cs. is_name cs ≡ true) (chars_from_encodes w.0 bs u (sym w.2)) w.1

pub word_begins : (bs : List ℕ) → IsUtf8 bs → IsWord bs → starts_with_letter (chars bs) ≡ true
word_begins bs u w = begins_name (chars bs) (word_chars bs u w)

pub word_continues : (bs : List ℕ) → IsUtf8 bs → IsWord bs → list_all continues_name (chars bs) ≡ true
word_continues bs u w = continues_all (chars bs) (word_chars bs u w)

-- two texts

other_of : (a b : List ℕ) → (a ≡ b → ⊥) → is_other_text a b ≡ true
other_of a b apart = by_test (bytes_eq a b)
    (λ is. absurd (apart ((bytes_decides a b).0 is)))
    (λ not. rw not refl)

differ : (a b : List ℕ) → is_other_text a b ≡ true → a ≡ b → ⊥
differ a b e same = let yes : bytes_eq a b ≡ true = (bytes_decides a b).1 same in false≢true (rw yes at e)

all_of : {X : Type 0} (p : X → Bool) (xs : List X) → ((x : X) → p x ≡ true) → list_all p xs ≡ true
all_of p [] h = refl
all_of p (x ∷ xs) h = and_from (p x) (list_all p xs) (h x) (all_of p xs h)

-- a text is that of no keyword
pub no_keyword : (bs : List ℕ) → list_all (λ k. is_other_text (keyword_spelling k) bs) all_keywords ≡ true → (k : Keyword) → bs ≡ keyword_spelling k → ⊥
no_keyword bs all k same = differ (keyword_spelling k) bs (each_keyword (λ k. is_other_text (keyword_spelling k) bs) all k) (sym same)

pub all_other : (bs : List ℕ) → ((k : Keyword) → bs ≡ keyword_spelling k → ⊥) → list_all (λ k. is_other_text (keyword_spelling k) bs) all_keywords ≡ true
all_other bs other = all_of (λ k. is_other_text (keyword_spelling k) bs) all_keywords (λ k. other_of (keyword_spelling k) bs (λ same. other k (sym same)))
