-- The run of characters that may continue a name.
use Rattle.std.proofs.Common.{◌≡◌, ℕ, ◌+◌, ◌<◌, ◌≤◌, List, [], ◌∷◌, ◌++◌, Some, Option, Bool, true, false, refl, sym, ap, ◌∙◌, subst, drop, take, length}
use Rattle.std.proofs.Common.{arith, length-take-le, length-append, drop-drop, append_assoc, append-nil}
use Rattle.std.specs.Prelude.{IfSome}
use Rattle.std.specs.List.{list_all}
use Rattle.std.specs.Char.{encode_utf8, IsScalar}
use Rattle.std.specs.Str.{encode_utf8_all, all_scalars}
use Rattle.std.proofs.lemmas.Bool.{and_parts, false≢true}
use Rattle.std.proofs.lemmas.Bool.Decides.{nat_tests}
use Rattle.std.proofs.lemmas.List.{take-append-drop}
use Rattle.std.proofs.lemmas.Str.{encodes-append, encode_same, length-encode, len_utf8_bounds}
use Rattle.bstr.specs.Utf8.{decoded}
use Rattle.bstr.proofs.lemmas.SoundLemmas.{SpellsChar-decoded}
use Rattle.bstr.proofs.lemmas.EncodeLemmas.{decoded-encode}
use Rattle.go_scanner.specs.Characters.{continues_name}
use Rattle.go_scanner.specs.Words.{IsNameRun, NameRunSoFar}
use lib.Utf8.{scalar}

pub run_empty : (bytes : List ℕ) → NameRunSoFar bytes 0
run_empty bytes = record { fits = omega arith; chars = []; scalar = refl; all = refl; spelled = refl; long = refl }

list_all_push : (p : ℕ → Bool) (cs : List ℕ) (c : ℕ) → list_all p cs ≡ true → p c ≡ true → list_all p (cs ++ c ∷ []) ≡ true
list_all_push p [] c all one = rw one refl
list_all_push p (d ∷ cs) c all one = let both = and_parts (p d) (list_all p cs) all in rw (both.0, list_all_push p cs c both.1 one) refl

all_scalars_push : (cs : List ℕ) (c : ℕ) → all_scalars cs ≡ true → IsScalar c → all_scalars (cs ++ c ∷ []) ≡ true
all_scalars_push [] c all one = grind (arith, nat_tests)
all_scalars_push (d ∷ cs) c all one = let both = and_parts (scalar d) (all_scalars cs) all in rw (both.0, all_scalars_push cs c both.1 one) refl

pub run_grows : (bytes : List ℕ) (n c : ℕ) → NameRunSoFar bytes n → (decoded (drop n bytes)).char ≡ Some c → continues_name c ≡ true →
    NameRunSoFar bytes (n + (decoded (drop n bytes)).size)
run_grows bytes n c before found one =
    let at = SpellsChar-decoded (drop n bytes) c found in
    let width : length (encode_utf8 c) ≡ (decoded (drop n bytes)).size = at.width in
    let rest : drop (decoded (drop n bytes)).size (drop n bytes) ≡ drop (n + (decoded (drop n bytes)).size) bytes = drop-drop _ n bytes in
    let spelling : encode_utf8_all (before.chars ++ c ∷ []) ≡ encode_utf8_all before.chars ++ encode_utf8 c = encodes-append before.chars (c ∷ []) ∙
    ap (λ l. encode_utf8_all before.chars ++ l) (append-nil (encode_utf8 c)) in
    let parts : bytes ≡ encode_utf8_all (before.chars ++ c ∷ []) ++ drop (n + (decoded (drop n bytes)).size) bytes =
    before.spelled ∙ ap (λ l. encode_utf8_all before.chars ++ l) (at.bytes ∙ ap (λ l. encode_utf8 c ++ l) rest) ∙
    sym (append_assoc (encode_utf8_all before.chars) (encode_utf8 c) _) ∙ ap (λ l. l ++ drop (n + (decoded (drop n bytes)).size) bytes) (sym spelling) in
    let long : length (encode_utf8_all (before.chars ++ c ∷ [])) ≡ n + (decoded (drop n bytes)).size = ap length spelling ∙
    length-append (encode_utf8_all before.chars) (encode_utf8 c) ∙ omega (arith, before.long) in
    record {
      fits = omega (arith, ap length parts, length-append (encode_utf8_all (before.chars ++ c ∷ [])) (drop (n + (decoded (drop n bytes)).size) bytes));
      chars = before.chars ++ c ∷ [];
      scalar = all_scalars_push before.chars c before.scalar at.scalar;
      all = list_all_push continues_name before.chars c before.all one;
      spelled = parts;
      long = long;
    }

pub char_some : (bytes : List ℕ) (c : ℕ) → (decoded bytes).char ≡ Some c → 0 < (decoded bytes).size
char_some bytes c found = omega (arith, (SpellsChar-decoded bytes c found).width, length-encode c, len_utf8_bounds c)

pub run_stops : (bytes : List ℕ) (n : ℕ) → NameRunSoFar bytes n → IfSome (decoded (drop n bytes)).char (λ c. continues_name c ≡ false) → IsNameRun bytes n
run_stops bytes n before stops = record {
  fits = before.fits;
  chars = before.chars;
  scalar = before.scalar;
  all = before.all;
  spelled =
      before.spelled;
  long = before.long;
  stops = stops;
}

-- where one text begins with two runs of characters, the shorter one continues with a character of the longer one
pub record GoesOn (rest : List ℕ) : Type 0 where
  pub next : ℕ
  pub more : List ℕ
  pub scalar : scalar next ≡ true
  pub continues : continues_name next ≡ true
  pub at : rest ≡ encode_utf8 next ++ more

goes_on : (cs ds r t : List ℕ) → encode_utf8_all cs ++ r ≡ encode_utf8_all ds ++ t → all_scalars ds ≡ true → list_all continues_name ds ≡ true →
    length (encode_utf8_all cs) < length (encode_utf8_all ds) → GoesOn r
goes_on [] [] r t same scalars all shorter = absurd (omega arith)
goes_on [] (d ∷ ds) r t same scalars all shorter = record {
  next = d;
  more = encode_utf8_all ds ++ t;
  scalar = (and_parts _ _ scalars).0;
  continues = (and_parts _ _ all).0;
  at = same ∙ append_assoc (encode_utf8 d) (encode_utf8_all ds) t;
}
goes_on (c ∷ cs) [] r t same scalars all shorter = absurd (omega arith)
goes_on (c ∷ cs) (d ∷ ds) r t same scalars all shorter =
    let heads : encode_utf8 c ++ (encode_utf8_all cs ++ r) ≡ encode_utf8 d ++ (encode_utf8_all ds ++ t) =
    sym (append_assoc (encode_utf8 c) (encode_utf8_all cs) r) ∙ same ∙ append_assoc (encode_utf8 d) (encode_utf8_all ds) t in
    let both = encode_same c d _ _ heads in
    goes_on cs ds r t both.1 (and_parts _ _ scalars).1 (and_parts _ _ all).1
    (omega (
      arith,
      shorter,
      length-append (encode_utf8 c) (encode_utf8_all cs),
      length-append (encode_utf8 d) (encode_utf8_all ds),
      ap (λ x. length (encode_utf8 x)) both.0,
    ))

-- no longer prefix of the bytes consists of such characters
pub run_longest : (bytes : List ℕ) (n m : ℕ) (ds : List ℕ) → IsNameRun bytes n → n < m → m ≤ length bytes → all_scalars ds ≡ true →
    list_all continues_name ds ≡ true → take m bytes ≡ encode_utf8_all ds → ⊥
run_longest bytes n m ds run longer fits scalars all spelled =
    let same : encode_utf8_all run.chars ++ drop n bytes ≡ encode_utf8_all ds ++ drop m bytes = sym run.spelled ∙ sym (take-append-drop m bytes) ∙
    ap (λ l. l ++ drop m bytes) spelled in
    let on = goes_on run.chars ds (drop n bytes) (drop m bytes) same scalars all (omega (arith, run.long, ap length spelled, length-take-le m bytes fits)) in
    let read = ap (λ d. d.char) (ap decoded on.at ∙ decoded-encode on.next on.more on.scalar) in
    let P : Option ℕ → Type 0 = λ o. IfSome o (λ c. continues_name c ≡ false) in
    let no : continues_name on.next ≡ false = subst P read run.stops in
    absurd (false≢true (sym no ∙ on.continues))
