-- The bytes of a path, each of which stands for itself between quotes.
use Rattle.std.proofs.Common.{ℕ, ◌≡◌, ◌<◌, Bool, true, ◌||◌, eqb, List, [], ◌∷◌, refl, arith}
use Rattle.std.specs.List.{list_all, onto_first}
use Rattle.std.proofs.lemmas.Bool.{and_parts, and_from, or_left, or_right}
use Rattle.std.proofs.lemmas.Bool.Decides.{nat_tests}
use Rattle.base_files.specs.Path.{is_path_byte, is_segment, segments, IsPath}
use Rattle.go_scanner.specs.Strings.{is_plain}
use Rattle.go_scanner.proofs.IntegerLemmas.{by_test}

abbrev pub is_own : ℕ → Bool
is_own b = is_path_byte b || eqb b 47

-- the bytes of parts

pub joined_first : (x : ℕ) (parts : List (List ℕ)) → list_all (list_all is_path_byte) (onto_first x parts) ≡ true →
    (is_path_byte x ≡ true) × (list_all (list_all is_path_byte) parts ≡ true)
joined_first x [] all = ((and_parts (is_path_byte x) true (and_parts _ true all).0).0, refl)
joined_first x (part ∷ parts) all =
    let both = and_parts (list_all is_path_byte (x ∷ part)) (list_all (list_all is_path_byte) parts) all in
    let first = and_parts (is_path_byte x) (list_all is_path_byte part) both.0 in
    (first.0, rw (first.1, both.1) refl)

own_parts : (bytes : List ℕ) → list_all (list_all is_path_byte) (segments bytes) ≡ true → list_all is_own bytes ≡ true
own_parts [] all = refl
own_parts (x ∷ xs) all =
    by_test (eqb x 47)
    (λ slash. let rest = own_parts xs (rw slash at all) in and_from (is_own x) (list_all is_own xs) (or_right (is_path_byte x) (eqb x 47) slash) rest)
    (λ other. let first = joined_first x (segments xs) (rw other at all) in let rest = own_parts xs first.1 in
    and_from (is_own x) (list_all is_own xs) (or_left (is_path_byte x) (eqb x 47) first.0) rest)

segment_bytes : (s : List ℕ) → is_segment s ≡ true → list_all is_path_byte s ≡ true
segment_bytes s is = (and_parts _ (list_all is_path_byte s) is).1

all_bytes : (parts : List (List ℕ)) → list_all is_segment parts ≡ true → list_all (list_all is_path_byte) parts ≡ true
all_bytes [] all = refl
all_bytes (s ∷ parts) all =
    let both = and_parts (is_segment s) (list_all is_segment parts) all in
    rw (segment_bytes s both.0, all_bytes parts both.1) refl

pub path_bytes : (least : ℕ) (path : List ℕ) → IsPath least path → list_all is_own path ≡ true
path_bytes least path is = own_parts path (all_bytes (segments path) is.parts)

-- each

pub own_small : (b : ℕ) → is_own b ≡ true → b < 128
own_small b is = grind (arith, nat_tests)

pub own_some : (b : ℕ) → is_own b ≡ true → 0 < b
own_some b is = grind (arith, nat_tests)

pub own_plain : (b : ℕ) → is_own b ≡ true → is_plain b ≡ true
own_plain b is = grind (arith, nat_tests)
