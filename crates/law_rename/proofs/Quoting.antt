-- A path in double quotes is a string literal.
use Rattle.std.proofs.Common.{ℕ, zero, suc, ◌≡◌, ◌<◌, true, List, [], ◌∷◌, ◌++◌, length, refl, sym, ap, inl, arith}
use Rattle.std.specs.Prelude.{flat_map, slice_index}
use Rattle.std.specs.List.{list_all, concat}
use Rattle.std.specs.Str.{IsAscii}
use Rattle.std.proofs.lemmas.Bool.{and_parts}
use Rattle.std.proofs.lemmas.Str.{IsUtf8-from_ascii}
use Rattle.base_files.specs.Path.{IsPath}
use Rattle.go_scanner.specs.Strings.{are_string_parts, IsString}
use Rattle.go_scanner.specs.StringValues.{part_value, HasStringValue}
use Rattle.go_scanner.specs.Cuts.{IsWellEncoded}
use Rattle.go_scanner.proofs.StringValueLemmas.{one_string_value}
use Rattle.go_respelled.specs.Literals.{IsLiteralOf}
use Rattle.law_rename.proofs.PathBytes.{is_own, path_bytes, own_small, own_some, own_plain}

-- one part for each byte

abbrev pub singles : List ℕ → List (List ℕ)
singles [] = []
singles (b ∷ bs) = (b ∷ []) ∷ singles bs

joined : (bs : List ℕ) → concat (singles bs) ≡ bs
joined [] = refl
joined (b ∷ bs) = ap (λ l. b ∷ l) (joined bs)

valued : (bs : List ℕ) → flat_map part_value (singles bs) ≡ bs
valued [] = refl
valued (b ∷ bs) = ap (λ l. b ∷ l) (valued bs)

parted : (bs : List ℕ) → list_all is_own bs ≡ true → are_string_parts (singles bs) ≡ true
parted [] all = refl
parted (b ∷ bs) all =
    let both = and_parts (is_own b) (list_all is_own bs) all in
    rw (own_plain b both.0, parted bs both.1) refl

pub quoted_string : (path : List ℕ) → list_all is_own path ≡ true → IsString (34 ∷ (path ++ 34 ∷ []))
quoted_string path all = record { parts = singles path; each = parted path all; spelled = ap (λ l. 34 ∷ (l ++ 34 ∷ [])) (sym (joined path)) }

pub quoted_literal : (least : ℕ) (path : List ℕ) → IsPath least path → IsLiteralOf (34 ∷ (path ++ 34 ∷ [])) path
unfolding quoted_string
quoted_literal least path is =
    let string = quoted_string path (path_bytes least path is) in
    let value : HasStringValue (34 ∷ (path ++ 34 ∷ [])) path = inl (string, sym (valued path)) in
    record { piece = string; stands_for = value; no_other = λ other has. one_string_value (34 ∷ (path ++ 34 ∷ [])) other path has value }

-- its encoding

closed_small : (bs : List ℕ) → list_all is_own bs ≡ true → (i : ℕ) → slice_index (bs ++ 34 ∷ []) i < 128
closed_small [] all zero = omega arith
closed_small [] all (suc i) = omega arith
closed_small (b ∷ bs) all zero = own_small b (and_parts (is_own b) (list_all is_own bs) all).0
closed_small (b ∷ bs) all (suc i) = closed_small bs (and_parts (is_own b) (list_all is_own bs) all).1 i

quoted_small : (path : List ℕ) → list_all is_own path ≡ true → IsAscii (34 ∷ (path ++ 34 ∷ []))
quoted_small path all zero = omega arith
quoted_small path all (suc i) = closed_small path all i

closed_some : (bs : List ℕ) → list_all is_own bs ≡ true → (i : ℕ) → i < length (bs ++ 34 ∷ []) → 0 < slice_index (bs ++ 34 ∷ []) i
closed_some [] all zero lt = omega arith
closed_some [] all (suc i) lt = absurd (omega (arith, lt))
closed_some (b ∷ bs) all zero lt = own_some b (and_parts (is_own b) (list_all is_own bs) all).0
closed_some (b ∷ bs) all (suc i) lt = closed_some bs (and_parts (is_own b) (list_all is_own bs) all).1 i (omega (arith, lt))

quoted_some : (path : List ℕ) → list_all is_own path ≡ true → (i : ℕ) → i < length (34 ∷ (path ++ 34 ∷ [])) → 0 < slice_index (34 ∷ (path ++ 34 ∷ [])) i
quoted_some path all zero lt = omega arith
quoted_some path all (suc i) lt = closed_some path all i (omega (arith, lt))

pub quoted_encoded : (least : ℕ) (path : List ℕ) → IsPath least path → IsWellEncoded (34 ∷ (path ++ 34 ∷ []))
quoted_encoded least path is =
    let own = path_bytes least path is in
    (IsUtf8-from_ascii _ (quoted_small path own), λ i lt none. omega (arith, quoted_some path own i lt, none))
