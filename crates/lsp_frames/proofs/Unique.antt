-- An input begins with one header, and the header of each frame is read.
use Rattle.std.proofs.Common.{ℕ, suc, false, ◌≡◌, ◌≢◌, ◌<◌, ◌≤◌, ◌^◌, ◌+◌, List, [], ◌∷◌, ◌++◌}
use Rattle.std.proofs.Common.{Option, None, Some, length, refl, sym, ap, subst, ◌∙◌, arith, inl, inr, append_assoc, length-append}
use Rattle.std.specs.Prelude.{codes, decimal}
use Rattle.std.specs.List.{position_or_len}
use Rattle.std.specs.Str.Parse.{AllDigits}
use Rattle.std.proofs.lemmas.Fmt.{decimal_is_IsNumeral, length-decimal-le}
use Rattle.std.proofs.lemmas.Str.Parse.{digit_from_value}
use Rattle.std.proofs.lemmas.Bool.{cases_lt, ne_eqb}
use Rattle.server_read.specs.FirstLine.{after_line, first_line, is_newline}
use Rattle.server_read.proofs.LineSoFar.{after_line-append, line_of-append}
use Rattle.lsp_message.specs.Frames.{frame_of}
use Rattle.lsp_message.specs.Laws.{HeadersOfFrames, LinesSayOneThing, length_line}
use Rattle.lsp_message.specs.declared.header.HeaderField.{HeaderField}
use Rattle.lsp_message.specs.declared.header.HeaderField.TheVariants.{End, Length, Other}
use Rattle.lsp_frames.specs.Heads.{BeginsWithField, HasFields, HasHeader, LineSays, SaysHead, size_said}
use Rattle.lsp_frames.specs.Laws.{FramesAreRead, HeadsSayOneThing}

module _ (one : LinesSayOneThing) where
  one_field : (line : List ℕ) (a b : HeaderField) → LineSays line a → LineSays line b → a ≡ b
  one_field line a b h k = elim (cases_lt 1024 (length line)) [
    | inl long ↦ h.1 long ∙ sym (k.1 long)
    | inr short ↦ one line a b (h.0 short) (k.0 short)
  ]

  -- an input has one list of fields up to its empty line
  one_list : (input : List ℕ) (xs ys : List HeaderField) (rest other : List ℕ) → HasHeader input xs rest → HasHeader input ys other
      → (xs ≡ ys) × (rest ≡ other)
  one_list input [] [] rest other h k = (refl, h.3 ∙ ap after_line (sym h.1 ∙ k.1) ∙ sym k.3)
  one_list input [] (y ∷ ys) rest other h k =
      let ends : BeginsWithField input End = subst (λ i. BeginsWithField i End) (sym h.1) h.2 in
      absurd (k.1.1 (one_field (first_line input) y End k.1.0.1 ends.1))
  one_list input (x ∷ xs) [] rest other h k =
      let ends : BeginsWithField input End = subst (λ i. BeginsWithField i End) (sym k.1) k.2 in
      absurd (h.1.1 (one_field (first_line input) x End h.1.0.1 ends.1))
  one_list input (x ∷ xs) (y ∷ ys) rest other h k =
      let same : x ≡ y = one_field (first_line input) x y h.1.0.1 k.1.0.1 in
      let more : (xs ≡ ys) × (rest ≡ other) = one_list (after_line input) xs ys rest other (h.0, h.1.2, h.2, h.3) (k.0, k.1.2, k.2, k.3) in
      (ap (λ l. x ∷ l) more.0 ∙ ap (λ f. f ∷ ys) same, more.1)

  pub one_head : HeadsSayOneThing
  one_head input a b rest other h k =
      let same : (h.0 ≡ k.0) × (rest ≡ other) = one_list input h.0 k.0 rest other h.1 k.1 in
      (h.2 ∙ ap (λ l. size_said None l) same.0 ∙ sym k.2, same.1)

one_longer : (a b : ℕ) → a ≡ b → 1 + a ≡ suc b
one_longer a b e = omega (arith, e)

-- a number and a carriage return have no line feed
digits_plain : (ds : List ℕ) → AllDigits 10 ds → position_or_len is_newline (ds ++ 13 ∷ []) ≡ length (ds ++ 13 ∷ [])
digits_plain [] h = refl
digits_plain (d ∷ ds) h =
    let range = digit_from_value d h.0 in
    let low : 48 ≤ d = range.0 in
    let other : is_newline d ≡ false = ne_eqb d 10 (λ e. absurd (omega (arith, low, e))) in
    rw other (one_longer (position_or_len is_newline (ds ++ 13 ∷ [])) (length (ds ++ 13 ∷ [])) (digits_plain ds h.1))

line_plain : (body : List ℕ) → length body < 2 ^ 64 → position_or_len is_newline (length_line body) ≡ length (length_line body)
line_plain body h =
    let digits = digits_plain (decimal (length body)) (decimal_is_IsNumeral (length body) h).0.1 in
    one_longer _ _ (one_longer _ _ (one_longer _ _ (one_longer _ _ (one_longer _ _ (one_longer _ _ (one_longer _ _ (one_longer _ _ (
    one_longer _ _ (one_longer _ _ (one_longer _ _ (one_longer _ _ (one_longer _ _ (one_longer _ _ (one_longer _ _ (one_longer _ _ (digits))))))))))))))))

line_short : (body : List ℕ) → length body < 2 ^ 64 → length (length_line body) ≤ 1024
line_short body h =
    let ds : List ℕ = decimal (length body) in
    let few : length ds ≤ 20 = length-decimal-le 20 (length body) (omega arith) (omega (arith, h)) h in
    let all : length (ds ++ 13 ∷ []) ≡ length ds + 1 = length-append ds (13 ∷ []) in
    let whole : length (length_line body) ≡ 16 + length (ds ++ 13 ∷ []) = length-append (codes "Content-Length: ") (ds ++ 13 ∷ []) in
    omega (arith, few, all, whole)

module _ (headed : HeadersOfFrames) where
  -- the two lines of a header
  lines_read : (body more : List ℕ) → length body < 2 ^ 64
      → SaysHead (length_line body ++ 10 ∷ 13 ∷ 10 ∷ (body ++ more)) (Some (length body)) (body ++ more)
  lines_read body more h =
      let line : List ℕ = length_line body in
      let rest : List ℕ = 13 ∷ 10 ∷ (body ++ more) in
      let first : first_line (line ++ 10 ∷ rest) ≡ line = line_of-append line rest (line_plain body h) in
      let behind : after_line (line ++ 10 ∷ rest) ≡ rest = after_line-append line rest (line_plain body h) in
      let last : first_line rest ≡ 13 ∷ [] = line_of-append (13 ∷ []) (body ++ more) refl in
      let end : after_line rest ≡ body ++ more = after_line-append (13 ∷ []) (body ++ more) refl in
      let says : LineSays line (Length (length body)) =
      ((λ _. (headed body h).1), (λ long. absurd (omega (arith, long, line_short body h)))) in
      let ends : LineSays (13 ∷ []) End = ((λ _. (headed body h).2), (λ long. absurd (omega (arith, long)))) in
      let field : BeginsWithField (line ++ 10 ∷ rest) (Length (length body)) =
      ((λ e. cc), subst (λ l. LineSays l (Length (length body))) (sym first) says) in
      (Length (length body) ∷ [], (rest, (field, (λ e. cc), behind), ((λ e. cc), subst (λ l. LineSays l End) (sym last) ends), sym end), refl)

  pub read_back : FramesAreRead
  read_back body more h =
      let whole : frame_of body ++ more ≡ length_line body ++ 10 ∷ 13 ∷ 10 ∷ (body ++ more) =
      ap (λ l. l ++ more) (headed body h).0 ∙ append_assoc (length_line body) (10 ∷ 13 ∷ 10 ∷ body) more in
      subst (λ l. SaysHead l (Some (length body)) (body ++ more)) (sym whole) (lines_read body more h)
