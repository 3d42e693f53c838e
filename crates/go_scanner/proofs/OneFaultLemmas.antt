-- A text has at most one first fault.
use Rattle.std.proofs.Common.{◌≡◌, ◌≢◌, ◌⊎◌, ℕ, ◌+◌, ◌-◌, ◌<◌, List, [], ◌∷◌, ◌++◌, cond, eqb, refl, sym, ap, ◌∙◌, subst, drop, take, length, arith, inl}
use Rattle.std.proofs.Common.{inr, ⊎_elim}
use Rattle.std.specs.Prelude.{slice_index}
use Rattle.std.specs.List.{concat}
use Rattle.std.proofs.lemmas.Bool.{cases_order}
use Rattle.std.proofs.lemmas.List.{take_all}
use Rattle.base_files.specs.declared.fault_kind.FaultKind.{FaultKind}
use Rattle.base_files.specs.declared.fault_kind.FaultKind.TheVariants as kinds
use Rattle.go_scanner.specs.declared.operators.Operator.TheVariants.{Divide, Period}
use Rattle.go_scanner.specs.declared.piece.Class.TheVariants as class
use Rattle.go_scanner.specs.declared.piece.Piece.{Piece}
use Rattle.go_scanner.specs.declared.refusal.TextFault.{TextFault}
use Rattle.go_scanner.specs.Strings.{IsBadString}
use Rattle.go_scanner.specs.Pieces.{Breaks, IsBadInteger, IsFraction}
use Rattle.go_scanner.specs.Families.{family_of}
use Rattle.go_scanner.specs.Cuts.{CutsTo, IsWellEncoded, IsIllEncodedAt, IsFirstPieceFault, IsFirstFault, mark_len}
use Rattle.go_scanner.proofs.StringLemmas.{same_parts}
use Rattle.go_scanner.proofs.FrontLemmas.{no_bad_integer, no_fraction}
use Rattle.go_scanner.proofs.OneCutLemmas.{one_piece}

-- the fault of a string is at one offset
bad_string_place : (text : List ℕ) (m n : ℕ) → IsBadString text m → IsBadString text n → m ≡ n
bad_string_place text m n a b =
    let both : concat a.parts ++ a.rest ≡ concat b.parts ++ b.rest = ap (drop 1) (sym a.spelled ∙ b.spelled) in
    let same = same_parts a.parts b.parts a.rest b.rest a.each b.each a.stops b.stops both in
    a.place_is
    ∙ ap (λ r. cond (eqb (slice_index r 0) 92) (1 + length (concat a.parts)) 0) same.1
    ∙ ap (λ l. cond (eqb (slice_index b.rest 0) 92) (1 + length (concat l)) 0) same.0
    ∙ sym b.place_is

-- the first bytes of a text in which a rule is broken determine the rule's kind
no_number : (text : List ℕ) (x : ℕ) → slice_index text 0 ≡ x → family_of x ≢ 5 → x ≢ 46 → IsBadInteger text ⊎ IsFraction text → ⊥
no_number text x first digit point bad =
    ⊎_elim (no_bad_integer text (λ e. digit (sym (ap family_of first) ∙ e))) (no_fraction text (λ e. point (sym first ∙ e))) bad

quote_first : (text : List ℕ) (n : ℕ) → Breaks kinds.String n text → (slice_index text 0 ≡ 34) ⊎ (slice_index text 0 ≡ 96)
quote_first text n breaks = ⊎_elim (λ bad. inl (ap (λ t. slice_index t 0) bad.spelled)) (λ raw. inr (ap (λ t. slice_index t 0) raw.1.spelled)) breaks

slash_first : (text : List ℕ) (n : ℕ) → Breaks kinds.Comment n text → slice_index text 0 ≡ 47
slash_first text n breaks = breaks.1.opens.reads 0 (omega arith)

one_byte : (text : List ℕ) (x : ℕ) → 0 < length text → slice_index text 0 ≡ x → take 1 text ≡ x ∷ []
one_byte [] x some first = absurd (omega (arith, some))
one_byte (b ∷ rest) x some first = ap (λ c. c ∷ []) first

number_string : (text : List ℕ) (m n : ℕ) → Breaks kinds.Number m text → Breaks kinds.String n text → ⊥
number_string text m n a b =
    ⊎_elim
    (λ (quote : slice_index text 0 ≡ 34). no_number text 34 quote (λ e. omega (arith, e)) (λ e. omega (arith, e)) a.1)
    (λ (quote : slice_index text 0 ≡ 96). no_number text 96 quote (λ e. omega (arith, e)) (λ e. omega (arith, e)) a.1)
    (quote_first text n b)

number_comment : (text : List ℕ) (m n : ℕ) → Breaks kinds.Number m text → Breaks kinds.Comment n text → ⊥
number_comment text m n a b = no_number text 47 (slash_first text n b) (λ e. omega (arith, e)) (λ e. omega (arith, e)) a.1

string_comment : (text : List ℕ) (m n : ℕ) → Breaks kinds.String m text → Breaks kinds.Comment n text → ⊥
string_comment text m n a b =
    let slash = slash_first text n b in
    ⊎_elim (λ (quote : slice_index text 0 ≡ 34). omega (arith, slash, quote)) (λ (quote : slice_index text 0 ≡ 96). omega (arith, slash, quote))
    (quote_first text m a)

number_character : (text : List ℕ) (m n : ℕ) → Breaks kinds.Number m text → Breaks kinds.Character n text → ⊥
number_character text m n a b =
    ⊎_elim
    (λ (bad : IsBadInteger text). b.4 class.Integer bad.size bad.fits bad.integer)
    (λ (point : IsFraction text). b.4 (class.Operator Period) 1 (omega (arith, b.1)) (one_byte text 46 b.1 point.0))
    a.1

string_character : (text : List ℕ) (m n : ℕ) → Breaks kinds.String m text → Breaks kinds.Character n text → ⊥
string_character text m n a b = ⊎_elim b.2 b.3 (quote_first text m a)

comment_character : (text : List ℕ) (m n : ℕ) → Breaks kinds.Comment m text → Breaks kinds.Character n text → ⊥
comment_character text m n a b = b.4 (class.Operator Divide) 1 (omega (arith, b.1)) (one_byte text 47 b.1 (slash_first text m a))

string_place : (text : List ℕ) (m n : ℕ) → Breaks kinds.String m text → Breaks kinds.String n text → m ≡ n
string_place text m n a b =
    ⊎_elim
    (λ (bad : IsBadString text m). ⊎_elim (bad_string_place text m n bad)
    (λ raw. let first : 34 ≡ 96 = sym (ap (λ t. slice_index t 0) bad.spelled) ∙ ap (λ t. slice_index t 0) raw.1.spelled in absurd (omega (arith, first))) b)
    (λ raw. ⊎_elim
    (λ (bad : IsBadString text n). let first : 34 ≡ 96 = sym (ap (λ t. slice_index t 0) bad.spelled) ∙ ap (λ t. slice_index t 0) raw.1.spelled in
    absurd (omega (arith, first)))
    (λ other. raw.0 ∙ sym other.0) b)
    a

-- at one place one rule is broken
one_break : (j k : FaultKind) (m n : ℕ) (text : List ℕ) → Breaks j m text → Breaks k n text → (j ≡ k) × (m ≡ n)
one_break kinds.Number kinds.Number m n text a b = (refl, a.0 ∙ sym b.0)
one_break kinds.Number kinds.String m n text a b = absurd (number_string text m n a b)
one_break kinds.Number kinds.Comment m n text a b = absurd (number_comment text m n a b)
one_break kinds.Number kinds.Character m n text a b = absurd (number_character text m n a b)
one_break kinds.Number _ m n text a b = absurd b
one_break kinds.String kinds.Number m n text a b = absurd (number_string text n m b a)
one_break kinds.String kinds.String m n text a b = (refl, string_place text m n a b)
one_break kinds.String kinds.Comment m n text a b = absurd (string_comment text m n a b)
one_break kinds.String kinds.Character m n text a b = absurd (string_character text m n a b)
one_break kinds.String _ m n text a b = absurd b
one_break kinds.Comment kinds.Number m n text a b = absurd (number_comment text n m b a)
one_break kinds.Comment kinds.String m n text a b = absurd (string_comment text n m b a)
one_break kinds.Comment kinds.Comment m n text a b = (refl, a.0 ∙ sym b.0)
one_break kinds.Comment kinds.Character m n text a b = absurd (comment_character text m n a b)
one_break kinds.Comment _ m n text a b = absurd b
one_break kinds.Character kinds.Number m n text a b = absurd (number_character text n m b a)
one_break kinds.Character kinds.String m n text a b = absurd (string_character text n m b a)
one_break kinds.Character kinds.Comment m n text a b = absurd (comment_character text n m b a)
one_break kinds.Character kinds.Character m n text a b = (refl, a.0 ∙ sym b.0)
one_break kinds.Character _ m n text a b = absurd b
one_break _ k m n text a b = absurd a

-- the pieces lead up to one place
one_place : (text : List ℕ) (from to other : ℕ) (ps qs : List Piece) (j k : FaultKind) (m n : ℕ) → CutsTo text from ps to → CutsTo text from qs other →
    Breaks j m (drop to text) → Breaks k n (drop other text) → to ≡ other
one_place text from to other [] [] j k m n a b left right = sym a ∙ b
one_place text from to other [] (q ∷ qs) j k m n a b left right = absurd (b.2.sound j m (subst (λ (i : ℕ). Breaks j m (drop i text)) (sym a) left))
one_place text from to other (p ∷ ps) [] j k m n a b left right = absurd (a.2.sound k n (subst (λ (i : ℕ). Breaks k n (drop i text)) (sym b) right))
one_place text from to other (p ∷ ps) (q ∷ qs) j k m n a b left right =
    let same = one_piece (drop from text) p.class q.class (p.span.end - from) (q.span.end - from) a.2 b.2 in
    let end : p.span.end ≡ q.span.end = omega (arith, same.0, a.1, b.1) in
    one_place text q.span.end to other ps qs j k m n (subst (λ (i : ℕ). CutsTo text i ps to) end a.3) b.3 left right

same_fault : (f g : TextFault) → f.kind ≡ g.kind → f.offset ≡ g.offset → f ≡ g
same_fault f g kind offset i = record { offset = offset i; kind = kind i }

-- a text is ill encoded at one offset, and no rule of its pieces is broken first
one_ill_place : (text : List ℕ) (m n : ℕ) → IsIllEncodedAt text m → IsIllEncodedAt text n → m ≡ n
one_ill_place text m n a b =
    ⊎_elim (λ (same : m ≡ n). same)
    (⊎_elim (λ (less : m < n). absurd (a.longest n less (omega (arith, b.short)) b.front))
    (λ (more : n < m). absurd (b.longest m more (omega (arith, a.short)) a.front)))
    (cases_order m n)

ill_or_well : (text : List ℕ) (n : ℕ) → IsIllEncodedAt text n → IsWellEncoded text → ⊥
ill_or_well text n ill well = ill.longest (length text) ill.short (omega arith) (subst IsWellEncoded (sym (take_all (length text) text (omega arith))) well)

one_broken : (text : List ℕ) (f g : TextFault) → IsFirstPieceFault text f → IsFirstPieceFault text g → f ≡ g
one_broken text f g a b =
    let to = one_place text (mark_len text) a.to b.to a.cut.0 b.cut.0 f.kind g.kind a.place b.place a.cut.2 b.cut.2 a.breaks b.breaks in
    let broken = one_break f.kind g.kind a.place b.place (drop b.to text) (subst (λ (i : ℕ). Breaks f.kind a.place (drop i text)) to a.breaks) b.breaks in
    same_fault f g broken.0 (omega (arith, a.offset_is, b.offset_is, to, broken.1))

pub one_fault : (text : List ℕ) (f g : TextFault) → IsFirstFault text f → IsFirstFault text g → f ≡ g
one_fault text f g a b =
    ⊎_elim
    (λ (ill : (f.kind ≡ kinds.Encoding) × IsIllEncodedAt text f.offset). ⊎_elim
    (λ (other : (g.kind ≡ kinds.Encoding) × IsIllEncodedAt text g.offset).
    same_fault f g (ill.0 ∙ sym other.0) (one_ill_place text f.offset g.offset ill.1 other.1))
    (λ (breaks : IsFirstPieceFault text g). absurd (ill_or_well text f.offset ill.1 breaks.encoded)) b)
    (λ (breaks : IsFirstPieceFault text f). ⊎_elim
    (λ (ill : (g.kind ≡ kinds.Encoding) × IsIllEncodedAt text g.offset). absurd (ill_or_well text g.offset ill.1 breaks.encoded))
    (λ (other : IsFirstPieceFault text g). one_broken text f g breaks other) b)
    a
