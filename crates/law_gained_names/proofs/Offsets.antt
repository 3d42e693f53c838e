-- Tokens before the inserted name keep their offsets, and those behind it begin later by its bytes.
use Rattle.std.proofs.Common.{ℕ, zero, suc, ◌≡◌, ◌+◌, ◌-◌, ◌<◌, ◌≤◌, inl, inr, true, false, cond, List, [], ◌∷◌, ◌++◌, Option, Some, length, map, refl, sym}
use Rattle.std.proofs.Common.{ap, subst, ◌∙◌, arith, length-append, nat_le}
use Rattle.std.specs.Prelude.{option_map, slice_get, sum_by}
use Rattle.std.specs.Cmp.{nat_cmp_is}
use Rattle.std.specs.List.{AllByRecursion}
use Rattle.std.specs.List.Sorted.{IsStrictlySortedBy}
use Rattle.std.specs.Ordering.{nat_cmp}
use Rattle.std.specs.declared.cmp.Ordering.TheVariants.{Equal, Greater, Less}
use Rattle.std.proofs.lemmas.Bool.{cases_lt}
use Rattle.std.proofs.lemmas.Bool.Decides.{nat_tests}
use Rattle.std.proofs.lemmas.List.Sums.{sum_by-cons}
use Rattle.base_edits.specs.Moved.{moved_offset}
use Rattle.base_edits.specs.declared.edit.Edit.{Edit}
use Rattle.go_scanner.specs.declared.piece.Class.{Class}
use Rattle.go_scanner.specs.declared.piece.Piece.{Piece}
use Rattle.go_scanner.specs.CutText.{tokens_in}
use Rattle.go_scanner.specs.Spans.{FollowFrom, starts}
use Rattle.go_scanner.proofs.SpanLemmas.{tokens_in_order}
use Rattle.go_ast.specs.SourceFile.{offset_at}
use Rattle.law_rename.specs.Around.{from_on}
use Rattle.law_rename.specs.MayGain.{inserted}
use Rattle.law_rename.specs.Named.{before_put, literal_piece, moved_behind, name_piece, put_bytes}
use Rattle.law_rename.proofs.Behind.{LiesBehind}
use Rattle.law_rename.proofs.Gaining.{both_tokens, literal_number, news, texts}
use Rattle.law_rename.proofs.Spelling.{from_first, from_suc, from_zero}
use Rattle.law_rename.proofs.TokensBehind.{behind}
use Rattle.law_gained_names.specs.PutTokens.{TokensKeepClasses, TokensMove, put_edit}

-- one insertion

le_true : (a b : ℕ) → a ≤ b → nat_le a b ≡ true
le_true a b h = grind (arith, nat_tests)

le_false : (a b : ℕ) → b < a → nat_le a b ≡ false
le_false a b h = grind (arith, nat_tests)

abbrev by_test : ℕ → List ℕ → ℕ → List Edit → ℕ
by_test place put offset passed = (offset + sum_by (λ e. length e.text) passed) - sum_by (λ e. e.span.end - e.span.start) passed

moves_not : (place offset : ℕ) (put : List ℕ) → offset < place → moved_offset (inserted place put ∷ []) offset ≡ offset
moves_not place offset put less =
    let none : (offset + 0) - 0 ≡ offset = omega arith in
    ap (λ b. by_test place put offset (cond b (inserted place put ∷ []) [])) (le_false place offset less) ∙ none

moves_by : (place offset : ℕ) (put : List ℕ) → place ≤ offset → moved_offset (inserted place put ∷ []) offset ≡ offset + length put
moves_by place offset put le =
    ap (λ b. by_test place put offset (cond b (inserted place put ∷ []) [])) (le_true place offset le)
    ∙ ap (λ n. (offset + n) - sum_by (λ (e : Edit). e.span.end - e.span.start) (inserted place put ∷ [])) (sum_by-cons (λ (e : Edit). length e.text)
    (inserted place put) [])
    ∙ ap (λ n. (offset + (length put + 0)) - n) (sum_by-cons (λ (e : Edit). e.span.end - e.span.start) (inserted place put) [])
    ∙ whole
  where
    whole : (offset + (length put + 0)) - (place - place + 0) ≡ offset + length put
    whole = omega arith

-- tokens begin one behind the other

less_by : (x y : ℕ) → nat_cmp x y ≡ Less → x < y
less_by x y e = elim (cases_lt x y) [
  | inl less ↦ less
  | inr ge ↦ elim (cases_lt y x) [
    | inl more ↦ (let z : Greater ≡ Less = nat_cmp_is x y Greater more ∙ e in cc)
    | inr le ↦ (let same : x ≡ y = omega (arith, ge, le) in let z : Equal ≡ Less = nat_cmp_is x y Equal same ∙ e in cc)
  ]
]

later_start : (x : ℕ) (ones rest : List Piece) (t : Piece) → AllByRecursion (λ y. nat_cmp x y ≡ Less) (starts (ones ++ t ∷ rest)) → x < t.span.start
later_start x [] rest t all = less_by x t.span.start all.0
later_start x (o ∷ ones) rest t all = later_start x ones rest t all.1

begin_before : (ones rest : List Piece) (t : Piece) → IsStrictlySortedBy nat_cmp (starts (ones ++ t ∷ rest)) →
    AllByRecursion (λ o. o.span.start < t.span.start) ones
unfolding IsStrictlySortedBy
begin_before [] rest t rise = tt
begin_before (o ∷ ones) rest t rise = (later_start o.span.start ones rest t rise.0, begin_before ones rest t rise.1)

follow_behind : (from to : ℕ) (ones rest : List Piece) (t : Piece) → FollowFrom from (ones ++ t ∷ rest) to → AllByRecursion (LiesBehind t.span.start) (t ∷ rest)
follow_behind from to [] rest t follow = ((omega arith, follow.1), behind t.span.start t.span.end to rest follow.1 follow.2)
follow_behind from to (o ∷ ones) rest t follow = follow_behind o.span.end to ones rest t follow.2

-- by number

module _ (place : ℕ) (put old new : List ℕ) (ends : place ≤ length old) (longer : length new ≡ length old + length put) (one : Piece) (move : Piece → Piece)
    (moves : (t : Piece) → place ≤ t.span.start → (move t).span.start ≡ t.span.start + length put) where
  abbrev e : Edit
  e = inserted place put

  behind_moves : (ts : List Piece) → AllByRecursion (LiesBehind place) ts → (n : ℕ) →
      offset_at new (slice_get (map move ts) n) ≡ moved_offset (e ∷ []) (offset_at old (slice_get ts n))
  behind_moves [] all n = longer ∙ sym (moves_by place (length old) put ends)
  behind_moves (t ∷ ts) all zero = moves t all.0.0 ∙ sym (moves_by place t.span.start put all.0.0)
  behind_moves (t ∷ ts) all (suc n) = behind_moves ts all.1 n

  all_move : (ones rest : List Piece) → AllByRecursion (λ o. o.span.start < place) ones → AllByRecursion (LiesBehind place) rest → (n : ℕ) →
      offset_at new (slice_get (ones ++ one ∷ map move rest) (from_on (length ones) n)) ≡ moved_offset (e ∷ []) (offset_at old (slice_get (ones ++ rest) n))
  all_move [] rest before all n =
      ap (λ (k : ℕ). offset_at new (slice_get (one ∷ map move rest) k)) (from_first n) ∙ behind_moves rest all n
  all_move (t ∷ ones) rest before all zero =
      ap (λ (k : ℕ). offset_at new (slice_get (t ∷ (ones ++ one ∷ map move rest)) k)) (from_zero (length ones))
      ∙ sym (moves_not place t.span.start put before.0)
  all_move (t ∷ ones) rest before all (suc n) =
      ap (λ (k : ℕ). offset_at new (slice_get (t ∷ (ones ++ one ∷ map move rest)) k)) (from_suc (length ones) n) ∙ all_move ones rest before.1 all n

pub offsets_move : TokensMove
offsets_move p number may at n =
    let t = both_tokens p may in
    let order = tokens_in_order (texts p) (before_put p).pieces may.is_cut in
    let follow = subst (λ ts. FollowFrom 0 ts (length (texts p))) t.old order.follow in
    let rise = subst (λ ts. IsStrictlySortedBy nat_cmp (starts ts)) t.old order.rise in
    let size : length (news p) ≡ length (texts p) + length (put_bytes p) =
    (let a : length (texts p) ≡ length p.front + length (p.literal ++ p.rest) = length-append p.front (p.literal ++ p.rest) in
    let b : length (news p) ≡ length p.front + length (put_bytes p ++ (p.literal ++ p.rest)) = length-append p.front (put_bytes p ++ (p.literal ++ p.rest)) in
    let c : length (put_bytes p ++ (p.literal ++ p.rest)) ≡ length (put_bytes p) + length (p.literal ++ p.rest) =
    length-append (put_bytes p) (p.literal ++ p.rest) in
    omega (arith, a, b, c)) in
    let ends : length p.front ≤ length (texts p) =
    (let a : length (texts p) ≡ length p.front + length (p.literal ++ p.rest) = length-append p.front (p.literal ++ p.rest) in omega (arith, a)) in
    ap (λ ts. offset_at (news p) (slice_get ts (from_on number n))) t.new
    ∙ ap (λ (k : ℕ). offset_at (news p) (slice_get (t.ones ++ name_piece p ∷ map (moved_behind p) (literal_piece p ∷ t.behind)) (from_on k n)))
    (literal_number p may t number at)
    ∙ all_move (length p.front) (put_bytes p) (texts p) (news p) ends size (name_piece p) (moved_behind p) (λ x le. by_size x le) t.ones
    (literal_piece p ∷ t.behind) (begin_before t.ones t.behind (literal_piece p) rise) (follow_behind 0 (length (texts p)) t.ones t.behind (literal_piece p)
    follow) n
    ∙ ap (λ ts. moved_offset (put_edit p ∷ []) (offset_at (texts p) (slice_get ts n))) (sym t.old)
  where
    by_size : (x : Piece) → length p.front ≤ x.span.start → (moved_behind p x).span.start ≡ x.span.start + length (put_bytes p)
    by_size x le = omega arith

-- classes

class_at : List Piece → ℕ → Option Class
class_at ts n = option_map (λ (t : Piece). t.class) (slice_get ts n)

module _ (one : Piece) (move : Piece → Piece) (same : (t : Piece) → (move t).class ≡ t.class) where
  classes_behind : (ts : List Piece) (n : ℕ) → class_at (map move ts) n ≡ class_at ts n
  unfolding class_at
  classes_behind [] n = refl
  classes_behind (t ∷ ts) zero = ap Some (same t)
  classes_behind (t ∷ ts) (suc n) = classes_behind ts n

  classes_all : (ones rest : List Piece) (n : ℕ) → class_at (ones ++ one ∷ map move rest) (from_on (length ones) n) ≡ class_at (ones ++ rest) n
  unfolding class_at
  classes_all [] rest n = ap (λ (k : ℕ). class_at (one ∷ map move rest) k) (from_first n) ∙ classes_behind rest n
  classes_all (t ∷ ones) rest zero = ap (λ (k : ℕ). class_at (t ∷ (ones ++ one ∷ map move rest)) k) (from_zero (length ones))
  classes_all (t ∷ ones) rest (suc n) =
      ap (λ (k : ℕ). class_at (t ∷ (ones ++ one ∷ map move rest)) k) (from_suc (length ones) n) ∙ classes_all ones rest n

pub classes_kept : TokensKeepClasses
unfolding class_at
classes_kept p number may at n =
    let t = both_tokens p may in
    ap (λ ts. class_at ts (from_on number n)) t.new
    ∙ ap (λ (k : ℕ). class_at (t.ones ++ name_piece p ∷ map (moved_behind p) (literal_piece p ∷ t.behind)) (from_on k n)) (literal_number p may t number at)
    ∙ classes_all (name_piece p) (moved_behind p) (λ x. refl) t.ones (literal_piece p ∷ t.behind) n
    ∙ ap (λ ts. class_at ts n) (sym t.old)
