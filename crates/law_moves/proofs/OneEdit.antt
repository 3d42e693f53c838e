-- A text in which one name, or one string literal, is replaced.
use Rattle.std.proofs.Common.{ℕ, ◌≡◌, ◌+◌, ◌-◌, inl, inr, Bool, true, false, List, ◌∷◌, ◌++◌, length, take, drop, map, refl, sym, ap, subst, ◌∙◌, arith}
use Rattle.std.proofs.lemmas.List.{take_at, drop_at}
use Rattle.go_scanner.specs.declared.piece.Class.{Class}
use Rattle.go_scanner.specs.declared.piece.Class.TheVariants as class
use Rattle.go_scanner.specs.declared.piece.Class.TheVariants.{Name, InterpretedString, RawString}
use Rattle.go_scanner.specs.declared.piece.Piece.{Piece}
use Rattle.go_scanner.specs.Cuts.{IsCut, CutsUpTo}
use Rattle.go_scanner.specs.Pieces.{IsPiece}
use Rattle.go_scanner.specs.StringValues.{IsStringPiece}
use Rattle.go_scanner.specs.TokenValues.{IsStringClass}
use Rattle.go_respelled.specs.Literals.{piece_at, literal_at, shifted}
use Rattle.go_respelled.proofs.Leading.{stands_behind}
use Rattle.go_respelled.proofs.Single.{replaced_name}
use Rattle.law_rename.proofs.WholeCut.{replaced_cut}
use Rattle.law_moves.specs.Replacements.{MayReplace, class_by}

-- classes

pub name_kept : (c : Class) (b : Bool) → c ≡ Name → class_by c b ≡ Name
name_kept c b e = ap (λ d. class_by d b) e

string_by : (c : Class) (b : Bool) → IsStringClass c → IsStringClass (class_by c b)
string_by c true (inl e) = inl (ap (λ d. class_by d true) e)
string_by c false (inl e) = inl (ap (λ d. class_by d false) e)
string_by c true (inr e) = inl (ap (λ d. class_by d true) e)
string_by c false (inr e) = inr (ap (λ d. class_by d false) e)

pub string_kept : (c : Class) (b : Bool) → IsStringClass c → IsStringClass (class_by c b)
string_kept c b h = string_by c b h

pub string_put : (c : Class) → IsStringClass c → class_by c true ≡ InterpretedString
string_put c (inl e) = ap (λ d. class_by d true) e
string_put c (inr e) = ap (λ d. class_by d true) e

pub may_still : (c : Class) (b : Bool) (bytes : List ℕ) → MayReplace c bytes → MayReplace (class_by c b) bytes
may_still c b bytes (inl n) = inl (name_kept c b n.0, n.1)
may_still c b bytes (inr s) = inr (string_kept c b s.0, s.1)

-- a string stands there

string_piece : (c : Class) (bytes : List ℕ) → IsStringClass c → IsPiece c bytes → IsStringPiece bytes
string_piece c bytes (inl e) is = inl (subst (λ d. IsPiece d bytes) e is)
string_piece c bytes (inr e) is = inr (subst (λ d. IsPiece d bytes) e is)

no_mark : (c : Class) → IsStringClass c → c ≡ class.ByteOrderMark → ⊥
no_mark c (inl s) e = cc
no_mark c (inr s) e = cc

pub one_replaced : (front old new rest : List ℕ) (before after : List Piece) (p : Piece) → p.span.start ≡ length front →
    p.span.end ≡ length front + length old → MayReplace p.class new → IsCut (front ++ (old ++ rest)) (before ++ p ∷ after) →
    IsCut (front ++ (new ++ rest)) (before ++ piece_at (class_by p.class true) (length front) new
    ∷ map (shifted (length front + length old) (length front + length new)) after)
one_replaced front old new rest before after p start end (inl name) whole =
    let same : p ≡ piece_at Name (length front) old = (λ i. record { class = name.0 i; span = record { start = start i; end = end i } }) in
    let now = replaced_name front old new rest before after name.1 (subst (λ q. IsCut (front ++ (old ++ rest)) (before ++ q ∷ after)) same whole) in
    subst (λ (c : Class). IsCut (front ++ (new ++ rest)) (before ++ piece_at c (length front) new
    ∷ map (shifted (length front + length old) (length front + length new)) after)) (sym (name_kept p.class true name.0)) now
one_replaced front old new rest before after p start end (inr string) whole =
    let text : List ℕ = front ++ (old ++ rest) in
    let found = stands_behind text before after p (no_mark p.class string.0) whole in
    let size : p.span.end - p.span.start ≡ length old = omega (arith, start, end) in
    let piece : IsPiece p.class old = subst (IsPiece p.class)
    ((λ i. take (size i) (drop (start i) text)) ∙ ap (take (length old)) (drop_at front (old ++ rest) (length front) refl)
    ∙ take_at old rest (length old) refl) found.stands.piece in
    let leads = subst (λ (k : ℕ). CutsUpTo text before k) start found.leads in
    let now = replaced_cut 1 front old string.1.path rest before after p string.1.is_path (string_piece p.class old string.0 piece) leads whole in
    subst (λ (c : Class). IsCut (front ++ (new ++ rest)) (before ++ piece_at c (length front) new
    ∷ map (shifted (length front + length old) (length front + length new)) after)) (sym (string_put p.class string.0))
    (subst (λ (bytes : List ℕ). IsCut (front ++ (bytes ++ rest)) (before ++ literal_at (length front) bytes
    ∷ map (shifted (length front + length old) (length front + length bytes)) after)) (sym string.1.spelled) now)
