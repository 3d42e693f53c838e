-- What judging notes: the uses of members and the entries among it, and lists that note no use of a member.
use Rattle.std.proofs.Common.{ℕ, ◌≡◌, Bool, true, false, if◌then◌else◌, List, [], ◌∷◌, ◌++◌, Option, Some, None, inl, inr, ap, subst, ◌∙◌, refl, append-nil}
use Rattle.std.specs.List.{Contains}
use Rattle.base_lemmas.proofs.Elements.{nothing_in, first_in, later_in, first_or_later}
use Rattle.types_expr.specs.Types.{PlainType, BasicType, ValueKind, Typed, Untyped, Nil, is_interface}
use Rattle.types_expr.specs.World.{World, underlying}
use Rattle.types_expr.specs.Operations.{enters}
use Rattle.types_expr.specs.Judge.{MemberUse, Entering, Noted, OfMember, OfEntering, members_of, enterings_of, ListValue, entering, enterings, all_enterings}
use Rattle.types_expr.specs.Judge.{entering_if}

pub members_append : (a b : List Noted) → members_of (a ++ b) ≡ members_of a ++ members_of b
members_append [] b = refl
members_append (OfMember u ∷ a) b = ap (λ us. u ∷ us) (members_append a b)
members_append (OfEntering e ∷ a) b = members_append a b

pub enterings_append : (a b : List Noted) → enterings_of (a ++ b) ≡ enterings_of a ++ enterings_of b
enterings_append [] b = refl
enterings_append (OfMember u ∷ a) b = enterings_append a b
enterings_append (OfEntering e ∷ a) b = ap (λ es. e ∷ es) (enterings_append a b)

-- the use that a note is, or another one
use_or : MemberUse → Noted → MemberUse
use_or other (OfMember u) = u
use_or other (OfEntering e) = other

same_use : (u x : MemberUse) → OfMember u ≡ OfMember x → u ≡ x
unfolding use_or
same_use u x e = ap (use_or u) e

other_note : (e : Entering) (x : MemberUse) → OfEntering e ≡ OfMember x → ⊥
other_note e x same = cc

-- a use of a member among what is noted, and among the uses

pub noted_member : (ns : List Noted) (x : MemberUse) → Contains (members_of ns) x → Contains ns (OfMember x)
noted_member [] x c = absurd (nothing_in x c)
noted_member (OfMember u ∷ ns) x c = elim (first_or_later u (members_of ns) x c) [
  | inl e ↦ subst (λ (y : MemberUse). Contains (OfMember u ∷ ns) (OfMember y)) e (first_in (OfMember u) ns)
  | inr l ↦ later_in (OfMember u) ns (OfMember x) (noted_member ns x l)
]
noted_member (OfEntering e ∷ ns) x c = later_in (OfEntering e) ns (OfMember x) (noted_member ns x c)

pub member_noted : (ns : List Noted) (x : MemberUse) → Contains ns (OfMember x) → Contains (members_of ns) x
member_noted [] x c = absurd (nothing_in (OfMember x) c)
member_noted (OfMember u ∷ ns) x c = elim (first_or_later (OfMember u) ns (OfMember x) c) [
  | inl e ↦ subst (Contains (u ∷ members_of ns)) (same_use u x e) (first_in u (members_of ns))
  | inr l ↦ later_in u (members_of ns) x (member_noted ns x l)
]
member_noted (OfEntering e ∷ ns) x c = elim (first_or_later (OfEntering e) ns (OfMember x) c) [
  | inl same ↦ absurd (other_note e x same)
  | inr l ↦ member_noted ns x l
]

-- These notes are of no use of a member.
abbrev pub NotesNoMember : List Noted → Type 0
NotesNoMember ns = members_of ns ≡ []

pub members_then : (a b : List Noted) → NotesNoMember b → members_of (a ++ b) ≡ members_of a
members_then a b e = members_append a b ∙ (ap (λ us. members_of a ++ us) e ∙ append-nil (members_of a))

pub members_behind : (a b : List Noted) → NotesNoMember a → members_of (a ++ b) ≡ members_of b
members_behind a b e = members_append a b ∙ ap (λ us. us ++ members_of b) e

pub neither_notes : (a b : List Noted) → NotesNoMember a → NotesNoMember b → NotesNoMember (a ++ b)
neither_notes a b f g = members_then a b g ∙ f

-- entries are no uses of members

no_member_if : (is_one enters : Bool) (place : ℕ) (v : PlainType) →
    NotesNoMember (if is_one then [] else (if enters then OfEntering (record { place = place; own = v }) ∷ [] else []))
no_member_if true enters place v = refl
no_member_if false true place v = refl
no_member_if false false place v = refl

pub no_member_entering : (w : World) (place : ℕ) (k : Option ValueKind) (t : PlainType) → NotesNoMember (entering w place k t)
unfolding entering
no_member_entering w place None t = refl
no_member_entering w place (Some (Typed v)) t = no_member_if (is_interface (underlying w v)) (enters w v (underlying w t)) place v
no_member_entering w place (Some (Untyped b)) t =
    no_member_if (is_interface (underlying w (BasicType b))) (enters w (BasicType b) (underlying w t)) place (BasicType b)
no_member_entering w place (Some Nil) t = refl

pub no_member_enterings : (w : World) (vs : List ListValue) (ts : List PlainType) → NotesNoMember (enterings w vs ts)
unfolding enterings
no_member_enterings w [] ts = refl
no_member_enterings w (v ∷ vs) [] = refl
no_member_enterings w (v ∷ vs) (t ∷ ts) =
    neither_notes (entering w v.place v.kind t) (enterings w vs ts) (no_member_entering w v.place v.kind t) (no_member_enterings w vs ts)

pub no_member_all : (w : World) (vs : List ListValue) (t : PlainType) → NotesNoMember (all_enterings w vs t)
unfolding all_enterings
no_member_all w [] t = refl
no_member_all w (v ∷ vs) t =
    neither_notes (entering w v.place v.kind t) (all_enterings w vs t) (no_member_entering w v.place v.kind t) (no_member_all w vs t)

pub no_member_entering_if : (w : World) (place : ℕ) (k : Option ValueKind) (t : Option PlainType) → NotesNoMember (entering_if w place k t)
no_member_entering_if w place k None = refl
no_member_entering_if w place k (Some t) = no_member_entering w place k t
