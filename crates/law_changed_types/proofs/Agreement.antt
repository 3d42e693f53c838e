-- Worlds that differ in their members alone, and agreement on the members of some uses.
use Rattle.std.proofs.Common.{ℕ, ◌≡◌, List, ◌∷◌, ◌++◌, Option, ap, sym, ◌∙◌}
use Rattle.std.specs.List.{Contains}
use Rattle.std.proofs.lemmas.List.Elements.{Contains-append_left, Contains-append_right}
use Rattle.std.proofs.Math.Path.{fun_ext}
use Rattle.base_lemmas.proofs.Elements.{first_in}
use Rattle.types_expr.specs.Types.{PlainType}
use Rattle.types_expr.specs.World.{World, Member}
use Rattle.types_expr.specs.Judge.{MemberUse, Noted, OfMember}
use Rattle.law_changed_types.specs.MemberUses.{IsAlike}

abbrev pub Members : Type 0
Members = ℕ → PlainType → Option Member

-- the world v with other members
abbrev pub with_members : World → Members → World
with_members v m = record { bound = v.bound; member = m; definition = v.definition; implements = v.implements }

-- the world v with one member for all names and types
abbrev pub with_member : World → Option Member → World
with_member v found = with_members v (λ place t. found)

-- the members m are those of the world v at some uses
pub record AreMembersAt (v : World) (m : Members) (uses : List Noted) : Type 0 where
  pub same : (u : MemberUse) → Contains uses (OfMember u) → m u.place u.before ≡ v.member u.place u.before

-- the uses in a are in b
abbrev pub AreIn : List Noted → List Noted → Type 0
AreIn a b = (u : Noted) → Contains a u → Contains b u

pub of_part : {v : World} {m : Members} {b : List Noted} (a : List Noted) → AreIn a b → AreMembersAt v m b → AreMembersAt v m a
of_part a inside h = record { same = λ u c. h.same u (inside (OfMember u) c) }

pub in_first : (a b : List Noted) → AreIn a (a ++ b)
in_first a b = λ u c. Contains-append_left a b u c

pub in_second : (a b : List Noted) → AreIn b (a ++ b)
in_second a b = λ u c. Contains-append_right a b u c

pub of_first : {v : World} {m : Members} (a b : List Noted) → AreMembersAt v m (a ++ b) → AreMembersAt v m a
of_first a b h = of_part a (in_first a b) h

pub of_second : {v : World} {m : Members} (a b : List Noted) → AreMembersAt v m (a ++ b) → AreMembersAt v m b
of_second a b h = of_part b (in_second a b) h

pub at_first : {v : World} {m : Members} (u : MemberUse) (rest : List Noted) → AreMembersAt v m (OfMember u ∷ rest) →
    m u.place u.before ≡ v.member u.place u.before
at_first u rest h = h.same u (first_in (OfMember u) rest)

-- a world that is alike is the same but for its members
pub only_members_differ : {uses : List Noted} (v w : World) → IsAlike uses v w → with_members v w.member ≡ w
only_members_differ v w h =
    let same : v.implements ≡ w.implements = fun_ext (λ t. fun_ext (λ s. sym (h.implements t s))) in
    ap (λ (b : (token : ℕ) → _). record { bound = b; member = w.member; definition = v.definition; implements = v.implements }) (sym (fun_ext h.bound))
    ∙ ap (λ d. record { bound = w.bound; member = w.member; definition = d; implements = v.implements }) (sym (fun_ext h.definition))
    ∙ ap (λ i. record { bound = w.bound; member = w.member; definition = w.definition; implements = i }) same

pub members_agree : {uses : List Noted} (v w : World) → IsAlike uses v w → AreMembersAt v w.member uses
members_agree v w h = record { same = λ u c. h.members u c }
