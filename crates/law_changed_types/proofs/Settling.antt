-- Checks of parts, in turn, that ask for the members of the uses that they find alone.
use Rattle.std.proofs.Common.{ℕ, ◌≡◌, List, [], ◌∷◌, ◌++◌, refl, ap, ◌∙◌}
use Rattle.go_ast.specs.Tree.{Item, Group, single, several}
use Rattle.types_expr.specs.World.{World, Locals}
use Rattle.types_expr.specs.Judge.{Judged, JudgedList, Noted}
use Rattle.types_stmt.specs.Checked.{FoundSoFar, with_declared, with_judged, check_items, check_group}
use Rattle.types_stmt.specs.Sides.{Lefts, receiving, given_enterings}
use Rattle.types_stmt.specs.Simple.{with_given}
use Rattle.law_changed_types.proofs.Agreement.{Members, with_members, AreMembersAt, AreIn, of_part, in_first, of_first, of_second}
use Rattle.law_changed_types.proofs.StatementRules.{same_given}

-- A part is checked after s in the world v, with the result `old`, and with the members m, with the result `new`. It drops no use, and the
-- two are the same if m has the members of v at the uses in `old`.
pub record IsSettled (v : World) (m : Members) (s old new : FoundSoFar) : Type 0 where
  pub kept : AreIn s.uses old.uses
  pub same : AreMembersAt v m old.uses → new ≡ old

pub unchecked : {v : World} {m : Members} (s : FoundSoFar) → IsSettled v m s s s
unchecked s = record { kept = λ u c. c; same = λ h. refl }

-- a part, then another
pub and_then : {v : World} {m : Members} {s : FoundSoFar} (old new : FoundSoFar) (f g : FoundSoFar → FoundSoFar) → IsSettled v m s old new →
    ((z : FoundSoFar) → IsSettled v m z (f z) (g z)) → IsSettled v m s (f old) (g new)
and_then old new f g first next = let after = next old in record {
  kept = λ u c. after.kept u (first.kept u c);
  same = λ h. ap g (first.same (of_part old.uses after.kept h)) ∙ after.same h;
}

-- a part with the given locals, faults and uses
pub part : {v : World} {m : Members} (s : FoundSoFar) (locals : Locals) (faults : List ℕ) (uses : List Noted) (new : FoundSoFar) →
    (AreMembersAt v m uses → new ≡ with_declared s locals faults uses) → IsSettled v m s (with_declared s locals faults uses) new
part s locals faults uses new f = record { kept = in_first s.uses uses; same = λ h. f (of_second s.uses uses h) }

-- an expression, judged as j in the world v and as k with the members m
pub judged : {v : World} {m : Members} (s : FoundSoFar) (j k : Judged) (f g : Judged → List ℕ) → (AreMembersAt v m j.uses → k ≡ j) →
    (AreMembersAt v m j.uses → g j ≡ f j) → IsSettled v m s (with_judged s j (f j)) (with_judged s k (g k))
judged s j k f g e faults = part s s.locals (j.faults ++ f j) j.uses (with_judged s k (g k)) (λ h. ap (λ (z : Judged). with_judged s z (g z)) (e h)
    ∙ ap (λ (z : List ℕ). with_judged s j z) (faults h))

-- left sides and the values of right sides
pub given : {X : Type 0} (v : World) (m : Members) (s : FoundSoFar) (place : ℕ) (sides : List X) (locals : JudgedList → Locals) (l k : Lefts)
    (r q : JudgedList) → (AreMembersAt v m l.uses → k ≡ l) → (AreMembersAt v m r.uses → q ≡ r) →
    IsSettled v m s (with_given (receiving v sides r.values) s place (locals r) l r)
    (with_given (receiving (with_members v m) sides q.values) s place (locals q) k q)
given v m s place sides locals l k r q lefts rights = let entries = given_enterings (receiving v sides r.values) r.values l.targets in record {
  kept = in_first s.uses (l.uses ++ (r.uses ++ entries));
  same = λ h. let here = of_second s.uses (l.uses ++ (r.uses ++ entries)) h in
      let of_rights = of_first r.uses entries (of_second l.uses (r.uses ++ entries) here) in
      ap (λ (z : Lefts). with_given (receiving (with_members v m) sides q.values) s place (locals q) z q) (lefts (of_first l.uses (r.uses ++ entries) here))
      ∙ (ap (λ (z : JudgedList). with_given (receiving (with_members v m) sides z.values) s place (locals z) l z) (rights of_rights)
      ∙ same_given (receiving v sides r.values) m s place (locals r) l r);
}

pub items : {X : Type 0} {v : World} {m : Members} (f g : FoundSoFar → X → FoundSoFar) → ((s : FoundSoFar) (x : X) → IsSettled v m s (f s x) (g s x)) →
    (s : FoundSoFar) (is : List (Item X)) → IsSettled v m s (check_items f s is) (check_items g s is)
unfolding check_items
items f g each s [] = unchecked s
items f g each s (i ∷ is) =
    and_then (f s i.value) (g s i.value) (λ z. check_items f z is) (λ z. check_items g z is) (each s i.value) (λ z. items f g each z is)

pub group : {X : Type 0} {v : World} {m : Members} (f g : FoundSoFar → X → FoundSoFar) → ((s : FoundSoFar) (x : X) → IsSettled v m s (f s x) (g s x)) →
    (s : FoundSoFar) (x : Group X) → IsSettled v m s (check_group f s x) (check_group g s x)
unfolding check_group
group f g each s (single x) = each s x
group f g each s (several o xs c) = items f g each s xs
