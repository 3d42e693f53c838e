-- Checks of parts, in turn, that find in the moved world what they found in the old one, moved.
use Rattle.std.proofs.Common.{ℕ, ◌≡◌, ◌==◌, List, [], ◌∷◌, ◌++◌, map, length, ap, ◌∙◌, refl}
use Rattle.std.proofs.lemmas.List.{length-map}
use Rattle.go_ast.specs.Tree.{Item, Group, single, several}
use Rattle.types_expr.specs.World.{World, Locals, giving}
use Rattle.types_expr.specs.Judge.{Judged, JudgedList, ListValue, Noted}
use Rattle.types_stmt.specs.Checked.{FoundSoFar, with_declared, with_judged, check_items, check_group}
use Rattle.types_stmt.specs.Sides.{Lefts, receiving, given_enterings}
use Rattle.types_stmt.specs.Simple.{with_given}
use Rattle.law_changed_types.proofs.Agreement.{AreIn, in_first}
use Rattle.law_changed_types.specs.Moved.{moved_locals, moved_noted, moved_found, moved_checked}
use Rattle.law_changed_types.proofs.Moving.{Move, Moves, of_part, of_first, of_second, ap2, ap3}
use Rattle.law_changed_types.proofs.TypesMove.{giving_move}
use Rattle.law_changed_types.proofs.RulesMove.{moved_value, moved_values, moved_list, two_uses, three_uses}
use Rattle.law_changed_types.proofs.SidesMove.{moved_lefts, given_faults_stay, given_enterings_move}

-- A part is checked after s in the old world, with the result `old`. It is checked after the moved s in the new world, with the result
-- `new`. It drops no use, and `new` is `old` moved if the new world has the moved members at the uses in `old`.
pub record IsMoved (m : Move) (s old new : FoundSoFar) : Type 0 where
  pub kept : AreIn s.uses old.uses
  pub same : Moves m old.uses → new ≡ moved_checked m.path old

pub unchecked : {m : Move} (s : FoundSoFar) → IsMoved m s s (moved_checked m.path s)
unchecked s = record { kept = λ u c. c; same = λ h. refl }

-- a part that is the same as another in the new world
pub same_as : {m : Move} {s old : FoundSoFar} (new other : FoundSoFar) → other ≡ new → IsMoved m s old new → IsMoved m s old other
same_as new other e x = record { kept = x.kept; same = λ h. e ∙ x.same h }

-- a part, then another
pub and_then : {m : Move} {s : FoundSoFar} (old new : FoundSoFar) (f g : FoundSoFar → FoundSoFar) → IsMoved m s old new →
    ((z : FoundSoFar) → IsMoved m z (f z) (g (moved_checked m.path z))) → IsMoved m s (f old) (g new)
and_then old new f g first next = let after = next old in record {
  kept = λ u c. after.kept u (first.kept u c);
  same = λ h. ap g (first.same (of_part old.uses after.kept h)) ∙ after.same h;
}

-- moved findings after a part
pub declared_after : (m : Move) (s : FoundSoFar) (locals then_locals : Locals) (faults : List ℕ) (uses : List Noted) →
    then_locals ≡ moved_locals m.path locals →
    with_declared (moved_checked m.path s) then_locals faults (map (moved_noted m.path) uses) ≡ moved_checked m.path (with_declared s locals faults uses)
declared_after m s locals then_locals faults uses e =
    ap2 (λ (ls : Locals) (us : List Noted). record { locals = ls; faults = s.faults ++ faults; uses = us }) e (two_uses m s.uses uses)

-- a part with the given locals, faults and uses
pub part : {m : Move} (s : FoundSoFar) (locals : Locals) (faults : List ℕ) (uses : List Noted) (new : FoundSoFar) →
    (Moves m uses → new ≡ moved_checked m.path (with_declared s locals faults uses)) → IsMoved m s (with_declared s locals faults uses) new
part s locals faults uses new f = record { kept = in_first s.uses uses; same = λ h. f (of_second s.uses uses h) }

-- a part that declares no local and uses no member, with faults that stay
pub faulty : {m : Move} (s : FoundSoFar) (old new : List ℕ) → new ≡ old →
    IsMoved m s (with_declared s s.locals old []) (with_declared (moved_checked m.path s) (moved_locals m.path s.locals) new [])
faulty {m = m} s old new e = part s s.locals old [] _ (λ h.
    ap (λ fs. with_declared (moved_checked m.path s) (moved_locals m.path s.locals) fs []) e
    ∙ declared_after m s s.locals (moved_locals m.path s.locals) old [] refl)

-- an expression, judged as j in the old world and as k in the new one
pub judged : {m : Move} (s : FoundSoFar) (j k : Judged) (f g : Judged → List ℕ) → (Moves m j.uses → k ≡ moved_found m.path j) →
    (Moves m j.uses → g (moved_found m.path j) ≡ f j) → IsMoved m s (with_judged s j (f j)) (with_judged (moved_checked m.path s) k (g k))
judged {m = m} s j k f g e faults = part s s.locals (j.faults ++ f j) j.uses (with_judged (moved_checked m.path s) k (g k)) (λ h.
    ap (λ (z : Judged). with_judged (moved_checked m.path s) z (g z)) (e h)
    ∙ (ap (λ (z : List ℕ). with_judged (moved_checked m.path s) (moved_found m.path j) z) (faults h)
    ∙ declared_after m s s.locals (moved_locals m.path s.locals) (j.faults ++ f j) j.uses refl))

-- moved values are received as the old ones are
pub same_receiving : {X : Type 0} (m : Move) (sides : List X) (vs : List ListValue) →
    receiving m.new sides (moved_values m vs) ≡ giving (length vs == length sides) m.new
same_receiving m sides vs = ap (λ n. giving (n == length sides) m.new) (length-map vs (moved_value m))

given_moves : (m : Move) (s : FoundSoFar) (place : ℕ) (locals then_locals : Locals) (l : Lefts) (r : JudgedList) → then_locals ≡ moved_locals m.path locals →
    with_given m.new (moved_checked m.path s) place then_locals (moved_lefts m l) (moved_list m r) ≡
    moved_checked m.path (with_given m.old s place locals l r)
given_moves m s place locals then_locals l r e =
    let g = moved_noted m.path in
    let entries = given_enterings m.old r.values l.targets in
    ap3 (λ (ls : Locals) (fs : List ℕ) (us : List Noted). record { locals = ls; faults = s.faults ++ (l.faults ++ (r.faults ++ fs)); uses = us }) e
    (given_faults_stay m place r.values l.targets)
    (ap (λ (us : List Noted). map g s.uses ++ (map g l.uses ++ (map g r.uses ++ us))) (given_enterings_move m r.values l.targets)
    ∙ (ap (λ (us : List Noted). map g s.uses ++ us) (three_uses m l.uses r.uses entries) ∙ two_uses m s.uses (l.uses ++ (r.uses ++ entries))))

-- left sides and the values of right sides
pub given : {X : Type 0} (m : Move) (s : FoundSoFar) (place : ℕ) (sides : List X) (old new : JudgedList → Locals) (l k : Lefts) (r q : JudgedList) →
    (Moves m l.uses → k ≡ moved_lefts m l) → (Moves m r.uses → q ≡ moved_list m r) → new (moved_list m r) ≡ moved_locals m.path (old r) →
    IsMoved m s (with_given (receiving m.old sides r.values) s place (old r) l r)
    (with_given (receiving m.new sides q.values) (moved_checked m.path s) place (new q) k q)
given m s place sides old new l k r q lefts rights e = let entries = given_enterings (receiving m.old sides r.values) r.values l.targets in record {
  kept = in_first s.uses (l.uses ++ (r.uses ++ entries));
  same = λ h. let here = of_second s.uses (l.uses ++ (r.uses ++ entries)) h in
      ap2 (λ (y : Lefts) (z : JudgedList). with_given (receiving m.new sides z.values) (moved_checked m.path s) place (new z) y z)
      (lefts (of_first l.uses (r.uses ++ entries) here)) (rights (of_first r.uses entries (of_second l.uses (r.uses ++ entries) here)))
      ∙ ap (λ (z : World). with_given z (moved_checked m.path s) place (new (moved_list m r)) (moved_lefts m l) (moved_list m r))
      (same_receiving m sides r.values)
      ∙ given_moves (giving_move (length r.values == length sides) m) s place (old r) (new (moved_list m r)) l r e;
}

pub items : {X : Type 0} {m : Move} (f g : FoundSoFar → X → FoundSoFar) → ((s : FoundSoFar) (x : X) → IsMoved m s (f s x) (g (moved_checked m.path s) x)) →
    (s : FoundSoFar) (is : List (Item X)) → IsMoved m s (check_items f s is) (check_items g (moved_checked m.path s) is)
unfolding check_items
items f g each s [] = unchecked s
items {m = m} f g each s (i ∷ is) =
    and_then (f s i.value) (g (moved_checked m.path s) i.value) (λ z. check_items f z is) (λ z. check_items g z is) (each s i.value)
    (λ z. items f g each z is)

pub group : {X : Type 0} {m : Move} (f g : FoundSoFar → X → FoundSoFar) → ((s : FoundSoFar) (x : X) → IsMoved m s (f s x) (g (moved_checked m.path s) x)) →
    (s : FoundSoFar) (x : Group X) → IsMoved m s (check_group f s x) (check_group g (moved_checked m.path s) x)
unfolding check_group
group f g each s (single x) = each s x
group f g each s (several o xs c) = items f g each s xs
