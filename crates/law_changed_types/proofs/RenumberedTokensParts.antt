-- Checks of parts, in turn, find at the new tokens what they found at the old ones.
use Rattle.std.proofs.Common.{ℕ, ◌≡◌, ◌==◌, List, [], ◌∷◌, ◌++◌, map, length, refl, ap, ◌∙◌}
use Rattle.std.proofs.lemmas.List.{length-map}
use Rattle.go_ast.specs.Tree.{Item, Group, single, several}
use Rattle.types_expr.specs.World.{World, Locals, giving}
use Rattle.types_expr.specs.Judge.{Judged, JudgedList, ListValue, Noted}
use Rattle.types_stmt.specs.Checked.{FoundSoFar, with_declared, with_found, with_judged, check_items, check_group}
use Rattle.types_stmt.specs.Sides.{Lefts, receiving, given_faults, given_enterings}
use Rattle.types_stmt.specs.Simple.{with_given}
use Rattle.law_rename.specs.Renumbered.{items_by, group_by}
use Rattle.law_changed_types.specs.Renumbering.{AreRenumberedLocals, IsRenumberedCheck, renumbered_noted, renumbered_uses, renumbered_found}
use Rattle.law_changed_types.proofs.Renumber.{Renumber, new, giving_numbers, ap2, ap3, two, three}
use Rattle.law_changed_types.proofs.RenumberedTokensRules.{list_value, list_values, list_found}
use Rattle.law_changed_types.proofs.Found.{Judging}
use Rattle.law_changed_types.proofs.Sides.{lefts_found, given_faults_found, given_enterings_found}

-- what was found before and after the new numbers
abbrev pub Same : Renumber → FoundSoFar → FoundSoFar → Type 0
Same m s z = IsRenumberedCheck m.to s z

abbrev pub judging : (m : Renumber) (s z : FoundSoFar) → Same m s z → Judging
judging m s z r = record { by = m; locals = s.locals; later = z.locals; are = r.locals }

-- a part with these locals, faults and uses
pub part : (m : Renumber) (s z : FoundSoFar) → Same m s z → (locals later : Locals) → AreRenumberedLocals m.to locals later →
    (fs gs : List ℕ) → gs ≡ map m.to fs → (us xs : List Noted) → xs ≡ renumbered_uses m.to us →
    Same m (with_declared s locals fs us) (with_declared z later gs xs)
part m s z r locals later l fs gs f us xs u = record {
  locals = l;
  faults = ap2 (λ (x y : List ℕ). x ++ y) r.faults f ∙ two m.to s.faults fs;
  uses = ap2 (λ (x y : List Noted). x ++ y) r.uses u ∙ two (renumbered_noted m.to) s.uses us;
}

-- a part that declares no local and uses no member
pub faulty : (m : Renumber) (s z : FoundSoFar) → Same m s z → (fs gs : List ℕ) → gs ≡ map m.to fs → Same m (with_found s fs []) (with_found z gs [])
faulty m s z r fs gs f = part m s z r s.locals z.locals r.locals fs gs f [] [] refl

-- an expression, judged as j before the new numbers and as k after them
pub judged : (m : Renumber) (s z : FoundSoFar) → Same m s z → (j k : Judged) → k ≡ renumbered_found m.to j → (fs gs : List ℕ) → gs ≡ map m.to fs →
    Same m (with_judged s j fs) (with_judged z k gs)
judged m s z r j k e fs gs f =
    part m s z r s.locals z.locals r.locals (j.faults ++ fs) (k.faults ++ gs)
    (ap2 (λ (x : Judged) (y : List ℕ). x.faults ++ y) e f ∙ two m.to j.faults fs) j.uses k.uses (ap (λ (x : Judged). x.uses) e)

-- values at new tokens are received as the old ones are
pub same_receiving : {X : Type 0} (m : Renumber) (sides others : List X) (vs : List ListValue) → length others ≡ length sides →
    receiving (new m) others (list_values m vs) ≡ giving (length vs == length sides) (new m)
same_receiving m sides others vs many = ap2 (λ x y. giving (x == y) (new m)) (length-map vs (list_value m)) many

-- left sides and the values of right sides
pub given : {X : Type 0} (m : Renumber) (s z : FoundSoFar) → Same m s z → (place at : ℕ) → at ≡ m.to place → (sides others : List X) →
    length others ≡ length sides → (locals later : Locals) → AreRenumberedLocals m.to locals later →
    (l k : Lefts) → k ≡ lefts_found m l → (v q : JudgedList) → q ≡ list_found m v →
    Same m (with_given (receiving m.old sides v.values) s place locals l v) (with_given (receiving (new m) others q.values) z at later k q)
given m s z r place at p sides others many locals later a l k e v q f =
    let x = giving_numbers (length v.values == length sides) m in
    part m s z r locals later a _ _
    (ap3 (λ (o : ℕ) (x : Lefts) (y : JudgedList). x.faults ++ (y.faults ++ given_faults (receiving (new m) others y.values) o y.values x.targets)) p e f
    ∙ (ap (λ (w : World). map m.to l.faults ++ (map m.to v.faults ++ given_faults w (m.to place) (list_values m v.values) l.targets))
    (same_receiving m sides others v.values many)
    ∙ (ap (λ (x : List ℕ). map m.to l.faults ++ (map m.to v.faults ++ x)) (given_faults_found x place v.values l.targets)
    ∙ three m.to l.faults v.faults (given_faults x.old place v.values l.targets)))) _ _
    (ap2 (λ (x : Lefts) (y : JudgedList). x.uses ++ (y.uses ++ given_enterings (receiving (new m) others y.values) y.values x.targets)) e f
    ∙ (ap (λ (w : World). renumbered_uses m.to l.uses ++ (renumbered_uses m.to v.uses ++ given_enterings w (list_values m v.values) l.targets))
    (same_receiving m sides others v.values many)
    ∙ (ap (λ (ns : List Noted). renumbered_uses m.to l.uses ++ (renumbered_uses m.to v.uses ++ ns)) (given_enterings_found x v.values l.targets)
    ∙ three (renumbered_noted m.to) l.uses v.uses (given_enterings x.old v.values l.targets))))

-- a check of each part finds the same
abbrev pub EachSame : {X : Type 0} → Renumber → (X → X) → (f g : FoundSoFar → X → FoundSoFar) → Type 0
EachSame {X = X} m h f g = (s z : FoundSoFar) → Same m s z → (x : X) → Same m (f s x) (g z (h x))

pub items : {X : Type 0} (m : Renumber) (h : X → X) (f g : FoundSoFar → X → FoundSoFar) → EachSame m h f g → (s z : FoundSoFar) → Same m s z →
    (is : List (Item X)) → Same m (check_items f s is) (check_items g z (items_by m.to h is))
unfolding check_items
items m h f g each s z r [] = r
items m h f g each s z r (i ∷ is) = items m h f g each (f s i.value) (g z (h i.value)) (each s z r i.value) is

pub group : {X : Type 0} (m : Renumber) (h : X → X) (f g : FoundSoFar → X → FoundSoFar) → EachSame m h f g → (s z : FoundSoFar) → Same m s z →
    (x : Group X) → Same m (check_group f s x) (check_group g z (group_by m.to h x))
unfolding check_group
group m h f g each s z r (single x) = each s z r x
group m h f g each s z r (several o xs c) = items m h f g each s z r xs
