-- Outlines: which packages are finished, and the outlines of contents that share parts.
use Rattle.std.proofs.Common.{◌≡◌, ℕ, ◌+◌, ◌-◌, ◌<◌, ◌≤◌, Bool, true, false, List, [], ◌∷◌, ◌++◌, Option, Some, None, slice_get, get_or, length, map, drop}
use Rattle.std.proofs.Common.{refl, sym, ap, subst, ◌∙◌, arith, length-append}
use Rattle.std.proofs.lemmas.Bool.{false≢true}
use Rattle.std.proofs.lemmas.List.{drop-map, ext_get_or, length-map, map-append}
use Rattle.std.proofs.lemmas.Option.{get_or_from_slice_get, none-some, same_Some, slice_get-get_or, slice_get-map, slice_get_within}
use Rattle.std.specs.Option.{is_some, option_map}
use Rattle.base_files.specs.Packages.{package_paths}
use Rattle.base_files.specs.Workspace.{Workspace}
use Rattle.base_files.specs.declared.limits.Limits.{Limits}
use Rattle.build_carry.specs.Carried.{IsCarried}
use Rattle.build_carry.specs.Finished.{Table, IsFinished}
use Rattle.build_carry.proofs.FinishedUnits.{unit_at}
use Rattle.build_unit.specs.Jobs.{JobsOut}
use Rattle.build_unit.specs.declared.unit.Unit.{Unit as PackageUnit}
use Rattle.history_machine.specs.Machine.{Content, newest}
use Rattle.history_machine.specs.State.{State}
use Rattle.law_history.specs.Replays.{Outline, StateOutline, outline, state_outline}

-- ---- marks of finished packages

mark_there : (t : Table) (n : ℕ) (unit : PackageUnit) → slice_get t n ≡ Some (Some unit) → slice_get (map is_some t) n ≡ Some true
mark_there t n unit at = slice_get-map is_some t n ∙ ap (option_map is_some) at

unit_there : (o : Option (Option PackageUnit)) → option_map is_some o ≡ Some true → (unit : PackageUnit) × (o ≡ Some (Some unit))
unit_there None is = absurd (none-some true is)
unit_there (Some None) is = absurd (false≢true (same_Some false true is))
unit_there (Some (Some unit)) is = (unit, refl)

marked_unit : (t : Table) (n : ℕ) → slice_get (map is_some t) n ≡ Some true → (unit : PackageUnit) × (slice_get t n ≡ Some (Some unit))
marked_unit t n is = unit_there (slice_get t n) (sym (slice_get-map is_some t n) ∙ is)

-- where one of two tables with the same marks has a unit, so has the other
pub finished_too : (v w : Workspace) (t u : Table) → v ≡ w → map is_some t ≡ map is_some u → (p : List ℕ) (unit : PackageUnit) →
    IsFinished v t p unit → (other : PackageUnit) × IsFinished w u p other
finished_too v w t u files marks p unit f =
    let there = marked_unit u f.0 (sym (ap (λ ms. slice_get ms f.0) marks) ∙ mark_there t f.0 unit f.2) in
    (there.0, (f.0, sym (ap (λ x. slice_get (package_paths x) f.0) files) ∙ f.1, there.1))

-- ---- a change carries over the same packages

both_true : (a b : Bool) → (a ≡ true → b ≡ true) → (b ≡ true → a ≡ true) → a ≡ b
both_true false false forth back = refl
both_true false true forth back = back refl
both_true true false forth back = sym (forth refl)
both_true true true forth back = refl

mark_is : (t : Table) (i : ℕ) → i < length t → get_or (map is_some t) i false ≡ true → slice_get (map is_some t) i ≡ Some true
mark_is t i within is = slice_get-get_or (map is_some t) i false (omega (arith, within, length-map t is_some)) ∙ ap Some is

carried_mark : (v w : Workspace) (old older new newer : Table) → map is_some old ≡ map is_some older → IsCarried v old w new → IsCarried v older w newer →
    (i : ℕ) → i < length new → get_or (map is_some new) i false ≡ true → get_or (map is_some newer) i false ≡ true
carried_mark v w old older new newer marks one other i within is =
    let unit = marked_unit new i (mark_is new i within is) in
    let p = get_or (package_paths w) i [] in
    let at : slice_get (package_paths w) i ≡ Some p = slice_get-get_or (package_paths w) i [] (omega (arith, within, one.size)) in
    let was = (one.each p unit.0).0 (i, at, unit.1) in
    let too = finished_too v v old older refl marks p unit.0 was.0 in
    let now = (other.each p too.0).1 (too.1, was.1) in
    get_or_from_slice_get (map is_some newer) i true false (mark_there newer i too.0 (unit_at w newer p too.0 i at now))

pub carried_alike : (v w : Workspace) (old older new newer : Table) → map is_some old ≡ map is_some older → IsCarried v old w new → IsCarried v older w newer →
    map is_some new ≡ map is_some newer
carried_alike v w old older new newer marks one other =
    let size : length new ≡ length newer = one.size ∙ sym other.size in
    ext_get_or false (map is_some new) (map is_some newer) (length-map new is_some ∙ size ∙ sym (length-map newer is_some))
    (λ i within. both_true _ _ (carried_mark v w old older new newer marks one other i (omega (arith, within, length-map new is_some)))
    (carried_mark v w older old newer new (sym marks) other one i (omega (arith, within, length-map new is_some, size))))

-- ---- lists of states

pub snoc_same : {X : Type 0} (xs ys : List X) (x y : X) → xs ++ x ∷ [] ≡ ys ++ y ∷ [] → (xs ≡ ys) × (x ≡ y)
snoc_same [] [] x y e = (refl, same_Some x y (ap (λ l. slice_get l 0) e))
snoc_same [] (b ∷ ys) x y e = absurd (omega (arith, ap length e, length-append ys (y ∷ [])))
snoc_same (a ∷ xs) [] x y e = absurd (omega (arith, ap length e, length-append xs (x ∷ [])))
snoc_same (a ∷ xs) (b ∷ ys) x y e =
    let rest = snoc_same xs ys x y (ap (drop 1) e) in (ap (λ l. a ∷ l) rest.0 ∙ ap (λ z. z ∷ ys) (same_Some a b (ap (λ l. slice_get l 0) e)), rest.1)

abbrev pub outlines : List State → List StateOutline
outlines = map state_outline

-- outlines of the newest states
newest_same : (depth : ℕ) (xs ys : List State) → outlines xs ≡ outlines ys → outlines (newest depth xs) ≡ outlines (newest depth ys)
newest_same depth xs ys e =
    let size : length xs ≡ length ys = sym (length-map xs state_outline) ∙ ap length e ∙ length-map ys state_outline in
    sym (drop-map state_outline (length xs - depth) xs) ∙ ap (λ n. drop (n - depth) (outlines xs)) size ∙ ap (drop (length ys - depth)) e
    ∙ drop-map state_outline (length ys - depth) ys

pub pushed_same : (xs ys : List State) (x y : State) → outlines xs ≡ outlines ys → state_outline x ≡ state_outline y →
    outlines (xs ++ x ∷ []) ≡ outlines (ys ++ y ∷ [])
pushed_same xs ys x y e same =
    map-append state_outline xs (x ∷ []) ∙ ap (λ l. l ++ state_outline x ∷ []) e ∙ ap (λ s. outlines ys ++ s ∷ []) same
    ∙ sym (map-append state_outline ys (y ∷ []))

pub popped_same : (xs ys : List State) (x y : State) → outlines (xs ++ x ∷ []) ≡ outlines (ys ++ y ∷ []) →
    (outlines xs ≡ outlines ys) × (state_outline x ≡ state_outline y)
popped_same xs ys x y e =
    snoc_same (outlines xs) (outlines ys) (state_outline x) (state_outline y)
    (sym (map-append state_outline xs (x ∷ [])) ∙ e ∙ map-append state_outline ys (y ∷ []))

-- ---- contents

-- Two contents share all that an outline has but for the Jobs out.
pub record IsLike (c d : Content) : Type 0 where
  pub limits : c.limits ≡ d.limits
  pub earlier : outlines c.earlier ≡ outlines d.earlier
  pub current : state_outline c.current ≡ state_outline d.current
  pub later : outlines c.later ≡ outlines d.later
  pub next : c.next ≡ d.next
  pub visit : c.visit ≡ d.visit
  pub out : c.out ≡ d.out

pub like_of : (c d : Content) → outline c ≡ outline d → IsLike c d
like_of c d e = record {
  limits = ap (λ (o : Outline). o.limits) e;
  earlier = ap (λ (o : Outline). o.earlier) e;
  current = ap (λ (o : Outline). o.current) e;
  later = ap (λ (o : Outline). o.later) e;
  next = ap (λ (o : Outline). o.next) e;
  visit = ap (λ (o : Outline). o.visit) e;
  out = ap (λ (o : Outline). o.out) e;
}

outline_with : Limits → List StateOutline → StateOutline → List StateOutline → ℕ → ℕ → JobsOut → Outline
outline_with limits earlier current later next visit out =
    record { limits = limits; earlier = earlier; current = current; later = later; next = next; visit = visit; out = out }

pub outline_of : (c d : Content) → IsLike c d → outline c ≡ outline d
unfolding outline_with
outline_of c d l =
    ap (λ x. outline_with x (outlines c.earlier) (state_outline c.current) (outlines c.later) c.next c.visit c.out) l.limits
    ∙ ap (λ x. outline_with d.limits x (state_outline c.current) (outlines c.later) c.next c.visit c.out) l.earlier
    ∙ ap (λ x. outline_with d.limits (outlines d.earlier) x (outlines c.later) c.next c.visit c.out) l.current
    ∙ ap (λ x. outline_with d.limits (outlines d.earlier) (state_outline d.current) x c.next c.visit c.out) l.later
    ∙ ap (λ x. outline_with d.limits (outlines d.earlier) (state_outline d.current) (outlines d.later) x c.visit c.out) l.next
    ∙ ap (λ x. outline_with d.limits (outlines d.earlier) (state_outline d.current) (outlines d.later) d.next x c.out) l.visit
    ∙ ap (λ x. outline_with d.limits (outlines d.earlier) (state_outline d.current) (outlines d.later) d.next d.visit x) l.out

state_with : ℕ → Workspace → List Bool → StateOutline
state_with number files finished = record { number = number; files = files; finished = finished }

pub state_same : (a b : State) → a.number ≡ b.number → a.files ≡ b.files → map is_some a.finished ≡ map is_some b.finished → state_outline a ≡ state_outline b
unfolding state_with
state_same a b number files finished =
    ap (λ x. state_with x a.files (map is_some a.finished)) number ∙ ap (λ x. state_with b.number x (map is_some a.finished)) files
    ∙ ap (state_with b.number b.files) finished

pub newest_pushed : (c d : Content) → IsLike c d →
    outlines (newest c.limits.undo_depth (c.earlier ++ c.current ∷ [])) ≡ outlines (newest d.limits.undo_depth (d.earlier ++ d.current ∷ []))
newest_pushed c d l =
    ap (λ (x : Limits). outlines (newest x.undo_depth (c.earlier ++ c.current ∷ []))) l.limits
    ∙ newest_same d.limits.undo_depth (c.earlier ++ c.current ∷ []) (d.earlier ++ d.current ∷ []) (pushed_same c.earlier d.earlier c.current d.current
    l.earlier l.current)
