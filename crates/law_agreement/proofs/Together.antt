-- The conflicts of a plain rename of a declaration of scopes: those of its package's scopes and those behind the package's name are all.
use Rattle.std.proofs.Common.{ℕ, ◌≡◌, inl, inr, Bool, true, false, List, if◌then◌else◌, ap, sym, subst, refl, ◌∙◌}
use Rattle.std.specs.Prelude.{Option, Some, None}
use Rattle.std.specs.Ordering.{is_lt}
use Rattle.std.specs.declared.cmp.Ordering.TheVariants.{Less}
use Rattle.std.proofs.lemmas.Bool.{cases_Bool, true≢false}
use Rattle.base_lemmas.proofs.Tests.{less_from_test}
use Rattle.base_files.specs.Workspace.{Workspace}
use Rattle.base_files.specs.declared.place.Place.{Place}
use Rattle.base_edits.specs.EditSet.{FileChanges}
use Rattle.base_edits.specs.Revisions.{Revision}
use Rattle.base_edits.specs.RevisionsOfEdits.{revision_of}
use Rattle.go_scope.specs.Bindings.{Layout, IsBoundTo, IsPackageLevel}
use Rattle.go_scope.proofs.Nesting.{Nested}
use Rattle.go_scope.proofs.Nests.{nests}
use Rattle.law_rename.specs.Renaming.{HasNoConflictAt, IsCaptured, IsLost, Renames, WouldCapture, WouldLose}
use Rattle.law_rename.proofs.Conflicts.{captures, loses}
use Rattle.law_rename.proofs.Exactness.{exact_at}
use Rattle.types_declared.specs.Package.{Package}
use Rattle.types_declared.proofs.ByteKeys.{cases_bytes}
use Rattle.workspace_check.specs.Verdicts.{Verdicts}
use Rattle.refs_binding.specs.declared.declaration.Declaration.{Declaration}
use Rattle.refs_binding.specs.declared.declaration.Declaration.TheVariants.{Predeclared, Declared, Field, Method}
use Rattle.refs_binding.specs.Binding.{BindsByScope, IsPredeclaredNumber}
use Rattle.refs_binding.specs.Identifiers.{BeginsAt}
use Rattle.refs_binding.specs.Places.{place_cmp}
use Rattle.refs_binding.specs.Uses.{IsCheckedPackage}
use Rattle.refs_binding.proofs.PlaceOrder.{place_cmp_total}
use Rattle.refs_binding.proofs.Units.{one_package}
use Rattle.refactor_conflict.specs.Conflicts.{ChangesBinding, IsConflict, by_package, by_scope, IsFirstConflict}
use Rattle.refactor_conflict.specs.Firsts.{IsNotBefore}
use Rattle.refactor_conflict.specs.Staying.{StaysAt, StaysByScope}
use Rattle.refactor_conflict.specs.declared.conflict.Capturer.{Capturer}
use Rattle.refactor_conflict.specs.declared.conflict.Conflict.{Conflict}
use Rattle.refactor_conflict.proofs.Firsts.{not_before}
use Rattle.law_renamed_workspaces.proofs.OwnNames.{own_renames}
use Rattle.law_agreement.specs.ConflictsByTables.{IsOwnNumber, OwnConflictsAreTold, WouldTurn}
use Rattle.law_agreement.proofs.OwnConflicts.{numbered}
use Rattle.law_agreement.specs.Behind.{TakenBehind, TurnsBehind, hidden, preceded, repeated}
use Rattle.law_agreement.specs.ScopeConflicts.{HasNoOwnConflict, IsOwnConflict, IsOwnConflictBy, HasNoConflictBehind, IsSameCapturer, IsConflictBehind}
use Rattle.law_agreement.specs.ScopeConflicts.{IsFirstBy, FirstOwnConflict, FirstConflictBehind}
use Rattle.law_agreement.specs.ScopeConflicts.{earlier_conflict, LocalRenamesTurnNoneBehind}
use Rattle.law_agreement.specs.ScopeRenames.{IsRenameIn}
use Rattle.law_agreement.proofs.Afterwards.{KeepsPackages, KeepsMembers, scope_stays}
use Rattle.law_agreement.proofs.Behind as behind
use Rattle.law_agreement.proofs.Behind.{stays}
use Rattle.law_agreement.proofs.Others.{others_by}

-- Where there is no conflict, all stays.

own_scope : (w : Workspace) (known : Verdicts) (p : Package) (n : ℕ) (name : List ℕ) (s : FileChanges) → IsRenameIn w known p n name s →
    KeepsPackages w known (revision_of w s) → (u : ℕ) (place : Place) → BeginsAt p place.path place.offset u → HasNoConflictAt p.layout p.names n name u →
    StaysByScope w known (revision_of w s) p u place
own_scope w known p n name s h keeps u place begins free =
    let a = keeps.there p h.is_package in
    let renames = own_renames w known p.path n name s h.rename p a.0 h.is_package refl a.1.relaid in
    scope_stays w known (revision_of w s) p a.0 a.1 u place begins (λ m was.
    (exact_at p.layout (nests p.layout renames.well_formed) p.names a.0.names n name renames.all_count renames.declared renames.other_name
    renames.renaming u m was).1 free)

pub stays_by : (w : Workspace) (known : Verdicts) (p : Package) (n : ℕ) (name : List ℕ) (s : FileChanges) → IsRenameIn w known p n name s →
    KeepsPackages w known (revision_of w s) → KeepsMembers w known (revision_of w s) → (place : Place) → HasNoOwnConflict p n name place →
    HasNoConflictBehind (IsCheckedPackage w known) p n name place → StaysAt w known (revision_of w s) place
stays_by w known p n name s h keeps members place own free x is u begins = record {
  by_scope = elim (cases_bytes x.path p.path) [
    | inl same ↦
        (let one : p ≡ x = sym (one_package w known x p is h.is_package same) in
        let here : BeginsAt p place.path place.offset u = subst (λ (y : Package). BeginsAt y place.path place.offset u) (sym one) begins in
        subst (λ (y : Package). StaysByScope w known (revision_of w s) y u place) one
        (own_scope w known p n name s h keeps u place here (own u here)))
    | inr away ↦ others_by w known p n name s h keeps.there x is (λ e. away (ap (λ (y : Package). y.path) e)) u place begins
  ];
  by_package = stays w known p n name s h keeps x is u place begins (free x is u begins);
  by_member = (members x is u place begins).0;
  by_name = (members x is u place begins).1;
}

-- Each conflict is one of the change.

pub binds_number : (p : Package) (u m : ℕ) (d : Declaration) → IsOwnNumber p m d → IsBoundTo p.layout p.names u m → BindsByScope p u d
binds_number p u m (Predeclared k) h b = subst (λ j. IsPredeclaredNumber j × IsBoundTo p.layout p.names u j) (sym h.0) (h.1, b)
binds_number p u m (Declared path k) h b =
    let both : (IsPredeclaredNumber k → ⊥) × IsBoundTo p.layout p.names u k =
    subst (λ j. (IsPredeclaredNumber j → ⊥) × IsBoundTo p.layout p.names u j) (sym h.1) (h.2, b) in
    (h.0, both.0, both.1)
binds_number p u m (Field f) h b = absurd h
binds_number p u m (Method f) h b = absurd h

module _ (own_told : OwnConflictsAreTold) (w : Workspace) (known : Verdicts) (p : Package) (n : ℕ) (name : List ℕ) (s : FileChanges)
    (h : IsRenameIn w known p n name s) (keeps : KeepsPackages w known (revision_of w s)) where
  abbrev r : Revision
  r = revision_of w s

  abbrev l : Layout
  l = p.layout

  abbrev q : Package
  q = (keeps.there p h.is_package).0

  renames : Renames l p.names n name q.names
  renames = own_renames w known p.path n name s h.rename p q h.is_package refl (keeps.there p h.is_package).1.relaid

  nested : Nested l
  nested = nests l renames.well_formed

  captured : (u c : ℕ) → WouldCapture l p.names n name u c → IsCaptured l p.names q.names u c
  captured u c k =
      captures l nested p.names q.names n name renames.all_count renames.declared renames.other_name renames.renaming u c k

  lost : (u : ℕ) → WouldLose l p.names n name u → IsLost l p.names q.names u
  lost u k = loses l nested p.names q.names n name renames.all_count renames.declared renames.other_name renames.renaming u k

  module _ (place : Place) (u : ℕ) (begins : BeginsAt p place.path place.offset u) where
    turned : (m : ℕ) → IsBoundTo l p.names u m → (by : Option Capturer) → WouldTurn w known p n name u by →
        ChangesBinding w known r p u (record { used = place; by = by })
    turned m was by turn =
        let d = numbered p m in
        let binds = binds_number p u m d.0 d.1 was in
        by_scope d.0 binds ((own_told w known p n name s h.rename h.is_package place u begins d.0 binds by).1 turn)

    own_changes : (by : Option Capturer) → IsOwnConflictBy (IsCheckedPackage w known) p n name u by →
        ChangesBinding w known r p u (record { used = place; by = by })
    own_changes None k =
        let x = lost u k in
        turned x.old x.was None ((λ free. free.not_lost k), (λ c taken. x.bound_to_none c (captured u c taken).now_bound))
    own_changes (Some by) k =
        let x = captured u k.0 k.1.0 in
        turned x.old x.was (Some by) (k.0, (k.1.0, (k.1.1.declaration, (k.1.1.numbered, k.1.1.told))))

  pub own_is : (c : Conflict) → IsOwnConflict (IsCheckedPackage w known) p n name c → IsConflict w known r c
  own_is c k = record {
    used_in = p;
    is_package = h.is_package;
    conflict = record { user = k.user; begins = k.begins; turned = own_changes c.used k.user k.begins c.by k.has };
  }

named_taken : (Known : Package → Type 0) (p : Package) (n : ℕ) (name : List ℕ) (old : ℕ) (by : Option ℕ) (told : Option Capturer) →
    TurnsBehind p.layout p.names n name old by → IsSameCapturer Known p by told → TakenBehind Known p n name old told
named_taken Known p n name old None None turns same = turns
named_taken Known p n name old None (Some t) turns same = absurd same
named_taken Known p n name old (Some c) None turns same = absurd same
named_taken Known p n name old (Some c) (Some t) turns same = (c, (turns, same))

pub behind_is : (w : Workspace) (known : Verdicts) (p : Package) (n : ℕ) (name : List ℕ) (s : FileChanges) → IsRenameIn w known p n name s →
    KeepsPackages w known (revision_of w s) → (c : Conflict) → IsConflictBehind (IsCheckedPackage w known) p n name c → IsConflict w known (revision_of w s) c
behind_is w known p n name s h keeps c k =
    let t = k.turns in record {
      used_in = k.used_in;
      is_package = k.is_package;
      conflict = record {
        user = k.user;
        begins = k.begins;
        turned =
            by_package (Declared p.path t.old) t.was
            (behind.turned w known p n name s h keeps k.used_in k.is_package k.user c.used k.begins t.old t.was c.by
            (named_taken (IsCheckedPackage w known) p n name t.old k.by c.by t.turns k.told));
      };
    }

-- The first of them is the earlier one of the first ones.

-- what comes before a place comes before each place that does not precede that
before_later : (x a b : Place) → place_cmp x a ≡ Less → IsNotBefore b a → (place_cmp x b ≡ Less → ⊥) → ⊥
before_later x a b less later not = not_before x b a not later less

is_less : (x b : Place) → ((place_cmp x b ≡ Less → ⊥) → ⊥) → place_cmp x b ≡ Less
is_less x b h = elim (cases_Bool (is_lt (place_cmp x b))) [
  | inl less ↦ less_from_test (place_cmp x b) less
  | inr not ↦ absurd (h (λ less. true≢false (sym (ap is_lt less) ∙ not)))
]

module _ (w : Workspace) (known : Verdicts) (r : Revision) (C D : Conflict → Type 0) (F G : Place → Type 0)
    (is_c : (c : Conflict) → C c → IsConflict w known r c) (is_d : (c : Conflict) → D c → IsConflict w known r c)
    (stays : (place : Place) → F place → G place → StaysAt w known r place) where
  choose : (a b : Conflict) → IsFirstBy C F (Some a) → IsFirstBy D G (Some b) → (t : Bool) → is_lt (place_cmp b.used a.used) ≡ t →
      IsFirstConflict w known r (if t then Some b else Some a)
  choose a b h k true less =
      let ahead : place_cmp b.used a.used ≡ Less = less_from_test (place_cmp b.used a.used) less in
      (is_d b k.0, λ place before. stays place (h.1 place (place_cmp_total.trans place b.used a.used before ahead)) (k.1 place before))
  choose a b h k false less =
      let later : IsNotBefore b.used a.used = (λ ahead. true≢false (sym (ap is_lt ahead) ∙ less)) in
      (is_c a h.0, λ place before. stays place (h.1 place before) (k.1 place (is_less place b.used (before_later place a.used b.used before later))))

  pub first_of_both : (a b : Option Conflict) → IsFirstBy C F a → IsFirstBy D G b → IsFirstConflict w known r (earlier_conflict a b)
  first_of_both None None h k = λ place. stays place (h place) (k place)
  first_of_both None (Some b) h k = (is_d b k.0, λ place before. stays place (h place) (k.1 place before))
  first_of_both (Some a) None h k = (is_c a h.0, λ place before. stays place (h.1 place before) (k place))
  first_of_both (Some a) (Some b) h k = choose a b h k (is_lt (place_cmp b.used a.used)) refl

pub first_by : OwnConflictsAreTold → (w : Workspace) (known : Verdicts) (p : Package) (n : ℕ) (name : List ℕ) (s : FileChanges) →
    IsRenameIn w known p n name s → KeepsPackages w known (revision_of w s) → KeepsMembers w known (revision_of w s) → (own far : Option Conflict) →
    FirstOwnConflict (IsCheckedPackage w known) p n name own → FirstConflictBehind (IsCheckedPackage w known) p n name far →
    IsFirstConflict w known (revision_of w s) (earlier_conflict own far)
first_by own_told w known p n name s h keeps members own far first_own first_behind =
    first_of_both w known (revision_of w s) (IsOwnConflict (IsCheckedPackage w known) p n name) (IsConflictBehind (IsCheckedPackage w known) p n name)
    (HasNoOwnConflict p n name) (HasNoConflictBehind (IsCheckedPackage w known) p n name)
    (own_is own_told w known p n name s h keeps)
    (behind_is w known p n name s h keeps)
    (stays_by w known p n name s h keeps members)
    own far first_own first_behind

-- Behind the name of a package stand package-level declarations alone.

level_turns : (p : Package) (n : ℕ) (name : List ℕ) (old : ℕ) (by : Option ℕ) → TurnsBehind p.layout p.names n name old by → IsPackageLevel p.layout old →
    IsPackageLevel p.layout n
level_turns p n name old by (hidden not) level = level
level_turns p n name old by (preceded level k lt) other = level
level_turns p n name old by (repeated level k lt) other = level

pub none_behind : LocalRenamesTurnNoneBehind
none_behind w known p n name s h local place x is u begins by t =
    let one : t.was.other ≡ p = one_package w known t.was.other p t.was.is_package h.is_package t.was.of_path in
    local (level_turns p n name t.old by t.turns (subst (λ (y : Package). IsPackageLevel y.layout t.old) one t.was.seen.package_level))
