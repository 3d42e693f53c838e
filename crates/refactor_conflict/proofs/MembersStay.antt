-- Members that stay bound, and their declaring identifiers.
use Rattle.std.proofs.Common.{ℕ, ◌≡◌, ◌<◌, ◌≤◌, ◌+◌, inl, inr, List, length, map, sym, ap, subst, refl, ◌∙◌, arith}
use Rattle.std.specs.Prelude.{Option, Some, None, Contains, option_map, slice_get}
use Rattle.std.specs.Global.{Vec}
use Rattle.std.proofs.lemmas.Bool.{cases_lt}
use Rattle.std.proofs.lemmas.Option.{none-some, same_Some, slice_get_read}
use Rattle.base_files.specs.Workspace.{Workspace}
use Rattle.base_files.specs.declared.place.Place.{Place}
use Rattle.go_scope.specs.WellFormed.{WellFormed}
use Rattle.types_expr.specs.declared.found.MemberUse.{MemberUse as FoundUse}
use Rattle.types_expr.specs.declared.symbol.Symbol.{Symbol}
use Rattle.types_expr.specs.Judge.{MemberUse}
use Rattle.types_expr.specs.World.{Definition}
use Rattle.types_declared.specs.Package.{Package, spelled}
use Rattle.types_declared.specs.Definitions.{AreDefinitions}
use Rattle.types_info.specs.MemberUses.{AreMemberUses, uses_in}
use Rattle.types_info.specs.Uniqueness.{HasOneWorld}
use Rattle.types_info.proofs.OneWorld.{has_one_world}
use Rattle.workspace_check.specs.Verdicts.{Verdicts}
use Rattle.workspace_check.proofs.OnePackage.{files_in_order}
use Rattle.base_edits.specs.Revisions.{Revision}
use Rattle.refs_binding.specs.Binding.{declaration_of}
use Rattle.refs_binding.specs.Identifiers.{BeginsAt}
use Rattle.refs_binding.specs.Members.{member_at}
use Rattle.refs_binding.specs.Uses.{IsCheckedPackage}
use Rattle.refs_binding.proofs.MemberParts.{one_list, file_uses, has_uses}
use Rattle.refactor_conflict.specs.MembersAfter.{IsMemberAfter}
use Rattle.refactor_conflict.specs.Conflicts.{HoldsBefore, UseStays, UsesStay}
use Rattle.refactor_conflict.specs.Staying.{StaysByMember}
use Rattle.refactor_conflict.specs.declared.conflict.Conflict.{Conflict}
use Rattle.refactor_conflict.proofs.MemberUses.{in_world, definitions_in}

-- A relation that holds of the numbers below a count, one after another.
abbrev pub Below : (ℕ → Place → Type 0) → ℕ → Place → Type 0
Below K count place = (k : ℕ) → k < count → K k place

pub none_below : (K : ℕ → Place → Type 0) (first : Option Conflict) → HoldsBefore (Below K 0) first
none_below K first = λ place ahead k lt. let less : k < 0 = lt in absurd (omega arith)

pub next_below : (K : ℕ → Place → Type 0) (n : ℕ) (first : Option Conflict) → HoldsBefore (Below K n) first → HoldsBefore (K n) first →
    HoldsBefore (Below K (n + 1)) first
next_below K n first h here = λ place ahead k lt. elim (cases_lt k n) [
  | inl less ↦ h place ahead k less
  | inr ge ↦ (
      let less : k < n + 1 = lt in
      let same : k ≡ n = omega arith in
      subst (λ (x : ℕ). K x place) (sym same) (here place ahead))
]

pub all_below : (K : ℕ → Place → Type 0) (n : ℕ) (first : Option Conflict) → ((k : ℕ) (place : Place) → n ≤ k → K k place) →
    HoldsBefore (Below K n) first → HoldsBefore (λ place. (k : ℕ) → K k place) first
all_below K n first past h = λ place ahead k. elim (cases_lt k n) [
  | inl lt ↦ h place ahead k lt
  | inr ge ↦ past k place ge
]

pub no_use_stays : (Known : Package → Type 0) (r : Revision) (ds : Symbol → Definition) (p : Package) (file : ℕ) (x : MemberUse) (first : Option Conflict) →
    member_at ds p file x.place x.before ≡ None → HoldsBefore (UseStays Known r ds p file x) first
no_use_stays Known r ds p file x first none = λ place ahead d u. absurd (none-some d (sym none ∙ u.is_member))

-- the uses of a file, by their ranks
abbrev pub RankStays : (Known : Package → Type 0) → Revision → (Symbol → Definition) → Package → (file : ℕ) → List MemberUse → ℕ → Place → Type 0
RankStays Known r ds p file uses k place = (x : MemberUse) → slice_get uses k ≡ Some x → UseStays Known r ds p file x place

pub rank_stays : (Known : Package → Type 0) (r : Revision) (ds : Symbol → Definition) (p : Package) (file : ℕ) (uses : List MemberUse) (k : ℕ)
    (x : MemberUse) → slice_get uses k ≡ Some x → (place : Place) → UseStays Known r ds p file x place → RankStays Known r ds p file uses k place
rank_stays Known r ds p file uses k x at place h = λ y so.
    subst (λ (z : MemberUse). UseStays Known r ds p file z place) (same_Some x y (sym at ∙ so)) h

-- the members that are used in a file of a package, and in all
abbrev pub FileStays : Workspace → Verdicts → Revision → Package → ℕ → Place → Type 0
FileStays w known r p file place =
    (u : ℕ) → BeginsAt p place.path place.offset u → (p.layout.place u).file ≡ file → StaysByMember w known r p u place

module _ (w : Workspace) (known : Verdicts) (r : Revision) (p : Package) (is : IsCheckedPackage w known p) (formed : WellFormed p.layout)
    (ds : Symbol → Definition) (are : AreDefinitions p ds) (members : List (Vec FoundUse)) (all : AreMemberUses p (map uses_in members)) where
  used_stays : (u : ℕ) (v : Vec FoundUse) → slice_get members (p.layout.place u).file ≡ Some v → (place : Place) →
      UsesStay (IsCheckedPackage w known) r ds p (p.layout.place u).file (uses_in v) place → BeginsAt p place.path place.offset u →
      StaysByMember w known r p u place
  used_stays u v at place stay begins = λ old was.
      let Known = IsCheckedPackage w known in
      let f = (p.layout.place u).file in
      let t = (p.layout.place u).index in
      let x = was.found in
      let one : HasOneWorld p = has_one_world p formed (files_in_order w known p.path p is.is_checked) in
      let list : was.uses ≡ uses_in v = one_list p one f was.uses (uses_in v) was.judged (file_uses p members all f v at) in
      let has : Contains (uses_in v) x = subst (λ l. Contains l x) list was.is_use in
      let ranked : slice_get (uses_in v) has.0 ≡ Some x = slice_get_read (uses_in v) (length (uses_in v)) has.0 x refl has.1 (sym has.2) in
      let member : member_at ds p f t x.before ≡ Some old =
      ap (option_map declaration_of) (sym (in_world p formed ds are f was.uses was.judged t x.before) ∙ was.is_member) ∙ ap Some was.declares in
      let now = stay has.0 x ranked old (record {
        at = (u, (begins, (begins.0.1, refl, sym was.at)));
        is_member = subst (λ n. member_at ds p f n x.before ≡ Some old) (sym was.at) member;
      }) in
      subst (λ n. IsMemberAfter Known r p.path (r.called place (spelled p f n)) was.judged.world.definition x.before old) was.at
      (subst (λ d. IsMemberAfter Known r p.path (r.called place (spelled p f x.place)) d x.before old)
      (sym (definitions_in p formed ds are f was.uses was.judged)) now)

  pub file_stays : (file : ℕ) (v : Vec FoundUse) → slice_get members file ≡ Some v → (place : Place) →
      UsesStay (IsCheckedPackage w known) r ds p file (uses_in v) place → FileStays w known r p file place
  file_stays file v at place stay = λ u begins of_file.
      used_stays u v (subst (λ f. slice_get members f ≡ Some v) (sym of_file) at) place
      (subst (λ f. UsesStay (IsCheckedPackage w known) r ds p f (uses_in v) place) (sym of_file) stay) begins

  pub no_file_stays : (file : ℕ) (place : Place) → length members ≤ file → FileStays w known r p file place
  no_file_stays file place le = λ u begins of_file old was.
      let lt : (p.layout.place u).file < length members = has_uses p members all (p.layout.place u).file was.uses was.judged in
      absurd (omega (arith, lt, of_file, le))
