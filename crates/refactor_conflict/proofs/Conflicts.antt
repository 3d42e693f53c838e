-- Conflicts of identifiers that were bound.
use Rattle.std.proofs.Common.{ℕ, ◌≡◌, ◌∙◌, List, map, ap, sym, subst, refl}
use Rattle.std.specs.Prelude.{Option, Some, None, Contains, slice_get}
use Rattle.std.specs.Global.{Vec}
use Rattle.std.proofs.lemmas.Option.{none-some, slice_get_within, get_or_from_slice_get}
use Rattle.base_files.specs.Workspace.{Workspace}
use Rattle.base_files.specs.declared.place.Place.{Place}
use Rattle.go_scope.specs.declared.model.Position.{Position}
use Rattle.go_scope.specs.WellFormed.{WellFormed}
use Rattle.types_expr.specs.declared.found.MemberUse.{MemberUse as FoundUse}
use Rattle.types_expr.specs.declared.symbol.Symbol.{Symbol}
use Rattle.types_expr.specs.Judge.{MemberUse}
use Rattle.types_expr.specs.World.{Definition}
use Rattle.types_declared.specs.Package.{Package, spelled}
use Rattle.types_declared.specs.Definitions.{AreDefinitions}
use Rattle.types_info.specs.MemberUses.{AreMemberUses, uses_in}
use Rattle.workspace_check.specs.Verdicts.{Verdicts}
use Rattle.base_edits.specs.Revisions.{Revision}
use Rattle.refs_binding.specs.declared.declaration.Declaration.{Declaration}
use Rattle.refs_binding.specs.Members.{member_at}
use Rattle.refs_binding.specs.Steps.{AtToken, IsDeclarationResult}
use Rattle.refs_binding.specs.Uses.{IsCheckedPackage}
use Rattle.refs_binding.specs.Workspaces.{IsPackageAt}
use Rattle.refs_binding.proofs.MemberParts.{file_uses}
use Rattle.refactor_conflict.specs.declared.conflict.Capturer.{Capturer}
use Rattle.refactor_conflict.specs.declared.conflict.Conflict.{Conflict}
use Rattle.refactor_conflict.specs.MembersAfter.{IsMemberAfter}
use Rattle.refactor_conflict.specs.BoundAfter.{SelectsAfter}
use Rattle.refactor_conflict.specs.Conflicts.{IsCapturer, LosesMember}
use Rattle.refactor_conflict.specs.Conflicts.{IsConflictIn, IsConflict, IsOtherMember, IsOtherAt}
use Rattle.refactor_conflict.specs.Conflicts.{UsedAfter, IsMemberConflict, IsMemberConflictIn}
use Rattle.refactor_conflict.specs.Conflicts.{by_member}
use Rattle.refactor_conflict.proofs.MemberUses.{IsUsedAs, used_at}

-- `K` holds of the declaration that was found.
pub found_so : (K : Declaration → Type 0) (o : Option Declaration) → IsDeclarationResult K o → (x : Declaration) → o ≡ Some x → K x
found_so K o h x e = subst (IsDeclarationResult K) e h

found_only : (K : Declaration → Type 0) → ((d e : Declaration) → K d → K e → d ≡ e) → (o : Option Declaration) → IsDeclarationResult K o →
    (x : Declaration) → K x → o ≡ Some x
found_only K one None found x k = absurd (found x k)
found_only K one (Some y) found x k = ap Some (one y x found k)

-- The conflict of an identifier that was bound to a field or method.
pub other_lost : (Known : Package → Type 0) (used : Place) (old : Declaration) (now : Option Declaration) → now ≡ None → (c : Conflict) →
    (c.used ≡ used) × (c.by ≡ None) → IsOtherMember Known (λ e. now ≡ Some e) used old c
other_lost Known used old now none c h =
    let is : LosesMember Known (λ e. now ≡ Some e) old None = λ e some. none-some e (sym none ∙ some) in
    (h.0, subst (LosesMember Known (λ e. now ≡ Some e) old) (sym h.1) is)

pub other_told : (Known : Package → Type 0) (used : Place) (old now : Declaration) (by : Capturer) → (old ≡ now → ⊥) → IsCapturer Known now by →
    (c : Conflict) → (c.used ≡ used) × (c.by ≡ Some by) → IsOtherMember Known (λ e. e ≡ now) used old c
other_told Known used old now by other is c h =
    let told : LosesMember Known (λ e. e ≡ now) old (Some by) = record { declaration = now; bound = refl; other = other; told = is } in
    (h.0, subst (LosesMember Known (λ e. e ≡ now) old) (sym h.1) told)

-- A use of a member is lost or captured also by an equivalent relation to what it selects.
member_as : (Known : Package → Type 0) (K L : Declaration → Type 0) (old : Declaration) → ((d : Declaration) → K d → L d) → ((d : Declaration) → L d → K d) →
    (by : Option Capturer) → LosesMember Known K old by → LosesMember Known L old by
member_as Known K L old to from None h = λ e l. h e (from e l)
member_as Known K L old to from (Some by) h =
    record { declaration = h.declaration; bound = to h.declaration h.bound; other = λ l. h.other (from old l); told = h.told }

pub other_as : (Known : Package → Type 0) (K L : Declaration → Type 0) (used : Place) (old : Declaration) → ((d : Declaration) → K d → L d) →
    ((d : Declaration) → L d → K d) → (c : Conflict) → IsOtherMember Known K used old c → IsOtherMember Known L used old c
other_as Known K L used old to from c h = (h.0, member_as Known K L old to from c.by h.1)

pub other_found : (Known : Package → Type 0) (K : Declaration → Type 0) (used : Place) (old : Declaration) (now : Option Declaration) →
    IsDeclarationResult K now → ((d e : Declaration) → K d → K e → d ≡ e) → (c : Conflict) →
    IsOtherMember Known (λ e. now ≡ Some e) used old c → IsOtherMember Known K used old c
other_found Known K used old now found one c h =
    other_as Known (λ e. now ≡ Some e) K used old (found_so K now found) (found_only K one now found) c h

pub in_package : (w : Workspace) (known : Verdicts) (r : Revision) (number : ℕ) (p : Package) → IsPackageAt w known number p → (c : Conflict) →
    IsConflictIn w known r p c → IsConflict w known r c
in_package w known r number p is c h = record { used_in = p; is_package = is.is_package; conflict = h }

-- as a member
pub noted_at : (Known : Package → Type 0) (E : Place → Declaration → Type 0) (p : Package) (at : Position) (old : Declaration) (place : Place) →
    AtToken p at place → (c : Conflict) → IsOtherMember Known (E place) place old c → IsOtherAt Known E p at old c
noted_at Known E p at old place is c n =
    (subst (AtToken p at) (sym n.0) is, subst (λ (x : Place). LosesMember Known (E x) old c.by) (sym n.0) n.1)

pub member_conflict : (Known : Package → Type 0) (r : Revision) (ds : Symbol → Definition) (p : Package) (file : ℕ) (x : MemberUse) (old : Declaration) →
    member_at ds p file x.place x.before ≡ Some old →
    (c : Conflict) → IsOtherAt Known (UsedAfter Known r ds p file x) p (record { file = file; index = x.place }) old c → IsMemberConflict Known r ds p file x c
member_conflict Known r ds p file x old is c n = record { old = old; is_use = record { at = n.0; is_member = is }; tells = n.1 }

pub among : (Known : Package → Type 0) (r : Revision) (ds : Symbol → Definition) (p : Package) (file : ℕ) (uses : List MemberUse) (k : ℕ) (x : MemberUse) →
    slice_get uses k ≡ Some x →
    (c : Conflict) → IsMemberConflict Known r ds p file x c → IsMemberConflictIn Known r ds p file uses c
among Known r ds p file uses k x at c h =
    record { old = h.old; is_use = (k, record { found = x; has_rank = at; is_use = h.is_use }); tells = h.tells }

pub member_in : (w : Workspace) (known : Verdicts) (r : Revision) (p : Package) (formed : WellFormed p.layout)
    (ds : Symbol → Definition) (are : AreDefinitions p ds) (members : List (Vec FoundUse)) →
    AreMemberUses p (map uses_in members) → (file : ℕ) (v : Vec FoundUse) → slice_get members file ≡ Some v → (c : Conflict) →
    IsMemberConflictIn (IsCheckedPackage w known) r ds p file (uses_in v) c → IsConflictIn w known r p c
member_in w known r p formed ds are members all file v at c h =
    let Known = IsCheckedPackage w known in
    let x = h.is_use.1 in
    let token = x.is_use.at in
    let stands = token.1.1 in
    let place = p.layout.place token.0 in
    let judged = file_uses p members all file v at in
    let has : Contains (uses_in v) x.found =
    (h.is_use.0, slice_get_within (uses_in v) h.is_use.0 x.found x.has_rank, get_or_from_slice_get (uses_in v) h.is_use.0 x.found x.found x.has_rank) in
    let here = used_at p formed ds are file (uses_in v) judged x.found has h.old x.is_use.is_member in
    let used = subst (λ f. IsUsedAs ds p f place.index h.old x.found.before) (sym stands.1)
    (subst (λ t. IsUsedAs ds p file t h.old x.found.before) (sym stands.2) here) in
    let now : LosesMember Known (SelectsAfter Known r ds p place x.found.before c.used) h.old c.by =
    subst (λ f. LosesMember Known (SelectsAfter Known r ds p (record { file = f; index = place.index }) x.found.before c.used) h.old c.by) (sym stands.1)
    (subst (λ t. LosesMember Known (SelectsAfter Known r ds p (record { file = file; index = t }) x.found.before c.used) h.old c.by) (sym stands.2) h.tells) in
    record {
      user = token.0;
      begins = token.1.0;
      turned = by_member h.old used.0
          (subst (λ t. LosesMember Known (λ e. IsMemberAfter Known r p.path (r.called c.used (spelled p place.file place.index))
          used.0.judged.world.definition t e) h.old c.by)
          (sym used.1.0)
          (subst (λ u. LosesMember Known (λ e. IsMemberAfter Known r p.path (r.called c.used (spelled p place.file place.index)) u x.found.before e) h.old c.by)
          (sym used.1.1) now));
    }
