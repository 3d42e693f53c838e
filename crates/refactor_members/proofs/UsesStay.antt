-- Uses of members stay that have another name than the new one, and those of the new name as they are judged.
use Rattle.std.proofs.Common.{ℕ, ◌≡◌, ◌⊎◌, inl, inr, List, sym, subst, ◌∙◌}
use Rattle.std.specs.Prelude.{Option, Some, None, slice_get, Contains}
use Rattle.std.proofs.lemmas.Option.{same_Some}
use Rattle.base_files.specs.declared.place.Place.{Place}
use Rattle.base_edits.specs.Revisions.{Revision}
use Rattle.go_ast.specs.SourceFile.{SourceFile}
use Rattle.go_scope.specs.WellFormed.{WellFormed}
use Rattle.go_scope.specs.declared.model.Position.{Position}
use Rattle.types_expr.specs.declared.symbol.Symbol.{Symbol}
use Rattle.types_expr.specs.Judge.{MemberUse}
use Rattle.types_expr.specs.Types.{Underlying}
use Rattle.types_expr.specs.World.{Definition}
use Rattle.types_declared.specs.Package.{Package, spelled}
use Rattle.types_declared.specs.Definitions.{AreDefinitions}
use Rattle.refs_binding.specs.declared.declaration.Declaration.{Declaration}
use Rattle.refs_binding.specs.DeclaringPlaces.{TokenBegins}
use Rattle.refs_binding.specs.Identifiers.{NameBegins}
use Rattle.refs_binding.specs.Members.{member_at}
use Rattle.refs_binding.specs.Steps.{AtToken}
use Rattle.refs_binding.proofs.Tokens.{begins_token}
use Rattle.refs_places.proofs.Starts.{token_once}
use Rattle.refactor_conflict.specs.MembersAfter.{IsMemberAfter}
use Rattle.refactor_conflict.specs.Conflicts.{IsMemberConflict, IsOtherMember, UsedAfter, UseStays}
use Rattle.refactor_conflict.specs.declared.conflict.Conflict.{Conflict}
use Rattle.refactor_conflict.proofs.Conflicts.{member_conflict, noted_at, other_as}
use Rattle.refactor_conflict.proofs.MemberUses.{IsUsedAs, used_at}
use Rattle.refactor_members.specs.Judging.{IsUncalled, Judges}
use Rattle.refactor_members.specs.Naming.{IsUseIn}
use Rattle.refactor_members.specs.Renames.{EditedRename, KnowsRename, packages_before, rename_revision}
use Rattle.refactor_members.proofs.Judged.{judged_as}
use Rattle.refactor_members.specs.Renames.{renamed_members}

pub name_begins : (o : Option SourceFile) (token : ℕ) (place : Place) → NameBegins o token place.path place.offset → TokenBegins o token place
name_begins None token place h = absurd h
name_begins (Some f) token place h = (h.1, h.2)

-- A token that is an identifier begins at one place.
pub token_of : (p : Package) (at : Position) (place : Place) → AtToken p at place → TokenBegins (slice_get p.files at.file) at.index place
token_of p at place h = name_begins (slice_get p.files at.file) at.index place (begins_token p at place h)

module _ (m : EditedRename) (p : Package) (is : packages_before m.of p) (formed : WellFormed p.layout) (ds : Symbol → Definition) (are : AreDefinitions p ds)
    (file : ℕ) (x : MemberUse) where
  abbrev Known : Package → Type 0
  Known = packages_before m.of

  abbrev r : Revision
  r = rename_revision m

  abbrev at : Position
  at = record { file = file; index = x.place }

  abbrev types : Symbol → Underlying
  types = λ s. (ds s).underlying

  -- A use that is not at stake stays.
  pub other_stays : KnowsRename m → IsUseIn p file x → (place : Place) →
      ((old : Declaration) → member_at ds p file x.place x.before ≡ Some old → Contains (renamed_members m.of) old ⊎ (spelled p file x.place ≡
      m.of.name.now) → ⊥) →
      UseStays Known r ds p file x place
  other_stays knows one place not = λ old used.
      let u = used.at.0 in
      let stands = used.at.1.1 in
      let f = (p.layout.place u).file in
      let t = (p.layout.place u).index in
      let there = used_at p formed ds are file one.uses one.judged x one.among old used.is_member in
      let here : IsUsedAs ds p f t old x.before =
      subst (λ k. IsUsedAs ds p k t old x.before) (sym stands.1) (subst (λ n. IsUsedAs ds p file n old x.before) (sym stands.2) there) in
      let other : Contains (renamed_members m.of) old ⊎ (spelled p f t ≡ m.of.name.now) → ⊥ =
      subst (λ k. Contains (renamed_members m.of) old ⊎ (spelled p k t ≡ m.of.name.now) → ⊥) (sym stands.1)
      (subst (λ n. Contains (renamed_members m.of) old ⊎ (spelled p file n ≡ m.of.name.now) → ⊥) (sym stands.2) (not old used.is_member)) in
      let now = knows.renames.used p is u place used.at.1.0 old here.0 other in
      let plain : IsMemberAfter Known r p.path (r.called place (spelled p f t)) types x.before old =
      subst (λ b. IsMemberAfter Known r p.path (r.called place (spelled p f t)) types b old) here.1.0
      (subst (λ d. IsMemberAfter Known r p.path (r.called place (spelled p f t)) d here.0.found.before old) here.1.1 now) in
      subst (λ k. IsMemberAfter Known r p.path (r.called place (spelled p k x.place)) types x.before old) stands.1
      (subst (λ n. IsMemberAfter Known r p.path (r.called place (spelled p f n)) types x.before old) stands.2 plain)

  -- A use stays that has neither the new name nor that of the renamed members.
  pub uncalled_stays : KnowsRename m → IsUseIn p file x → (place : Place) → IsUncalled m.of (slice_get p.files file) x.place →
      UseStays Known r ds p file x place
  uncalled_stays knows one place uncalled =
      other_stays knows one place (λ old used stake. elim stake [
        | inr named ↦ uncalled.not_new named
        | inl renamed ↦ uncalled.not_old ((knows.called old renamed uncalled.old uncalled.has_old p is).only ds are (spelled p file x.place) x.before used)
      ])

  -- A use that is at stake has the new name.
  pub called_there : KnowsRename m → IsUseIn p file x → (place : Place) → AtToken p at place → (old : Declaration) →
      member_at ds p file x.place x.before ≡ Some old → Contains (renamed_members m.of) old ⊎ (spelled p file x.place ≡ m.of.name.now) →
      r.called place (spelled p file x.place) ≡ m.of.name.now
  called_there knows one place begins old used stake =
      let u = begins.0 in
      let stands = begins.1.1 in
      let f = (p.layout.place u).file in
      let t = (p.layout.place u).index in
      let there = used_at p formed ds are file one.uses one.judged x one.among old used in
      let here : IsUsedAs ds p f t old x.before =
      subst (λ k. IsUsedAs ds p k t old x.before) (sym stands.1) (subst (λ n. IsUsedAs ds p file n old x.before) (sym stands.2) there) in
      let at_stake : Contains (renamed_members m.of) old ⊎ (spelled p f t ≡ m.of.name.now) =
      subst (λ k. Contains (renamed_members m.of) old ⊎ (spelled p k t ≡ m.of.name.now)) (sym stands.1)
      (subst (λ n. Contains (renamed_members m.of) old ⊎ (spelled p file n ≡ m.of.name.now)) (sym stands.2) stake) in
      let now : r.called place (spelled p f t) ≡ m.of.name.now = knows.renames.called p is u place begins.1.0 old here.0 at_stake in
      subst (λ k. r.called place (spelled p k x.place) ≡ m.of.name.now) stands.1
      (subst (λ n. r.called place (spelled p f n) ≡ m.of.name.now) stands.2 now)

  -- A use of the new name, by what it selects.
  module _ (path : List ℕ) (of : path ≡ p.path) (place : Place) (begins : AtToken p at place)
      (called : KnowsRename m → r.called place (spelled p file x.place) ≡ m.of.name.now) (old : Declaration)
      (was : member_at ds p file x.place x.before ≡ Some old) where
    abbrev Now : Declaration → Type 0
    Now e = IsMemberAfter Known r path m.of.name.now types x.before e

    abbrev Used : Declaration → Type 0
    Used e = UsedAfter Known r ds p file x place e

    to_used : KnowsRename m → (e : Declaration) → Now e → Used e
    to_used knows e h =
        subst (λ n. IsMemberAfter Known r p.path n types x.before e) (sym (called knows))
        (subst (λ q. IsMemberAfter Known r q m.of.name.now types x.before e) of h)

    from_used : KnowsRename m → (e : Declaration) → Used e → Now e
    from_used knows e h =
        subst (λ q. IsMemberAfter Known r q m.of.name.now types x.before e) (sym of)
        (subst (λ n. IsMemberAfter Known r p.path n types x.before e) (called knows) h)

    pub called_judged : (a b : Option Conflict) → Judges m (IsOtherMember Known Now place old) (λ other. other ≡ place → Now old) a b →
        Judges m (IsMemberConflict Known r ds p file x) (UseStays Known r ds p file x) a b
    called_judged a b h =
        judged_as m (IsOtherMember Known Now place old) (IsMemberConflict Known r ds p file x) (λ other. other ≡ place → Now old)
        (UseStays Known r ds p file x) a b
        (λ knows c k.
        member_conflict Known r ds p file x old was c
        (noted_at Known (UsedAfter Known r ds p file x) p at old place begins c (other_as Known Now Used place old (to_used knows) (from_used knows) c k)))
        (λ knows there stay d used.
        let same : there ≡ place =
        token_once (slice_get p.files file) x.place there place (token_of p at there used.at) (token_of p at place begins) in
        let one : old ≡ d = same_Some old d (sym was ∙ used.is_member) in
        subst (λ (y : Place). UsedAfter Known r ds p file x y d) (sym same) (subst Used one (to_used knows old (stay same))))
        h
