-- A rename has one first conflict at most.
use Rattle.std.proofs.Common.{ℕ, ◌≡◌, ◌⊎◌, inl, inr, refl, sym, ap, subst, ◌∙◌}
use Rattle.std.specs.Prelude.{Option, Some, None}
use Rattle.base_files.specs.Workspace.{Workspace}
use Rattle.base_files.specs.declared.place.Place.{Place}
use Rattle.base_edits.specs.Revisions.{Revision}
use Rattle.base_edits.specs.RevisionsOfEdits.{revision_of}
use Rattle.go_scope.specs.WellFormed.{WellFormed}
use Rattle.types_declared.specs.Package.{Package, spelled}
use Rattle.workspace_check.specs.Verdicts.{Verdicts}
use Rattle.workspace_check.proofs.OnePackage.{layout_formed}
use Rattle.refs_binding.specs.declared.declaration.Declaration.{Declaration}
use Rattle.refs_binding.specs.declared.declaration.Declaration.TheVariants.{Predeclared}
use Rattle.refs_binding.specs.Binding as binds
use Rattle.refs_binding.specs.Identifiers.{IsInFiles}
use Rattle.refs_binding.specs.DeclaringPlaces.{IsDeclaredAt}
use Rattle.refs_binding.specs.Uses.{IsCheckedPackage, IsBoundToDeclaration}
use Rattle.refs_binding.proofs.Folders.{begins_in_folder}
use Rattle.refs_binding.proofs.PlaceOrder.{neither_before}
use Rattle.refs_binding.proofs.Units.{one_package}
use Rattle.refs_lookup.proofs.OneDeclaration.{one_declaration}
use Rattle.refs_lookup.proofs.OnePlace.{one_begins}
use Rattle.refs_binding.proofs.Excluding.{not_both, one_behind}
use Rattle.refs_lookup.proofs.NamedMembers.{name_not_scope, name_not_package}
use Rattle.refs_lookup.proofs.UsedMembers.{member_not_scope, member_not_name}
use Rattle.refs_lookup.proofs.BoundUsedMembers.{member_not_package}
use Rattle.refs_places.proofs.Declared.{one_place}
use Rattle.refactor_conflict.specs.Corresponding.{IsSamePredeclared}
use Rattle.refactor_conflict.proofs.Becoming.{StandBoth, by_cases}
use Rattle.refactor_conflict.specs.ScopedPackages.{IsScopedIn}
use Rattle.refactor_conflict.proofs.OneUse.{one_scope_use}
use Rattle.refactor_conflict.specs.BoundAfter.{HasBecome, IsBoundByScopes, IsExportAfter, IsBoundByPackage, IsBoundByMember}
use Rattle.refactor_conflict.specs.Conflicts.{IsCapturer, LostOrCaptured, is_lost, is_captured}
use Rattle.refactor_conflict.specs.Conflicts.{LosesMember, ChangesBinding, IsConflictIn, IsConflict, IsFirstConflict}
use Rattle.refactor_conflict.specs.Conflicts.{by_scope, by_package, by_member, by_name}
use Rattle.refactor_conflict.specs.ScopesAfter.{IsBindable}
use Rattle.refactor_conflict.specs.Staying.{NoneIsLostBefore}
use Rattle.refactor_conflict.specs.declared.conflict.Capturer.{Capturer}
use Rattle.refactor_conflict.specs.declared.conflict.Capturer.TheVariants.{Universe, At}
use Rattle.refactor_conflict.specs.declared.conflict.Conflict.{Conflict}
use Rattle.refactor_conflict.proofs.BoundAfter.{counted_use, counted_export, one_export}
use Rattle.refactor_conflict.proofs.ConflictsDiffer.{not_staying}
use Rattle.refactor_conflict.proofs.OneMember.{one_member_after}
use Rattle.refactor_conflict.proofs.OnePlace.{only_place}
use Rattle.law_agreement.specs.ConflictsByTables.{HasOneAnswer}
use Rattle.law_agreement.proofs.OneMemberUse.{selects_alike}
use Rattle.law_renamed_workspaces.specs.Apart.{MoveApart}
use Rattle.law_renamed_workspaces.proofs.MovedApart.{move_apart}

module _ (w : Workspace) (known : Verdicts) where
  abbrev Known : Package → Type 0
  Known = IsCheckedPackage w known

  -- what has no place is told as predeclared, and what has one by its place
  placeless : (n : ℕ) (x : Capturer) → IsCapturer Known (Predeclared n) x → x ≡ Universe
  placeless n Universe h = refl
  placeless n (At place) h = absurd h

  placed : (c : Declaration) (a : Place) → IsDeclaredAt Known c a → (x : Capturer) → IsCapturer Known c x → x ≡ At a
  placed c a at Universe h = absurd (h a at)
  placed c a at (At b) h = ap At (one_place w known c b a h at)

  pub one_capturer : (c : Declaration) (x y : Capturer) → IsCapturer Known c x → IsCapturer Known c y → x ≡ y
  one_capturer c Universe Universe h k = refl
  one_capturer c Universe (At b) h k = absurd (h b k)
  one_capturer c (At a) y h k = sym (placed c a h y k)

  module _ (r : Revision) (apart : MoveApart w known r) where
    abbrev B : Declaration → Declaration → Type 0
    B = HasBecome w known r

    nowhere : (e : Declaration) (n : ℕ) → e ≡ Predeclared n → (place : Place) → IsDeclaredAt (IsScopedIn r.after) e place → ⊥
    nowhere e n is place h = subst (λ d. IsDeclaredAt (IsScopedIn r.after) d place) is h

    -- all that have become one declaration are told alike
    one_before : (e c d : Declaration) → IsBindable r.after e → B c e → B d e → (x y : Capturer) → IsCapturer Known c x → IsCapturer Known d y → x ≡ y
    one_before e c d counts h k x y told tells =
        by_ways (by_cases Known (IsScopedIn r.after) r.moved c e h) (by_cases Known (IsScopedIn r.after) r.moved d e k)
      where
        by_ways : IsSamePredeclared c e ⊎ StandBoth Known (IsScopedIn r.after) r.moved c e →
            IsSamePredeclared d e ⊎ StandBoth Known (IsScopedIn r.after) r.moved d e → x ≡ y
        by_ways (inl m) (inl n) =
            placeless m.number x (subst (λ z. IsCapturer Known z x) m.one told)
            ∙ sym (placeless n.number y (subst (λ z. IsCapturer Known z y) n.one tells))
        by_ways (inl m) (inr s) = absurd (nowhere e m.number m.other (r.moved s.place) s.new)
        by_ways (inr s) (inl n) = absurd (nowhere e n.number n.other (r.moved s.place) s.new)
        by_ways (inr s) (inr t) =
            let same : d ≡ c =
            apart d c t.place s.place t.old s.old (only_place r.after e counts (r.moved t.place) (r.moved s.place) t.new s.new) in
            one_capturer c x y told (subst (λ z. IsCapturer Known z y) same tells)

    one_told : (E : Declaration → Type 0) → ((d e : Declaration) → E d → E e → d ≡ e) → ((e : Declaration) → E e → IsBindable r.after e) →
        (old : Declaration) (x y : Option Capturer) → LostOrCaptured B Known E old x → LostOrCaptured B Known E old y → x ≡ y
    one_told E one counts old x y (is_lost none) (is_lost other) = refl
    one_told E one counts old x y (is_lost none) (is_captured e c is become tells not) = absurd (none e c is become)
    one_told E one counts old x y (is_captured e c is become tells not) (is_lost none) = absurd (none e c is become)
    one_told E one counts old x y (is_captured {by = a} e c is become tells not) (is_captured {by = b} f d so became told nor) =
        ap Some (one_before e c d (counts e is) become (subst (B d) (one f e so is) became) a b tells told)

    -- two members that capture are one
    one_lost : (E : Declaration → Type 0) → ((d e : Declaration) → E d → E e → d ≡ e) → (old : Declaration) (x y : Option Capturer) →
        LosesMember Known E old x → LosesMember Known E old y → x ≡ y
    one_lost E one old None None h k = refl
    one_lost E one old None (Some b) h k = absurd (h k.declaration k.bound)
    one_lost E one old (Some a) None h k = absurd (k h.declaration h.bound)
    one_lost E one old (Some a) (Some b) h k =
        ap Some (one_capturer h.declaration a b h.told
        (subst (λ z. IsCapturer Known z b) (one k.declaration h.declaration k.bound h.bound) k.told))

    loses_as : (E F : Declaration → Type 0) → ((d : Declaration) → E d → F d) → ((d : Declaration) → F d → E d) → (old : Declaration) (x : Option Capturer) →
        LosesMember Known E old x → LosesMember Known F old x
    loses_as E F to from old None h = λ e f. h e (from e f)
    loses_as E F to from old (Some a) h = record {
      declaration = h.declaration;
      bound = to h.declaration h.bound;
      other = λ f. h.other (from old f);
      told = h.told;
    }

    module _ (p : Package) (is : IsCheckedPackage w known p) (u : ℕ) (stands : IsInFiles p u) (place : Place) where
      abbrev Turns : Option Capturer → Type 0
      Turns by = ChangesBinding w known r p u (record { used = place; by = by })

      one_old : (d e : Declaration) → IsBoundToDeclaration w known p u d → IsBoundToDeclaration w known p u e → e ≡ d
      one_old d e h k = one_declaration w known p is u stands e d k h

      exports_once : (d e : Declaration) → IsBoundByPackage w r place p u d → IsBoundByPackage w r place p u e → d ≡ e
      exports_once d e h k =
          let formed : WellFormed p.layout = layout_formed w known p.path p is.is_checked in
          let name = r.called place (p.names u) in
          let path : k.path ≡ h.path = one_behind p formed u k.path h.path k.behind h.behind in
          one_export w r h.path name d e h.exports (subst (λ q. IsExportAfter w r q name e) path k.exports)

      exports_count : (e : Declaration) → IsBoundByPackage w r place p u e → IsBindable r.after e
      exports_count e h = counted_export w r h.path (r.called place (p.names u)) e h.exports

      pub one_turned : (x y : Option Capturer) → Turns x → Turns y → x ≡ y
      one_turned x y (by_scope d was tells) (by_scope e so told) =
          one_told (IsBoundByScopes r place) (one_scope_use r.after (r.moved place)) (counted_use r.after (r.moved place)) d x y tells
          (subst (λ z. LostOrCaptured B Known (IsBoundByScopes r place) z y) (one_old d e (binds.by_scope was) (binds.by_scope so)) told)
      one_turned x y (by_package d was tells) (by_package e so told) =
          one_told (IsBoundByPackage w r place p u) exports_once exports_count d x y tells
          (subst (λ z. LostOrCaptured B Known (IsBoundByPackage w r place p u) z y) (one_old d e (binds.by_package was) (binds.by_package so)) told)
      one_turned x y (by_member d was tells) (by_member e so told) =
          let E = IsBoundByMember Known r place p u d was in
          let F = IsBoundByMember Known r place p u e so in
          let told_as : LosesMember Known E e y =
          loses_as F E (selects_alike w known p is r place u e d so was) (selects_alike w known p is r place u d e was so) e y told in
          let one : (a b : Declaration) → E a → E b → a ≡ b =
          one_member_after w known r p.path (r.called place (spelled p (p.layout.place u).file (p.layout.place u).index))
          was.judged.world.definition was.found.before in
          one_lost E one d x y tells (subst (λ z. LosesMember Known E z y) (one_old d e (binds.by_member was) (binds.by_member so)) told_as)
      one_turned x y (by_name d was not none) (by_name e so nor none_too) = none ∙ sym none_too
      one_turned x y (by_scope d was tells) (by_package e so told) = absurd (not_both Known p u d e was so)
      one_turned x y (by_scope d was tells) (by_member e so told) = absurd (member_not_scope w known p.path p is.is_checked u e d stands so was)
      one_turned x y (by_scope d was tells) (by_name e so nor none) = absurd (name_not_scope w known p.path p is.is_checked u e d stands.0 so was)
      one_turned x y (by_package d was tells) (by_scope e so told) = absurd (not_both Known p u e d so was)
      one_turned x y (by_package d was tells) (by_member e so told) = absurd (member_not_package w known p.path p is.is_checked Known u e d stands so was)
      one_turned x y (by_package d was tells) (by_name e so nor none) = absurd (name_not_package w known p.path p is.is_checked Known u e d stands.0 so was)
      one_turned x y (by_member d was tells) (by_scope e so told) = absurd (member_not_scope w known p.path p is.is_checked u d e stands was so)
      one_turned x y (by_member d was tells) (by_package e so told) = absurd (member_not_package w known p.path p is.is_checked Known u d e stands was so)
      one_turned x y (by_member d was tells) (by_name e so nor none) = absurd (member_not_name w known p.path p is.is_checked u d e stands was so)
      one_turned x y (by_name d was not none) (by_scope e so told) = absurd (name_not_scope w known p.path p is.is_checked u d e stands.0 was so)
      one_turned x y (by_name d was not none) (by_package e so told) = absurd (name_not_package w known p.path p is.is_checked Known u d e stands.0 was so)
      one_turned x y (by_name d was not none) (by_member e so told) = absurd (member_not_name w known p.path p is.is_checked u e d stands so was)

    -- a place has one conflict
    module _ (place : Place) where
      abbrev At_place : Option Capturer → Conflict
      At_place by = record { used = place; by = by }

      in_one_package : (p : Package) → IsCheckedPackage w known p → (x y : Option Capturer) → IsConflictIn w known r p (At_place x) →
          IsConflictIn w known r p (At_place y) → x ≡ y
      in_one_package p is x y h k =
          let user : k.user ≡ h.user = one_begins w known p.path p is.is_checked place.path place.offset k.user h.user k.begins h.begins in
          one_turned p is h.user h.begins.0 place x y h.turned (subst (λ v. ChangesBinding w known r p v (At_place y)) user k.turned)

      pub one_conflict : (x y : Option Capturer) → IsConflict w known r (At_place x) → IsConflict w known r (At_place y) → x ≡ y
      one_conflict x y h k =
          let p = h.used_in in
          let paths : k.used_in.path ≡ p.path =
          begins_in_folder w known k.used_in k.is_package place.path place.offset k.conflict.user k.conflict.begins
          ∙ sym (begins_in_folder w known p h.is_package place.path place.offset h.conflict.user h.conflict.begins) in
          let same : k.used_in ≡ p = one_package w known k.used_in p k.is_package h.is_package paths in
          in_one_package p h.is_package x y h.conflict (subst (λ q. IsConflictIn w known r q (At_place y)) same k.conflict)

    one_first : (c d : Conflict) → IsConflict w known r c × NoneIsLostBefore w known r c.used → IsConflict w known r d × NoneIsLostBefore w known r d.used →
        c ≡ d
    one_first c d h k =
        let place : d.used ≡ c.used =
        neither_before d.used c.used (λ less. not_staying w known r d k.0 (h.1 d.used less)) (λ less. not_staying w known r c h.0 (k.1 c.used less)) in
        let moved : IsConflict w known r (record { used = c.used; by = d.by }) =
        subst (λ (z : Place). IsConflict w known r (record { used = z; by = d.by })) place k.0 in
        ap (λ (b : Option Capturer). record { used = c.used; by = b }) (one_conflict c.used c.by d.by h.0 moved)
        ∙ ap (λ (z : Place). record { used = z; by = d.by }) (sym place)

    pub one_told_first : (x y : Option Conflict) → IsFirstConflict w known r x → IsFirstConflict w known r y → x ≡ y
    one_told_first None None h k = refl
    one_told_first None (Some d) h k = absurd (not_staying w known r d k.0 (h d.used))
    one_told_first (Some c) None h k = absurd (not_staying w known r c h.0 (k c.used))
    one_told_first (Some c) (Some d) h k = ap Some (one_first c d h k)

pub one_answer : HasOneAnswer
one_answer w known d name s rename x y h k = one_told_first w known (revision_of w s) (move_apart w known d name s rename) x y h k
