-- Where no identifier is lost or captured, members stay bound: their uses, and the names by which they are declared.
use Rattle.std.proofs.Common.{ℕ, ◌≡◌, ◌⊎◌, inl, inr, List, refl, sym, subst}
use Rattle.std.specs.Prelude.{Some, slice_get}
use Rattle.base_files.specs.Workspace.{Workspace}
use Rattle.base_files.specs.declared.place.Place.{Place}
use Rattle.base_edits.specs.EditSet.{FileChanges, change_of, edited}
use Rattle.base_edits.specs.Moved.{edits_by}
use Rattle.base_edits.specs.RevisionsOfEdits.{revision_of}
use Rattle.law_faultless.proofs.PackageWorlds.{have_all_worlds}
use Rattle.go_respelled.specs.Trees.{renamed_file}
use Rattle.law_changed_types.specs.SameBindings.{IsBoundAlike}
use Rattle.types_declared.specs.Package.{Package}
use Rattle.workspace_check.specs.Verdicts.{Verdicts}
use Rattle.workspace_check.proofs.Closed.{to_package}
use Rattle.workspace_check.proofs.SameImports.{imports_back, builds_by}
use Rattle.refs_binding.specs.declared.declaration.Declaration.{Declaration}
use Rattle.refs_binding.specs.declared.declaration.Declaration.TheVariants.{Predeclared, Declared, Field, Method}
use Rattle.refs_binding.specs.Binding as binds
use Rattle.refs_binding.specs.Binding.{BindsByMember, DeclaresMember}
use Rattle.refs_binding.specs.DeclaringPlaces.{TokenAt, IsDeclaredAt}
use Rattle.refs_binding.specs.Identifiers.{BeginsAt}
use Rattle.refs_binding.specs.Uses.{IsCheckedPackage}
use Rattle.refs_binding.proofs.NamedPlaces.{stands_once}
use Rattle.refactor_conflict.specs.Corresponding.{Corresponds, stands}
use Rattle.refactor_preserve.specs.BoundToOne.{IsBoundToOne}
use Rattle.law_renamed_workspaces.specs.Layouts.{IsRelaid}
use Rattle.law_renamed_workspaces.proofs.Packages.{same_imports}
use Rattle.law_renamed_workspaces.proofs.Apart.{name_token}
use Rattle.law_renamed_workspaces.proofs.FilesAfter.{file_after}
use Rattle.law_renamed_workspaces.specs.MembersMoved.{AreSeenAfter}
use Rattle.law_renamed_workspaces.proofs.SeenAfter.{seen_follow}
use Rattle.law_renamed_workspaces.proofs.StayingMembers.{declared_members_stay, used_members_stay}
use Rattle.law_renamed_workspaces.proofs.Laws.{each, found}
use Rattle.law_agreement.proofs.Followed.{packages_stay}
use Rattle.law_agreement.proofs.Premises.{HasMovedTokens, ExportsMoveBelow, IsFreeRename, MembersStayBound, UsedMembersAreDeclared}
use Rattle.law_agreement.proofs.ScopedFaultless.{faultless}

-- what the name of a member declares is declared where the name begins
token_there : (p : Package) (u : ℕ) (place : Place) → BeginsAt p place.path place.offset u → TokenAt p (p.layout.place u) place
token_there p u place b = name_token (slice_get p.files (p.layout.place u).file) (p.layout.place u).index place b.1

pub declared_here : (w : Workspace) (known : Verdicts) (p : Package) → IsCheckedPackage w known p → (u : ℕ) (place : Place) →
    BeginsAt p place.path place.offset u →
    (d : Declaration) → DeclaresMember p u d → IsDeclaredAt (IsCheckedPackage w known) d place
declared_here w known p is u place b (Predeclared n) h = absurd h
declared_here w known p is u place b (Declared path n) h = absurd h
declared_here w known p is u place b (Field s) h = record {
  inside = p;
  is_package = is;
  of_path = sym h.0;
  holds = record {
    at = h.1.at;
    is_at = h.1.is_at;
    begins = subst (λ x. TokenAt p x place) (sym (stands_once p u h.1.at h.1.stands)) (token_there p u place b);
  };
}
declared_here w known p is u place b (Method s) h = record {
  inside = p;
  is_package = is;
  of_path = sym h.0;
  holds = record {
    at = h.1.at;
    is_at = h.1.is_at;
    begins = subst (λ x. TokenAt p x place) (sym (stands_once p u h.1.at h.1.stands)) (token_there p u place b);
  };
}

module _ (below : ExportsMoveBelow) (w : Workspace) (known : Verdicts) (d : Declaration) (name : List ℕ) (s : FileChanges) (after : Verdicts)
    (free : IsFreeRename w known d name s after) where
  abbrev x : Workspace
  x = edited s w

  abbrev Goes : Declaration → Declaration → Type 0
  Goes = Corresponds (IsCheckedPackage w known) (IsCheckedPackage x after) (revision_of w s).moved

  module _ (p : Package) (is : IsCheckedPackage w known p) where
    abbrev stay : (q : Package) × (IsCheckedPackage x after q × (IsRelaid (revision_of w s) p q × (IsBoundAlike p q × HasMovedTokens (revision_of w s) p q)))
    stay = packages_stay below w known d name s after free p is

    seen_there : AreSeenAfter (IsCheckedPackage w known) (revision_of w s) p stay.0
    seen_there =
        let same = same_imports w known d name s free.rename in
        let known_sound = free.rename.rename in
        seen_follow w x known after (revision_of w s) p stay.0 is stay.1.0 stay.1.1.0.path
        (λ o on. faultless w known known_sound.right known_sound.sound o (to_package w p.path o on.imported))
        (record {
          same = λ o. (builds_by w x same p.path o, builds_by x w (imports_back w x same) p.path o);
          sound = λ o on. (each w known after d name s free.rename free.right free.harmless o (to_package w p.path o on.imported)).sound;
        })
        (λ o on. (each w known after d name s free.rename free.right free.harmless o (to_package w p.path o on.imported)).definitions)

    pub declares_after : (u : ℕ) (place : Place) → BeginsAt p place.path place.offset u → (old : Declaration) → DeclaresMember p u old →
        DeclaresMember stay.0 u old
    declares_after u place b old h =
        declared_members_stay w known (revision_of w s) free.harmless.none_lost p stay.0 is stay.1.1.0 stay.1.1.1.0 seen_there u place b old h

    pub goes_itself : (u : ℕ) (place : Place) → BeginsAt p place.path place.offset u → (old : Declaration) → DeclaresMember p u old → Goes old old
    goes_itself u place b old h =
        stands place (declared_here w known p is u place b old h)
        (declared_here x after stay.0 stay.1.0 u ((revision_of w s).moved place) (stay.1.1.1.1.names u place b) old (declares_after u place b old h))

    pub uses_after : (u : ℕ) (old : Declaration) → BindsByMember p u old → BindsByMember stay.0 u old
    uses_after u old h =
        let file = (p.layout.place u).file in
        let f = h.judged.source in
        let g = renamed_file (edits_by (change_of s f.path)) f in
        let at : slice_get stay.0.files file ≡ Some g =
        file_after w known after d name s free.rename p stay.0 is stay.1.0 stay.1.1.0.path file f h.judged.in_file in
        let world = have_all_worlds x free.sound after free.right stay.0 stay.1.0 file g at in
        let same = found w known after d name s free.rename free.harmless p stay.0
        (record { was = is; is = stay.1.0; relaid = stay.1.1.0; bound = stay.1.1.1.0; seen = seen_there }) file f g h.judged.world world.0
        h.judged.in_file at h.judged.judged_by world.1 in
        used_members_stay w known d name s free.rename free.harmless.none_lost p stay.0 is stay.1.1.0 stay.1.1.1.0 seen_there file f g h.judged.world world.0
        h.judged.in_file at h.judged.judged_by world.1 same u refl old h

    pub bound_after : (u : ℕ) (place : Place) → BeginsAt p place.path place.offset u → (old : Declaration) →
        BindsByMember p u old ⊎ DeclaresMember p u old → Goes old old →
        IsBoundToOne x after ((revision_of w s).moved place) (Goes old)
    bound_after u place b old (inl h) goes = record {
      declaration = old;
      is_use = record {
        used_in = stay.0;
        is_package = stay.1.0;
        user = u;
        begins = stay.1.1.1.1.names u place b;
        bound = binds.by_member (uses_after u old h);
      };
      holds = goes;
    }
    bound_after u place b old (inr h) goes = record {
      declaration = old;
      is_use = record {
        used_in = stay.0;
        is_package = stay.1.0;
        user = u;
        begins = stay.1.1.1.1.names u place b;
        bound = binds.by_name (declares_after u place b old h);
      };
      holds = goes;
    }

pub members_bound : ExportsMoveBelow → UsedMembersAreDeclared → MembersStayBound
members_bound below declared w known d name s after free p is u place b old (inl h) =
    let o = declared w free.rename.rename.sound known free.rename.rename.right p is u old h in
    bound_after below w known d name s after free p is u place b old (inl h)
    (goes_itself below w known d name s after free o.inside o.is_package o.user o.place o.begins old o.declares)
members_bound below declared w known d name s after free p is u place b old (inr h) =
    bound_after below w known d name s after free p is u place b old (inr h)
    (goes_itself below w known d name s after free p is u place b old h)
