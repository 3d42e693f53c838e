-- Premises of this crate's lemmas that follow from the laws of renamed packages and scopes.
use Rattle.std.proofs.Common.{◌≡◌, sym, ap, subst, ◌∙◌}
use Rattle.std.specs.Prelude.{Contains}
use Rattle.base_files.specs.Packages.{package_paths}
use Rattle.base_edits.specs.EditSet.{edited}
use Rattle.types_declared.specs.Package.{Package}
use Rattle.law_renamed_workspaces.proofs.Packages.{package_there, new_paths}
use Rattle.law_renamed_workspaces.proofs.Relaid.{packages_are}
use Rattle.law_renamed_workspaces.proofs.BoundAlike.{packages_alike}
use Rattle.law_renamed_workspaces.proofs.KeptBindings.{scoped_of}
use Rattle.law_renamed_workspaces.proofs.ScopedAgain.{scopes_again}
pub use Rattle.law_renamed_workspaces.proofs.MovedTokens.{moved_tokens}
use Rattle.law_agreement.specs.Agreement.{PlainNoneLostPreserves}
use Rattle.law_agreement.proofs.NoneLost.{none_lost_preserves}
use Rattle.law_agreement.proofs.Preserved.{members_lose_none}
use Rattle.law_agreement.proofs.ScopedFaultless.{is_scoped, faultless_scoped}
use Rattle.law_agreement.proofs.Premises.{KeptAreSoundBelow, KeptPackagesAreRelaid, PreservedByMembers, SelectorsStayQualified}
use Rattle.law_agreement.proofs.Premises.{HasSameScopes, ScopedPackagesAreChecked, PackagesStayAlike}
use Rattle.law_agreement.proofs.Premises.{ExportsMoveBelow, PlainRenamesBringNoFault, MembersStayBound, UnboundStayUnbound}

-- each package is bound alike
pub packages_stay : ExportsMoveBelow → PackagesStayAlike
packages_stay below w known d name s after free p is =
    let under = below w known d name s after free p.path in
    let q = packages_are w known after d name s free.rename free.right p is under.sound in (
      q.0,
      (
        q.1.0,
        (
          q.1.1,
          (
            packages_alike w known after d name s free.rename free.right free.harmless.none_lost p q.0 is q.1.0 q.1.1 under,
            moved_tokens w known after d name s free.rename p q.0 is q.1.0 q.1.1,
          ),
        ),
      ),
    )

-- and is checked with the scopes that it has without checking
same_scopes : (o q : Package) → o ≡ scoped_of q → HasSameScopes o q
same_scopes o q e = record {
  path = sym (ap (λ (z : Package). z.path) e);
  layout = sym (ap (λ (z : Package). z.layout) e);
  names = sym (ap (λ (z : Package). z.names) e);
  size = sym (ap (λ (z : Package). z.size) e);
  files = sym (ap (λ (z : Package). z.files) e);
}

pub scoped_checked : ExportsMoveBelow → ScopedPackagesAreChecked
scoped_checked below w known d name s after free o is_o =
    let old : Contains (package_paths w) o.path =
    subst (λ ps. Contains ps o.path) (new_paths w known d name s free.rename) is_o.of_workspace in
    let p = package_there w free.rename.rename.sound known free.rename.rename.right o.path old in
    let under = below w known d name s after free p.0.path in
    let q = packages_are w known after d name s free.rename free.right p.0 p.1.0 under.sound in
    let path : o.path ≡ q.0.path = sym p.1.1 ∙ sym q.1.1.path in
    let same : o ≡ scoped_of q.0 =
    scopes_again w known after d name s free.rename free.right p.0 q.0 p.1.0 q.1.0 q.1.1.path under.sound o is_o path in
    (q.0, (q.1.0, same_scopes o q.0 same))

-- So a harmless rename preserves bindings, if no fault comes and members and unbound names stay.
pub none_lost_keeps : PlainRenamesBringNoFault → ExportsMoveBelow → MembersStayBound → UnboundStayUnbound → PlainNoneLostPreserves
none_lost_keeps no_fault below members unbound =
    none_lost_preserves no_fault (scoped_checked below) (packages_stay below) members unbound

-- Without checking, the package after the change is relaid too, and its tokens are moved.
pub kept_relaid : KeptAreSoundBelow → KeptPackagesAreRelaid
kept_relaid below w known d name s after kept p is =
    let q = packages_are w known after d name s kept.rename kept.right p is (below w known d name s after kept p.path) in
    let a = q.1.1 in
    let m = moved_tokens w known after d name s kept.rename p q.0 is q.1.0 a in (
      scoped_of q.0,
      (
        is_scoped (edited s w) after kept.right kept.sound q.0 q.1.0,
        (
          record {
            path = a.path;
            size = a.size;
            layout = a.layout;
            trees = a.trees;
            paths = a.paths;
            tokens = a.tokens;
            other_tokens = a.other_tokens;
            names = a.names;
            other_names = a.other_names;
          },
          record { tokens = m.tokens; names = m.names },
        ),
      ),
    )

-- So where bindings are preserved no identifier is lost or captured, if names of packages, qualified identifiers and members stay.
pub preserved_keeps : KeptAreSoundBelow → SelectorsStayQualified → PreservedByMembers
preserved_keeps below qualified = members_lose_none (kept_relaid below) faultless_scoped qualified
