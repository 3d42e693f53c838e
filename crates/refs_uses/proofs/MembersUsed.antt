-- The uses of another package's field or method are among the uses of members that a package's finding has.
use Rattle.std.proofs.Common.{ℕ, ◌≡◌, Bool, true, false, not, List, sym, subst}
use Rattle.std.specs.Prelude.{Option, Some, None}
use Rattle.std.proofs.lemmas.Bool.{false≢true}
use Rattle.base_files.specs.Workspace.{Workspace}
use Rattle.types_declared.specs.Package.{Package}
use Rattle.workspace_check.specs.Verdicts.{Verdicts}
use Rattle.refs_binding.specs.declared.declaration.Declaration.{Declaration}
use Rattle.refs_binding.specs.declared.declaration.Declaration.TheVariants.{Predeclared, Declared, Field, Method}
use Rattle.refs_binding.specs.declared.place_key.PlaceKey.{PlaceKey}
use Rattle.refs_binding.specs.Binding.{BindsByMember}
use Rattle.refs_binding.specs.Steps.{AddsPlaces, UsesIn, BindsIn, by_scope, by_package, by_member, by_name}
use Rattle.refs_binding.specs.Workspaces.{IsPackageAt, IsUseAt}
use Rattle.refs_binding.proofs.Adding.{adds_as}
use Rattle.refs_binding.proofs.Units.{one_at}
use Rattle.refs_uses.specs.MembersAbroad.{IsMemberAbroad}

-- a test and its contrary do not both hold
pub not_both : (b : Bool) → not b ≡ true → b ≡ true → ⊥
not_both true e f = false≢true e
not_both false e f = false≢true f

module _ (w : Workspace) (known : Verdicts) (n : ℕ) (p : Package) (is : IsPackageAt w known n p) where
  as_member : (d : Declaration) → IsMemberAbroad w known n d → (name : Option (List ℕ)) (u : ℕ) → BindsIn p d name u → BindsByMember p u d
  as_member (Predeclared k) abroad name u h = absurd abroad
  as_member (Declared path k) abroad name u h = absurd abroad
  as_member (Field s) abroad name u (by_scope h) = absurd h
  as_member (Field s) abroad None u (by_package h) = absurd h
  as_member (Field s) abroad (Some x) u (by_package h) = absurd h
  as_member (Field s) abroad name u (by_member h) = h
  as_member (Field s) abroad name u (by_name h) = absurd (abroad p is (sym h.0))
  as_member (Method s) abroad name u (by_scope h) = absurd h
  as_member (Method s) abroad None u (by_package h) = absurd h
  as_member (Method s) abroad (Some x) u (by_package h) = absurd h
  as_member (Method s) abroad name u (by_member h) = h
  as_member (Method s) abroad name u (by_name h) = absurd (abroad p is (sym h.0))

  pub members_used : (d : Declaration) → IsMemberAbroad w known n d → (name : Option (List ℕ)) (a b : List PlaceKey) →
      AddsPlaces a b (UsesIn p (λ u. BindsByMember p u d)) → AddsPlaces a b (IsUseAt w known d name n)
  members_used d abroad name a b h =
      adds_as a b (UsesIn p (λ u. BindsByMember p u d)) (IsUseAt w known d name n)
      (λ place q. record { used_in = p; is_package = is; is_use = (q.0, (q.1.0, by_member q.1.1)) })
      (λ place q.
      let used = subst (λ (x : Package). UsesIn x (BindsIn x d name) place) (one_at w known n q.used_in p q.is_package is) q.is_use in
      (used.0, (used.1.0, as_member d abroad name used.0 used.1.1))) h
