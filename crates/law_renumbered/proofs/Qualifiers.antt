-- The names of packages before identifiers.
use Rattle.std.proofs.Common.{ℕ, suc, ◌≡◌, List, refl, sym, ap, ◌∙◌, subst, arith}
use Rattle.go_scope.specs.declared.model.Position.{Position}
use Rattle.law_changed_types.specs.SameBindings.{IsSelectedAt}
use Rattle.types_declared.specs.Package.{Package}
use Rattle.types_declared.specs.Written.{BindsToken}
use Rattle.types_info.specs.QualifiedIdentifiers.{IsQualifiedByPath}
use Rattle.law_changed_types.specs.RenumberedPackage.{IsRenumberedPackage, NewNumbers}
use Rattle.law_changed_types.proofs.RenumberedTypesAlike.{Half, SamePlace, Turned, TurnedIdentifiers, binds}
use Rattle.law_changed_types.proofs.Numbered.{FollowsIdentifier, FollowsToken, back, there}
use Rattle.law_renumbered.specs.Bindings.{IsFirstThere, QualifiersRenumber}

module _ (T : ℕ → ℕ → ℕ → Type 0) (I : ℕ → ℕ → Type 0) (p q : Package) (h : Half T I p q) where
  pub qualified : (u v : ℕ) → I u v → SamePlace T (p.layout.place u) (q.layout.place v) → IsFirstThere p u → (path : List ℕ) →
      IsQualifiedByPath p u path → IsQualifiedByPath q v path
  qualified u v is place first path x =
      let at = p.layout.place u in
      let selected : IsSelectedAt p at.file at.index = record { identifier = u; found = first; selected = x.selected } in
      let dot = h.dots at.file at.index (q.layout.place v).index place.index selected in
      let same : dot.was ≡ x.before = (let e : suc (suc dot.was) ≡ suc (suc x.before) = sym dot.was_behind ∙ x.behind_dot in omega (arith, e)) in
      let bound = binds T I p q h at.file dot.was dot.is x.named.import dot.follows
      (subst (λ b. BindsToken p at.file b x.named.import) (sym same) x.named.binds) in
      record {
        selected = h.selected u v is x.selected;
        before = dot.is;
        behind_dot = dot.is_behind;
        named = record {
          import = bound.0;
          binds = subst (λ f. BindsToken q f dot.is bound.0) (sym place.file) bound.1.1;
          imports = h.imports x.named.import bound.0 path bound.1.0 x.named.imports;
        };
      }

module _ (n : NewNumbers) (p q : Package) (a : IsRenumberedPackage n p q) (u : ℕ) where
  same_file : (q.layout.place (n.identifier u)).file ≡ (p.layout.place u).file
  same_file = ap (λ (z : Position). z.file) (a.places u)

  same_index : (q.layout.place (n.identifier u)).index ≡ n.token (p.layout.place u).file (p.layout.place u).index
  same_index = ap (λ (z : Position). z.index) (a.places u)

  goes : SamePlace (FollowsToken n) (p.layout.place u) (q.layout.place (n.identifier u))
  goes = record { file = same_file; index = same_index }

  comes : SamePlace (Turned (FollowsToken n)) (q.layout.place (n.identifier u)) (p.layout.place u)
  comes = record {
    file = sym same_file;
    index = subst (λ f. (q.layout.place (n.identifier u)).index ≡ n.token f (p.layout.place u).index) (sym same_file) same_index;
  }

pub qualifiers_renumber : QualifiersRenumber
qualifiers_renumber n p q a u first first_too path =
    let T = FollowsToken n in
    let I = FollowsIdentifier n in (
      (λ x. qualified T I p q (there n p q a) u (n.identifier u) refl (goes n p q a u) first path x),
      (λ x. qualified (Turned T) (TurnedIdentifiers I) q p (back n p q a) (n.identifier u) u refl (comes n p q a u) first_too path x),
    )
