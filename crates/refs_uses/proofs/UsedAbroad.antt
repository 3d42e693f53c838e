-- The uses of another package's declaration are the qualified identifiers with its path and name.
use Rattle.std.proofs.Common.{ℕ, ◌≡◌, ◌<◌, false, List, length, refl, sym, ap, subst, ◌∙◌}
use Rattle.std.specs.Prelude.{Some, None, slice_get}
use Rattle.std.proofs.lemmas.Option.{same_Some, slice_get_within, slice_get_read, get_or_from_slice_get}
use Rattle.base_files.specs.Workspace.{Workspace}
use Rattle.base_files.specs.declared.place.Place.{Place}
use Rattle.go_ast.specs.SourceFile.{SourceFile}
use Rattle.go_scope.specs.Bindings.{is_implied}
use Rattle.go_scope.specs.declared.model.Position.{Position}
use Rattle.types_declared.specs.Package.{Package}
use Rattle.types_info.specs.declared.lists.Qualified.{Qualified}
use Rattle.types_info.specs.QualifiedIdentifiers.{IsQualifiedByPath, AreQualified}
use Rattle.workspace_check.specs.Verdicts.{Verdicts}
use Rattle.refs_binding.specs.declared.declaration.Declaration.TheVariants.{Declared}
use Rattle.refs_binding.specs.declared.place_key.PlaceKey.{PlaceKey}
use Rattle.refs_binding.specs.Steps.{AddsPlaces, UsesIn, BindsIn, by_scope, by_package, by_member, by_name}
use Rattle.refs_binding.specs.Workspaces.{IsPackageAt, IsUseAt}
use Rattle.refs_binding.proofs.Adding.{Below, adds_as, adds_none}
use Rattle.refs_binding.proofs.MemberParts.{not_declared}
use Rattle.refs_binding.proofs.Spelled.{selected_spelled}
use Rattle.refs_binding.proofs.Units.{one_at}
use Rattle.refs_uses.specs.Abroad.{IsAbroad, IsSpelledAt, IsSpelledAmong, IsSpelledUnder, IsSpelledListed, IsQualifiedUseOf}

-- the token of a rank in a list

pub record IsSpelledRank (files : List SourceFile) (name : List ℕ) (places : List Position) (k : ℕ) (place : Place) : Type 0 where
  pub at : Position
  pub has_rank : slice_get places k ≡ Some at
  pub is_spelled : IsSpelledAt files name at place

pub one_place : (files : List SourceFile) (name : List ℕ) (places : List Position) (k : ℕ) (at : Position) (a b : List PlaceKey) →
    slice_get places k ≡ Some at →
    AddsPlaces a b (IsSpelledAt files name at) → AddsPlaces a b (IsSpelledRank files name places k)
one_place files name places k at a b is h =
    adds_as a b (IsSpelledAt files name at) (IsSpelledRank files name places k)
    (λ place s. record { at = at; has_rank = is; is_spelled = s })
    (λ place r. subst (λ x. IsSpelledAt files name x place) (same_Some r.at at (sym r.has_rank ∙ is)) r.is_spelled) h

pub all_places : (files : List SourceFile) (name : List ℕ) (places : List Position) (n : ℕ) (a b : List PlaceKey) → n ≡ length places →
    AddsPlaces a b (Below (IsSpelledRank files name places) n) → AddsPlaces a b (IsSpelledAmong files name places)
all_places files name places n a b e h =
    adds_as a b (Below (IsSpelledRank files name places) n) (IsSpelledAmong files name places)
    (λ place q. record {
      at = q.2.at;
      among = (q.0, slice_get_within places q.0 q.2.at q.2.has_rank, get_or_from_slice_get places q.0 q.2.at q.2.at q.2.has_rank);
      is_spelled = q.2.is_spelled;
    })
    (λ place m. (
      m.among.0,
      subst (λ k. m.among.0 < k) (sym e) m.among.1,
      record {
        at = m.at;
        has_rank = slice_get_read places (length places) m.among.0 m.at refl m.among.1 (sym m.among.2);
        is_spelled = m.is_spelled;
      },
    )) h

-- the list of a number

pub record IsUnderRank (files : List SourceFile) (name path : List ℕ) (lists : List Qualified) (k : ℕ) (place : Place) : Type 0 where
  pub list : Qualified
  pub has_rank : slice_get lists k ≡ Some list
  pub under : IsSpelledUnder files name path list place

pub one_list : (files : List SourceFile) (name path : List ℕ) (lists : List Qualified) (k : ℕ) (list : Qualified) (a b : List PlaceKey) →
    slice_get lists k ≡ Some list → AddsPlaces a b (IsSpelledUnder files name path list) → AddsPlaces a b (IsUnderRank files name path lists k)
one_list files name path lists k list a b is h =
    adds_as a b (IsSpelledUnder files name path list) (IsUnderRank files name path lists k)
    (λ place s. record { list = list; has_rank = is; under = s })
    (λ place r. subst (λ x. IsSpelledUnder files name path x place) (same_Some r.list list (sym r.has_rank ∙ is)) r.under) h

pub all_lists : (files : List SourceFile) (name path : List ℕ) (lists : List Qualified) (n : ℕ) (a b : List PlaceKey) → n ≡ length lists →
    AddsPlaces a b (Below (IsUnderRank files name path lists) n) → AddsPlaces a b (IsSpelledListed files name path lists)
all_lists files name path lists n a b e h =
    adds_as a b (Below (IsUnderRank files name path lists) n) (IsSpelledListed files name path lists)
    (λ place q. record {
      at = q.2.under.1.at;
      listed = (q.0, record { list = q.2.list; has_number = q.2.has_rank; of_path = q.2.under.0; holds = q.2.under.1.among });
      is_spelled = q.2.under.1.is_spelled;
    })
    (λ place m.
    let is = m.listed.1 in (
      m.listed.0,
      subst (λ k. m.listed.0 < k) (sym e) (slice_get_within lists m.listed.0 is.list is.has_number),
      record {
        list = is.list;
        has_rank = is.has_number;
        under = (is.of_path, record { at = m.at; among = is.holds; is_spelled = m.is_spelled });
      },
    )) h

-- what is listed of a package

module _ (w : Workspace) (known : Verdicts) (n : ℕ) (p : Package) (is : IsPackageAt w known n p) (path name : List ℕ) where
  pub listed_behind : (files : List SourceFile) → files ≡ p.files → (lists : List Qualified) → AreQualified p lists → (a b : List PlaceKey) →
      AddsPlaces a b (IsSpelledListed files name path lists) → AddsPlaces a b (IsQualifiedUseOf w known n path name)
  listed_behind files same lists all a b h = adds_as a b (IsSpelledListed files name path lists) (IsQualifiedUseOf w known n path name) to from h
    where
      to : (place : Place) → IsSpelledListed files name path lists place → IsQualifiedUseOf w known n path name place
      to place s =
          let stands = (all path s.at).0 s.listed in
          let u = stands.identifier in
          let here : IsSpelledAt p.files name (p.layout.place u) place =
          subst (λ at. IsSpelledAt p.files name at place) (sym stands.is_at) (subst (λ fs. IsSpelledAt fs name s.at place) same s.is_spelled) in
          let identifier : is_implied (p.layout.role u) ≡ false = ap is_implied stands.behind.selected in
          record {
            used_in = p;
            is_package = is;
            is_use = (
              u,
              (
                ((stands.below, identifier), here.1),
                (stands.behind, selected_spelled w known p.path p is.is_package.is_checked u stands.behind.selected ∙ here.0),
              ),
            );
          }

      from_own : (place : Place) → UsesIn p (λ u. IsQualifiedByPath p u path × (p.names u ≡ name)) place → IsSpelledListed files name path lists place
      from_own place q =
          let u = q.0 in
          let behind = q.1.1.0 in
          let here : IsSpelledAt p.files name (p.layout.place u) place =
          (sym (selected_spelled w known p.path p is.is_package.is_checked u behind.selected) ∙ q.1.1.1, q.1.0.1) in
          record {
            at = p.layout.place u;
            listed = (all path (p.layout.place u)).1 (record { identifier = u; below = q.1.0.0.0; is_at = refl; behind = behind });
            is_spelled = subst (λ fs. IsSpelledAt fs name (p.layout.place u) place) (sym same) here;
          }

      from : (place : Place) → IsQualifiedUseOf w known n path name place → IsSpelledListed files name path lists place
      from place q = from_own place (subst (λ (x : Package). UsesIn x (λ u. IsQualifiedByPath x u path × (x.names u ≡ name)) place)
          (one_at w known n q.used_in p q.is_package is) q.is_use)

-- a declaration of another package is used so, and not otherwise

module _ (w : Workspace) (known : Verdicts) (n : ℕ) (path : List ℕ) (abroad : IsAbroad w known n path) (d : ℕ) where
  behind_name : (p : Package) → IsPackageAt w known n p → (name : List ℕ) (u : ℕ) → BindsIn p (Declared path d) (Some name) u →
      IsQualifiedByPath p u path × (p.names u ≡ name)
  behind_name p is name u (by_scope h) = absurd (abroad p is (sym h.0))
  behind_name p is name u (by_package h) = h
  behind_name p is name u (by_member h) = absurd (not_declared h.member path d h.declares)
  behind_name p is name u (by_name h) = absurd h

  pub used_abroad : (name : List ℕ) (a b : List PlaceKey) → AddsPlaces a b (IsQualifiedUseOf w known n path name) →
      AddsPlaces a b (IsUseAt w known (Declared path d) (Some name) n)
  used_abroad name a b h =
      adds_as a b (IsQualifiedUseOf w known n path name) (IsUseAt w known (Declared path d) (Some name) n)
      (λ place q. record { used_in = q.used_in; is_package = q.is_package; is_use = (q.is_use.0, (q.is_use.1.0, by_package q.is_use.1.1)) })
      (λ place q. record {
        used_in = q.used_in;
        is_package = q.is_package;
        is_use = (q.is_use.0, (q.is_use.1.0, behind_name q.used_in q.is_package name q.is_use.0 q.is_use.1.1));
      }) h

  no_name : (p : Package) → IsPackageAt w known n p → (u : ℕ) → BindsIn p (Declared path d) None u → ⊥
  no_name p is u (by_scope h) = abroad p is (sym h.0)
  no_name p is u (by_package h) = h
  no_name p is u (by_member h) = not_declared h.member path d h.declares
  no_name p is u (by_name h) = h

  pub unnamed_abroad : (a : List PlaceKey) → AddsPlaces a a (IsUseAt w known (Declared path d) None n)
  unnamed_abroad a =
      adds_none a (IsUseAt w known (Declared path d) None n) (λ place q. no_name q.used_in q.is_package q.is_use.0 q.is_use.1.1)
