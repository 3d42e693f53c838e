-- Each field and method that counts in a package has an identifier, which begins somewhere.
use Rattle.std.proofs.Common.{subst, sym, refl}
use Rattle.std.specs.Prelude.{Some}
use Rattle.base_files.specs.Workspace.{Workspace}
use Rattle.base_files.specs.declared.place.Place.{Place}
use Rattle.go_scope.specs.declared.model.Position.{Position}
use Rattle.types_declared.specs.Package.{Package, function_place}
use Rattle.workspace_check.specs.Verdicts.{Verdicts}
use Rattle.refs_binding.specs.Binding.{field_place}
use Rattle.refs_binding.specs.DeclaringPlaces.{TokenBegins}
use Rattle.refs_binding.specs.Identifiers.{NameBegins}
use Rattle.refs_binding.specs.Uses.{IsCheckedPackage}
use Rattle.refs_binding.proofs.Tokens.{Begins}
use Rattle.refs_uses.proofs.NameTokens.{name_at_token}
use Rattle.law_renamed_workspaces.proofs.RenamedMembersNameTokens.{IsNamedIn, field_name, function_name}
use Rattle.law_renamed_workspaces.proofs.NewNames.{name_stands}
use Rattle.law_renamed_workspaces.proofs.MemberFaults.{AreMembersNamed}

module _ (w : Workspace) (known : Verdicts) (p : Package) (is : IsCheckedPackage w known p) where
  begins : (at : Position) → IsNamedIn p at.file at.index → (place : Place) × Begins p at place
  begins at h =
      let x = name_stands w known p is at h in
      let t = x.stands in
      let begun : TokenBegins (Some t.file) at.index x.place = subst (λ o. TokenBegins o at.index x.place) t.of_rank t.begins in
      (x.place, subst (λ o. NameBegins o at.index x.place.path x.place.offset) (sym t.of_rank) (t.is_name, begun.0, begun.1))

  pub members_named : AreMembersNamed p
  members_named = record {
    fields = λ rank counts.
        let at = field_place counts.field in
        let b = begins at (field_name p rank counts.field counts.counting.is_field.has_rank) in
        let t = name_at_token w known p.path p is.is_checked at b.0 b.1 in
        record {
          user = t.0;
          place = b.0;
          named = record { at = at; is_at = record { counts = counts; named_at = refl }; stands = t.1.1 };
          begins = t.1.0;
        };
    methods = λ rank counts.
        let at = function_place counts.method in
        let b = begins at (function_name p rank counts.method counts.counting.is_method.has_rank) in
        let t = name_at_token w known p.path p is.is_checked at b.0 b.1 in
        record {
          user = t.0;
          place = b.0;
          named = record { at = at; is_at = record { counts = counts; named_at = refl }; stands = t.1.1 };
          begins = t.1.0;
        };
  }
