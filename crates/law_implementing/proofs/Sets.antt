-- What is renamed with a declaration: it has its name, and nothing else is renamed with one for which no interface asks.
use Rattle.std.proofs.Common.{ℕ, ◌≡◌, ◌⊎◌, inl, inr, Bool, List, [], ap, refl, sym, subst, ◌∙◌}
use Rattle.std.specs.Prelude.{Some}
use Rattle.base_files.specs.Workspace.{Workspace}
use Rattle.types_expr.specs.declared.symbol.Symbol.{Symbol}
use Rattle.types_expr.specs.World.{Definition, Method as Received}
use Rattle.types_declared.specs.Definitions.{IsFoundMethod}
use Rattle.types_declared.specs.Package.{Package, function_place, spelled}
use Rattle.workspace_check.specs.FaultLists.{ListsFaults}
use Rattle.workspace_check.specs.Verdicts.{Verdicts, AreVerdicts}
use Rattle.refs_binding.specs.declared.declaration.Declaration.{Declaration}
use Rattle.refs_binding.specs.declared.declaration.Declaration.TheVariants.{Predeclared, Declared, Field, Method}
use Rattle.go_scope.specs.declared.model.Position.{Position}
use Rattle.refs_binding.specs.Binding.{IsFieldAt, IsMethodAt, field_place}
use Rattle.refs_binding.specs.DeclaredNames.{HasDeclaredName, HasMemberName}
use Rattle.refs_binding.specs.DeclaringPlaces.{InPackage}
use Rattle.refs_binding.specs.Uses.{IsCheckedPackage}
use Rattle.refs_binding.proofs.NamedPlaces.{one_field_place, one_method_place}
use Rattle.refs_binding.proofs.Units.{one_package}
use Rattle.refactor_coupled.specs.Coupling.{AsksFor, HasInSet, IsAskedMethod, IsCoupled, Meets, RenamedWith, coupled, itself}
use Rattle.refactor_coupled.specs.Implementing.{AreAllDefinitions}
use Rattle.refactor_coupled.proofs.MethodOwners.{IsOwner, asks, its_definition, owned_for, receives, receiving_type, written_by}
use Rattle.law_renamed_workspaces.specs.Renames.{AreCalledAlike, IsMember}
use Rattle.law_implementing.specs.Sets.{OthersAreAlone, SetsAreCalledAlike}
use Rattle.law_implementing.proofs.AllDefinitions.{all_alike}
use Rattle.law_implementing.proofs.NoneTurns.{decided}
use Rattle.law_implementing.proofs.RenamedHomes.{first_member, second_member, set_has_it}

alone : (definition : Symbol → Definition) (d e : Declaration) → (IsAskedMethod definition d → ⊥) → RenamedWith definition d e → e ≡ d
alone definition d _ none itself = refl
alone definition d _ none (coupled asked before c) = absurd (none asked)

pub others_are_alone : OthersAreAlone
others_are_alone w known d set right sound is definition are none e among =
    let same : definition ≡ is.definition = all_alike w sound known right definition is.definition are is.are_definitions in
    alone is.definition d e (subst (λ (ds : Symbol → Definition). IsAskedMethod ds d → ⊥) same none) ((is.each e).0 among)

-- A member has one name.
module _ (w : Workspace) (known : Verdicts) where
  one_of : (IsAt : Package → (rank : ℕ) → Position → Type 0) → ((p : Package) (rank : ℕ) (a b : Position) → IsAt p rank a → IsAt p rank b → a ≡ b) →
      (s : Symbol) (m n : List ℕ) → InPackage (IsCheckedPackage w known) s.package (λ p. HasMemberName (IsAt p) p s.rank m) →
      InPackage (IsCheckedPackage w known) s.package (λ p. HasMemberName (IsAt p) p s.rank n) → m ≡ n
  one_of IsAt one s m n h k =
      let p = k.inside in
      let same : h.inside ≡ p = one_package w known h.inside p h.is_package k.is_package (h.of_path ∙ sym k.of_path) in
      let here : HasMemberName (IsAt p) p s.rank m = subst (λ (q : Package). HasMemberName (IsAt q) q s.rank m) same h.holds in
      let at : here.at ≡ k.holds.at = one p s.rank here.at k.holds.at here.is_at k.holds.is_at in
      sym here.called ∙ ap (λ (x : Position). spelled p x.file x.index) at ∙ k.holds.called

  one_member_name : (e : Declaration) → IsMember e → (m n : List ℕ) → HasDeclaredName (IsCheckedPackage w known) e m →
      HasDeclaredName (IsCheckedPackage w known) e n → m ≡ n
  one_member_name (Field s) member m n h k = one_of IsFieldAt one_field_place s m n h k
  one_member_name (Method s) member m n h k = one_of IsMethodAt one_method_place s m n h k
  one_member_name (Predeclared x) member m n h k = absurd member
  one_member_name (Declared path x) member m n h k = absurd member

module _ (w : Workspace) (sound : ListsFaults w []) (known : Verdicts) (right : AreVerdicts w known) (definition : Symbol → Definition)
    (are : AreAllDefinitions (IsCheckedPackage w known) definition) where
  abbrev HasName : Declaration → List ℕ → Type 0
  HasName e name = HasDeclaredName (IsCheckedPackage w known) e name

  asked_named : (i : Symbol) (name : List ℕ) (e : Declaration) → AsksFor definition i name e → HasName e name
  asked_named i name e h =
      let f = h.written in
      let by = written_by w known definition are (decided w sound known right definition are) i name f h.is_written in
      let own : HasName (Field f.symbol) name = record {
        inside = by.of.inside;
        is_package = by.of.is_package;
        of_path = ap (λ (z : Symbol). z.package) (sym by.is_symbol);
        holds = record {
          at = field_place by.field;
          is_at = record { counts = record { definition = by.of.rank; name = name; field = by.field; counting = by.counting }; named_at = refl };
          called = by.counting.is_field.named;
        };
      } in
      subst (λ z. HasName z name) (sym h.is_declaration) own

  received_named : (s : Symbol) (name : List ℕ) (m : Received) → (definition s).method name ≡ Some m → HasName (Method m.symbol) name
  received_named s name m at =
      let all = decided w sound known right definition are in
      let of = receiving_type w known definition are all s name m at in
      let found = subst (IsFoundMethod of.inside of.rank name) at ((its_definition w known definition are all s of).methods name) in
      record {
        inside = of.inside;
        is_package = of.is_package;
        of_path = ap (λ (z : Symbol). z.package) (sym found.4);
        holds = record {
          at = function_place found.0;
          is_at = record { counts = record { definition = of.rank; name = name; method = found.0; counting = found.1 }; named_at = refl };
          called = found.1.is_method.named;
        };
      }

  owner_named : (s : Symbol) (name : List ℕ) (e : Declaration) → IsOwner definition s name e → HasName e name
  owner_named s name e (asks h) = asked_named s name e h
  owner_named s name e (receives m at is not) = subst (λ z. HasName z name) (sym is) (received_named s name m at)

  has_named : (of : Symbol) (star : Bool) (name : List ℕ) (e : Declaration) → HasInSet definition star of name e → HasName e name
  has_named of star name e h =
      let own = owned_for w known definition are (decided w sound known right definition are) of star name e h in owner_named own.owner name e own.owns

  -- both of two coupled methods have a name
  record ShareName (d e : Declaration) : Type 0 where
    first : IsMember d
    second : IsMember e
    name : List ℕ
    first_called : HasName d name
    second_called : HasName e name

  met_share : (d e : Declaration) → Meets definition d e → ShareName d e
  met_share d e m = record {
    first = first_member definition d e m;
    second = second_member definition d e m;
    name = m.name;
    first_called = has_named m.of m.star m.name d m.has;
    second_called = asked_named m.interface m.name e m.asked;
  }

  share : (d e : Declaration) → IsCoupled definition d e → ShareName d e
  share d e (inl m) = met_share d e m
  share d e (inr m) =
      let x = met_share e d m in
      record { first = x.second; second = x.first; name = x.name; first_called = x.second_called; second_called = x.first_called }

  carries : (e f : Declaration) → ShareName e f → (name : List ℕ) → HasName e name → HasName f name
  carries e f x name h = subst (HasName f) (one_member_name w known e x.first x.name name x.first_called h) x.second_called

  others : (d e : Declaration) → RenamedWith definition d e → (e ≡ d) ⊎ AreCalledAlike (IsCheckedPackage w known) d e
  others d _ itself = inl refl
  others d f (coupled {e = e} asked before c) =
      let x = share e f c in
      elim (others d e before) [
        | inl same ↦ inr (record {
          first = subst IsMember same x.first;
          second = x.second;
          called = λ name h. carries e f x name (subst (λ z. HasName z name) (sym same) h);
        })
        | inr alike ↦ inr (record { first = alike.first; second = x.second; called = λ name h. carries e f x name (alike.called name h) })
      ]

pub sets_are_called_alike : SetsAreCalledAlike
sets_are_called_alike w known d set right sound is = record {
  has_it = set_has_it (IsCheckedPackage w known) d set is;
  others = λ e among. others w sound known right is.definition is.are_definitions d e ((is.each e).0 among);
}
