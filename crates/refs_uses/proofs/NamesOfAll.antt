-- Members that have one name, one after another.
use Rattle.std.proofs.Common.{ℕ, ◌≡◌, ◌+◌, ◌<◌, inl, inr, List, [], length, take, get_or, sym, subst, ◌∙◌}
use Rattle.std.specs.Prelude.{Contains, Option, Some, None}
use Rattle.std.proofs.lemmas.Option.{none-some, same_Some}
use Rattle.base_lemmas.proofs.Elements.{nothing_in}
use Rattle.base_files.specs.Workspace.{Workspace}
use Rattle.types_declared.specs.Package.{Package}
use Rattle.workspace_check.specs.Verdicts.{Verdicts}
use Rattle.workspace_check.proofs.Members.{taken_or_next}
use Rattle.refs_binding.specs.declared.declaration.Declaration.{Declaration}
use Rattle.refs_binding.specs.Uses.{IsCheckedPackage}
use Rattle.refs_uses.specs.MemberNames.{IsOnlyName}
use Rattle.refs_uses.specs.SoughtMembers.{AllHaveName}

module _ (w : Workspace) (known : Verdicts) (name : List ℕ) where
  abbrev Have : List Declaration → Type 0
  Have set = (d : Declaration) → Contains set d → (p : Package) → IsCheckedPackage w known p → IsOnlyName p d name

  pub none_has_yet : Have []
  none_has_yet d has = absurd (nothing_in d has)

  pub all_passed_have : (set : List Declaration) (k : ℕ) (d : Declaration) → k < length set → d ≡ get_or set k d → Have (take k set) →
      ((p : Package) → IsCheckedPackage w known p → IsOnlyName p d name) → Have (take (k + 1) set)
  all_passed_have set k d lt is before here e has p checked = elim (taken_or_next set k d e lt has) [
    | inl old ↦ before e old p checked
    | inr same ↦ subst (λ x. IsOnlyName p x name) (is ∙ same) (here p checked)
  ]

-- the name that was found for all
pub found_for_all : (w : Workspace) (known : Verdicts) (name : List ℕ) (set : List Declaration) → Have w known name set → (o : Option (List ℕ)) →
    o ≡ Some name → AllHaveName w known set o
found_for_all w known name set all o e d has = λ other is p checked.
    subst (IsOnlyName p d) (same_Some name other (sym e ∙ is)) (all d has p checked)

pub none_for_all : (w : Workspace) (known : Verdicts) (set : List Declaration) (o : Option (List ℕ)) → o ≡ None → AllHaveName w known set o
none_for_all w known set o e d has = λ other is p checked. absurd (none-some other (sym e ∙ is))
