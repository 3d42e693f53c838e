-- The declarations that packages export, by name.
use Rattle.std.proofs.Common.{ℕ, ◌≡◌, ◌+◌, ◌<◌, inl, inr, List, sym, subst, ◌∙◌, arith}
use Rattle.std.specs.Prelude.{Option, Some, None, MatchOption, slice_get}
use Rattle.std.specs.Global.{Vec}
use Rattle.std.specs.BTreeMap.{BTreeMap, Updates}
use Rattle.std.specs.Cmp.Lexicographic.{slice_cmp}
use Rattle.std.specs.Ordering.{nat_cmp}
use Rattle.std.proofs.lemmas.Bool.{cases_lt}
use Rattle.std.proofs.lemmas.Option.{same_Some}
use Rattle.base_files.specs.Packages.{package_paths}
use Rattle.base_files.specs.Workspace.{Workspace}
use Rattle.types_declared.specs.Package.{Package}
use Rattle.types_check.specs.Exports.{DoesExport}
use Rattle.types_declared.proofs.ByteKeys.{cases_bytes, others_stay}
use Rattle.workspace_check.specs.Verdicts.{Verdicts}
use Rattle.refs_binding.specs.declared.declaration.Declaration.{Declaration}
use Rattle.refs_binding.specs.declared.declaration.Declaration.TheVariants.{Declared}
use Rattle.refs_binding.specs.Exports.{number_named, IsExportedBelow, ExportNamesBelow, AreExportsByName, AreExportsByNameAt}
use Rattle.refs_binding.specs.Workspaces.{ExportsAs, IsExportedNumber}
use Rattle.refs_binding.proofs.Exporting.{none_exported, number_exported}

abbrev FoundBelow : Package → ℕ → List ℕ → Option ℕ → Type 0
FoundBelow p n name o = MatchOption o ((d : ℕ) → IsExportedBelow p n name d → ⊥) (λ d. IsExportedBelow p n name d)

-- one more declaration

still : (p : Package) (n : ℕ) (name : List ℕ) (o : Option ℕ) → (DoesExport p n → p.names n ≡ name → ⊥) → FoundBelow p n name o → FoundBelow p (n + 1) name o
still p n name None not h = λ d k. elim (cases_lt d n) [
  | inl below ↦ h d (record { below = below; seen = k.seen; named = k.named })
  | inr ge ↦ let lt = k.below in let at : d ≡ n = omega arith in not (subst (DoesExport p) at k.seen) (subst (λ e. p.names e ≡ name) at k.named)
]
still p n name (Some d) not h = record { below = let lt = h.below in omega arith; seen = h.seen; named = h.named }

pub same_numbers : (p : Package) (n : ℕ) (numbers : List ℕ → Option ℕ) → (DoesExport p n → ⊥) → ExportNamesBelow p n numbers →
    ExportNamesBelow p (n + 1) numbers
same_numbers p n numbers not h = λ name. still p n name (numbers name) (λ seen named. not seen) (h name)

pub one_more_number : (p : Package) (n : ℕ) (old new : BTreeMap (Vec ℕ) ℕ) (key : Vec ℕ) → key.items ≡ p.names n →
    Updates (λ a b. slice_cmp nat_cmp a.items b.items) old new key (Some n) → DoesExport p n →
    ExportNamesBelow p n (number_named old) → ExportNamesBelow p (n + 1) (number_named new)
one_more_number p n old new key is u seen h = λ name. elim (cases_bytes key.items name) [
  | inl at ↦
      subst (λ v. FoundBelow p (n + 1) v (number_named new v)) at
      (subst (FoundBelow p (n + 1) key.items) (sym u.1) (record { below = omega arith; seen = seen; named = sym is }))
  | inr ne ↦
      subst (FoundBelow p (n + 1) name) (sym (others_stay old new key (Some n) u name (λ same. ne (sym same))))
      (still p n name (number_named old name) (λ at named. ne (is ∙ named)) (h name))
]

pub no_numbers : (p : Package) (numbers : List ℕ → Option ℕ) → ((name : List ℕ) → numbers name ≡ None) → ExportNamesBelow p 0 numbers
no_numbers p numbers none = λ name. subst (FoundBelow p 0 name) (sym (none name)) (λ d k. let lt = k.below in absurd (omega arith))

-- all declarations

found_of_all : (p : Package) (n : ℕ) (name : List ℕ) (o : Option ℕ) → ((d : ℕ) → DoesExport p d → d < n) → FoundBelow p n name o →
    MatchOption o ((d : ℕ) → DoesExport p d → p.names d ≡ name → ⊥) (λ d. DoesExport p d × (p.names d ≡ name))
found_of_all p n name None within h = λ d seen named. h d (record { below = within d seen; seen = seen; named = named })
found_of_all p n name (Some d) within h = (h.seen, h.named)

pub all_numbers_of : (p : Package) (n : ℕ) (numbers : List ℕ → Option ℕ) → ((d : ℕ) → DoesExport p d → d < n) → ExportNamesBelow p n numbers →
    AreExportsByName p numbers
all_numbers_of p n numbers within h = λ name. found_of_all p n name (numbers name) within (h name)

-- what the package of a path exports under a name

pub not_exported : (w : Workspace) (known : Verdicts) (path name : List ℕ) (n : ℕ) (numbers : BTreeMap (Vec ℕ) ℕ) →
    slice_get (package_paths w) n ≡ Some path → AreExportsByNameAt w known n numbers → number_named numbers name ≡ None →
    (d : Declaration) → ExportsAs w known path name d → ⊥
not_exported w known path name n numbers at are is =
    none_exported w known path name are.0 are.1.0.is_package (same_Some _ _ (sym are.1.0.has_number ∙ at))
    (subst (λ o. MatchOption o ((d : ℕ) → DoesExport are.0 d → are.0.names d ≡ name → ⊥) (λ d. DoesExport are.0 d × (are.0.names d ≡ name))) is (are.1.1 name))

pub is_exported : (w : Workspace) (known : Verdicts) (path name : List ℕ) (n : ℕ) (numbers : BTreeMap (Vec ℕ) ℕ) (d : ℕ) →
    slice_get (package_paths w) n ≡ Some path → AreExportsByNameAt w known n numbers → number_named numbers name ≡ Some d →
    (other : List ℕ) → other ≡ path → ExportsAs w known path name (Declared other d)
is_exported w known path name n numbers d at are is =
    let found = subst (λ o. MatchOption o ((d : ℕ) → DoesExport are.0 d → are.0.names d ≡ name → ⊥) (λ d. DoesExport are.0 d × (are.0.names d ≡ name))) is
    (are.1.1 name) in
    number_exported w known path name are.0 are.1.0.is_package (same_Some _ _ (sym are.1.0.has_number ∙ at)) d found.0 found.1

-- what the package of a number exports under a name
pub number_found : (w : Workspace) (known : Verdicts) (n : ℕ) (name : List ℕ) (numbers : BTreeMap (Vec ℕ) ℕ) (o : Option ℕ) →
    AreExportsByNameAt w known n numbers → o ≡ number_named numbers name → IsExportedNumber w known n name o
number_found w known n name numbers o are is = subst (IsExportedNumber w known n name) (sym is) (are.0, (are.1.0, are.1.1 name))
