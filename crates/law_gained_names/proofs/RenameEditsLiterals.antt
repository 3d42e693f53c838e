-- Whether a declaration is an import without a name is decided, and then it has a string literal.
use Rattle.std.proofs.Common.{ℕ, ◌≡◌, ◌<◌, inl, inr, List, refl}
use Rattle.std.specs.Prelude.{Option, Some, None, slice_get}
use Rattle.std.proofs.lemmas.Option.{slice_get_within}
use Rattle.base_files.specs.Packages.{package_paths}
use Rattle.base_files.specs.Workspace.{Workspace}
use Rattle.go_ast.specs.SourceFile.{SourceFile}
use Rattle.go_scope.specs.Bindings.{IsImport, block_of}
use Rattle.go_scope.proofs.Uniqueness.{same_or_not}
use Rattle.types_declared.specs.Laid.{literal_of}
use Rattle.types_declared.specs.Package.{Package}
use Rattle.workspace_check.specs.declared.findings.Findings.{Findings}
use Rattle.workspace_check.proofs.Members.{cases_contains}
use Rattle.workspace_graph.proofs.ByPath.{number}
use Rattle.refs_binding.specs.declared.declaration.Declaration.{Declaration}
use Rattle.refs_binding.specs.declared.declaration.Declaration.TheVariants.{Predeclared, Declared, Field, Method}
use Rattle.refs_binding.specs.Uses.{IsCheckedPackage}
use Rattle.refs_binding.specs.Workspaces.{IsFaultless, known_in}
use Rattle.refs_binding.proofs.PackageNumbers.{package_there, no_package}
use Rattle.refactor_rename.specs.declared.renamed.Literal.{Literal}
use Rattle.refactor_rename.proofs.Literals.{found_in}
use Rattle.refactor_rename.specs.Literals.{IsTokenOf, IsUnnamedImport, IsPathLiteralIn, IsPathLiteralOf, IsLiteralFound}
use Rattle.law_faultless.proofs.Deciding.{Decided, both, less}
use Rattle.law_faultless.proofs.Lexical.{file_block}

-- The literal of which `K` holds, or the proof that there is none.
abbrev pub FindsLiteral : (Literal → Type 0) → Type 0
FindsLiteral K = (found : Option Literal) × IsLiteralFound K found

none_found : (K : Literal → Type 0) → ((l : Literal) → K l → ⊥) → FindsLiteral K
none_found K none = (None, none)

one_found : (K : Literal → Type 0) (l : Literal) → K l → FindsLiteral K
one_found K l is = (Some l, is)

found_by : (K L : Literal → Type 0) → ((l : Literal) → K l → L l) → ((l : Literal) → L l → K l) → (o : Option Literal) → IsLiteralFound K o → FindsLiteral L
found_by K L to from None none = none_found L (λ l is. none l (from l is))
found_by K L to from (Some l) is = one_found L l (to l is)

found_as : (K L : Literal → Type 0) → ((l : Literal) → K l → L l) → ((l : Literal) → L l → K l) → FindsLiteral K → FindsLiteral L
found_as K L to from h = found_by K L to from h.0 h.1

-- the token of a file, if there is one
token_found : (o : Option SourceFile) (token : ℕ) → FindsLiteral (IsTokenOf o token)
token_found None token = none_found (IsTokenOf None token) (λ l h. h)
token_found (Some f) token = one_found (IsTokenOf (Some f) token) (record { path = f.path; token = token }) (refl, refl)

unnamed : (p : Package) (n : ℕ) → Decided ((n < p.size) × IsUnnamedImport p n)
unnamed p n =
    let Is = literal_of p.layout n ≡ n in
    both (n < p.size) (IsImport p.layout n × Is) (less n p.size)
    (both (IsImport p.layout n) Is (file_block (block_of (p.layout.role n))) (same_or_not (literal_of p.layout n) n))

literal_in : (p : Package) (n : ℕ) → FindsLiteral (IsPathLiteralIn p n)
literal_in p n = elim (unnamed p n) [
  | inr other ↦ none_found (IsPathLiteralIn p n) (λ l h. other (h.0, h.1))
  | inl is ↦ found_as (IsTokenOf (slice_get p.files (p.layout.place n).file) (p.layout.place n).index) (IsPathLiteralIn p n) (λ l h. (is.0, is.1, h)) (λ l
      h. h.2)
      (token_found (slice_get p.files (p.layout.place n).file) (p.layout.place n).index)
]

module _ (w : Workspace) (found : Findings) (faultless : IsFaultless w found) where
  abbrev Known : Package → Type 0
  Known = IsCheckedPackage w (known_in found)

  literal_of_path : (path : List ℕ) (n : ℕ) → FindsLiteral (IsPathLiteralOf Known (Declared path n))
  literal_of_path path n = elim (cases_contains (package_paths w) path) [
    | inr other ↦ none_found (IsPathLiteralOf Known (Declared path n)) (λ l h. no_package w (known_in found) path (λ p. IsPathLiteralIn p n l) other h)
    | inl there ↦ (
        let k = number w path there in
        let p = package_there w found faultless k.0 (slice_get_within (package_paths w) k.0 path k.1) in
        let o = literal_in p.0 n in
        (o.0, found_in w (known_in found) k.0 p.0 path n p.1 k.1 o.0 o.1))
  ]

  pub literal_decided : (d : Declaration) → FindsLiteral (IsPathLiteralOf Known d)
  literal_decided (Predeclared n) = none_found (IsPathLiteralOf Known (Predeclared n)) (λ l h. h)
  literal_decided (Declared path n) = literal_of_path path n
  literal_decided (Field s) = none_found (IsPathLiteralOf Known (Field s)) (λ l h. h)
  literal_decided (Method s) = none_found (IsPathLiteralOf Known (Method s)) (λ l h. h)
