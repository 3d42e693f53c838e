-- In a workspace without faults each file of a package is judged by something.
use Rattle.std.proofs.Common.{ℕ, ◌≡◌, ◌<◌, inl, inr, Bool, true, false, List, [], length, ap, sym, subst, refl, ◌∙◌, arith}
use Rattle.std.specs.Cmp.Lexicographic.{bytes_decides}
use Rattle.std.proofs.lemmas.Bool.{cases_Bool, cases_lt}
use Rattle.std.proofs.lemmas.Option.{slice_get_within}
use Rattle.base_files.specs.Workspace.{Workspace}
use Rattle.go_ast.specs.SourceFile.{spelling_of}
use Rattle.types_expr.specs.declared.symbol.Symbol.{Symbol}
use Rattle.types_expr.specs.Types.{same_path}
use Rattle.types_expr.specs.World.{Definition, member_by, implements_by}
use Rattle.types_declared.specs.Definitions.{IsDefinition, AreDefinitions}
use Rattle.types_declared.specs.Package.{Package, ExportData, package_types, symbol_in}
use Rattle.types_declared.specs.Written.{IsBroken, by_itself, through}
use Rattle.types_check.specs.Exports.{IsExportData}
use Rattle.types_info.proofs.Implementing.{CoverMembers, decided_by}
use Rattle.workspace_check.specs.FaultLists.{ListsFaults}
use Rattle.workspace_check.specs.Verdicts.{Verdicts, AreVerdicts, IsSeenAs}
use Rattle.workspace_check.proofs.OneList.{checked_package}
use Rattle.workspace_check.proofs.OnePackage.{layout_formed, one_checked}
use Rattle.refs_binding.proofs.Alike.{package_for}
use Rattle.refs_binding.specs.Uses.{IsCheckedPackage}
use Rattle.law_faultless.specs.Strings.{AreStringsKnown}
use Rattle.law_faultless.proofs.Deciding.{Decided, all_decided}
use Rattle.law_faultless.proofs.Spellings.{string_known}
use Rattle.law_faultless.proofs.Meanings.{name}
use Rattle.law_faultless.specs.Worlds.{HaveWorlds, HaveAllWorlds}
use Rattle.law_faultless.proofs.LinksBound.{source_is}
use Rattle.law_faultless.proofs.WholeBound.{none_broken}
use Rattle.law_faultless.proofs.WrittenNames.{names_of_members, names_cover, names_seen}

-- definitions of two kinds of packages as one function

abbrev chosen : ExportData → (List ℕ → ExportData) → Symbol → Bool → Definition
chosen own others s true = own.definition s.rank
chosen own others s false = (others s.package).definition s.rank

pub all_definitions : Package → ExportData → Symbol → Definition
all_definitions p i s = chosen i p.export_data_of s (same_path p.path s.package)

at_own : (p : Package) (i : ExportData) (rank : ℕ) → all_definitions p i (symbol_in p rank) ≡ i.definition rank
unfolding all_definitions
at_own p i rank = ap (chosen i p.export_data_of (symbol_in p rank)) ((bytes_decides p.path p.path).1 refl)

at_other : (p : Package) (i : ExportData) (path : List ℕ) (rank : ℕ) → (path ≡ p.path → ⊥) →
    all_definitions p i (record { «package» = path; rank = rank }) ≡ (p.export_data_of path).definition rank
unfolding all_definitions
at_other p i path rank other = elim (cases_Bool (same_path p.path path)) [
  | inl e ↦ absurd (other (sym ((bytes_decides p.path path).0 e)))
  | inr e ↦ ap (chosen i p.export_data_of (record { «package» = path; rank = rank })) e
]

are_definitions : (p : Package) (i : ExportData) → IsExportData p i → AreDefinitions p (all_definitions p i)
are_definitions p i h = record {
  own = λ rank d at. subst (IsDefinition p rank) (sym (at_own p i rank)) (h.definitions rank d at);
  beyond = λ rank none. at_own p i rank ∙ h.beyond rank none;
  imported = λ path rank other. at_other p i path rank other;
}

-- a broken definition is one of the package's
broken_within : (p : Package) (rank : ℕ) → IsBroken p rank → rank < length (package_types p)
broken_within p rank (by_itself h none) = slice_get_within (package_types p) rank h.definition h.has_rank
broken_within p rank (through h m b) = slice_get_within (package_types p) rank h.definition h.has_rank

module _ (w : Workspace) (sound : ListsFaults w []) (known : Verdicts) (right : AreVerdicts w known) (p : Package) (is : IsCheckedPackage w known p) where
  pub own_package : IsCheckedPackage w sound.known p
  own_package = package_for w known sound.known right sound.right p is

  own_export_data : IsExportData p (sound.known p.path).export_data
  own_export_data =
      let x = checked_package w sound p.path own_package.of_workspace in
      let same : x.checked ≡ p = one_checked w sound.known p.path x.checked p x.is_package own_package.is_checked in
      subst (λ c. IsExportData c (sound.known p.path).export_data) same x.is_export_data

  pub strings_known : AreStringsKnown p
  strings_known file s at token string = string_known s (source_is w known p.path p is.is_checked file s at) token string

  definitions_of : Symbol → Definition
  definitions_of = all_definitions p (sound.known p.path).export_data

  -- the names under which each definition writes members
  own_names : (s : Symbol) → (names : List (List ℕ)) × CoverMembers (definitions_of s) names
  unfolding definitions_of all_definitions
  own_names s = at (same_path p.path s.package)
    where
      at : (b : Bool) → (names : List (List ℕ)) × CoverMembers (chosen (sound.known p.path).export_data p.export_data_of s b) names
      at true = (names_of_members p, names_cover p (sound.known p.path).export_data own_export_data s.rank)
      at false =
          let h = own_package.is_checked in
          let table : h.export_data_of s.package ≡ p.export_data_of s.package = ap (λ (c : Package). c.export_data_of s.package)
          (sym h.is_package.is_package) in
          let seen = subst (IsSeenAs w sound.known p.path s.package (h.name_of s.package)) table (h.are_seen s.package) in
          let names = names_seen w sound p.path s.package (h.name_of s.package) (p.export_data_of s.package) seen in
          (names.0, names.1 s.rank)

  worlds_if : ((rank : ℕ) → Decided (IsBroken p rank)) → HaveWorlds p
  unfolding definitions_of
  worlds_if broken file s at =
      let definitions = definitions_of in
      let names = name p (layout_formed w known p.path p is.is_checked) strings_known broken file in (
        record {
          bound = λ token. (names token).0;
          member = λ token t. member_by definitions p.path (spelling_of s token) t;
          definition = λ symbol. (definitions symbol).underlying;
          implements = λ t s. implements_by definitions (own_names s).0 t s;
        },
        record {
          names = λ token. (names token).1;
          definitions = definitions;
          are_definitions = are_definitions p (sound.known p.path).export_data own_export_data;
          member = λ token t. refl;
          definition = λ symbol. refl;
          implements = λ t s. decided_by definitions (own_names s).0 t s (own_names s).1;
        },
      )

  pub not_broken : (rank : ℕ) → IsBroken p rank → ⊥
  not_broken rank b =
      let n = length (package_types p) in
      all_decided (IsBroken p) n
      (λ decided.
      let broken : (k : ℕ) → Decided (IsBroken p k) = λ k. elim (cases_lt k n) [
        | inl lt ↦ decided k lt
        | inr ge ↦ inr (λ c. absurd (let lt : k < n = broken_within p k c in omega arith))
      ] in
      none_broken w sound known right p is (worlds_if broken) rank b)

  pub broken_decided : (rank : ℕ) → Decided (IsBroken p rank)
  broken_decided rank = inr (not_broken rank)

  pub have_worlds : HaveWorlds p
  have_worlds = worlds_if broken_decided

pub have_all_worlds : (w : Workspace) → ListsFaults w [] → (known : Verdicts) → AreVerdicts w known → HaveAllWorlds w known
have_all_worlds w sound known right p is = have_worlds w sound known right p is
