-- A name that a file declares in the package block has a name in objects.
use Rattle.std.proofs.Common.{ℕ, ◌≡◌, List, [], Option, Some, None, ap, sym, refl, ◌∙◌}
use Rattle.base_files.specs.Workspace.{Workspace}
use Rattle.go_ast.specs.SourceFile.{SourceFile}
use Rattle.go_scope.specs.declared.model.Block.TheVariants.{Package as PackageBlock}
use Rattle.go_scope.specs.declared.model.Role.TheVariants.{Declaring, NotLexical}
use Rattle.go_scope.specs.declared.model.Purpose.TheVariants as purpose
use Rattle.go_scope.specs.declared.model.Position.{Position}
use Rattle.go_scope.specs.Bindings.{Declares, own, may_declare, is_left_name, block_of}
use Rattle.go_scope.specs.Table.{LiesAt}
use Rattle.std.proofs.lemmas.Bool.{true≢false}
use Rattle.types_declared.proofs.Binding.{one_first}
use Rattle.types_declared.specs.Package.{Package}
use Rattle.workspace_check.specs.FaultLists.{ListsFaults}
use Rattle.workspace_check.specs.Verdicts.{Verdicts, AreVerdicts}
use Rattle.refs_binding.specs.Uses.{IsCheckedPackage}
use Rattle.build_object.specs.Lines.{GlobalName}
use Rattle.build_object.specs.Source.{Source}
use Rattle.build_object.specs.Sources.{IsGlobalAt, DenotesGlobal, IsSourceOf}
use Rattle.build_object.specs.Sources as code
use Rattle.law_faultless.proofs.MeaningfulNames.{declared_counts}
use Rattle.law_faultless.proofs.Scoped.{found_first}
use Rattle.law_faultless.proofs.TypesBound.{Stands}
use Rattle.law_faultless.specs.Lines.{name_in}

module _ (w : Workspace) (sound : ListsFaults w []) (known : Verdicts) (right : AreVerdicts w known) (p : Package) (is : IsCheckedPackage w known p) where
  abbrev IsOfPackage : (file n : ℕ) → Type 0
  IsOfPackage file n = Stands p file n (Declaring PackageBlock 0)

  -- it is no selector
  only_own : (file n : ℕ) → IsOfPackage file n → (g : GlobalName) → IsGlobalAt p file n g → g ≡ name_in p file n
  only_own file n there g (code.own binds level) = refl
  only_own file n there _ (code.imported q) =
      let at : Position = record { file = file; index = n } in
      let found = found_first w known p.path p is.is_checked at there.0 there.1.0 there.1.1.0 in
      let same : q.identifier ≡ there.0 = one_first (LiesAt p.layout at) p.size q.identifier there.0 q.found found in
      let roles : NotLexical purpose.Selected ≡ Declaring PackageBlock 0 =
      sym q.selected ∙ ap p.layout.role same ∙ there.1.1.1 in
      let z : ⊥ = cc in absurd z

  bound_there : (file n : ℕ) → IsOfPackage file n → ((g : GlobalName) → IsGlobalAt p file n g → ⊥) → ⊥
  bound_there file n there none =
      let u = there.0 in
      let role : p.layout.role u ≡ Declaring PackageBlock 0 = there.1.1.1 in
      let declares : Declares p.layout p.names u = record {
        may = ap may_declare role;
        is_new = λ left. absurd (true≢false (sym left ∙ ap is_left_name role));
      } in
      declared_counts w sound known right p is u there.1.0 declares
      (λ counts. none (name_in p file n)
      (code.own
      (record {
        identifier = u;
        found = found_first w known p.path p is.is_checked (record { file = file; index = n }) u there.1.0 there.1.1.0;
        bound = own refl counts;
      })
      (ap block_of role)))

  named_so : (file n : ℕ) → IsOfPackage file n → (o : Option GlobalName) → DenotesGlobal p file n o → o ≡ Some (name_in p file n)
  named_so file n there None h = absurd (bound_there file n there h)
  named_so file n there (Some g) h = ap (λ (z : GlobalName). Some z) (only_own file n there g h)

  -- the name of what is declared there
  pub global_named : (files_of : List ℕ → List SourceFile) (file : ℕ) (f : SourceFile) (s : Source) → IsSourceOf p files_of file f s → (n : ℕ) →
      IsOfPackage file n → s.global n ≡ Some (name_in p file n)
  global_named files_of file f s source n there = named_so file n there (s.global n) (source.global n)
