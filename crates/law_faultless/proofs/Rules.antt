-- In a workspace without faults a file whose names are all known keeps the typing rules.
use Rattle.std.proofs.Common.{ℕ, suc, inl, inr, List, [], ◌∷◌, sym, subst, refl}
use Rattle.base_files.specs.Workspace.{Workspace}
use Rattle.go_scanner.specs.CutText.{tokens_in}
use Rattle.go_ast.specs.declared.syntax.Kind.TheVariants as kind
use Rattle.go_ast.specs.declared.syntax.Token.{Token}
use Rattle.go_ast.specs.Flatten.{flatten}
use Rattle.go_ast.specs.Kinds.{kinds_of}
use Rattle.go_ast.specs.SourceFile.{SourceFile, IsSourceFile}
use Rattle.go_scope.specs.FileSites.{file_sites}
use Rattle.go_scope.specs.Site.{TokenSpellings}
use Rattle.law_tokens.proofs.Links.{AreConsecutive, HasKind}
use Rattle.law_tokens.proofs.Roles.{consecutive, of_kind}
use Rattle.types_expr.specs.Judge.{MemberUse}
use Rattle.law_typing.specs.Declarations.{FileIsTyped}
use Rattle.types_declared.specs.Package.{Package}
use Rattle.types_info.specs.MemberUses.{AreUsesIn}
use Rattle.types_info.specs.Worlds.{is_init}
use Rattle.workspace_check.specs.FaultLists.{ListsFaults}
use Rattle.workspace_check.specs.Verdicts.{Verdicts, AreVerdicts}
use Rattle.refs_binding.specs.Uses.{IsCheckedPackage}
use Rattle.law_faultless.specs.ResolvedNames.{AreResolved, IsBlankAt}
use Rattle.law_faultless.specs.Worlds.{HaveAllWorlds}
use Rattle.law_faultless.proofs.Fine.{world_unbroken}
use Rattle.law_faultless.proofs.LinksBound.{source_is}
use Rattle.law_faultless.proofs.NoFaults.{no_fault_in}
use Rattle.law_faultless.proofs.NumberedTokens.{Strung}
use Rattle.law_faultless.proofs.Typed.{file_typed}

strung : (B : ℕ → Type 0) (n : ℕ) (ts : List Token) → AreConsecutive n ts → ((i : ℕ) → HasKind kind.Blank i ts → B i) → (m : ℕ) × Strung B n ts m
strung B n [] a f = (n, refl)
strung B n (t ∷ ts) a f = let r = strung B (suc n) ts a.1 (λ i h. f i (inr h)) in (r.0, (a.0, ((λ e. f t.place (inl (refl, e))), r.1)))

pub source_strung : (s : SourceFile) → IsSourceFile s → (m : ℕ) × Strung (IsBlankAt s) 0 (flatten s.tree) m
source_strung s is =
    let r = strung (IsBlankAt s) 0 (kinds_of s.cut) (consecutive 0 s.cut.text (tokens_in s.cut)) (λ i h. of_kind s.cut kind.Blank i h) in
    (r.0, subst (λ ts. Strung (IsBlankAt s) 0 ts r.0) (sym is.is_tree.written) r.1)

module _ (w : Workspace) (sound : ListsFaults w []) (known : Verdicts) (right : AreVerdicts w known) (worlds : HaveAllWorlds w known) (p : Package)
    (is : IsCheckedPackage w known p) where
  pub keeps_rules : (file : ℕ) (uses : List MemberUse) (a : AreUsesIn p file uses) (s : TokenSpellings) →
      AreResolved a.world (IsBlankAt a.source) [] (file_sites s a.source.tree) → FileIsTyped a.world (is_init a.source) a.source.tree
  keeps_rules file uses a s resolved =
      let source = source_is w known p.path p is.is_checked file a.source a.in_file in
      let t = source_strung a.source source in
      file_typed a.world (IsBlankAt a.source) s (world_unbroken w sound known right worlds p is file a.source a.world a.judged_by) (is_init a.source) t.0
      a.source.tree source.is_tree.well_formed (no_fault_in w sound known right p is file uses a) resolved t.1
