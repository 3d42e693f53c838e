-- In packages with one layout and the same trees, a function without a receiver is called `init` in both or in neither.
use Rattle.std.proofs.Common.{ℕ, ◌≡◌, ◌<◌, Bool, true, false, List, ap, refl, sym, subst, ◌∙◌, if◌then◌else◌}
use Rattle.std.specs.Prelude.{Option, Some, None, Contains, slice_get, bytes_eq, codes, option_map}
use Rattle.std.proofs.lemmas.Option.{none-some, same_Some, slice_get-map}
use Rattle.base_files.specs.Workspace.{Workspace}
use Rattle.go_ast.specs.SourceFile.{SourceFile, spelling_of}
use Rattle.go_ast.specs.Tree.{FileTree, FuncTree, ReceiverTree, DeclTree, VarDecl, TypeDecl, FuncDecl}
use Rattle.go_scope.specs.declared.model.Block.TheVariants.{Package as PackageBlock}
use Rattle.go_scope.specs.declared.model.Role.TheVariants.{Declaring, NotLexical}
use Rattle.go_scope.specs.declared.model.Purpose.TheVariants as purpose
use Rattle.go_scope.specs.FileSites.{func_role}
use Rattle.go_scope.specs.Bindings.{Layout}
use Rattle.go_scope.specs.Site.{TokenSpellings}
use Rattle.go_scope.specs.Table.{LiesAt}
use Rattle.law_tokens.proofs.Ordered.{one_stands}
use Rattle.types_declared.specs.Package.{Package}
use Rattle.types_info.specs.Worlds.{is_init}
use Rattle.types_info.proofs.DeclKinds.{Holds}
use Rattle.workspace_check.specs.Verdicts.{Verdicts, IsPackageIn}
use Rattle.law_faultless.proofs.FunctionsSettled.{function_kept, function_name_kept, no_import_role}
use Rattle.law_faultless.proofs.Lists.{contained}
use Rattle.law_faultless.proofs.Scoped.{in_order}
use Rattle.law_faultless.proofs.TypesBound.{Stands, Kept, all_kept}
use Rattle.law_changed_types.specs.MemberUses.{AgreesOnInit}
use Rattle.law_changed_types.specs.SameBindings.{trees_of}

-- files of one rank, by their trees

tree_got : (files : List SourceFile) (k : ℕ) (o : Option SourceFile) (t : FileTree) → slice_get files k ≡ o →
    option_map (λ (f : SourceFile). f.tree) o ≡ Some t → (f : SourceFile) × (slice_get files k ≡ Some f)
tree_got files k None t at e = absurd (none-some t e)
tree_got files k (Some f) t at e = (f, at)

-- there is one in the other list too
pub file_of_tree : (fs gs : List SourceFile) → trees_of gs ≡ trees_of fs → (k : ℕ) (g : SourceFile) → slice_get gs k ≡ Some g →
    (f : SourceFile) × (slice_get fs k ≡ Some f)
file_of_tree fs gs trees k g at =
    tree_got fs k (slice_get fs k) g.tree refl
    (sym (slice_get-map (λ (f : SourceFile). f.tree) fs k) ∙ ap (λ ts. slice_get ts k) (sym trees) ∙ slice_get-map (λ (f : SourceFile). f.tree) gs k
    ∙ ap (option_map (λ (f : SourceFile). f.tree)) at)

pub same_tree : (fs gs : List SourceFile) → trees_of gs ≡ trees_of fs → (k : ℕ) (f g : SourceFile) → slice_get fs k ≡ Some f → slice_get gs k ≡ Some g →
    g.tree ≡ f.tree
same_tree fs gs trees k f g at there =
    same_Some g.tree f.tree
    (ap (option_map (λ (f : SourceFile). f.tree)) (sym there) ∙ sym (slice_get-map (λ (f : SourceFile). f.tree) gs k) ∙ ap (λ ts. slice_get ts k) trees
    ∙ slice_get-map (λ (f : SourceFile). f.tree) fs k ∙ ap (option_map (λ (f : SourceFile). f.tree)) at)

same_test : (b c : Bool) → (if b then NotLexical purpose.InitFunction else Declaring PackageBlock 0) ≡
    (if c then NotLexical purpose.InitFunction else Declaring PackageBlock 0) → b ≡ c
same_test true true e = refl
same_test true false e = let z : ⊥ = cc in absurd z
same_test false true e = let z : ⊥ = cc in absurd z
same_test false false e = refl

same_name : (r : Option ReceiverTree) → r ≡ None → (a b : List ℕ) → func_role r a ≡ func_role r b → bytes_eq a (codes "init") ≡ bytes_eq b (codes "init")
same_name r none a b e =
    same_test (bytes_eq a (codes "init")) (bytes_eq b (codes "init"))
    (ap (λ (z : Option ReceiverTree). func_role z a) (sym none) ∙ e ∙ ap (λ (z : Option ReceiverTree). func_role z b) none)

module _ (w : Workspace) (known : Verdicts) (path : List ℕ) (p : Package) (h : IsPackageIn w known path p) where
  function_stands : (file : ℕ) (s : SourceFile) → slice_get p.files file ≡ Some s → (k : ℕ) (f : FuncTree) (c : ℕ) → Holds s.tree.decls (FuncDecl k f c) →
      Stands p file f.name (func_role f.receiver (spelling_of s f.name))
  function_stands file s at k f c held =
      let source : TokenSpellings = record { rank = file; spell = spelling_of s } in
      function_name_kept (Kept p file) source f (function_kept (Kept p file) source s.tree k f c (all_kept w known path p h file s at) held)
      (no_import_role f.receiver (spelling_of s f.name))

module _ (w x : Workspace) (before after : Verdicts) (p q : Package) (was : IsPackageIn w before p.path p) (is : IsPackageIn x after q.path q)
    (layout : q.layout ≡ p.layout) (size : q.size ≡ p.size) (file : ℕ) (f g : SourceFile) (at : slice_get p.files file ≡ Some f)
    (there : slice_get q.files file ≡ Some g) (trees : g.tree ≡ f.tree) where
  same_role : (k : ℕ) (t : FuncTree) (c : ℕ) → Holds f.tree.decls (FuncDecl k t c) →
      func_role t.receiver (spelling_of g t.name) ≡ func_role t.receiver (spelling_of f t.name)
  same_role k t c held =
      let u = function_stands w before p.path p was file f at k t c held in
      let v = function_stands x after q.path q is file g there k t c (subst (λ z. Holds z.decls (FuncDecl k t c)) (sym trees) held) in
      let lt : v.0 < p.size = subst (λ n. v.0 < n) size v.1.0 in
      let stands : LiesAt p.layout (record { file = file; index = t.name }) v.0 =
      subst (λ (l : Layout). LiesAt l (record { file = file; index = t.name }) v.0) layout v.1.1.0 in
      let one : v.0 ≡ u.0 = one_stands p.layout p.size (in_order w before p.path p was) (record { file = file; index = t.name }) v.0 u.0 lt u.1.0 stands
      u.1.1.0 in
      sym v.1.1.1 ∙ ap (λ (l : Layout). l.role v.0) layout ∙ ap p.layout.role one ∙ u.1.1.1

  keeps : (d : DeclTree) → Holds f.tree.decls d → AgreesOnInit (is_init f) (is_init g) d
  keeps (VarDecl k t c) held = tt
  keeps (TypeDecl k t c) held = tt
  keeps (FuncDecl k t c) held = λ none. same_name t.receiver none (spelling_of g t.name) (spelling_of f t.name) (same_role k t c held)

  pub keep_inits : (d : DeclTree) → Contains f.tree.decls d → AgreesOnInit (is_init f) (is_init g) d
  keep_inits d has = keeps d (contained f.tree.decls d has)
