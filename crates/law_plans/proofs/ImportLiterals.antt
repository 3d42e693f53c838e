-- The string literal of an import without a name is no name.
use Rattle.std.proofs.Common.{◌≡◌, ℕ, ◌<◌, true, [], Option, Some, None, inl, inr, refl, sym, ap, subst, ◌∙◌}
use Rattle.std.specs.Prelude.{slice_get}
use Rattle.std.proofs.lemmas.Bool.{true≢false}
use Rattle.std.proofs.lemmas.Option.{same_Some, get_or_from_slice_get}
use Rattle.base_files.specs.Workspace.{Workspace}
use Rattle.go_ast.specs.SourceFile.{SourceFile, source_of}
use Rattle.go_ast.specs.declared.syntax.Kind.{Kind}
use Rattle.go_scanner.specs.declared.piece.Class.{Class}
use Rattle.go_scanner.specs.declared.piece.Class.TheVariants.{Name, InterpretedString, RawString}
use Rattle.go_scanner.specs.declared.piece.Piece.{Piece}
use Rattle.go_scanner.specs.CutText.{tokens_in, token_at}
use Rattle.go_scanner.specs.TokenValues.{IsStringClass}
use Rattle.go_scope.specs.declared.model.Block.TheVariants.{Universe, File, Inner}
use Rattle.go_scope.specs.declared.model.Block.TheVariants.{Package as PackageBlock}
use Rattle.go_scope.specs.declared.model.Role.{Role}
use Rattle.go_scope.specs.declared.model.Role.TheVariants.{Use, Declaring, LeftName, Implied, NotLexical}
use Rattle.go_scope.specs.Bindings.{Declares, may_declare, is_left_name, block_of}
use Rattle.go_scope.specs.FileSites.{universe}
use Rattle.types_declared.specs.MeaningOf.{IsMeaningOf}
use Rattle.types_declared.specs.MeaningOf as bound
use Rattle.types_declared.specs.Package.{Package}
use Rattle.types_expr.specs.World.{Bound}
use Rattle.workspace_check.specs.FaultLists.{ListsFaults}
use Rattle.workspace_check.specs.Verdicts.{Verdicts, AreVerdicts}
use Rattle.workspace_check.proofs.OnePackage.{layout_formed}
use Rattle.workspace_check.proofs.PackageFiles.{at_rank}
use Rattle.refs_binding.specs.declared.declaration.Declaration.{Declaration}
use Rattle.refs_binding.specs.declared.declaration.Declaration.TheVariants.{Predeclared, Declared, Field, Method}
use Rattle.refs_binding.specs.Uses.{IsCheckedPackage}
use Rattle.law_faultless.proofs.Declared.{kept, given, old_site, new_site, role_is}
use Rattle.law_faultless.proofs.DeclaringNames.{Told}
use Rattle.law_faultless.proofs.FilesDecided.{IsGlobal}
use Rattle.law_faultless.proofs.MeaningfulNames.{declared_counts}
use Rattle.law_faultless.proofs.Meant.{meant_so}
use Rattle.law_faultless.proofs.Numbers.{OfKind, IsTold, IsKept, universal, plain, laid}
use Rattle.law_faultless.proofs.PackageWorlds.{strings_known, broken_decided}
use Rattle.refactor_rename.specs.declared.renamed.Literal.{Literal}
use Rattle.refactor_rename.specs.FileEdits.{IsLiteralAt}
use Rattle.refactor_rename.specs.Literals.{IsTokenOf, IsUnnamedImport, IsPathLiteralIn, IsPathLiteralOf, IsLiteralFound}
use Rattle.refactor_rename.specs.RenameEdits.{IsSourceIn}
use Rattle.refactor_rename.proofs.Sources.{one_source}

-- a string is no name
no_string : (c : Class) → c ≡ Name → IsStringClass c → ⊥
no_string c e (inl k) = let x : Name ≡ InterpretedString = sym e ∙ k in cc
no_string c e (inr k) = let x : Name ≡ RawString = sym e ∙ k in cc

-- what the block of a file declares may declare
may_in_file : (r : Role) (f : ℕ) → block_of r ≡ File f → may_declare r ≡ true
may_in_file (Declaring b start) f e = refl
may_in_file (LeftName b start) f e = refl
may_in_file (Implied b start) f e = refl
may_in_file Use f e = let z : ⊥ = cc in absurd z
may_in_file (NotLexical p) f e = let z : ⊥ = cc in absurd z

-- and is no left name
no_left : (K : Kind → ℕ → Type 0) (G : ℕ → Type 0) (F : Type 0) (i : ℕ) (r : Role) (f : ℕ) → Told K G F i r → block_of r ≡ File f → is_left_name r ≡ true → ⊥
no_left K G F i (LeftName (Inner file from to) start) f t e left = cc
no_left K G F i (LeftName PackageBlock start) f t e left = t
no_left K G F i (LeftName (File file) start) f t e left = t
no_left K G F i (LeftName Universe start) f t e left = t
no_left K G F i (Declaring b start) f t e left = true≢false (sym left)
no_left K G F i (Implied b start) f t e left = true≢false (sym left)
no_left K G F i Use f t e left = true≢false (sym left)
no_left K G F i (NotLexical p) f t e left = true≢false (sym left)

module _ (w : Workspace) (sound : ListsFaults w []) (known : Verdicts) (right : AreVerdicts w known) (p : Package) (is : IsCheckedPackage w known p) (d : ℕ)
    (lt : d < p.size) (unnamed : IsUnnamedImport p d) where
  left_name_no : is_left_name (p.layout.role d) ≡ true → ⊥
  left_name_no left = by_kind (kept w known p.path p is.is_checked d lt)
    where
      role : p.layout.role d ≡ (new_site w known p.path p is.is_checked d).role
      role = role_is w known p.path p is.is_checked d

      block : block_of (new_site w known p.path p is.is_checked d).role ≡ File unnamed.0.0
      block = ap block_of (sym role) ∙ unnamed.0.1

      by_kind : IsKept (IsTold 0 is.is_checked.files) universe (given w known p.path p is.is_checked d) (old_site w known p.path p is.is_checked d)
          (new_site w known p.path p is.is_checked d) → ⊥
      by_kind (universal r n) = true≢false (sym left ∙ ap is_left_name (role ∙ r))
      by_kind (plain e t) =
          let x = new_site w known p.path p is.is_checked d in
          no_left (OfKind t.file.cut) (IsGlobal (source_of t.file).tree.decls) (Unit {0}) x.place.index x.role unnamed.0.0 t.told block
          (ap is_left_name (sym role) ∙ left)
      by_kind (laid u g r) = true≢false (sym left ∙ ap is_left_name (role ∙ r))

  declares : Declares p.layout p.names d
  declares = record { may = may_in_file (p.layout.role d) unnamed.0.0 unnamed.0.1; is_new = λ left. absurd (left_name_no left) }

  module _ (f : SourceFile) (at : slice_get p.files (p.layout.place d).file ≡ Some f) where
    abbrev class : Class
    class = (token_at f.cut (p.layout.place d).index).class

    meant_no : class ≡ Name → (b : Bound) → IsMeaningOf p d b → ⊥
    meant_no name _ (bound.predeclared is_one means) = let e : Universe ≡ File unnamed.0.0 = sym is_one.universe ∙ unnamed.0.1 in cc
    meant_no name _ (bound.import_name i) =
        let same : i.of_path.source ≡ f =
        same_Some i.of_path.source f (sym i.of_path.is_file ∙ at) in
        let string = i.of_path.has_literal.is_string in
        no_string class name
        (subst (λ (g : SourceFile). IsStringClass (token_at g.cut (p.layout.place d).index).class) same
        (subst (λ k. IsStringClass (token_at i.of_path.source.cut (p.layout.place k).index).class) unnamed.1 string))
    meant_no name _ (bound.local inner) = let e = sym inner ∙ unnamed.0.1 in cc
    meant_no name _ (bound.variable v t) = let e : PackageBlock ≡ File unnamed.0.0 = sym v.0 ∙ unnamed.0.1 in cc
    meant_no name _ (bound.broken_variable v t) = let e : PackageBlock ≡ File unnamed.0.0 = sym v.0 ∙ unnamed.0.1 in cc
    meant_no name _ (bound.function g s) = let e : PackageBlock ≡ File unnamed.0.0 = sym g.0 ∙ unnamed.0.1 in cc
    meant_no name _ (bound.broken_function g s) = let e : PackageBlock ≡ File unnamed.0.0 = sym g.0 ∙ unnamed.0.1 in cc
    meant_no name _ (bound.definition level r whole) = let e : PackageBlock ≡ File unnamed.0.0 = sym level ∙ unnamed.0.1 in cc
    meant_no name _ (bound.broken_definition level r broken) = let e : PackageBlock ≡ File unnamed.0.0 = sym level ∙ unnamed.0.1 in cc

    pub literal_no_name : class ≡ Name → ⊥
    literal_no_name name =
        declared_counts w sound known right p is d lt declares
        (λ counts. meant_so w known p.path p is.is_checked (layout_formed w known p.path p is.is_checked) (strings_known w sound known right p is)
        (broken_decided w sound known right p is) d counts (meant_no name))

-- the literal of a declaration of a workspace

module _ (w : Workspace) (sound : ListsFaults w []) (known : Verdicts) (right : AreVerdicts w known) (f : SourceFile) (source : IsSourceIn w known f) (i : ℕ)
    (token : Piece) (at : slice_get (tokens_in f.cut) i ≡ Some token) where
  in_package : (p : Package) → IsCheckedPackage w known p → (d : ℕ) (l : Literal) → IsPathLiteralIn p d l → l.path ≡ f.path → l.token ≡ i →
      token.class ≡ Name → ⊥
  in_package p is d l h path index name = by_file (slice_get p.files (p.layout.place d).file) refl h.2
    where
      by_file : (o : Option SourceFile) → slice_get p.files (p.layout.place d).file ≡ o → IsTokenOf o (p.layout.place d).index l → ⊥
      by_file None e t = t
      by_file (Some g) e t =
          let own : IsSourceIn w known g = record { inside = p; is_package = is; has = at_rank p.files (p.layout.place d).file g e } in
          let same : g ≡ f = one_source w known g f own source (sym t.0 ∙ path) in
          let number : (p.layout.place d).index ≡ i = sym t.1 ∙ index in
          let here : token_at f.cut i ≡ token = get_or_from_slice_get (tokens_in f.cut) i token _ at in
          literal_no_name w sound known right p is d h.0 h.1 f (e ∙ ap (λ (x : SourceFile). Some x) same)
          (ap (λ k. (token_at f.cut k).class) number ∙ ap (λ (x : Piece). x.class) here ∙ name)

  of_declaration : (d : Declaration) (l : Literal) → IsPathLiteralOf (IsCheckedPackage w known) d l → l.path ≡ f.path → l.token ≡ i → token.class ≡ Name → ⊥
  of_declaration (Predeclared d) l h path index name = h
  of_declaration (Declared q d) l h path index name = in_package h.inside h.is_package d l h.holds path index name
  of_declaration (Field s) l h path index name = h
  of_declaration (Method s) l h path index name = h

  pub found_no_name : (d : Declaration) (o : Option Literal) → IsLiteralFound (IsPathLiteralOf (IsCheckedPackage w known) d) o → IsLiteralAt o f.path i →
      token.class ≡ Name → ⊥
  found_no_name d None h there name = there
  found_no_name d (Some l) h there name = of_declaration d l h there.0 there.1 name
