-- The names in package clauses and of functions after a move: the clause's name follows the path, and functions keep their names.
use Rattle.std.proofs.Common.{ℕ, ◌≡◌, ◌<◌, inl, inr, Bool, true, false, if◌then◌else◌, List, [], ◌∷◌, Option, Some, None, cond, refl, sym, ap, subst, ◌∙◌}
use Rattle.std.specs.Prelude.{slice_get, bytes_eq, codes, unwrap_or}
use Rattle.std.specs.Cmp.Lexicographic.{bytes_decides}
use Rattle.std.specs.List.{AllByRecursion}
use Rattle.std.proofs.lemmas.Bool.{true≢false, false_from_ne_true}
use Rattle.std.proofs.lemmas.List.Elements.{All-from_recursion}
use Rattle.std.proofs.lemmas.Option.{none-some, same_Some}
use Rattle.base_files.specs.Workspace.{Workspace}
use Rattle.base_files.specs.declared.place.Place.{Place}
use Rattle.base_edits.specs.EditSet.{FileChanges}
use Rattle.base_edits.specs.declared.edit.Edit.{Edit}
use Rattle.go_scanner.specs.declared.piece.Class.TheVariants.{Name}
use Rattle.go_scanner.specs.declared.piece.Piece.{Piece}
use Rattle.go_scanner.specs.CutText.{tokens_in}
use Rattle.go_ast.specs.declared.syntax.Kind.{Kind}
use Rattle.go_ast.specs.declared.syntax.Kind.TheVariants as kind
use Rattle.go_ast.specs.SourceFile.{SourceFile, IsSourceFile, offset_at, spelling_of}
use Rattle.go_ast.specs.Tree.{ReceiverTree, FuncTree, DeclTree, VarDecl, TypeDecl, FuncDecl}
use Rattle.go_scope.specs.declared.model.Block.TheVariants.{File}
use Rattle.go_scope.specs.declared.model.Block.TheVariants.{Package as PackageBlock}
use Rattle.go_scope.specs.declared.model.Position.{Position}
use Rattle.go_scope.specs.declared.model.Purpose.TheVariants as purpose
use Rattle.go_scope.specs.declared.model.Role.{Role}
use Rattle.go_scope.specs.declared.model.Role.TheVariants.{Declaring, NotLexical}
use Rattle.go_scope.specs.Bindings.{Layout, Names, IsBoundTo, IsImport, use_bound, own, block_of, is_use, is_left_name}
use Rattle.go_scope.specs.FileSites.{file_sites, func_role}
use Rattle.go_scope.specs.Site.{TokenSpellings, Site}
use Rattle.go_scope.specs.Table.{LiesAt}
use Rattle.law_rename.specs.Respelled.{KeepsRole, KeepsRoles}
use Rattle.law_tokens.specs.Roles.{IsOfKind}
use Rattle.law_tokens.proofs.Lexical.{never_bound}
use Rattle.law_tokens.proofs.Ordered.{one_stands}
use Rattle.types_declared.specs.Package.{Package}
use Rattle.types_declared.proofs.ByteKeys.{cases_bytes}
use Rattle.types_info.proofs.DeclKinds.{Holds}
use Rattle.workspace_check.specs.Verdicts.{Verdicts}
use Rattle.refs_binding.specs.Identifiers.{BeginsAt, IsNameToken, NameBegins}
use Rattle.refs_binding.specs.Uses.{IsCheckedPackage}
use Rattle.refs_binding.proofs.Tokens.{Begins}
use Rattle.refs_lookup.proofs.OnePlace.{one_begins}
use Rattle.refs_uses.proofs.NameTokens.{name_at_token}
use Rattle.refactor_move.specs.declared.moved.Moved.{Moved}
use Rattle.refactor_move.specs.FileEdits.{IsImportUse, ReplacesPackageName}
use Rattle.law_faultless.proofs.FunctionsSettled.{function_kept, function_name_kept, no_import_role}
use Rattle.law_faultless.proofs.Numbers.{OfKind, clause_named, file_kinds}
use Rattle.law_faultless.proofs.Scoped.{in_order}
use Rattle.law_faultless.proofs.TypesBound.{Kept, Stands, all_kept}
use Rattle.law_renamed_workspaces.proofs.Literals.{no_name, to_string}
use Rattle.law_renamed_workspaces.proofs.TokenKinds.{Fits, file_fits}
use Rattle.law_renamed_workspaces.proofs.RenamedScopesNameTokens.{ident_piece}
use Rattle.law_moves.specs.Moves.{IsMove}
use Rattle.law_moves.specs.MovedPackages.{name_after}
use Rattle.law_moves.specs.Replacements.{AreReplacedPieces}
use Rattle.law_moves.proofs.Literals.{are, how, new}
use Rattle.law_moves.proofs.MovedFiles.{m}
use Rattle.law_moves.proofs.MoveEdits.{edits, edited_file, is_file, k}
use Rattle.law_moves.proofs.NewSpelled.{found, found_edit, is_piece, none_found, spelled_kept, spelled_put}

-- what is bound to an import is no declaration of the package's block
import_role : (l : Layout) (names : Names) (u n : ℕ) → IsBoundTo l names u n → IsImport l n → l.role u ≡ Declaring PackageBlock 0 → ⊥
import_role l names u n (use_bound (inl i) x) import role = true≢false (sym (sym (ap is_use role) ∙ i))
import_role l names u n (use_bound (inr i) x) import role = true≢false (sym (sym (ap is_left_name role) ∙ i.0))
import_role l names u n (own same c) import role =
    let block : PackageBlock ≡ File import.0 = sym (ap block_of role) ∙ ap (λ v. block_of (l.role v)) same ∙ import.1 in cc

fits_plain : (K : Kind → ℕ → Type 0) (b : Bool) (i : ℕ) → Fits K i (if b then NotLexical purpose.InitFunction else Declaring PackageBlock 0) → K kind.Name i
fits_plain K true i f = f
fits_plain K false i f = f

fits_name : (K : Kind → ℕ → Type 0) (o : Option ReceiverTree) (name : List ℕ) (i : ℕ) → Fits K i (func_role o name) → K kind.Name i
fits_name K (Some r) name i f = f
fits_name K None name i f = fits_plain K (bytes_eq name (codes "init")) i f

-- the role of a function's name, without a receiver
plain_cases : (P : Role → Type 0) (b : Bool) → P (NotLexical purpose.InitFunction) → P (Declaring PackageBlock 0) →
    P (if b then NotLexical purpose.InitFunction else Declaring PackageBlock 0)
plain_cases P true one other = one
plain_cases P false one other = other

by_receiver : (o : Option ReceiverTree) (old new : List ℕ) → (o ≡ None → new ≡ old) → func_role o new ≡ func_role o old
by_receiver None old other f = ap (func_role None) (f refl)
by_receiver (Some r) old other f = refl

module _ (w : Workspace) (known : Verdicts) (from to : List ℕ) (s : FileChanges) (h : IsMove w known from to s) (p : Package) (is : IsCheckedPackage w known p)
    (rank : ℕ) (f : SourceFile) (at : slice_get p.files rank ≡ Some f) (path : List ℕ) where
  abbrev pub moved : Moved
  moved = m w known from to s h

  abbrev pub es : List Edit
  es = edits w known from to s h p is rank f at

  abbrev pub file : IsSourceFile f
  file = is_file w known from to s h p is rank f at

  abbrev pub good : AreReplacedPieces f.cut.pieces es
  good = are w known from to s h p is rank f at path

  abbrev pub rank_there : ℕ
  rank_there = k w known from to s h p is rank f at

  abbrev pub after : SourceFile
  after = new w known from to s h p is rank f at path

  abbrev pub token : ℕ → Option Piece
  token n = slice_get (tokens_in f.cut) n

  abbrev pub here : ℕ → Position
  here i = record { file = rank; index = i }

  -- names

  pub record IsNameAt (i : ℕ) : Type 0 where
    pub piece : Piece
    pub held : token i ≡ Some piece
    pub is_name : piece.class ≡ Name

  pub name_at : (i : ℕ) → IsOfKind f.cut i kind.Name → IsNameAt i
  name_at i of_kind =
      let x = ident_piece f.cut i (record { kind = kind.Name; of_kind = of_kind; is_ident = refl }) in
      record { piece = x.piece; held = x.at; is_name = x.is_name }

  -- the identifier of a use of an import at a name
  pub use_here : (i : ℕ) → IsNameAt i → (r : IsImportUse p rank_there moved i) → LiesAt p.layout (here i) r.binds.identifier
  use_here i n r =
      let u = r.binds.identifier in
      let stands : LiesAt p.layout (record { file = rank_there; index = i }) u = r.binds.found.holds in
      let place : Place = record { path = f.path; offset = n.piece.span.start } in
      let named : NameBegins (Some f) i f.path n.piece.span.start = (subst IsNameToken (sym n.held) n.is_name, refl, ap (offset_at f.cut.text) n.held) in
      let begins : Begins p (here i) place = subst (λ o. NameBegins o i f.path n.piece.span.start) (sym at) named in
      let there : slice_get p.files rank_there ≡ Some f = (edited_file w known from to s h p is rank f at).at_there in
      let own : BeginsAt p f.path n.piece.span.start u = (
        (r.binds.found.within, stands.0),
        subst (λ (q : Position). NameBegins (slice_get p.files q.file) q.index f.path n.piece.span.start)
            (let same : record { file = rank_there; index = i } ≡ p.layout.place u = (λ j. record { file = sym stands.1 j; index = sym stands.2 j }) in same)
            (subst (λ o. NameBegins o i f.path n.piece.span.start) (sym there) named),
      ) in
      let a = name_at_token w known p.path p is.is_checked (here i) place begins in
      let same : a.0 ≡ u = one_begins w known p.path p is.is_checked f.path n.piece.span.start a.0 u a.1.0 own in
      subst (LiesAt p.layout (here i)) same a.1.1

  -- where another identifier stands there is no such use
  pub no_use : (i : ℕ) → IsNameAt i → (u : ℕ) → u < p.size → LiesAt p.layout (here i) u → ((v : ℕ) → IsBoundTo p.layout p.names u v → IsImport p.layout v → ⊥) →
      IsImportUse p rank_there moved i → ⊥
  no_use i n u lt stands none r =
      let same : r.binds.identifier ≡ u = one_stands p.layout p.size (in_order w known p.path p is.is_checked) (here i) r.binds.identifier u
      r.binds.found.within lt (use_here i n r) stands in
      none r.import (subst (λ v. IsBoundTo p.layout p.names v r.import) same r.binds.bound) r.imports.is_import

  -- an edit at a name
  pub name_edit : (i : ℕ) → (n : IsNameAt i) → (e : Edit) → found path f es file good i ≡ Some e → ReplacesPackageName p rank_there f moved i e
  name_edit i n e is_found =
      let piece = is_piece path f es file good i n.piece n.held (inl n.is_name) in
      let d = found_edit path f es file good i n.piece n.held piece e is_found in
      elim (how w known from to s h p is rank f at path i n.piece n.held e d.0 d.1 piece) [
        | inl r ↦
            let x = to_string f i r.old r.stands_for in
            let same : x.piece ≡ n.piece = same_Some x.piece n.piece (sym x.at ∙ n.held) in
            absurd (no_name x.piece.class x.is_string (ap (λ (y : Piece). y.class) same ∙ n.is_name))
        | inr r ↦ r
      ]

  pub name_kept : (i : ℕ) → (n : IsNameAt i) → ((e : Edit) → ReplacesPackageName p rank_there f moved i e → ⊥) → spelling_of after i ≡ spelling_of f i
  name_kept i n never = by_found (found path f es file good i) refl
    where
      by_found : (o : Option Edit) → found path f es file good i ≡ o → spelling_of after i ≡ spelling_of f i
      by_found None e =
          let piece = is_piece path f es file good i n.piece n.held (inl n.is_name) in
          spelled_kept path f es file good i n.piece n.held piece (none_found path f es file good i n.piece n.held piece e)
      by_found (Some x) e = absurd (never x (name_edit i n x e))

  -- the clause

  pub clause : IsNameAt f.tree.name
  clause = name_at f.tree.name (clause_named f file)

  abbrev from_file : TokenSpellings
  from_file = record { rank = rank; spell = spelling_of f }

  pub clause_stands : Stands p rank f.tree.name (NotLexical purpose.PackageClause)
  unfolding file_sites
  clause_stands = (all_kept w known p.path p is.is_checked rank f at).0 refl

  no_clause_use : IsImportUse p rank_there moved f.tree.name → ⊥
  no_clause_use r =
      let u = clause_stands in
      no_use f.tree.name clause u.0 u.1.0 u.1.1.0 (λ v b import. never_bound p.layout p.names u.0 v purpose.PackageClause u.1.1.1 b) r

  clause_kept : (p.path ≡ moved.from → moved.name ≡ None) → spelling_of after f.tree.name ≡ spelling_of f f.tree.name
  clause_kept none = name_kept f.tree.name clause (λ e r. elim r.names [
    | inl mine ↦ none-some r.name (sym (none mine.0) ∙ r.follows)
    | inr used ↦ no_clause_use used
  ])

  clause_put : (name : List ℕ) → p.path ≡ moved.from → moved.name ≡ Some name → spelling_of after f.tree.name ≡ name
  clause_put name mine follows =
      let n = clause in
      let e : Edit = record { span = n.piece.span; text = name } in
      let r : ReplacesPackageName p rank_there f moved f.tree.name e = record {
        token = n.piece;
        at = n.held;
        is_name = n.is_name;
        names = inl (mine, refl);
        name = name;
        follows = follows;
        is_edit = refl;
      } in
      spelled_put path f es file good f.tree.name n.piece n.held e
      (((edited_file w known from to s h p is rank f at).are.each e).1 (f.tree.name, inr r)) refl

  -- it follows the path
  pub clause_after : spelling_of after f.tree.name ≡ name_after moved p.path (spelling_of f f.tree.name)
  clause_after = elim (cases_bytes p.path moved.from) [
    | inl mine ↦ by_name mine moved.name refl
        ∙ sym (ap (λ b. cond b (unwrap_or moved.name (spelling_of f f.tree.name)) (spelling_of f f.tree.name)) ((bytes_decides p.path moved.from).1 mine))
    | inr other ↦ clause_kept (λ mine. absurd (other mine))
        ∙ sym (ap (λ b. cond b (unwrap_or moved.name (spelling_of f f.tree.name)) (spelling_of f f.tree.name))
        (false_from_ne_true (bytes_eq p.path moved.from) (λ e. other ((bytes_decides p.path moved.from).0 e))))
  ]
    where
      by_name : p.path ≡ moved.from → (o : Option (List ℕ)) → moved.name ≡ o → spelling_of after f.tree.name ≡ unwrap_or moved.name (spelling_of f f.tree.name)
      by_name mine None e = clause_kept (λ own_too. e) ∙ sym (ap (λ o. unwrap_or o (spelling_of f f.tree.name)) e)
      by_name mine (Some name) e = clause_put name mine e ∙ sym (ap (λ o. unwrap_or o (spelling_of f f.tree.name)) e)

  -- functions

  module _ (kw : ℕ) (g : FuncTree) (c : ℕ) (held : Holds f.tree.decls (FuncDecl kw g c)) where
    abbrev old : List ℕ
    old = spelling_of f g.name

    named : IsNameAt g.name
    named =
        let P : Site → Type 0 = λ x. Fits (OfKind f.cut) x.place.index x.role in
        let all = function_kept P from_file f.tree kw g c (file_fits (OfKind f.cut) from_file f.tree (file_kinds f file)) held in
        name_at g.name (fits_name (OfKind f.cut) g.receiver old g.name (function_name_kept P from_file g all))

    stands : Stands p rank g.name (func_role g.receiver old)
    stands =
        let all = function_kept (Kept p rank) from_file f.tree kw g c (all_kept w known p.path p is.is_checked rank f at) held in
        function_name_kept (Kept p rank) from_file g all (no_import_role g.receiver old)

    no_edit : g.receiver ≡ None → (e : Edit) → ReplacesPackageName p rank_there f moved g.name e → ⊥
    no_edit none e r =
        let u = stands in
        let role : p.layout.role u.0 ≡ func_role None old = u.1.1.1 ∙ ap (λ o. func_role o old) none in
        elim r.names [
          | inl mine ↦
              let v = clause_stands in
              let there : LiesAt p.layout (here g.name) v.0 = subst (λ i. LiesAt p.layout (here i) v.0) mine.1 v.1.1.0 in
              let same : u.0 ≡ v.0 = one_stands p.layout p.size (in_order w known p.path p is.is_checked) (here g.name) u.0 v.0 u.1.0 v.1.0 u.1.1.0 there in
              plain_cases (λ r. r ≡ NotLexical purpose.PackageClause → ⊥) (bytes_eq old (codes "init")) (λ q. cc) (λ q. cc)
              (sym role ∙ ap p.layout.role same ∙ v.1.1.1)
          | inr used ↦ no_use g.name named u.0 u.1.0 u.1.1.0 (λ v b import.
              plain_cases (λ r. p.layout.role u.0 ≡ r → ⊥) (bytes_eq old (codes "init")) (λ q. never_bound p.layout p.names u.0 v purpose.InitFunction q b)
              (λ q. import_role p.layout p.names u.0 v b import q) role) used
        ]

    function_role : KeepsRole (spelling_of f) (spelling_of after) (FuncDecl kw g c)
    function_role = by_receiver g.receiver old (spelling_of after g.name) (λ none. name_kept g.name named (no_edit none))

  role_kept : (x : DeclTree) → Holds f.tree.decls x → KeepsRole (spelling_of f) (spelling_of after) x
  role_kept (VarDecl kw g c) held = tt
  role_kept (TypeDecl kw g c) held = tt
  role_kept (FuncDecl kw g c) held = function_role kw g c held

  all_roles : (xs : List DeclTree) → ((x : DeclTree) → Holds xs x → Holds f.tree.decls x) →
      AllByRecursion (KeepsRole (spelling_of f) (spelling_of after)) xs
  all_roles [] within = tt
  all_roles (x ∷ xs) within = (role_kept x (within x (inl refl)), all_roles xs (λ y held. within y (inr held)))

  pub roles_kept : KeepsRoles (spelling_of f) (spelling_of after) f.tree
  roles_kept = All-from_recursion (KeepsRole (spelling_of f) (spelling_of after)) f.tree.decls (all_roles f.tree.decls (λ x held. held))
