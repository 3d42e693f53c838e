-- A package whose tokens are plain: the renames of its imports have no conflict, and its marked names are those that get the new name.
use Rattle.std.proofs.Common.{ℕ, suc, ◌≡◌, ◌+◌, ◌<◌, inl, inr, Bool, true, false, List, [], length, refl, sym, ap, subst, ◌∙◌, arith, if◌then◌else◌}
use Rattle.std.specs.Prelude.{Some, None, slice_get}
use Rattle.std.specs.Global.{Vec}
use Rattle.std.proofs.lemmas.Bool.{cases_Bool, cases_lt, true≢false}
use Rattle.std.proofs.lemmas.Option.{get_or_from_slice_get, same_Some, slice_get_within}
use Rattle.base_files.specs.Workspace.{Workspace}
use Rattle.go_scanner.specs.CutText.{tokens_in, token_at}
use Rattle.go_scanner.specs.Tokens.{semicolon}
use Rattle.go_scanner.specs.TokenValues.{IsStringClass}
use Rattle.go_scanner.specs.declared.piece.Piece.{Piece}
use Rattle.go_ast.specs.SourceFile.{SourceFile, source_of, spelling_of}
use Rattle.go_scope.specs.declared.model.Block.{Block}
use Rattle.go_scope.specs.declared.model.Block.TheVariants.{Universe, File, Inner}
use Rattle.go_scope.specs.declared.model.Block.TheVariants.{Package as PackageBlock}
use Rattle.go_scope.specs.declared.model.Position.{Position}
use Rattle.go_scope.specs.declared.model.Purpose.TheVariants as purpose
use Rattle.go_scope.specs.declared.model.Role.{Role}
use Rattle.go_scope.specs.declared.model.Role.TheVariants.{Use, Declaring, LeftName, Implied, NotLexical}
use Rattle.go_scope.specs.Bindings.{Layout, Declares, IsBoundTo, IsImport, IsUse, SameBlock, use_bound, own, block_of, is_implied, is_use}
use Rattle.go_scope.specs.FileSites.{universe}
use Rattle.go_scope.specs.Scopes.{Nests}
use Rattle.go_scope.specs.Table.{Precedes}
use Rattle.go_scope.specs.WellFormed.{WellFormed}
use Rattle.go_scope.proofs.Uniqueness.{same_or_not}
use Rattle.types_declared.specs.Laid.{is_literal, literal_of}
use Rattle.types_declared.specs.Package.{Package}
use Rattle.types_declared.specs.Written.{DeclaresImport}
use Rattle.types_info.specs.QualifiedIdentifiers.{IsQualifiedAt, NamesPackage}
use Rattle.law_tokens.specs.Order.{ComesBefore}
use Rattle.law_tokens.proofs.Ordered.{same_length}
use Rattle.workspace_check.specs.FaultLists.{ListsFaults}
use Rattle.workspace_check.specs.Verdicts.{Verdicts, AreVerdicts, IsPackageIn}
use Rattle.workspace_check.proofs.OnePackage.{layout_formed}
use Rattle.refs_binding.specs.Identifiers.{IsNameToken}
use Rattle.refs_binding.specs.Uses.{IsCheckedPackage}
use Rattle.refs_lookup.proofs.OnePlace.{same_size}
use Rattle.law_rename.specs.Renaming.{HasNoConflictAt, WouldCapture, WouldLose, assigned, new_name, own_repeats, own_use, repeats, to_other, to_renamed}
use Rattle.law_rename.proofs.Exactness.{same_bytes}
use Rattle.law_faultless.proofs.Bound.{source_at}
use Rattle.law_faultless.proofs.Declared.{given, kept, may_within, new_site, old_site, role_is, sites, told_identifies}
use Rattle.law_faultless.proofs.FilesDecided.{IsGlobal}
use Rattle.law_faultless.proofs.Numbers.{IsKept, IsTold, OfKind, laid, plain, universal}
use Rattle.law_faultless.proofs.Scoped.{in_order}
use Rattle.law_renamed_workspaces.proofs.Literals.{no_name}
use Rattle.law_renamed_workspaces.proofs.NameTokens.{named_as_spelled}
use Rattle.law_renamed_workspaces.proofs.OwnNames.{identifies, in_universe, role_inside}
use Rattle.law_renamed_workspaces.proofs.SameBindings.{imports_used}
use Rattle.law_renamed_workspaces.proofs.SameNames.{left_roles}
use Rattle.law_renamed_workspaces.proofs.Standing.{IsLaid, StandsAtName, declared_stands, laid_literal, literal_role, use_stands}
use Rattle.law_moves.proofs.ImportTokens.{declares_name, to_plain}
use Rattle.law_moves.proofs.NamesAt.{name_token}
use Rattle.law_moves.proofs.NamesMove.{implied_left, implied_use}
use Rattle.refactor_move.specs.FileEdits.{IsImportUse}
use Rattle.refactor_move.specs.Uses.{IsNameTokenAt, mark_at}
use Rattle.refactor_follow.specs.FirstConflicts.{IsFirstOfImports}
use Rattle.refactor_follow.specs.MoveReadings.{MarksImportUses, move_from}
use Rattle.refactor_follow.specs.PlainPackages.{IsPlainPackage, IsPlainToken, behind_dot}
use Rattle.refactor_follow.proofs.Steps.{import_declares}

-- blocks

use_block : (r : Role) (f : ℕ) → is_use r ≡ true → block_of r ≡ File f → ⊥
use_block Use f u e = cc
use_block (Declaring b s) f u e = cc
use_block (LeftName b s) f u e = cc
use_block (Implied b s) f u e = cc
use_block (NotLexical p) f u e = cc

no_inner : (f g a b : ℕ) → File f ≡ Inner g a b → ⊥
no_inner f g a b e = cc

no_universe : (f : ℕ) → Universe ≡ File f → ⊥
no_universe f e = cc

no_package : (f : ℕ) → File f ≡ PackageBlock → ⊥
no_package f e = cc

universe_no_package : Universe ≡ PackageBlock → ⊥
universe_no_package e = cc

never_nests : (f : ℕ) → Nests Universe (File f) → ⊥
never_nests f n = n

not_both : (r : Role) → r ≡ NotLexical purpose.Selected → r ≡ NotLexical purpose.ImportPath → ⊥
not_both r e k = let z : NotLexical purpose.Selected ≡ NotLexical purpose.ImportPath = sym e ∙ k in cc

module _ (w : Workspace) (sound : ListsFaults w []) (known : Verdicts) (right : AreVerdicts w known) (p : Package) (is : IsCheckedPackage w known p)
    (path name : List ℕ) (rows : List (Vec Bool)) (tokens : IsPlainPackage p path name rows) where
  abbrev l : Layout
  l = p.layout

  abbrev h : IsPackageIn w known p.path p
  h = is.is_checked

  formed : WellFormed l
  formed = layout_formed w known p.path p h

  -- imports

  import_within : (d : ℕ) → IsImport l d → d < p.size
  import_within d import = may_within w known p.path p h d (import_declares l p.names formed d import).may

  import_identifies : (d : ℕ) → IsImport l d → is_implied (l.role d) ≡ false
  import_identifies d import = identifies w known p.path p h d (λ lt. no_universe import.0 (sym (in_universe w known p.path p h d lt) ∙ import.1))

  -- uses

  use_no_import : (u : ℕ) → IsUse l p.names u → IsImport l u → ⊥
  use_no_import u (inl use_of) import = use_block (l.role u) import.0 use_of import.1
  use_no_import u (inr left) import = let i = formed.left_inner u left.0 in no_inner import.0 i.0 i.1 i.2 (sym import.1 ∙ i.3)

  use_within : (u : ℕ) → IsUse l p.names u → u < p.size
  use_within u (inl use_of) = role_inside w known p.path p h u (inl use_of)
  use_within u (inr left) = role_inside w known p.path p h u (inr (left_roles (l.role u) left.0).0)

  use_identifies : (u : ℕ) → IsUse l p.names u → is_implied (l.role u) ≡ false
  use_identifies u used = elim (cases_Bool (is_implied (l.role u))) [
    | inl implied ↦ absurd (elim used [ inl use_of ↦ implied_use (l.role u) implied use_of | inr left ↦ implied_left (l.role u) implied left.0 ])
    | inr other ↦ other
  ]

  stands_used : (u : ℕ) → IsUse l p.names u → StandsAtName p u
  stands_used u (inl use_of) = use_stands w known p.path p h u (use_within u (inl use_of)) use_of
  stands_used u (inr left) =
      declared_stands w known p.path p h u (use_within u (inr left)) (left_roles (l.role u) left.0).0 (use_identifies u (inr left))
      (λ bare import. use_no_import u (inr left) import)

  bound_named : (u d : ℕ) → IsBoundTo l p.names u d → p.names u ≡ p.names d
  bound_named u d (use_bound used b) = sym b.named
  bound_named u d (own same c) = ap p.names same

  -- no name in a file is the new one

  within : (f : SourceFile) (i : ℕ) → IsNameToken (slice_get (tokens_in f.cut) i) → i < length (tokens_in f.cut)
  within f i named = let x = name_token (slice_get (tokens_in f.cut) i) named in slice_get_within (tokens_in f.cut) i x.0 x.1.0

  record IsSpelled (u : ℕ) : Type 0 where
    held : SourceFile
    named : p.names u ≡ spelling_of held (l.place u).index
    is_name : IsNameToken (slice_get (tokens_in held.cut) (l.place u).index)
    token : IsPlainToken held name tokens.marks.old (l.place u).index (mark_at rows (l.place u).file (l.place u).index)

  spelled_name : (u : ℕ) → u < p.size → is_implied (l.role u) ≡ false → StandsAtName p u → IsSpelled u
  spelled_name u lt identifier s = record {
    held = s.source;
    named = named_as_spelled w known p.path p h u (lt, identifier) s.source s.of_rank s.is_name;
    is_name = s.is_name;
    token = (tokens.marks.plain (l.place u).file s.source s.of_rank).each (l.place u).index (within s.source (l.place u).index s.is_name);
  }

  no_name_there : (u : ℕ) → IsSpelled u → p.names u ≡ name → ⊥
  no_name_there u s e = s.token.other s.is_name (sym s.named ∙ e)

  no_use : (u : ℕ) → IsUse l p.names u → p.names u ≡ name → ⊥
  no_use u used = no_name_there u (spelled_name u (use_within u used) (use_identifies u used) (stands_used u used))

  no_import : (u : ℕ) → IsImport l u → p.names u ≡ name → ⊥
  no_import u import e =
      imports_used w sound known right p is u import (import_declares l p.names formed u import)
      (λ v used bound. no_use v used (bound_named v u bound ∙ e))

  -- so the rename of an import has no conflict

  predeclared : (e : ℕ) → Declares l p.names e → p.names e ≡ name → block_of (l.role e) ≡ Universe
  predeclared e declares named = by_kind (kept w known p.path p h e lt)
    where
      lt : e < p.size
      lt = may_within w known p.path p h e declares.may

      implied : is_implied (l.role e) ≡ true
      implied = elim (cases_Bool (is_implied (l.role e))) [
        | inl so ↦ so
        | inr not ↦
            absurd (no_name_there e (spelled_name e lt not
            (declared_stands w known p.path p h e lt declares.may not (λ bare import. no_import e import named))) named)
      ]

      by_kind : IsKept (IsTold 0 h.files) universe (given w known p.path p h e) (old_site w known p.path p h e) (new_site w known p.path p h e) →
          block_of (l.role e) ≡ Universe
      by_kind (universal r n) = ap block_of (role_is w known p.path p h e ∙ r)
      by_kind (plain q t) =
          let new = new_site w known p.path p h e in
          absurd (true≢false (sym implied ∙ ap is_implied (role_is w known p.path p h e)
          ∙ told_identifies (OfKind t.file.cut) (IsGlobal (source_of t.file).tree.decls) (Unit {0}) new.place.index new.role t.told))
      by_kind (laid g q r) = absurd (true≢false (sym implied ∙ ap is_implied (role_is w known p.path p h e ∙ r)))

  module _ (d : ℕ) (import : IsImport l d) where
    apart : (e : ℕ) → block_of (l.role e) ≡ Universe → block_of (l.role e) ≡ block_of (l.role d) → ⊥
    apart e there same = no_universe import.0 (sym there ∙ same ∙ import.1)

    not_before : (e : ℕ) → block_of (l.role e) ≡ Universe → Precedes l e d → ⊥
    not_before e there (inl same) = apart e there same.0
    not_before e there (inr nests) =
        never_nests import.0 (subst (λ b. Nests Universe b) import.1 (subst (λ b. Nests b (block_of (l.role d))) there nests))

    none_captured : (u c : ℕ) → WouldCapture l p.names d name u c → ⊥
    none_captured u c (new_name used named at inside before) = no_use u used named
    none_captured u c (own_use {e = e} used at there before) = not_before e (predeclared e there.counts.declares there.named) before
    none_captured u c (assigned (to_renamed {e = e} declares named left same inside)) = apart e (predeclared e declares named) (sym same)
    none_captured u c (assigned (to_other {e = e} declares named left same inside)) = apart e (predeclared e declares named) same

    none_lost : (u : ℕ) → WouldLose l p.names d name u → ⊥
    none_lost u (repeats {e = e} declares named (inl same) still) = apart e (predeclared e declares named) (sym same.0)
    none_lost u (repeats {e = e} declares named (inr level) still) = no_package import.0 (sym import.1 ∙ level.0)
    none_lost u (own_repeats {e = e} declares named (inl same) still) = apart e (predeclared e declares named) same.0
    none_lost u (own_repeats {e = e} declares named (inr level) still) = universe_no_package (sym (predeclared e declares named) ∙ level.0)

    pub free : (u : ℕ) → HasNoConflictAt l p.names d name u
    free u = record { not_captured = none_captured u; not_lost = none_lost u }

  pub no_conflict : IsFirstOfImports (IsCheckedPackage w known) p path name p.size None
  no_conflict = λ place d lt gets u begins. free d gets.bare.imports.is_import u

  -- identifiers behind one another
  next_index : (d u : ℕ) → d < p.size → u < p.size → is_implied (l.role d) ≡ false → is_implied (l.role (suc d)) ≡ false → is_implied (l.role u) ≡ false →
      (l.place u).file ≡ (l.place d).file → (l.place u).index ≡ suc (suc (l.place d).index) → (suc d ≡ u → ⊥) →
      (l.place (suc d)).index ≡ suc (l.place d).index
  next_index d u ld lu id is iu file index other = elim (cases_lt (suc d) u) [
    | inl less ↦
        between (in_order w known p.path p h d (suc d) (omega arith) (omega (arith, less, lu)) id is) (in_order w known p.path p h (suc d) u less lu is iu)
    | inr ge ↦ elim (cases_lt u d) [
      | inl less ↦ absurd (behind (in_order w known p.path p h u d less ld iu id))
      | inr le ↦ elim (same_or_not u d) [
        | inl same ↦ absurd (itself (subst (λ v. (l.place v).index ≡ suc (suc (l.place d).index)) same index))
        | inr apart ↦ absurd (other (omega (arith, ge, le, apart)))
      ]
    ]
  ]
    where
      itself : (l.place d).index ≡ suc (suc (l.place d).index) → ⊥
      itself e = omega (arith, e)

      between : ComesBefore (l.place d) (l.place (suc d)) → ComesBefore (l.place (suc d)) (l.place u) → (l.place (suc d)).index ≡ suc (l.place d).index
      between (inl a) (inl b) = absurd (omega (arith, a, b, file))
      between (inl a) (inr b) = absurd (omega (arith, a, b.0, file))
      between (inr a) (inl b) = absurd (omega (arith, a.0, b, file))
      between (inr a) (inr b) = omega (arith, a.1, b.1, index)

      behind : ComesBefore (l.place u) (l.place d) → ⊥
      behind (inl a) = omega (arith, a, file)
      behind (inr a) = omega (arith, a.1, index)

  -- a marked token

  module _ (file token : ℕ) (marked : mark_at rows file token ≡ true) where
    at : IsQualifiedAt p p.size path (behind_dot file token)
    at = (tokens.are_qualified path (behind_dot file token)).0 (tokens.marks.listed file token marked)

    in_file : (l.place at.identifier).file ≡ file
    in_file = ap (λ (a : Position). a.file) at.is_at

    at_index : (l.place at.identifier).index ≡ suc (suc token)
    at_index = ap (λ (a : Position). a.index) at.is_at

    names : NamesPackage p file token path
    names =
        let before : at.behind.before ≡ token = omega (arith, at_index, at.behind.behind_dot) in
        subst (λ f. NamesPackage p f token path) in_file
        (subst (λ t. NamesPackage p (l.place at.identifier).file t path) before at.behind.named)

    abbrev import : ℕ
    import = names.import

    abbrev user : ℕ
    user = names.binds.identifier

    user_file : (l.place user).file ≡ file
    user_file = names.binds.found.holds.1

    user_index : (l.place user).index ≡ token
    user_index = names.binds.found.holds.2

    held : (s : SourceFile) × (slice_get p.files (l.place user).file ≡ Some s)
    held = source_at w sound known right p is user (names.binds.found.within, names.binds.found.holds.0)

    abbrev source : SourceFile
    source = held.0

    of_rank : slice_get p.files file ≡ Some source
    of_rank = ap (slice_get p.files) (sym user_file) ∙ held.1

    here : IsPlainToken source name tokens.marks.old token (mark_at rows file token)
    here = let whole = tokens.marks.plain file source of_rank in whole.each token (whole.inside token marked)

    user_named : p.names user ≡ tokens.marks.old
    user_named =
        named_as_spelled w known p.path p h user (names.binds.found.within, names.binds.found.holds.0) source
        (ap (slice_get p.files) user_file ∙ of_rank)
        (subst (λ i. IsNameToken (slice_get (tokens_in source.cut) i)) (sym user_index) (here.named marked))
        ∙ ap (spelling_of source) user_index ∙ here.called marked

    import_named : p.names import ≡ tokens.marks.old
    import_named = sym (bound_named user import names.binds.bound) ∙ user_named

  -- an import with a name is marked at its name

  marked_import : (d : ℕ) → IsImport l d → p.names d ≡ tokens.marks.old → (literal_of l d ≡ d → ⊥) → mark_at rows (l.place d).file (l.place d).index ≡ true
  marked_import d import called named =
      let lt = import_within d import in
      let identifier = import_identifies d import in
      let s = spelled_name d lt identifier
      (declared_stands w known p.path p h d lt (import_declares l p.names formed d import).may identifier
      (λ bare again. named (laid_literal w known p.path p h d lt bare))) in
      s.token.marked s.is_name (sym s.named ∙ called)

  -- so it has no name

  literal_number : (d : ℕ) (b : Bool) → is_literal (l.role (d + 1)) ≡ b → literal_of l d ≡ (if b then d + 1 else d)
  literal_number d b e = ap (λ c. if c then d + 1 else d) e

  no_literal : (d : ℕ) → DeclaresImport p d path → p.names d ≡ tokens.marks.old → is_literal (l.role (d + 1)) ≡ true → ⊥
  no_literal d i called literal =
      let next : d + 1 ≡ suc d = omega arith in
      let number : literal_of l d ≡ suc d = literal_number d true literal ∙ next in
      let role : l.role (suc d) ≡ NotLexical purpose.ImportPath =
      literal_role (l.role (suc d)) (subst (λ n. is_literal (l.role n) ≡ true) next literal) in
      let marked = marked_import d i.is_import called (λ same. let z : suc d ≡ d = sym number ∙ same in omega (arith, z)) in
      let x = at (l.place d).file (l.place d).index marked in
      let u = x.identifier in
      let index = next_index d u (import_within d i.is_import) x.below (import_identifies d i.is_import) (ap is_implied role) (ap is_implied x.behind.selected)
      (in_file (l.place d).file (l.place d).index marked) (at_index (l.place d).file (l.place d).index marked)
      (λ same. not_both (l.role u) x.behind.selected (subst (λ v. l.role v ≡ NotLexical purpose.ImportPath) same role)) in
      let f = i.of_path.source in
      let string : IsStringClass (token_at f.cut (suc (l.place d).index)).class =
      subst (λ n. IsStringClass (token_at f.cut n).class) (ap (λ n. (l.place n).index) number ∙ index) i.of_path.has_literal.is_string in
      let whole = tokens.marks.plain (l.place d).file f i.of_path.is_file in
      (whole.each (l.place d).index (whole.inside (l.place d).index marked)).behind marked string

  unnamed : (d : ℕ) → DeclaresImport p d path → p.names d ≡ tokens.marks.old → literal_of l d ≡ d
  unnamed d i called = elim (cases_Bool (is_literal (l.role (d + 1)))) [
    | inl literal ↦ absurd (no_literal d i called literal)
    | inr other ↦ literal_number d false other
  ]

  -- imports of the path without a name have one name

  no_string : (d : ℕ) → (i : DeclaresImport p d path) → literal_of l d ≡ d → StandsAtName p d → ⊥
  no_string d i bare stands =
      let n = (l.place d).index in
      let f = i.of_path.source in
      let same : stands.source ≡ f = same_Some stands.source f (sym stands.of_rank ∙ i.of_path.is_file) in
      let x = name_token (slice_get (tokens_in f.cut) n) (subst (λ (g : SourceFile). IsNameToken (slice_get (tokens_in g.cut) n)) same stands.is_name) in
      let token : token_at f.cut n ≡ x.0 = get_or_from_slice_get (tokens_in f.cut) n x.0 (semicolon 0) x.1.0 in
      let string : IsStringClass (token_at f.cut n).class =
      subst (λ k. IsStringClass (token_at f.cut (l.place k).index).class) bare i.of_path.has_literal.is_string in
      no_name x.0.class (subst (λ (y : Piece). IsStringClass y.class) token string) x.1.1

  stands_or_laid : (d : ℕ) → IsImport l d → (IsLaid w known p.path p h d → ⊥) → StandsAtName p d
  stands_or_laid d import none =
      declared_stands w known p.path p h d (import_within d import) (import_declares l p.names formed d import).may (import_identifies d import)
      (λ bare again. none bare)

  abbrev given_name : (d : ℕ) → IsLaid w known p.path p h d → List ℕ
  given_name d bare = bare.1.0

  path_named : (d : ℕ) (i : DeclaresImport p d path) (bare : IsLaid w known p.path p h d) → h.name_of path ≡ Some (given_name d bare)
  path_named d i bare =
      let within = subst (λ n. d < n) (same_length (given w known p.path p h) (sites w known p.path p h))
      (subst (λ n. d < n) (same_size w known p.path p h) (import_within d i.is_import)) in
      let own = h.is_package.is_laid.are_names d within bare.0 in
      sym (own.known path (to_plain w known p.path p h d path i)) ∙ bare.1.1

  alike : (d e : ℕ) (i : DeclaresImport p d path) (j : DeclaresImport p e path) → IsLaid w known p.path p h d → IsLaid w known p.path p h e →
      p.names d ≡ p.names e
  alike d e i j bare other =
      let named = path_named d i bare in
      declares_name w known p.path p h d (import_within d i.is_import) bare.0 path i (given_name d bare) named
      ∙ sym (declares_name w known p.path p h e (import_within e j.is_import) other.0 path j (given_name d bare) named)

  one_name : (d e : ℕ) (i : DeclaresImport p d path) (j : DeclaresImport p e path) → literal_of l d ≡ d → literal_of l e ≡ e → p.names d ≡ p.names e
  one_name d e i j bare other =
      same_bytes (p.names d) (p.names e)
      (λ differ. no_string d i bare (stands_or_laid d i.is_import (λ laid_d.
      no_string e j other (stands_or_laid e j.is_import (λ laid_e. differ (alike d e i j laid_d laid_e))))))

  -- the marks are right

  only : (file token : ℕ) → mark_at rows file token ≡ true → IsImportUse p file (move_from path) token
  only file token marked =
      let n = names file token marked in
      record { import = n.import; binds = n.binds; unnamed = unnamed n.import n.imports (import_named file token marked); imports = n.imports }

  old_name : (d : ℕ) → DeclaresImport p d path → literal_of l d ≡ d → p.names d ≡ tokens.marks.old
  old_name d i bare =
      let k = tokens.marks.has_mark in
      let n = names k.file k.token k.marked in
      let called = import_named k.file k.token k.marked in
      one_name d n.import i n.imports bare (unnamed n.import n.imports called) ∙ called

  all : (file token : ℕ) → IsNameTokenAt p file token → IsImportUse p file (move_from path) token → mark_at rows file token ≡ true
  all file token x bound =
      let b = bound.binds.identifier in
      let stands = bound.binds.found.holds in
      let spelled = named_as_spelled w known p.path p h b (bound.binds.found.within, stands.0) x.source (ap (slice_get p.files) stands.1 ∙ x.of_rank)
      (subst (λ i. IsNameToken (slice_get (tokens_in x.source.cut) i)) (sym stands.2) (subst IsNameToken (sym x.at) x.is_name)) in
      let plain = (tokens.marks.plain file x.source x.of_rank).each token (slice_get_within (tokens_in x.source.cut) token x.piece x.at) in
      let old = bound_named b bound.import bound.binds.bound ∙ old_name bound.import bound.imports bound.unnamed in
      plain.marked (subst IsNameToken (sym x.at) x.is_name) (ap (spelling_of x.source) (sym stands.2) ∙ sym spelled ∙ old)

  pub marks_uses : MarksImportUses p path rows
  marks_uses = record { only = only; all = all }
