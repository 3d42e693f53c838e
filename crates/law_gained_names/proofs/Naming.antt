-- The edits of a rename of an import without a name: in the file of the import they put the new name before its literal, and they change no other
-- file.
use Rattle.std.proofs.Common.{ℕ, ◌≡◌, ◌+◌, ◌<◌, inl, inr, List, [], ◌∷◌, ◌++◌, Option, Some, None, length, refl, sym, ap, ◌∙◌, subst}
use Rattle.std.specs.Prelude.{Contains, slice_get}
use Rattle.base_files.specs.Workspace.{Workspace}
use Rattle.base_files.specs.declared.place.Place.{Place}
use Rattle.base_edits.specs.EditSet.{FileChanges, change_of}
use Rattle.base_edits.specs.Moved.{edits_by}
use Rattle.base_edits.specs.declared.change.FileChange.{FileChange}
use Rattle.base_edits.specs.declared.edit.Edit.{Edit}
use Rattle.base_edits.proofs.Changes.{change_found}
use Rattle.go_ast.specs.SourceFile.{SourceFile, offset_of}
use Rattle.go_scanner.specs.declared.piece.Piece.{Piece}
use Rattle.go_scanner.specs.CutText.{tokens_in}
use Rattle.go_scope.specs.Bindings.{IsImport}
use Rattle.types_declared.specs.Package.{Package}
use Rattle.workspace_check.specs.Verdicts.{Verdicts}
use Rattle.refs_binding.specs.declared.declaration.Declaration.{Declaration}
use Rattle.refs_binding.specs.declared.declaration.Declaration.TheVariants.{Declared}
use Rattle.refs_binding.specs.Identifiers.{NameBegins}
use Rattle.refs_binding.specs.Uses.{IsCheckedPackage}
use Rattle.refs_binding.proofs.Units.{one_package}
use Rattle.refactor_rename.specs.declared.renamed.Literal.{Literal}
use Rattle.refactor_rename.specs.declared.renamed.Renamed.{Renamed}
use Rattle.refactor_rename.specs.FileEdits.{AreFileEdits, InsertsName, IsEditAt, IsLiteralAt}
use Rattle.refactor_rename.specs.Literals.{IsLiteralFound, IsPathLiteralIn, IsPathLiteralOf, IsTokenOf, IsUnnamedImport}
use Rattle.refactor_rename.specs.RenameEdits.{AreEditsOf, IsRenamedBy, IsSourceIn}
use Rattle.refactor_rename.specs.Replacements.{IsNameBefore, apart, joined}
use Rattle.law_agreement.proofs.RenamedAlone.{use_of_alone}
use Rattle.law_gained_names.specs.FilesInTwoSteps.{EditsOneFile}
use Rattle.law_gained_names.specs.TwoSteps.{AreNaming, NamingEdits, at_once, edit_between}
use Rattle.law_gained_names.proofs.Edits.{IsParted, none_there, parted}
use Rattle.law_gained_names.proofs.GainingRenamesImports.{in_file, used_at}

-- The bytes that come before a name that is put before the token: a space, or none.
pub record HasFront (f : SourceFile) (token : ℕ) : Type 0 where
  pub front : List ℕ
  pub puts : (name : List ℕ) → IsNameBefore f token name (front ++ (name ++ 32 ∷ []))

pub front_of : (f : SourceFile) (token : ℕ) (name text : List ℕ) → IsNameBefore f token name text → HasFront f token
front_of f token name _ (apart x) = record { front = []; puts = λ other. apart x }
front_of f token name _ (joined x) = record { front = 32 ∷ []; puts = λ other. joined x }

same_literal : (o : Option Literal) (a b : List ℕ) (i j : ℕ) → IsLiteralAt o a i → IsLiteralAt o b j → a ≡ b
same_literal None a b i j x y = absurd x
same_literal (Some l) a b i j x y = sym x.0 ∙ y.0

begins_by : (o : Option SourceFile) (f : SourceFile) (i : ℕ) (path : List ℕ) (offset : ℕ) → o ≡ Some f → NameBegins o i path offset → f.path ≡ path
begins_by o f i path offset is b = (subst (λ x. NameBegins x i path offset) is b).1

module _ (w : Workspace) (known : Verdicts) (p : Package) (is : IsCheckedPackage w known p) (n : ℕ) (import : IsImport p.layout n) (lt : n < p.size)
    (unnamed : IsUnnamedImport p n) (f : SourceFile) (of_rank : slice_get p.files (p.layout.place n).file ≡ Some f)
    (own : (p.layout.place n).file ≡ import.0) (r : Renamed) (name : List ℕ) (set : List Declaration)
    (only : (e : Declaration) → Contains set e → e ≡ Declared p.path n) (renamed : IsRenamedBy w known (Declared p.path n) set name r) where
  abbrev Known : Package → Type 0
  Known = IsCheckedPackage w known

  abbrev number : ℕ
  number = (p.layout.place n).index

  -- the literal

  abbrev its_literal : Literal
  its_literal = record { path = f.path; token = number }

  is_literal_in : IsPathLiteralIn p n its_literal
  is_literal_in = (lt, unnamed, subst (λ o. IsTokenOf o number its_literal) (sym of_rank) (refl, refl))

  token_of : (o : Option SourceFile) (l : Literal) → o ≡ Some f → IsTokenOf o number l → (l.path ≡ f.path) × (l.token ≡ number)
  token_of o l at t = subst (λ x. IsTokenOf x number l) at t

  by_found : (o : Option Literal) → IsLiteralFound (IsPathLiteralOf Known (Declared p.path n)) o → IsLiteralAt o f.path number
  by_found None none = absurd (none its_literal (record { inside = p; is_package = is; of_path = refl; holds = is_literal_in }))
  by_found (Some l) k =
      let same : k.inside ≡ p = one_package w known k.inside p k.is_package is k.of_path in
      let holds : IsPathLiteralIn p n l = subst (λ (z : Package). IsPathLiteralIn z n l) same k.holds in
      token_of (slice_get p.files (p.layout.place n).file) l of_rank holds.2

  pub is_literal : IsLiteralAt r.literal f.path number
  is_literal = by_found r.literal renamed.literal

  -- all uses are in its file

  pub in_its_file : (place : Place) → Contains r.places place → place.path ≡ f.path
  in_its_file place has =
      let u = used_at w known p is n import place
      (use_of_alone w known (Declared p.path n) set only place ((renamed.uses.each place).0 has)) in
      let file : (p.layout.place u.user).file ≡ (p.layout.place n).file = in_file w known p is n import own u.user u.bound in
      sym (begins_by (slice_get p.files (p.layout.place u.user).file) f (p.layout.place u.user).index place.path place.offset
      (ap (slice_get p.files) file ∙ of_rank) u.begins.1)

  no_edit_at : (g : SourceFile) → (g.path ≡ f.path → ⊥) → (i : ℕ) (e : Edit) → IsEditAt g r i e → ⊥
  no_edit_at g other i e (inl x) = other (same_literal r.literal g.path f.path i number x.is_literal is_literal)
  no_edit_at g other i e (inr x) = other (in_its_file (record { path = g.path; offset = x.token.span.start }) x.among)

  module _ (s : FileChanges) (edits : AreEditsOf w known r s) where
    no_change : (path : List ℕ) → (path ≡ f.path → ⊥) → (o : Option FileChange) → change_of s path ≡ o → edits_by (change_of s path) ≡ []
    no_change path other None e = ap edits_by e
    no_change path other (Some c) e =
        let found = change_found s.changed path c e in
        let source = edits.only c found.0 in
        let at : source.source.path ≡ path = source.of_path ∙ found.1 in
        let are : AreFileEdits source.source r (edits_by (change_of s path)) =
        subst (λ x. AreFileEdits source.source r (edits_by (change_of s x))) at (edits.each source.source source.is_source) in
        none_there (edits_by (change_of s path))
        (λ d has. let x = (are.each d).0 has in no_edit_at source.source (λ same. other (sym at ∙ same)) x.0 d x.1)

    pub one_file : (here : List Edit) → edits_by (change_of s f.path) ≡ here → EditsOneFile s f.path here
    one_file here is_here = record {
      none_added = edits.none_added;
      stay = λ c has. (edits.only c has).stays;
      here = is_here;
      others = λ path other. no_change path other (change_of s path) refl;
    }

    -- the edits of the file

    module _ (source : IsSourceIn w known f) (sh : HasFront f number) (token : Piece) (at : slice_get (tokens_in f.cut) number ≡ Some token)
        (begins : offset_of f number ≡ token.span.start) where
      abbrev pub whole : Edit
      whole = edit_between (offset_of f number) (offset_of f number) (sh.front ++ (name ++ 32 ∷ []))

      pub inserts : InsertsName f r number whole
      inserts = record {
        token = token;
        at = at;
        is_literal = is_literal;
        span = ap (λ m. record { start = m; end = m }) begins;
        text = subst (λ m. IsNameBefore f number m (sh.front ++ (name ++ 32 ∷ []))) (sym renamed.named) (sh.puts name);
      }

      abbrev pub all : List Edit
      all = edits_by (change_of s f.path)

      pub are_all : AreFileEdits f r all
      are_all = edits.each f source

      pub around : IsParted all whole
      around = parted all whole ((are_all.each whole).1 (number, inl inserts))

      -- those that put a name, at once
      abbrev pub naming_edits : NamingEdits
      naming_edits = record {
        before = around.before;
        at = offset_of f number;
        front = sh.front;
        own = p.names n;
        name = name;
        back = 32 ∷ [];
        behind = around.behind;
      }

      pub are_at_once : AreFileEdits f r (at_once naming_edits)
      are_at_once = subst (AreFileEdits f r) around.parts are_all

      pub are_naming : 0 < length (p.names n) → AreNaming naming_edits
      are_naming some = record { in_order = are_at_once.end_by.in_order; named = some }
