-- After a plain rename that preserves bindings each type definition has become the one of its own symbol.
use Rattle.std.proofs.Common.{ℕ, ◌≡◌, List, [], ap, sym, subst, refl, ◌∙◌}
use Rattle.std.specs.Prelude.{Contains, Some, slice_get}
use Rattle.base_edits.specs.EditSet.{FileChanges, edited}
use Rattle.base_edits.specs.Revisions.{Revision}
use Rattle.base_edits.specs.RevisionsOfEdits.{revision_of}
use Rattle.base_files.specs.Path.{folder}
use Rattle.base_files.specs.Workspace.{Workspace}
use Rattle.base_files.specs.declared.place.Place.{Place}
use Rattle.go_ast.specs.SourceFile.{offset_of}
use Rattle.go_scope.specs.declared.model.Position.{Position}
use Rattle.go_scope.specs.Table.{LiesAt}
use Rattle.types_expr.specs.declared.symbol.Symbol.{Symbol}
use Rattle.types_declared.specs.Package.{Package, PlacedType, package_types, type_place}
use Rattle.workspace_check.specs.FaultLists.{ListsFaults}
use Rattle.workspace_check.specs.Verdicts.{Verdicts, AreVerdicts}
use Rattle.workspace_check.proofs.OnePackage.{files_in_order}
use Rattle.workspace_check.proofs.PackageFiles.{file_in_folder}
use Rattle.refs_binding.specs.declared.declaration.Declaration.{Declaration}
use Rattle.refs_binding.specs.DeclaringPlaces.{TokenAt, TokenBegins}
use Rattle.refs_binding.specs.Uses.{IsCheckedPackage}
use Rattle.refs_binding.proofs.Units.{one_package}
use Rattle.refs_places.proofs.Starts.{token_once}
use Rattle.refactor_coupled.specs.Implementing.{IsTypeSymbol}
use Rattle.refactor_coupled.specs.Obstacles.{BecomesType}
use Rattle.law_faultless.proofs.Names.{own_name, type_in_file}
use Rattle.law_faultless.proofs.TypesApart.{one_type_place}
use Rattle.law_renamed_workspaces.proofs.Apart.{one_stands}
use Rattle.law_renamed_workspaces.proofs.CountingMembers as counting
use Rattle.law_renamed_workspaces.proofs.MovedApart.{StandsAtToken, moved_once}
use Rattle.law_renamed_workspaces.proofs.MovedTokens.{moved_tokens}
use Rattle.law_renamed_workspaces.proofs.Packages.{new_paths, package_there}
use Rattle.law_agreement.proofs.KeptNames.{there}
use Rattle.law_agreement.proofs.Premises.{IsKeptRename}
use Rattle.law_implementing.specs.Definitions.{KeepsTypeSymbols, TypesBecomeThemselves}

-- where the name of a type definition begins
pub type_begins : (p : Package) (rank : ℕ) (t : PlacedType) → slice_get (package_types p) rank ≡ Some t → (place : Place) × TokenAt p (type_place t) place
type_begins p rank t has =
    let f = type_in_file p rank t has in
    let place : Place = record { path = f.source.path; offset = offset_of f.source t.spec.name } in
    (place, subst (λ o. TokenBegins o t.spec.name place) (sym f.in_file) (refl, refl))

module _ (w : Workspace) (sound : ListsFaults w []) (known : Verdicts) (right : AreVerdicts w known) (p : Package) (is : IsCheckedPackage w known p) where
  pub type_stands : (rank : ℕ) (t : PlacedType) → slice_get (package_types p) rank ≡ Some t → (place : Place) → TokenAt p (type_place t) place →
      StandsAtToken w known place
  type_stands rank t has place token =
      let f = type_in_file p rank t has in
      let begins : TokenBegins (Some f.source) t.spec.name place = subst (λ o. TokenBegins o t.spec.name place) f.in_file token in
      record {
        inside = p;
        is_package = is;
        rank = t.file;
        file = f.source;
        of_rank = f.in_file;
        index = t.spec.name;
        of_path = begins.0;
        begins = begins.1;
      }

  pub type_home : (rank : ℕ) (t : PlacedType) → slice_get (package_types p) rank ≡ Some t → (place : Place) → TokenAt p (type_place t) place →
      folder place.path ≡ p.path
  type_home rank t has place token =
      let f = type_in_file p rank t has in
      let begins : TokenBegins (Some f.source) t.spec.name place = subst (λ o. TokenBegins o t.spec.name place) f.in_file token in
      ap folder (sym begins.0) ∙ file_in_folder w known p.path p is.is_checked t.file f.source f.in_file

  -- two type definitions whose names begin at one place are one
  at_number : (at : Position) (n : ℕ) (place : Place) → LiesAt p.layout at n → TokenAt p at place → TokenAt p (p.layout.place n) place
  at_number at n place stands token =
      subst (λ k. TokenBegins (slice_get p.files k) (p.layout.place n).index place) (sym stands.1)
      (subst (λ i. TokenBegins (slice_get p.files at.file) i place) (sym stands.2) token)

  pub one_type_there : (a b : ℕ) (t u : PlacedType) → slice_get (package_types p) a ≡ Some t → slice_get (package_types p) b ≡ Some u → (place : Place) →
      TokenAt p (type_place t) place → TokenAt p (type_place u) place → a ≡ b
  one_type_there a b t u has also place first second =
      let x = own_name w sound known right p is a t has in
      let y = own_name w sound known right p is b u also in
      let numbers : x.number ≡ y.number =
      one_stands w known p.path p is.is_checked x.number y.number place x.within y.within x.stands.0 y.stands.0
      (at_number (type_place t) x.number place x.stands first) (at_number (type_place u) y.number place y.stands second) in
      let here : LiesAt p.layout (type_place t) y.number = subst (LiesAt p.layout (type_place t)) numbers x.stands in
      let file : t.file ≡ u.file = sym here.1 ∙ y.stands.1 in
      let token : t.spec.name ≡ u.spec.name = sym here.2 ∙ y.stands.2 in
      let same : type_place t ≡ type_place u =
      ap (λ (k : ℕ). let at : Position = record { file = k; index = t.spec.name } in at) file
      ∙ ap (λ (k : ℕ). let at : Position = record { file = u.file; index = k } in at) token in
      one_type_place p.files (files_in_order w known p.path p is.is_checked) a b t u has also same

module _ (w : Workspace) (known : Verdicts) (d : Declaration) (name : List ℕ) (s : FileChanges) (after : Verdicts)
    (kept : IsKeptRename w known d name s after) where
  abbrev r : Revision
  r = revision_of w s

  abbrev x : Workspace
  x = edited s w

  abbrev Before : Package → Type 0
  Before = IsCheckedPackage w known

  abbrev After : Package → Type 0
  After = IsCheckedPackage x after

  abbrev sound : ListsFaults w []
  sound = kept.rename.rename.sound

  abbrev right : AreVerdicts w known
  right = kept.rename.rename.right

  -- the same type definitions are listed
  listed_then : (p : Package) (is : IsCheckedPackage w known p) → package_types (there w known d name s after kept p is).0 ≡ package_types p
  listed_then p is = let q = there w known d name s after kept p is in counting.types_listed w known r p q.0 is q.1.1

  token_moves : (p : Package) (is : IsCheckedPackage w known p) (at : Position) (place : Place) → TokenAt p at place →
      TokenAt (there w known d name s after kept p is).0 at ((revision_of w s).moved place)
  token_moves p is at place token =
      let q = there w known d name s after kept p is in (moved_tokens w known after d name s kept.rename p q.0 is q.1.0 q.1.1).tokens at place token

  itself : (t : Symbol) → IsTypeSymbol (IsCheckedPackage w known) t →
      BecomesType (IsCheckedPackage w known) (IsCheckedPackage (edited s w) after) (revision_of w s).moved t t
  itself t h =
      let q = there w known d name s after kept h.inside h.is_package in
      let b = type_begins h.inside h.rank h.definition h.has_rank in
      record {
        place = b.0;
        old = h;
        is_old = b.1;
        new = record {
          inside = q.0;
          is_package = q.1.0;
          rank = h.rank;
          definition = h.definition;
          has_rank = subst (λ l. slice_get l h.rank ≡ Some h.definition) (sym (listed_then h.inside h.is_package)) h.has_rank;
          is_symbol = h.is_symbol ∙ ap (λ (path : List ℕ). record { «package» = path; rank = h.rank }) (sym q.1.1.path);
        };
        is_new = token_moves h.inside h.is_package (type_place h.definition) b.0 b.1;
      }

  -- A type definition after the change was one of the same symbol before it.
  module _ (u : Symbol) (h : IsTypeSymbol (IsCheckedPackage (edited s w) after) u) where
    home : (o : Package) × (IsCheckedPackage w known o × (o.path ≡ h.inside.path))
    home =
        package_there w sound known right h.inside.path
        (subst (λ ps. Contains ps h.inside.path) (new_paths w known d name s kept.rename) h.is_package.of_workspace)

    same_now : (there w known d name s after kept home.0 home.1.0).0 ≡ h.inside
    same_now =
        let q = there w known d name s after kept home.0 home.1.0 in
        one_package x after q.0 h.inside q.1.0 h.is_package (q.1.1.path ∙ home.1.1)

    has_type : slice_get (package_types home.0) h.rank ≡ Some h.definition
    has_type =
        subst (λ l. slice_get l h.rank ≡ Some h.definition) (listed_then home.0 home.1.0)
        (subst (λ (z : Package). slice_get (package_types z) h.rank ≡ Some h.definition) (sym same_now) h.has_rank)

    pub type_was : IsTypeSymbol (IsCheckedPackage w known) u
    type_was = record {
      inside = home.0;
      is_package = home.1.0;
      rank = h.rank;
      definition = h.definition;
      has_rank = has_type;
      is_symbol = h.is_symbol ∙ ap (λ (path : List ℕ). record { «package» = path; rank = h.rank }) (sym home.1.1);
    }

    -- where its name began
    begins : (place : Place) × TokenAt home.0 (type_place h.definition) place
    begins = type_begins home.0 h.rank h.definition has_type

    moved_to : (place : Place) → TokenAt h.inside (type_place h.definition) ((revision_of w s).moved place) →
        (revision_of w s).moved begins.0 ≡ (revision_of w s).moved place
    moved_to place token =
        let q = there w known d name s after kept home.0 home.1.0 in
        let t = h.definition in
        token_once (slice_get q.0.files t.file) t.spec.name (r.moved begins.0) (r.moved place)
        (token_moves home.0 home.1.0 (type_place t) begins.0 begins.1)
        (subst (λ (z : Package). TokenAt z (type_place t) (r.moved place)) (sym same_now) token)

  module _ (t u : Symbol) (b : BecomesType (IsCheckedPackage w known) (IsCheckedPackage (edited s w) after) (revision_of w s).moved t u) where
    abbrev then : (o : Package) × (IsCheckedPackage w known o × (o.path ≡ b.new.inside.path))
    then = home u b.new

    one_place : (begins u b.new).0 ≡ b.place
    one_place =
        moved_once w known d name s kept.rename.rename (begins u b.new).0 b.place
        (type_stands w sound known right then.0 then.1.0 b.new.rank b.new.definition (has_type u b.new) (begins u b.new).0 (begins u b.new).1)
        (type_stands w sound known right b.old.inside b.old.is_package b.old.rank b.old.definition b.old.has_rank b.place b.is_old)
        (moved_to u b.new b.place b.is_new)

    there_token : TokenAt (home u b.new).0 (type_place b.new.definition) b.place
    there_token = subst (λ (place : Place). TokenAt then.0 (type_place b.new.definition) place) one_place (begins u b.new).1

    one_home : b.old.inside ≡ (home u b.new).0
    one_home =
        one_package w known b.old.inside then.0 b.old.is_package then.1.0
        (sym (type_home w sound known right b.old.inside b.old.is_package b.old.rank b.old.definition b.old.has_rank b.place b.is_old)
        ∙ type_home w sound known right then.0 then.1.0 b.new.rank b.new.definition (has_type u b.new) b.place there_token)

    one_rank : b.new.rank ≡ b.old.rank
    one_rank =
        one_type_there w sound known right then.0 then.1.0 b.new.rank b.old.rank b.new.definition b.old.definition (has_type u b.new)
        (subst (λ (z : Package). slice_get (package_types z) b.old.rank ≡ Some b.old.definition) one_home b.old.has_rank) b.place there_token
        (subst (λ (z : Package). TokenAt z (type_place b.old.definition) b.place) one_home b.is_old)

    same_symbol : u ≡ t
    same_symbol =
        let path : b.new.inside.path ≡ b.old.inside.path = sym then.1.1 ∙ ap (λ (z : Package). z.path) (sym one_home) in
        b.new.is_symbol ∙ ap (λ (q : List ℕ). record { «package» = q; rank = b.new.rank }) path
        ∙ ap (λ (n : ℕ). record { «package» = b.old.inside.path; rank = n }) one_rank ∙ sym b.old.is_symbol

  pub keeps_symbols : KeepsTypeSymbols w known after s
  keeps_symbols = record { itself = itself; only = same_symbol }

pub types_become : TypesBecomeThemselves
types_become w known after d name s plain right_after sound_after kept =
    keeps_symbols w known d name s after (record { rename = plain; right = right_after; sound = sound_after; kept = kept })
