-- A package after a move, by its scopes. It is the one that is checked with verdicts that give each package its name in its clauses. These
-- need not be right of the edited workspace.
use Rattle.std.proofs.Common.{ℕ, zero, suc, ◌≡◌, ◌<◌, ◌⊎◌, inl, inr, true, false, List, [], ◌∷◌, ◌++◌, arith, Option, Some, None}
use Rattle.std.proofs.Common.{length, map, refl, sym, ap, subst, ◌∙◌}
use Rattle.std.specs.Prelude.{Contains, option_map, slice_get, unwrap_or}
use Rattle.std.proofs.lemmas.Bool.{true≢false}
use Rattle.std.proofs.lemmas.Option.{get_or_from_slice_get, none-some, same_Some, slice_get-map}
use Rattle.base_files.specs.Packages.{package_paths}
use Rattle.base_files.specs.Workspace.{Workspace}
use Rattle.base_edits.specs.EditSet.{FileChanges, edited}
use Rattle.base_edits.specs.Fits.{path_after}
use Rattle.go_scanner.specs.CutText.{tokens_in, token_at}
use Rattle.go_scanner.specs.Cuts.{bytes_of}
use Rattle.go_scanner.specs.Tokens.{semicolon}
use Rattle.go_scanner.specs.TokenValues.{IsStringClass}
use Rattle.go_scanner.specs.declared.piece.Piece.{Piece}
use Rattle.go_scanner.proofs.StringValueLemmas.{one_string_value}
use Rattle.go_ast.specs.SourceFile.{SourceFile, FileParts, IsSourceFile, source_of}
use Rattle.go_scope.specs.Bindings.{Layout}
use Rattle.go_scope.specs.FileSites.{files_sites, package_sites, universe, universe_site}
use Rattle.go_scope.specs.Named.{is_unnamed_import, named_sites, with_names}
use Rattle.go_scope.specs.Packages.{ScopedPackage, scoped, layout_in}
use Rattle.go_scope.specs.Site.{Site, or_blank}
use Rattle.go_scope.specs.SpelledFiles.{spelled_file}
use Rattle.law_tokens.proofs.OwnPaths.{part_at}
use Rattle.workspace_graph.specs.Packages.{PackageImports}
use Rattle.types_declared.specs.Files.{HasLiteral, package_name}
use Rattle.types_declared.specs.Laid.{laid_in, literal_of, IsPathOf}
use Rattle.types_declared.specs.Package.{Package, ExportData}
use Rattle.types_declared.specs.PackageNames.{ArePackageNames}
use Rattle.types_declared.specs.ExportTablesView.{no_export_data}
use Rattle.types_info.specs.PackageOf.{package_in}
use Rattle.workspace_check.specs.Verdicts.{Verdicts, BuildsOn, IsSeenAs, seen, unseen, IsPackageIn}
use Rattle.workspace_check.proofs.Closed.{to_package}
use Rattle.workspace_check.proofs.Members.{cases_contains}
use Rattle.refs_binding.specs.Uses.{IsCheckedPackage}
use Rattle.refactor_conflict.specs.ScopedPackages.{AreClauseNames, IsClauseName, IsScopedIn, unnamed}
use Rattle.refactor_move.specs.declared.moved.Moved.{Moved}
use Rattle.law_faultless.proofs.Declared.{name_is, old_site}
use Rattle.law_faultless.proofs.Spellings.{string_known}
use Rattle.law_faultless.proofs.TypesDecided.{string_class}
use Rattle.law_renamed_workspaces.proofs.Literals.{to_string}
use Rattle.law_renamed_workspaces.proofs.Packages.{package_there as package_of}
use Rattle.law_renamed_workspaces.proofs.GoodImports.{imports_are_good}
use Rattle.law_renamed_workspaces.proofs.KeptBindings.{scoped_of}
use Rattle.law_renamed_workspaces.proofs.ScopedAgain.{imported}
use Rattle.law_renamed_workspaces.proofs.FaultlessScopes.{data_of, faultless, scoped_by}
use Rattle.law_moves.specs.Moves.{IsMove, moved_path}
use Rattle.law_moves.specs.MovedPackages.{name_after}
use Rattle.law_moves.specs.Replacements.{is_replaced, new_piece}
use Rattle.law_moves.proofs.ClauseNames.{have_moved_files}
use Rattle.law_moves.proofs.Literals.{are, string_before}
use Rattle.law_moves.proofs.MovedFiles.{package_there, package_was, stay_apart}
use Rattle.law_moves.proofs.MoveEdits.{edits, is_file, keep_kinds}
use Rattle.law_moves.proofs.NewFiles.{builds_move, builds_were, from_imports, imported_there, new_parts, new_trees}
use Rattle.law_moves.proofs.NewLayout.{file_at, layout_is, new_files, plain_layout, plain_size, size_is, source_at, with_others}
use Rattle.law_moves.proofs.NewSpelled.{token_of}
use Rattle.law_moves.proofs.NewTokens.{file_stays}
use Rattle.law_moves.proofs.OneEdit.{string_kept}
use Rattle.workspace_check.proofs.OnePackage.{one_checked}

-- predeclared names stay, whatever names imports declare
same_universe : (f g : ℕ → Option (List ℕ)) (names : List (List ℕ)) (xs ys : List Site) (u : ℕ) → u < length names →
    (or_blank (slice_get (named_sites f (map universe_site names ++ xs)) u)).name
    ≡ (or_blank (slice_get (named_sites g (map universe_site names ++ ys)) u)).name
unfolding named_sites
same_universe f g [] xs ys u lt = absurd (omega (arith, lt))
same_universe f g (n ∷ names) xs ys zero lt = refl
same_universe f g (n ∷ names) xs ys (suc u) lt = same_universe (λ k. f (suc k)) (λ k. g (suc k)) names xs ys u (omega (arith, lt))

module _ (w : Workspace) (known : Verdicts) (from to : List ℕ) (s : FileChanges) (h : IsMove w known from to s) where
  abbrev pub v : Workspace
  v = edited s w

  abbrev pub goes : List ℕ → List ℕ
  goes = moved_path from to

  abbrev pub m : Moved
  m = h.edits.moved

  pub goes_by : (path : List ℕ) → moved_path m.from m.to path ≡ goes path
  goes_by path = ap (λ f. moved_path f m.to path) h.edits.is_move.source ∙ ap (λ t. moved_path from t path) h.edits.is_move.target

  -- the name of each package

  -- A package of the workspace, with the name in its clauses.
  pub record IsNamed (path : List ℕ) : Type 0 where
    pub inside : Package
    pub is_package : IsCheckedPackage w known inside
    pub of_path : inside.path ≡ path
    pub named : (known path).export_data.name ≡ package_name inside.files

  pub named_package : (path : List ℕ) → Contains (package_paths w) path → IsNamed path
  named_package path has =
      let x = data_of w known h.right h.sound path has in
      let p = package_of w h.sound known h.right path has in
      let same : x.checked ≡ p.0 =
      one_checked w known path x.checked p.0 x.is_package (subst (λ q. IsPackageIn w known q p.0) p.1.1 p.1.0.is_checked) in
      record {
        inside = p.0;
        is_package = p.1.0;
        of_path = p.1.1;
        named = x.is_export_data.name ∙ ap (λ (y : Package). package_name y.files) same;
      }

  abbrev pub IsThere : List ℕ → Type 0
  IsThere x = Contains (package_paths v) x ⊎ (Contains (package_paths v) x → ⊥)

  abbrev pub name_at : (x : List ℕ) → IsThere x → List ℕ
  name_at x (inl has) =
      let o = package_was w known from to s h x has in name_after m o.0 (known o.0).export_data.name
  name_at x (inr not) = []

  abbrev pub new_name : List ℕ → List ℕ
  new_name x = name_at x (cases_contains (package_paths v) x)

  name_by : (r : List ℕ) → Contains (package_paths w) r → (c : IsThere (goes r)) → name_at (goes r) c ≡ name_after m r (known r).export_data.name
  name_by r there (inl has) =
      let o = package_was w known from to s h (goes r) has in
      let same : o.0 ≡ r = stay_apart w known from to s h o.0 r o.1.0 there (sym o.1.1) in
      ap (λ q. name_after m q (known q).export_data.name) same
  name_by r there (inr not) = absurd (not (package_there w known from to s h r there))

  pub new_name_is : (r : List ℕ) → Contains (package_paths w) r → new_name (goes r) ≡ name_after m r (known r).export_data.name
  new_name_is r there = name_by r there (cases_contains (package_paths v) (goes r))

  abbrev pub data_named : List ℕ → ExportData
  data_named x =
      let e = no_export_data x in record { name = new_name x; exported = e.exported; definition = e.definition }

  abbrev pub after : Verdicts
  after x = record { faulty = false; export_data = data_named x }

  abbrev pub clause_at : (x : List ℕ) → IsThere x → Option (List ℕ)
  clause_at x (inl has) = Some (name_at x (inl has))
  clause_at x (inr not) = None

  abbrev pub clauses : List ℕ → Option (List ℕ)
  clauses x = clause_at x (cases_contains (package_paths v) x)

  clause_there : (x : List ℕ) (c : IsThere x) → IsClauseName v x (clause_at x c)
  clause_there x (inl has) =
      let o = package_was w known from to s h x has in
      let p = named_package o.0 o.1.0 in
      let files = have_moved_files w known from to s h p.inside p.is_package in
      let path : moved_path m.from m.to p.inside.path ≡ x = goes_by p.inside.path ∙ ap goes p.of_path ∙ sym o.1.1 in
      let name : name_after m p.inside.path (package_name p.inside.files) ≡ name_after m o.0 (known o.0).export_data.name =
      ap (λ q. name_after m q (package_name p.inside.files)) p.of_path ∙ ap (name_after m o.0) (sym p.named) in
      subst (λ q. IsClauseName v q (Some (name_after m o.0 (known o.0).export_data.name))) path
      (subst (λ n. IsClauseName v (moved_path m.from m.to p.inside.path) (Some n)) name files.1.clause)
  clause_there x (inr not) = unnamed (λ files has parsed. not has)

  are_clauses : AreClauseNames v clauses
  are_clauses x = clause_there x (cases_contains (package_paths v) x)

  clause_is : (x : List ℕ) → Contains (package_paths v) x → (c : IsThere x) → clause_at x c ≡ Some (name_at x c)
  clause_is x there (inl has) = refl
  clause_is x there (inr not) = absurd (not there)

  module _ (p : Package) (is : IsCheckedPackage w known p) where
    -- what it sees

    pub record SeenAs (x : List ℕ) : Type 0 where
      pub name : Option (List ℕ)
      pub seen_data : ExportData
      pub is_seen : IsSeenAs v after (goes p.path) x name seen_data
      pub named : (r : List ℕ) → x ≡ goes r → PackageImports w p.path r → name ≡ Some (new_name x)

    imports_seen : (r : List ℕ) → PackageImports w p.path r → (BuildsOn w p.path r → (known r).faulty ≡ true) → ⊥
    imports_seen r i none =
        imports_are_good w h.sound known h.right p is r i (λ on.
        true≢false (sym (none on) ∙ faultless w known h.right h.sound r (imported_there w known from to s h p.path r i)))

    by_old : (x r : List ℕ) → Contains (package_paths w) r → x ≡ goes r → (n : Option (List ℕ)) (i : ExportData) → IsSeenAs w known p.path r n i →
        SeenAs x
    by_old x r there same _ _ (seen on good) = record {
      name = Some (new_name x);
      seen_data = data_named x;
      is_seen = seen (subst (BuildsOn v (goes p.path)) (sym same) (builds_move w known from to s h p.path r is.of_workspace there on)) refl;
      named = λ q e i. refl;
    }
    by_old x r there same _ _ (unseen none) = record {
      name = None;
      seen_data = no_export_data x;
      is_seen = unseen (λ on.
          let was : BuildsOn w p.path r = builds_were w known from to s h p.path r is.of_workspace there (subst (BuildsOn v (goes p.path)) same on) in
          absurd (true≢false (sym (none was) ∙ faultless w known h.right h.sound r there)));
      named = λ q e i.
          let one : q ≡ r = stay_apart w known from to s h q r (imported_there w known from to s h p.path q i) there (sym e ∙ same) in
          absurd (imports_seen r (subst (PackageImports w p.path) one i) none);
    }

    see_by : (x : List ℕ) → IsThere x → SeenAs x
    see_by x (inl has) =
        let o = package_was w known from to s h x has in
        by_old x o.0 o.1.0 o.1.1 (is.is_checked.name_of o.0) (is.is_checked.export_data_of o.0) (is.is_checked.are_seen o.0)
    see_by x (inr not) = record {
      name = None;
      seen_data = no_export_data x;
      is_seen = unseen (λ on. absurd (not (to_package v (goes p.path) x on.imported)));
      named = λ q e i.
          absurd (not (subst (Contains (package_paths v)) (sym e) (package_there w known from to s h q (imported_there w known from to s h p.path q i))));
    }

    pub see : (x : List ℕ) → SeenAs x
    see x = see_by x (cases_contains (package_paths v) x)

    pub name_of : List ℕ → Option (List ℕ)
    name_of x = (see x).name

    pub seen_name : (r : List ℕ) → PackageImports w p.path r → name_of (goes r) ≡ Some (new_name (goes r))
    unfolding name_of
    seen_name r i = (see (goes r)).named r refl i

    -- what it saw
    old_by : (r : List ℕ) → PackageImports w p.path r → (n : Option (List ℕ)) (i : ExportData) → IsSeenAs w known p.path r n i →
        n ≡ Some (known r).export_data.name
    old_by r imports _ _ (seen on good) = refl
    old_by r imports _ _ (unseen none) = absurd (imports_seen r imports none)

    pub old_name : (r : List ℕ) → PackageImports w p.path r → is.is_checked.name_of r ≡ Some (known r).export_data.name
    old_name r i = old_by r i (is.is_checked.name_of r) (is.is_checked.export_data_of r) (is.is_checked.are_seen r)

    -- its files

    abbrev pub ts : List FileParts
    ts = is.is_checked.files

    abbrev pub nf : List SourceFile
    nf = new_files s ts

    abbrev pub plain : ScopedPackage
    plain = scoped (map (new_parts s) ts)

    abbrev pub old_plain : ScopedPackage
    old_plain = scoped ts

    file_after : (k : ℕ) (t : FileParts) → slice_get ts k ≡ Some t → IsSourceFile (source_of (new_parts s t))
    file_after k t e =
        let f = source_of t in
        let at = source_at w known from to s h p is k t e in
        file_stays (unwrap_or (path_after s t.path) t.path) f (edits w known from to s h p is k f at) (is_file w known from to s h p is k f at)
        (are w known from to s h p is k f at (unwrap_or (path_after s t.path) t.path)) (keep_kinds w known from to s h p is k f at)

    -- literals are strings before and after
    pub old_value : (k : ℕ) (t : FileParts) → slice_get ts k ≡ Some t → (n : ℕ) (value : List ℕ) → HasLiteral (source_of (new_parts s t)) n value →
        (r : List ℕ) × HasLiteral (source_of t) n r
    old_value k t e n value l =
        let f = source_of t in
        let at = source_at w known from to s h p is k t e in
        let x = string_before w known from to s h p is k f at (unwrap_or (path_after s t.path) t.path) n value l in
        let same : token_at f.cut n ≡ x.0 = get_or_from_slice_get (tokens_in f.cut) n x.0 (semicolon 0) x.1.0 in
        let string : IsStringClass (token_at f.cut n).class = subst (λ (y : Piece). IsStringClass y.class) (sym same) x.1.1 in
        let known_value = string_known f (is_file w known from to s h p is k f at) n string in
        (known_value.0, record { is_string = string; stands_for = known_value.1 })

    value_after : (k : ℕ) (t : FileParts) → slice_get ts k ≡ Some t → (n : ℕ) (value : List ℕ) → HasLiteral (source_of t) n value →
        (x : List ℕ) × HasLiteral (source_of (new_parts s t)) n x
    value_after k t e n value l =
        let f = source_of t in
        let path = unwrap_or (path_after s t.path) t.path in
        let at = source_at w known from to s h p is k t e in
        let es = edits w known from to s h p is k f at in
        let good = are w known from to s h p is k f at path in
        let x = to_string f n value l in
        let now = source_of (new_parts s t) in
        let held : slice_get (tokens_in now.cut) n ≡ Some (new_piece es x.piece) =
        token_of path f es (is_file w known from to s h p is k f at) good n ∙ ap (option_map (new_piece es)) x.at in
        let same : token_at now.cut n ≡ new_piece es x.piece = get_or_from_slice_get (tokens_in now.cut) n (new_piece es x.piece) (semicolon 0) held in
        let string : IsStringClass (token_at now.cut n).class =
        subst (λ (y : Piece). IsStringClass y.class) (sym same) (string_kept x.piece.class (is_replaced es x.piece) x.is_string) in
        let known_value = string_known now (file_after k t e) n string in
        (known_value.0, record { is_string = string; stands_for = known_value.1 })

    -- the path of an import, as scopes see it afterwards

    abbrev pub NewPath : ℕ → List ℕ → Type 0
    NewPath u x = IsPathOf nf (laid_in plain) u x

    abbrev pub OldPath : ℕ → List ℕ → Type 0
    OldPath u r = IsPathOf (map source_of ts) (laid_in old_plain) u r

    abbrev pub PathIn : ℕ → Type 0
    PathIn u = ((x : List ℕ) × NewPath u x) ⊎ ((x : List ℕ) → NewPath u x → ⊥)

    abbrev pub token_in : ℕ → ℕ
    token_in u = ((layout_in plain).place (literal_of (layout_in plain) u)).index

    one_value : (f : SourceFile) (n : ℕ) (a b : List ℕ) → HasLiteral f n a → HasLiteral f n b → a ≡ b
    one_value f n a b x y = one_string_value (bytes_of f.cut.text (token_at f.cut n)) a b x.stands_for y.stands_for

    one_path : (u : ℕ) (a b : List ℕ) → NewPath u a → NewPath u b → a ≡ b
    one_path u a b x y =
        let same : x.source ≡ y.source = same_Some x.source y.source (sym x.is_file ∙ y.is_file) in
        one_value y.source (token_in u) a b (subst (λ (f : SourceFile). HasLiteral f (token_in u) a) same x.has_literal) y.has_literal

    -- the file of an identifier is one of before
    record WasPart (k : ℕ) (f : SourceFile) : Type 0 where
      part : FileParts
      at : slice_get ts k ≡ Some part
      is_source : source_of (new_parts s part) ≡ f

    was_part : (k : ℕ) (f : SourceFile) → slice_get nf k ≡ Some f → WasPart k f
    was_part k f e =
        let n = part_at (map (new_parts s) ts) k f e in
        by_part (slice_get ts k) refl n.0 (sym (slice_get-map (new_parts s) ts k) ∙ n.1.0) n.1.1
      where
        by_part : (o : Option FileParts) → slice_get ts k ≡ o → (y : FileParts) → option_map (new_parts s) o ≡ Some y → source_of y ≡ f → WasPart k f
        by_part None e y same is = absurd (none-some y same)
        by_part (Some t) e y same is = record { part = t; at = e; is_source = ap source_of (same_Some (new_parts s t) y same) ∙ is }

    decide_path : (u : ℕ) (o : Option SourceFile) → slice_get nf ((layout_in plain).place u).file ≡ o → PathIn u
    decide_path u None e = inr (λ x i. none-some i.source (sym e ∙ i.is_file))
    decide_path u (Some f) e = elim (string_class (token_at f.cut (token_in u)).class) [
      | inl string ↦
          let t = was_part ((layout_in plain).place u).file f e in
          let good : IsSourceFile f = subst IsSourceFile t.is_source (file_after ((layout_in plain).place u).file t.part t.at) in
          let x = string_known f good (token_in u) string in
          inl (x.0, record { source = f; is_file = e; has_literal = record { is_string = string; stands_for = x.1 } })
      | inr not ↦ inr (λ x i.
          let same : i.source ≡ f = same_Some i.source f (sym i.is_file ∙ e) in
          not (subst (λ (g : SourceFile). IsStringClass (token_at g.cut (token_in u)).class) same i.has_literal.is_string))
    ]

    pub path_in : (u : ℕ) → PathIn u
    path_in u = decide_path u (slice_get nf ((layout_in plain).place u).file) refl

    abbrev pub given_by : (u : ℕ) → PathIn u → List ℕ → List ℕ
    given_by u (inl x) name = unwrap_or (name_of x.0) name
    given_by u (inr none) name = name

    abbrev pub given_for : ℕ → List ℕ → List ℕ
    given_for u name = given_by u (path_in u) name

    abbrev pub names : ℕ → Option (List ℕ)
    names = is.is_checked.is_package.is_laid.names

    abbrev pub given : ℕ → Option (List ℕ)
    given = with_others given_for names

    given_is : (u : ℕ) (c : PathIn u) (x : List ℕ) → NewPath u x → (name : List ℕ) → name_of x ≡ Some name → (n : List ℕ) → given_by u c n ≡ name
    given_is u (inl y) x i name is n = ap (λ o. unwrap_or o n) (ap name_of (one_path u y.0 x y.1 i) ∙ is)
    given_is u (inr none) x i name is n = absurd (none x i)

    -- between both layouts

    old_path : (u : ℕ) (x : List ℕ) → NewPath u x → (r : List ℕ) × OldPath u r
    old_path u x i =
        let k = ((layout_in plain).place u).file in
        let t = was_part k i.source i.is_file in
        let l : HasLiteral (source_of (new_parts s t.part)) (token_in u) x =
        subst (λ (f : SourceFile). HasLiteral f (token_in u) x) (sym t.is_source) i.has_literal in
        let old = old_value k t.part t.at (token_in u) x l in (
          old.0,
          record {
            source = source_of t.part;
            is_file = subst (λ (y : Layout). slice_get (map source_of ts) (y.place u).file ≡ Some (source_of t.part)) (plain_layout w known from to s h p is)
                (slice_get-map source_of ts k ∙ ap (option_map source_of) t.at);
            has_literal = subst (λ (y : Layout). HasLiteral (source_of t.part) (y.place (literal_of y u)).index old.0) (plain_layout w known from to s h p is)
                old.1;
          },
        )

    path_after_move : (u : ℕ) (r : List ℕ) → OldPath u r → (x : List ℕ) × NewPath u x
    path_after_move u r i =
        let same = sym (plain_layout w known from to s h p is) in
        let k = ((layout_in plain).place u).file in
        let file : slice_get (map source_of ts) k ≡ Some i.source =
        subst (λ (y : Layout). slice_get (map source_of ts) (y.place u).file ≡ Some i.source) same i.is_file in
        let l : HasLiteral i.source (token_in u) r =
        subst (λ (y : Layout). HasLiteral i.source (y.place (literal_of y u)).index r) same i.has_literal in
        let t = part_at ts k i.source file in
        let x = value_after k t.0 t.1.0 (token_in u) r (subst (λ (f : SourceFile). HasLiteral f (token_in u) r) (sym t.1.1) l) in
        (x.0, record { source = source_of (new_parts s t.0); is_file = file_at s ts k (Some t.0) t.1.0; has_literal = x.1 })

    are_names : ArePackageNames nf name_of (laid_in plain) given
    are_names u lt bare =
        let old_lt : u < length old_plain.sites = subst (λ n. u < n) (plain_size w known from to s h p is) lt in
        let old_bare : is_unnamed_import ((layout_in old_plain).role u) ≡ true =
        subst (λ (y : Layout). is_unnamed_import (y.role u) ≡ true) (plain_layout w known from to s h p is) bare in
        let own = is.is_checked.is_package.is_laid.are_names u old_lt old_bare in
        record {
          known = λ x i.
              let new_import = imported v (goes p.path) (map (new_parts s) ts) (new_trees w known from to s h p is) u lt bare x i in
              let d = from_imports w known from to s h p is x new_import in
              let is_named : name_of x ≡ Some (new_name x) =
              subst (λ q. name_of q ≡ Some (new_name q)) (sym d.goes_there) (seen_name d.old d.imports) in
              let r = old_path u x i in
              let was : names u ≡ Some (known r.0).export_data.name =
              own.known r.0 r.1 ∙ old_name r.0 (imported w p.path ts is.is_checked.parsed u old_lt old_bare r.0 r.1) in
              ap (option_map (given_for u)) was ∙ ap Some (given_is u (path_in u) x i (new_name x) is_named (known r.0).export_data.name) ∙ sym is_named;
          unknown = λ none. ap (option_map (given_for u)) (own.unknown (λ r i. let x = path_after_move u r i in none x.0 x.1));
        }

    -- the package

    abbrev pub laid : ScopedPackage
    laid = with_names given plain

    abbrev pub checked : Package
    checked = package_in (goes p.path) nf laid (λ x. (see x).seen_data)

    pub is_checked : IsPackageIn v after (goes p.path) checked
    unfolding name_of
    is_checked = record {
      files = map (new_parts s) ts;
      parsed = new_trees w known from to s h p is;
      name_of = λ x. (see x).name;
      export_data_of = λ x. (see x).seen_data;
      are_seen = λ x. (see x).is_seen;
      is_package = record { laid = laid; is_laid = record { names = given; are_names = are_names; is_named = refl }; is_package = refl };
    }

    pub is_package : IsCheckedPackage v after checked
    is_package = record { of_workspace = package_there w known from to s h p.path is.of_workspace; is_checked = is_checked }

    pub layout_same : checked.layout ≡ p.layout
    layout_same = layout_is w known from to s h p is given_for

    pub size_same : checked.size ≡ p.size
    size_same = size_is w known from to s h p is given_for

    -- by its scopes

    sees : (x : List ℕ) → PackageImports v (goes p.path) x → (n : Option (List ℕ)) (i : ExportData) → IsSeenAs v after (goes p.path) x n i → n ≡ clauses x
    sees x imports _ _ (seen on good) =
        sym (clause_is x (to_package v (goes p.path) x on.imported) (cases_contains (package_paths v) x))
    sees x imports _ _ (unseen none) =
        let d = from_imports w known from to s h p is x imports in
        absurd (imports_are_good w h.sound known h.right p is d.old d.imports (λ on.
        let there = imported_there w known from to s h p.path d.old d.imports in
        let now : BuildsOn v (goes p.path) x =
        subst (BuildsOn v (goes p.path)) (sym d.goes_there) (builds_move w known from to s h p.path d.old is.of_workspace there on) in
        true≢false (sym (none now))))

    abbrev pub moved : Package
    moved = scoped_of checked

    pub is_scoped : IsScopedIn v moved
    is_scoped = scoped_by v after checked is_package clauses are_clauses sees

    -- what is known of it

    pub checked_name : (r : List ℕ) → PackageImports w p.path r → is_checked.name_of (goes r) ≡ Some (new_name (goes r))
    unfolding is_checked name_of
    checked_name r i = seen_name r i

    pub bare_after : (u : ℕ) → is_unnamed_import (old_site w known p.path p is.is_checked u).role ≡ true →
        is_unnamed_import (old_site v after (goes p.path) checked is_checked u).role ≡ true
    unfolding is_checked
    bare_after u bare = subst (λ (y : Layout). is_unnamed_import (y.role u) ≡ true) (sym (plain_layout w known from to s h p is)) bare

    -- names of the universe
    pub universe_same : (u : ℕ) → u < length universe → checked.names u ≡ p.names u
    unfolding package_sites
    universe_same u lt =
        same_universe given names universe (files_sites 0 (map spelled_file (map (new_parts s) ts))) (files_sites 0 (map spelled_file ts)) u lt
        ∙ sym (name_is w known p.path p is.is_checked u)
