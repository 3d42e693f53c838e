-- The source of the code of a file after a plain rename: the old one with other names.
use Rattle.std.proofs.Common.{ℕ, zero, suc, ◌≡◌, ◌==◌, ◌+◌, Bool, true, false, if◌then◌else◌, List, [], ◌∷◌, Option, Some, None, option_map, map}
use Rattle.std.proofs.Common.{refl, ap, sym, subst, ◌∙◌}
use Rattle.std.specs.Prelude.{slice_get, Contains, ◌↔◌}
use Rattle.std.proofs.lemmas.Bool.{eqb-true}
use Rattle.std.proofs.lemmas.Option.{none-some, same_Some, slice_get-map}
use Rattle.base_lemmas.proofs.Elements.{first_in, later_in}
use Rattle.base_edits.specs.EditSet.{FileChanges, edited, change_of}
use Rattle.base_edits.specs.Moved.{edits_by}
use Rattle.base_edits.specs.RevisionsOfEdits.{revision_of}
use Rattle.base_files.specs.Packages.{package_files}
use Rattle.base_files.specs.Workspace.{Workspace}
use Rattle.go_scanner.specs.declared.piece.Class.TheVariants.{Name}
use Rattle.go_scanner.specs.declared.piece.Piece.{Piece}
use Rattle.go_scanner.specs.Cuts.{bytes_of}
use Rattle.go_scanner.specs.CutText.{tokens_in}
use Rattle.go_ast.specs.declared.syntax.Kind.{Kind}
use Rattle.go_ast.specs.declared.syntax.Kind.TheVariants as kind
use Rattle.go_ast.specs.declared.syntax.Token.{Token}
use Rattle.go_ast.specs.Flatten.{flatten, all_tokens, imports_tokens, decl_tokens}
use Rattle.go_ast.specs.Kinds.{kind_of, kinds_from}
use Rattle.go_ast.specs.SourceFile.{SourceFile, FileParts, source_of, spelling_of}
use Rattle.go_ast.specs.Tree.{FileTree}
use Rattle.go_scope.specs.Bindings.{IsPackageLevel}
use Rattle.types_expr.specs.Types.{PlainType}
use Rattle.types_expr.specs.World.{World}
use Rattle.types_expr.specs.declared.symbol.Symbol.{Symbol}
use Rattle.types_expr.specs.Judge.{MemberUse, members_of, enterings_of}
use Rattle.types_stmt.specs.Declarations.{check_file}
use Rattle.types_declared.specs.Files.{HasLiteral}
use Rattle.types_declared.specs.Package.{Package}
use Rattle.types_info.specs.Worlds.{IsWorldOf, is_init}
use Rattle.workspace_graph.specs.Parsed.{AreParsed}
use Rattle.workspace_check.specs.Verdicts.{Verdicts}
use Rattle.workspace_check.proofs.OnePackage.{one_sources}
use Rattle.refs_binding.specs.declared.declaration.Declaration.{Declaration}
use Rattle.refs_lookup.proofs.OnePlace.{same_files}
use Rattle.build_object.specs.Lines.{GlobalName, FunctionName}
use Rattle.build_object.specs.Literals.{literal_number}
use Rattle.build_object.specs.Names.{function_name, position_of_field, name_of_asked, asked_in_file, MethodAsked}
use Rattle.build_object.specs.Source.{Source}
use Rattle.build_object.specs.Sources.{type_before, type_entered, asked_there, HasQualifier, IsGlobalAt, DenotesGlobal, IsTrueAt, IsTextAt, IsSourceOf}
use Rattle.build_object.specs.Sources as source
use Rattle.law_tokens.specs.Roles.{IsOfKind}
use Rattle.law_tokens.proofs.OwnPaths.{part_at}
use Rattle.law_faultless.proofs.DeclaringNames.{AllOf, back}
use Rattle.law_faultless.proofs.Numbers.{OfKind, file_kinds}
use Rattle.go_respelled.proofs.Spelled.{token_kept}
use Rattle.go_respelled.specs.Renamings.{replaced_piece}
use Rattle.law_changed_types.proofs.Alike.{Alike, of_bound, tokens, turned, selected, is_predeclared}
use Rattle.law_changed_types.specs.MemberUses.{IsAlike}
use Rattle.law_changed_types.proofs.Agreement.{only_members_differ}
use Rattle.law_renamed_workspaces.specs.Harmless.{IsHarmless}
use Rattle.law_renamed_workspaces.specs.Renames.{IsPlainRename}
use Rattle.law_renamed_workspaces.proofs.Literals.{string_stays, string_was, to_string, from_string}
use Rattle.law_renamed_workspaces.proofs.Packages.{new_parts, new_trees}
use Rattle.law_renamed_workspaces.proofs.Replaced.{are, is_file}
use Rattle.law_renamed_workspaces.proofs.WorldsAlike.{worlds_stay}
use Rattle.law_renamed_workspaces.specs.VerdictsStay.{IsPackageAfter}
use Rattle.law_renamed_workspaces.proofs.Laws.{found}
use Rattle.law_renamed_workspaces.proofs.OuterFaults.{new_sources}
use Rattle.law_objects.specs.Replaced.{Replaced}
use Rattle.law_objects.proofs.NamesMoved.{asked_renamed, named_at, MovesNames}
use Rattle.law_objects.specs.SourcesBy.{IsSourceBy, NumbersStay}
use Rattle.types_expr.proofs.NoteLists.{noted_member}
use Rattle.types_stmt.specs.Checked.{FoundSoFar}

-- a number is no name

number_class : (n : ℕ) (text : List ℕ) (ps : List Piece) (i : ℕ) (t : Token) → slice_get (kinds_from n text ps) i ≡ Some t → t.kind ≡ kind.Number →
    (x : Piece) → slice_get ps i ≡ Some x → x.class ≡ Name → ⊥
unfolding kinds_from
number_class n text [] i t e is x at name = none-some t e
number_class n text (y ∷ ps) zero t e is x at name =
    let own : kind_of y.class (bytes_of text y) ≡ kind.Number =
    ap (λ (z : Token). z.kind) (same_Some (record { kind = kind_of y.class (bytes_of text y); place = n }) t e) ∙ is in
    let class : y.class ≡ Name = ap (λ (z : Piece). z.class) (same_Some y x at) ∙ name in
    no_name (bytes_of text y) (ap (λ c. kind_of c (bytes_of text y)) (sym class) ∙ own)
  where
    by_test : (b : Bool) → (if b then kind.Blank else kind.Name) ≡ kind.Number → ⊥
    by_test true e = cc
    by_test false e = cc

    no_name : (bytes : List ℕ) → kind_of Name bytes ≡ kind.Number → ⊥
    no_name bytes e = by_test _ e
number_class n text (y ∷ ps) (suc i) t e is x at name = number_class (n + 1) text ps i t e is x at name

pub all_weaker : (K H : Kind → ℕ → Type 0) → ((k : Kind) (i : ℕ) → K k i → H k i) → (ts : List Token) → AllOf K ts → AllOf H ts
all_weaker K H f [] h = tt
all_weaker K H f (t ∷ ts) h = (f t.kind t.place h.0, all_weaker K H f ts h.1)

-- the tokens of a file's declarations
pub of_decls : (K : Kind → ℕ → Type 0) (f : FileTree) → AllOf K (flatten f) → AllOf K (all_tokens decl_tokens f.decls)
unfolding flatten
of_decls K f h = back K (all_tokens imports_tokens f.imports) (all_tokens decl_tokens f.decls) h.1.1.1

-- the use before which a type is known
pub used_before : (uses : List MemberUse) (token : ℕ) (t : PlainType) → type_before uses token ≡ Some t →
    (u : MemberUse) × (Contains uses u × ((u.place ≡ token) × (u.before ≡ t)))
used_before [] token t e = absurd (none-some t e)
used_before (u ∷ us) token t e =
    elim (u.place == token) as (λ b. (u.place == token) ≡ b → (if b then Some u.before else type_before us token) ≡ Some t →
    (v : MemberUse) × (Contains (u ∷ us) v × ((v.place ≡ token) × (v.before ≡ t)))) [
      | true ↦ λ is k. (u, (first_in u us, (eqb-true u.place token is, same_Some u.before t k)))
      | false ↦ λ fails k. (let later = used_before us token t k in (later.0, (later_in u us later.0 later.1.0, later.1.1)))
    ] refl e

-- the name of the first method that is asked for at a token

by_if : (g : FunctionName → FunctionName) (b : Bool) (x : FunctionName) (o u : Option FunctionName) → option_map g o ≡ u →
    option_map g (if b then Some x else o) ≡ (if b then Some (g x) else u)
by_if g true x o u e = refl
by_if g false x o u e = e

asked_later : (r : Replaced) (ms : List MethodAsked) (n : ℕ) → option_map r.function (asked_there ms n) ≡ asked_there (map (asked_renamed r) ms) n
asked_later r [] n = refl
asked_later r (a ∷ ms) n =
    by_if r.function (a.place == n) a.name (asked_there ms n) (asked_there (map (asked_renamed r) ms) n) (asked_later r ms n)

-- names of package-level declarations

module _ (r : Replaced) (p q : Package) (a : Alike p q) (moves : MovesNames r p q) where
  qualifier_stays : (file token : ℕ) (path : List ℕ) → HasQualifier p file token path → HasQualifier q file token path
  qualifier_stays file token path h =
      let there = selected p q a.size a.layout file token (record { identifier = h.identifier; found = h.found; selected = h.selected }) in
      record {
        before = h.before;
        behind_dot = h.behind_dot;
        identifier = there.identifier;
        found = there.found;
        selected = there.selected;
        import = h.import;
        binds = tokens p q a file h.before h.import h.binds;
        of_path = (a.imports h.import path).0 h.of_path;
      }

  level_stays : (d : ℕ) → IsPackageLevel p.layout d → IsPackageLevel q.layout d
  level_stays d level = subst (λ l. IsPackageLevel l d) (sym a.layout) level

  pub global_stays : (file token : ℕ) (g : GlobalName) → IsGlobalAt p file token g → IsGlobalAt q file token (r.global g)
  global_stays file token _ (source.own {d} b level) =
      let now : named_at q.path q file token ≡ r.global (named_at p.path p file token) =
      ap (λ path. named_at path q file token) a.path ∙ sym (moves.bound file token d b level) in
      subst (IsGlobalAt q file token) now (source.own (tokens p q a file token d b) (level_stays d level))
  global_stays file token _ (source.imported {path} h) =
      subst (IsGlobalAt q file token) (sym (moves.qualified file token path h)) (source.imported (qualifier_stays file token path h))

-- a name is bound to one only where it was
global_was : (p q : Package) → Alike p q → (file token : ℕ) (g : GlobalName) → IsGlobalAt q file token g → (x : GlobalName) × IsGlobalAt p file token x
global_was p q a file token _ (source.own {d} b level) = (
  named_at p.path p file token,
  source.own (tokens q p (turned p q a) file token d b) (subst (λ l. IsPackageLevel l d) a.layout level),
)
global_was p q a file token _ (source.imported {path} h) =
    let b = turned p q a in
    let there = selected q p b.size b.layout file token (record { identifier = h.identifier; found = h.found; selected = h.selected }) in (
      named_at path p file token,
      source.imported (record {
        before = h.before;
        behind_dot = h.behind_dot;
        identifier = there.identifier;
        found = there.found;
        selected = there.selected;
        import = h.import;
        binds = tokens q p b file h.before h.import h.binds;
        of_path = (b.imports h.import path).0 h.of_path;
      }),
    )

true_stays : (p q : Package) → Alike p q → (file token : ℕ) → IsTrueAt p file token → IsTrueAt q file token
true_stays p q a file token h = record {
  declaration = h.declaration;
  binds = tokens p q a file token h.declaration h.binds;
  predeclared = is_predeclared p q a h.declaration _ h.predeclared;
}

module _ (w : Workspace) (before after : Verdicts) (d : Declaration) (name : List ℕ) (s : FileChanges) (plain : IsPlainRename w before d name s)
    (none : IsHarmless w before (revision_of w s)) (p q : Package) (here : IsPackageAfter w before after s p q) where
  abbrev x : Workspace
  x = edited s w

  abbrev ts : List FileParts
  ts = here.was.is_checked.files

  pub files_now : q.files ≡ new_sources s ts
  files_now =
      same_files x after q.path q here.is.is_checked
      ∙ one_sources here.is.is_checked.parsed
      (subst (λ path. AreParsed (package_files x path) (map (new_parts s) ts) []) (sym here.relaid.path) (new_trees w before d name s plain p here.was))

  pub files_were : p.files ≡ map source_of ts
  files_were = same_files w before p.path p here.was.is_checked

  module _ (file : ℕ) (f g : SourceFile) (at : slice_get p.files file ≡ Some f) (there : slice_get q.files file ≡ Some g) where
    part : (t : FileParts) × ((slice_get ts file ≡ Some t) × (source_of t ≡ f))
    part = part_at ts file f (sym (ap (λ fs. slice_get fs file) files_were) ∙ at)

    g_is : g ≡ source_of (new_parts s part.0)
    unfolding part
    g_is =
        let t = part_at ts file f (sym (ap (λ fs. slice_get fs file) files_were) ∙ at) in
        same_Some g (source_of (new_parts s t.0))
        (sym there ∙ ap (λ fs. slice_get fs file) files_now ∙ slice_get-map source_of (map (new_parts s) ts) file
        ∙ ap (option_map source_of) (slice_get-map (new_parts s) ts file ∙ ap (option_map (new_parts s)) t.1.0))

    abbrev AreLiteralsOf : SourceFile → SourceFile → Type 0
    AreLiteralsOf a b = (n : ℕ) (value : List ℕ) → HasLiteral a n value ↔ HasLiteral b n value

    part_there : slice_get p.files file ≡ Some (source_of part.0)
    part_there = at ∙ ap Some (sym part.1.1)

    literals_of_part : AreLiteralsOf (source_of part.0) (source_of (new_parts s part.0))
    literals_of_part n value =
        let t = part.0 in
        let old = source_of t in
        let own = is_file w before d name s plain p here.was file old part_there in
        let edits = are w before d name s plain p here.was file old part_there in (
          (λ l. from_string (source_of (new_parts s t)) n value
              (string_stays old (edits_by (change_of s old.path)) own edits n value (to_string old n value l))),
          (λ l. from_string old n value (string_was old (edits_by (change_of s old.path)) own edits n value (to_string (source_of (new_parts s t)) n value l))),
        )

    literals : AreLiteralsOf f g
    literals = subst (λ b. AreLiteralsOf f b) (sym g_is) (subst (λ a. AreLiteralsOf a (source_of (new_parts s part.0))) part.1.1 literals_of_part)

    number_of_part : (n : ℕ) → IsOfKind part.0.cut n kind.Number → spelling_of (source_of (new_parts s part.0)) n ≡ spelling_of (source_of part.0) n
    number_of_part n h =
        let old = source_of part.0 in
        let own = is_file w before d name s plain p here.was file old part_there in
        token_kept old (edits_by (change_of s old.path)) n own.is_cut (are w before d name s plain p here.was file old part_there)
        (λ e has same. number_class 0 old.cut.text (tokens_in old.cut) n h.0 h.1.0 h.1.1 (replaced_piece e) same refl)

    number_stays : (n : ℕ) → IsOfKind f.cut n kind.Number → spelling_of g n ≡ spelling_of f n
    number_stays n h =
        ap (λ z. spelling_of z n) g_is
        ∙ number_of_part n (subst (λ (z : SourceFile). IsOfKind z.cut n kind.Number) (sym part.1.1) h)
        ∙ ap (λ z. spelling_of z n) part.1.1

    text_stays : (token : ℕ) (o : Option (List ℕ)) → IsTextAt f token o → IsTextAt g token o
    text_stays token None h = λ value l. h value ((literals token value).1 l)
    text_stays token (Some value) h = (literals token value).0 h

    module _ (r : Replaced) (moves : MovesNames r p q) (files_of new_of : List ℕ → List SourceFile)
        (functions : (symbol : Symbol) → function_name new_of symbol ≡ option_map r.function (function_name files_of symbol))
        (positions : (symbol : Symbol) → position_of_field new_of symbol ≡ position_of_field files_of symbol)
        (asked : (symbol : Symbol) → name_of_asked new_of symbol ≡ option_map r.function (name_of_asked files_of symbol))
        (asks : asked_in_file q.path q.files file ≡ map (asked_renamed r) (asked_in_file p.path p.files file))
        (old : Source) (is : IsSourceOf p files_of file f old) (v : World) (judged : IsWorldOf q file g v) where
      abbrev a : Alike p q
      a = of_bound p q here.bound

      abbrev numbers : ℕ → Option ℕ
      numbers n = literal_number (spelling_of g n)

      pub new : Source
      new = record {
        world = v;
        before = old.before;
        entered = old.entered;
        global = λ n. option_map r.global (old.global n);
        asks = λ n. option_map r.function (old.asks n);
        truth = old.truth;
        number = λ n. literal_number (spelling_of g n);
        text = old.text;
        function = λ n. option_map r.function (old.function n);
        position = old.position;
        asked = λ n. option_map r.function (old.asked n);
      }

      alike : IsAlike (check_file old.world (is_init f) f.tree).uses old.world v
      alike =
          worlds_stay w before after d name s plain none p q here file f g old.world v at there is.world judged

      global_now : (token : ℕ) (o : Option GlobalName) → DenotesGlobal p file token o → DenotesGlobal q file token (option_map r.global o)
      global_now token None h = λ g k. (let was = global_was p q a file token g k in h was.0 was.1)
      global_now token (Some g) h = global_stays r p q a moves file token g h

      pub is_new : IsSourceOf q new_of file g new
      unfolding new
      is_new = record {
        world = judged;
        before = λ token. is.before token ∙
            ap (λ c. type_before c token)
            (sym (ap (λ (c : FoundSoFar). members_of c.uses)
            (found w before after d name s plain none p q here file f g old.world v at there is.world judged)));
        entered = λ token. is.entered token ∙
            ap (λ c. type_entered c token)
            (sym (ap (λ (c : FoundSoFar). enterings_of c.uses)
            (found w before after d name s plain none p q here file f g old.world v at there is.world judged)));
        global = λ token. global_now token (old.global token) (is.global token);
        asks = λ token. ap (option_map r.function) (is.asks token) ∙ asked_later r (asked_in_file p.path p.files file) token
            ∙ ap (λ ms. asked_there ms token) (sym asks);
        truth = λ token. (
          (λ e. true_stays p q a file token ((is.truth token).0 e)),
          (λ h. (is.truth token).1 (true_stays q p (turned p q a) file token h)),
        );
        number = λ token. refl;
        text = λ token. text_stays token (old.text token) (is.text token);
        function = λ symbol. ap (option_map r.function) (is.function symbol) ∙ sym (functions symbol);
        position = λ symbol. is.position symbol ∙ sym (positions symbol);
        asked = λ symbol. ap (option_map r.function) (is.asked symbol) ∙ sym (asked symbol);
      }

      agree : (n : ℕ) (t : PlainType) → old.before n ≡ Some t → v.member n t ≡ old.world.member n t
      agree n t e =
          let u = used_before (members_of (check_file old.world (is_init f) f.tree).uses) n t (sym (is.before n) ∙ e) in
          subst (λ k. v.member k t ≡ old.world.member k t) u.1.1.0
          (subst (λ k. v.member u.0.place k ≡ old.world.member u.0.place k) u.1.1.1
          (alike.members u.0 (noted_member (check_file old.world (is_init f) f.tree).uses u.0 u.1.0)))

      all_numbers : AllOf (NumbersStay old numbers) (all_tokens decl_tokens f.tree.decls)
      all_numbers =
          all_weaker (OfKind f.cut) (NumbersStay old numbers)
          (λ k i h same.
          ap literal_number (number_stays i (subst (λ z. IsOfKind f.cut i z) same h)) ∙ sym (is.number i))
          (all_tokens decl_tokens f.tree.decls)
          (of_decls (OfKind f.cut) f.tree (file_kinds f (is_file w before d name s plain p here.was file f at)))

      pub is_by : IsSourceBy r f.tree old new
      unfolding new
      is_by = record {
        same = ap (λ z. record {
          world = z;
          before = old.before;
          entered = old.entered;
          global = λ n. option_map r.global (old.global n);
          asks = λ n. option_map r.function (old.asks n);
          truth = old.truth;
          number = numbers;
          text = old.text;
          function = λ n. option_map r.function (old.function n);
          position = old.position;
          asked = λ n. option_map r.function (old.asked n);
        }) (sym (only_members_differ old.world v alike));
        agree = agree;
        numbers = all_numbers;
      }
