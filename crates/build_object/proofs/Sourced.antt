-- What the code of a file is made of: that the tables of the program are it.
use Rattle.std.proofs.Common.{ℕ, ◌≡◌, ◌==◌, ◌∷◌, ◌++◌, [], List, length, length-append, append_assoc, ap, sym, subst, refl, ◌∙◌, suc}
use Rattle.std.proofs.Common.{arith, map, Bool, true, false, if◌then◌else◌, MatchOption}
use Rattle.std.specs.Prelude.{Option, Some, None, option_map, slice_get}
use Rattle.std.specs.Option.{option_flatten}
use Rattle.std.proofs.Math.Path.{fun_ext}
use Rattle.std.proofs.lemmas.Option.{same_Some, slice_get-map}
use Rattle.go_ast.specs.SourceFile.{SourceFile}
use Rattle.go_ast.specs.SourceFile as file
use Rattle.types_expr.specs.declared.symbol.Symbol.{Symbol}
use Rattle.types_expr.specs.declared.found.Entering.{Entering}
use Rattle.types_expr.specs.declared.found.MemberUse.{MemberUse}
use Rattle.types_expr.specs.declared.world.World.{World}
use Rattle.types_expr.specs.Found.{plain_entering, use_of}
use Rattle.types_expr.specs.View.{type_of}
use Rattle.types_expr.specs.World as plain
use Rattle.types_expr.specs.WorldView.{world_of, name_in, token_spelling}
use Rattle.types_expr.specs.Judge.{enterings_of, members_of}
use Rattle.types_stmt.specs.Checked.{FoundSoFar}
use Rattle.types_stmt.specs.Declarations.{check_file}
use Rattle.types_declared.specs.DeclaredView.{type_of as definition_of}
use Rattle.types_declared.specs.Package.{Package, declared_types, spelled, spelled_at}
use Rattle.types_info.specs.Worlds.{IsWorldOf, is_init}
use Rattle.types_info.specs.MemberUses.{AreEnteringsIn, AreUsesIn}
use Rattle.types_info.specs.Uniqueness.{HasOneWorld}
use Rattle.build_object.specs.declared.object_names.ObjectNames.{ObjectNames}
use Rattle.build_object.specs.declared.object_names.NamedPackage.{NamedPackage}
use Rattle.build_object.specs.declared.object_names.DeclaredTables.{DeclaredTables}
use Rattle.build_object.specs.declared.source.NamedMethod.{NamedMethod}
use Rattle.build_object.specs.declared.source.Source.{Source}
use Rattle.build_object.specs.LineView.{function_of}
use Rattle.build_object.specs.Literals.{literal_number}
use Rattle.build_object.specs.Names.{name_of_type, type_name, type_names, functions_behind, function_names, field_positions, all_asked_names}
use Rattle.build_object.specs.NamesView.{AreNamesOf, AreTablesOf}
use Rattle.build_object.specs.Numbering.{slot_from}
use Rattle.build_object.specs.ObjectView.{HaveNames}
use Rattle.build_object.specs.PackagesView.{package_names_in, tables_in, type_of_rank, function_of_rank, position_of_rank, type_at, type_in}
use Rattle.build_object.specs.PackagesView.{asked_of_rank, asked_in, function_at, function_in, position_at, position_in}
use Rattle.build_object.specs.Sources.{IsSourceOf, asked_there, type_before, type_entered}
use Rattle.build_object.specs.SourceView.{asked_of, source_of, item_value}
use Rattle.build_object.specs.TablesView.{IsTabledSource}

-- what a list has for a token, by the number of the item

at_length : {X : Type 0} (xs ys : List X) (x : X) → slice_get (xs ++ (x ∷ ys)) (length xs) ≡ Some x
at_length [] ys x = refl
at_length (z ∷ xs) ys x = at_length xs ys x

module _ {X Y : Type 0} (place : X → ℕ) (value : X → Y) (found : List X → ℕ → Option Y) (none : (token : ℕ) → found [] token ≡ None)
    (more : (x : X) (xs : List X) (token : ℕ) → found (x ∷ xs) token ≡ (if place x == token then Some (value x) else found xs token)) where
  by_test : (before xs : List X) (x : X) (token : ℕ) (b : Bool) →
      item_value value (before ++ (x ∷ xs)) (slot_from (suc (length before)) (map place xs) token) ≡ found xs token →
      item_value value (before ++ (x ∷ xs)) (if b then Some (length before) else slot_from (suc (length before)) (map place xs) token)
      ≡ (if b then Some (value x) else found xs token)
  by_test before xs x token true later = ap (option_map value) (at_length before xs x)
  by_test before xs x token false later = later

  pub numbered_from : (before xs : List X) (token : ℕ) → item_value value (before ++ xs) (slot_from (length before) (map place xs) token) ≡ found xs token
  numbered_from before [] token = sym (none token)
  numbered_from before (x ∷ xs) token = by_test before xs x token (place x == token)
      (ap (λ (all : List X). item_value value all (slot_from (suc (length before)) (map place xs) token)) (sym (append_assoc before (x ∷ []) xs))
      ∙ (ap (λ n. item_value value ((before ++ (x ∷ [])) ++ xs) (slot_from n (map place xs) token))
      (let e : suc (length before) ≡ length (before ++ (x ∷ [])) = omega (arith, length-append before (x ∷ [])) in e)
      ∙ numbered_from (before ++ (x ∷ [])) xs token)) ∙ sym (more x xs token)

used_at : (uses : List MemberUse) (token : ℕ) →
    item_value (λ (u : MemberUse). type_of u.before) uses (slot_from 0 (map (λ (u : MemberUse). u.place) uses) token) ≡ type_before (map use_of uses) token
used_at uses token = numbered_from (λ (u : MemberUse). u.place) (λ (u : MemberUse). type_of u.before) (λ us n. type_before (map use_of us) n)
    (λ n. refl) (λ u us n. refl) [] uses token

entered_at : (entries : List Entering) (token : ℕ) →
    item_value (λ (e : Entering). type_of e.own) entries (slot_from 0 (map (λ (e : Entering). e.place) entries) token)
    ≡ type_entered (map plain_entering entries) token
entered_at entries token = numbered_from (λ (e : Entering). e.place) (λ (e : Entering). type_of e.own) (λ es n. type_entered (map plain_entering es) n)
    (λ n. refl) (λ e es n. refl) [] entries token

asks_at : (asked : List NamedMethod) (token : ℕ) →
    item_value (λ (a : NamedMethod). function_of a.name) asked (slot_from 0 (map (λ (a : NamedMethod). a.place) asked) token)
    ≡ asked_there (map asked_of asked) token
asks_at asked token = numbered_from (λ (a : NamedMethod). a.place) (λ (a : NamedMethod). function_of a.name) (λ xs n. asked_there (map asked_of xs) n)
    (λ n. refl) (λ a xs n. refl) [] asked token

-- the uses and entries that checking found, for the world that judges the file

same_check : (p : Package) (file : ℕ) (f g : SourceFile) (w v : plain.World) → HasOneWorld p → slice_get p.files file ≡ Some f → IsWorldOf p file f w →
    slice_get p.files file ≡ Some g → IsWorldOf p file g v → check_file v (is_init g) g.tree ≡ check_file w (is_init f) f.tree
same_check p file f g w v one at judged there also =
    let same : g ≡ f = same_Some g f (sym there ∙ at) in
    let alike : v ≡ w = one file f v w (subst (λ s. IsWorldOf p file s v) same also) judged in
    ap (λ s. check_file v (is_init s) s.tree) same ∙ ap (λ x. check_file x (is_init f) f.tree) alike

pub uses_found : (p : Package) (file : ℕ) (f : SourceFile) (w : plain.World) (uses : _) → HasOneWorld p → slice_get p.files file ≡ Some f →
    IsWorldOf p file f w → AreUsesIn p file uses →
    uses ≡ (members_of (check_file w (is_init f) f.tree).uses)
uses_found p file f w uses one at judged are =
    are.found ∙ ap (λ (c : FoundSoFar). members_of c.uses) (same_check p file f are.source w are.world one at judged are.in_file are.judged_by)

entries_found : (p : Package) (file : ℕ) (f : SourceFile) (w : plain.World) (entries : _) → HasOneWorld p → slice_get p.files file ≡ Some f →
    IsWorldOf p file f w → AreEnteringsIn p file entries →
    entries ≡ (enterings_of (check_file w (is_init f) f.tree).uses)
entries_found p file f w entries one at judged are =
    are.found ∙ ap (λ (c : FoundSoFar). enterings_of c.uses) (same_check p file f are.source w are.world one at judged are.in_file are.judged_by)

-- names of packages

type_of_ranks : (files : List SourceFile) (o : Option DeclaredTables) (rank : ℕ) → ((t : DeclaredTables) → o ≡ Some t → AreTablesOf files t) →
    type_of_rank files o rank ≡ slice_get (declared_types files) rank
type_of_ranks files None rank are = refl
type_of_ranks files (Some t) rank are = sym (slice_get-map definition_of t.declared.types.items rank) ∙ ap (λ xs. slice_get xs rank) (are t refl).types

type_at_names : (path : List ℕ) (files : List SourceFile) (o : Option NamedPackage) (made : Option DeclaredTables) (rank : ℕ) →
    MatchOption o (files ≡ []) (λ names. AreNamesOf path files names made) →
    type_at o made rank ≡ slice_get (type_names path files) rank
type_at_names path files None made rank e = ap (λ fs. slice_get (type_names path fs) rank) (sym e)
type_at_names path files (Some names) made rank h =
    ap (λ p. option_map (name_of_type p (map file.source_of names.files.now)) (type_of_rank (map file.source_of names.files.now) made rank)) h.has_path
    ∙ (ap (λ fs. option_map (name_of_type path fs) (type_of_rank fs made rank)) h.has_files
    ∙ (ap (option_map (name_of_type path files)) (type_of_ranks files made rank h.tables)
    ∙ sym (slice_get-map (name_of_type path files) (declared_types files) rank)))

function_of_ranks : (path : List ℕ) (files : List SourceFile) (o : Option DeclaredTables) (rank : ℕ) →
    ((t : DeclaredTables) → o ≡ Some t → AreTablesOf files t) →
    function_of_rank path files o rank ≡ slice_get (function_names path files) rank
function_of_ranks path files None rank are = refl
function_of_ranks path files (Some t) rank are = ap (λ fs. slice_get (functions_behind path files 0 fs) rank) (are t refl).functions

function_at_names : (path : List ℕ) (files : List SourceFile) (o : Option NamedPackage) (made : Option DeclaredTables) (rank : ℕ) →
    MatchOption o (files ≡ []) (λ names. AreNamesOf path files names made) →
    function_at o made rank ≡ slice_get (function_names path files) rank
function_at_names path files None made rank e = ap (λ fs. slice_get (function_names path fs) rank) (sym e)
function_at_names path files (Some names) made rank h =
    ap (λ p. function_of_rank p (map file.source_of names.files.now) made rank) h.has_path
    ∙ (ap (λ fs. function_of_rank path fs made rank) h.has_files
    ∙ function_of_ranks path files made rank h.tables)

position_of_ranks : (files : List SourceFile) (o : Option DeclaredTables) (rank : ℕ) → ((t : DeclaredTables) → o ≡ Some t → AreTablesOf files t) →
    position_of_rank files o rank ≡ slice_get (field_positions files) rank
position_of_ranks files None rank are = refl
position_of_ranks files (Some t) rank are = ap (λ xs. slice_get xs rank) (are t refl).positions

position_at_names : (path : List ℕ) (files : List SourceFile) (o : Option NamedPackage) (made : Option DeclaredTables) (rank : ℕ) →
    MatchOption o (files ≡ []) (λ names. AreNamesOf path files names made) →
    position_at o made rank ≡ slice_get (field_positions files) rank
position_at_names path files None made rank e = ap (λ fs. slice_get (field_positions fs) rank) (sym e)
position_at_names path files (Some names) made rank h =
    ap (λ fs. position_of_rank fs made rank) h.has_files ∙ position_of_ranks files made rank h.tables

asked_at_names : (path : List ℕ) (files : List SourceFile) (o : Option NamedPackage) (made : Option DeclaredTables) (rank : ℕ) →
    MatchOption o (files ≡ []) (λ names. AreNamesOf path files names made) →
    asked_of_rank o rank ≡ option_flatten (slice_get (all_asked_names path files) rank)
asked_at_names path files None made rank e = ap (λ fs. option_flatten (slice_get (all_asked_names path fs) rank)) (sym e)
asked_at_names path files (Some names) made rank h =
    ap (λ p. option_flatten (slice_get (all_asked_names p (map file.source_of names.files.now)) rank)) h.has_path
    ∙ ap (λ fs. option_flatten (slice_get (all_asked_names path fs) rank)) h.has_files

pub types_named : (packages : ObjectNames) (files_of : List ℕ → List SourceFile) → HaveNames packages files_of → type_in packages ≡ type_name files_of
types_named packages files_of have = fun_ext (λ (s : Symbol).
    type_at_names s.package (files_of s.package) (package_names_in packages s.package) (tables_in packages s.package) s.rank (have s.package))

-- all of it
pub is_source : (p : Package) (n : ℕ) (f : SourceFile) (w : World) (uses : List MemberUse) (entries : List Entering) (packages : ObjectNames) (s : Source) →
    HasOneWorld p → slice_get p.files n ≡ Some f →
    IsTabledSource p n w uses entries packages s → IsWorldOf p n f (world_of w) → ((token : ℕ) → token_spelling (name_in w token) ≡ spelled p n token) →
    (files_of : List ℕ → List SourceFile) → HaveNames packages files_of → AreUsesIn p n (map use_of uses) → AreEnteringsIn p n (map plain_entering entries) →
    IsSourceOf p files_of n f (source_of s)
is_source p n f w uses entries packages s one at tabled judged spelling files_of have are enter =
    let same : s.world ≡ w = tabled.world in
    let judges : IsWorldOf p n f (world_of s.world) = subst (λ v. IsWorldOf p n f (world_of v)) (sym same) judged in
    record {
      world = judges;
      before = λ token.
          ap (λ us. item_value (λ (u : MemberUse). type_of u.before) us (slot_from 0 s.used.places.items token)) tabled.uses
          ∙ (ap (λ ps. item_value (λ (u : MemberUse). type_of u.before) uses (slot_from 0 ps token)) tabled.used
          ∙ (used_at uses token ∙ ap (λ us. type_before us token) (uses_found p n f (world_of s.world) (map use_of uses) one at judges are)));
      entered = λ token.
          ap (λ es. item_value (λ (e : Entering). type_of e.own) es (slot_from 0 s.entered.places.items token)) tabled.enterings
          ∙ (ap (λ ps. item_value (λ (e : Entering). type_of e.own) entries (slot_from 0 ps token)) tabled.entered
          ∙ (entered_at entries token ∙
          ap (λ es. type_entered es token) (entries_found p n f (world_of s.world) (map plain_entering entries) one at judges enter)));
      asks = λ token.
          ap (λ ps. item_value (λ (a : NamedMethod). function_of a.name) s.asked.items (slot_from 0 ps token)) tabled.asked_at
          ∙ (asks_at s.asked.items token ∙ ap (λ xs. asked_there xs token) tabled.asked);
      global = λ token. (tabled.marks token).global;
      truth = λ token. (tabled.marks token).truth;
      number = λ token. ap literal_number (ap (λ v. token_spelling (name_in v token)) same ∙ (spelling token ∙ ap (λ o. spelled_at o token) at));
      text = λ token. tabled.texts f at token;
      function = λ symbol. ap (λ ps. function_in ps symbol) tabled.packages ∙
          function_at_names symbol.package (files_of symbol.package) (package_names_in packages symbol.package) (tables_in packages symbol.package)
          symbol.rank (have symbol.package);
      position = λ symbol. ap (λ ps. position_in ps symbol) tabled.packages ∙
          position_at_names symbol.package (files_of symbol.package) (package_names_in packages symbol.package) (tables_in packages symbol.package)
          symbol.rank (have symbol.package);
      asked = λ symbol. ap (λ ps. asked_in ps symbol) tabled.packages ∙
          asked_at_names symbol.package (files_of symbol.package) (package_names_in packages symbol.package) (tables_in packages symbol.package)
          symbol.rank (have symbol.package);
    }
