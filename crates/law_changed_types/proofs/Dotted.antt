-- In packages of parsed files, names of qualified types follow dots.
use Rattle.std.proofs.Common.{ℕ, suc, ◌≡◌, ◌+◌, ◌<◌, inl, inr, List, [], ◌∷◌, ◌++◌, map, ap, sym, ◌∙◌, refl, subst, arith}
use Rattle.std.specs.Prelude.{All, Option, Some, slice_get}
use Rattle.std.specs.List.{flat_map, enumerate_from}
use Rattle.std.proofs.lemmas.List.Elements.{All-nil, All-cons, All-weaker, All-map, recursion_from_All, All-append}
use Rattle.go_ast.specs.declared.syntax.Kind.TheVariants as kind
use Rattle.go_ast.specs.declared.syntax.Token.{Token}
use Rattle.go_ast.specs.Flatten.{sign, tokens_if, name_tokens, ident_tokens, basic_tokens, value_tokens, all_tokens, list_tokens, group_tokens, type_tokens}
use Rattle.go_ast.specs.Flatten.{global_tokens, field_tokens, body_tokens, type_spec_tokens, receiver_tokens, param_tokens, result_tokens, block_tokens}
use Rattle.go_ast.specs.Flatten.{func_tokens, imports_tokens, decl_tokens, flatten, method_tokens}
use Rattle.go_ast.specs.Kinds.{kinds_of}
use Rattle.go_ast.specs.SourceFile.{SourceFile, FileParts, IsSourceFile, source_of}
use Rattle.go_ast.specs.Tree.{Item, TypeTree, Local, Imported, Pointer, Slice, BodyTree, Other, Struct, Interface, FieldTree, ParamTree, ResultTree, no_result}
use Rattle.go_ast.specs.Tree.{one_result, results, FuncTree, GlobalTree, TypeSpecTree, DeclTree, VarDecl, TypeDecl, FuncDecl, FileTree, MethodTree}
use Rattle.go_scanner.specs.CutText.{tokens_in}
use Rattle.go_scope.specs.declared.model.Position.{Position}
use Rattle.go_scope.specs.Named.{with_names}
use Rattle.go_scope.specs.Packages.{ScopedPackage, scoped}
use Rattle.go_scope.specs.SpelledFiles.{spelled_file}
use Rattle.go_scope.specs.Table.{LiesAt, IsFoundAt}
use Rattle.law_tokens.specs.Covered.{IsIdentifierPlace, HasIdentifierAt, AreSourceFiles}
use Rattle.law_tokens.specs.Order.{StandInOrder}
use Rattle.law_tokens.specs.Roles.{FollowsDot, FitsTokens}
use Rattle.law_tokens.proofs.Elements.{all_got}
use Rattle.law_tokens.proofs.HeldBytes.{numbered_files}
use Rattle.law_tokens.proofs.Ordered.{package_ordered, named_ordered, one_stands}
use Rattle.law_tokens.proofs.Places.{place_has_one, named_has_one}
use Rattle.law_tokens.proofs.Roles.{consecutive, of_kind, named_role_told}
use Rattle.types_declared.specs.Files.{RankedSource, group_items}
use Rattle.types_declared.specs.Package.{Package, ExportData, PlacedVariable, PlacedType, PlacedFunction, variables_of, placed_type}
use Rattle.types_declared.specs.Package.{decl_variables, decl_types, decl_functions}
use Rattle.types_declared.specs.Written.{written_types, signature_types}
use Rattle.types_declared.specs.MeaningOf.{parameter_types, result_types}
use Rattle.types_info.specs.PackageOf.{package_in}
use Rattle.law_changed_types.specs.SameBindings.{IsParsedPackage, IsSelectedAt, IsDotted, AreTypesDotted}
use Rattle.law_changed_types.proofs.Parts.{IsPart, itself, back, part_of, inside, of_all, of_list, of_group, all_given, all_alike, identifier_among}
use Rattle.law_changed_types.proofs.Parts.{of_parameters}

-- the type expressions of one declaration, where each part of its tokens that is a type's satisfies D

module _ (D : TypeTree → Type 0) where
  abbrev pub DotsIn : List Token → Type 0
  DotsIn ts = (t : TypeTree) → IsPart (type_tokens t) ts → D t

  -- so it is in what has its tokens among these
  narrowed : (us ts : List Token) → IsPart us ts → DotsIn ts → DotsIn us
  narrowed us ts part dots = λ t h. dots t (part_of (type_tokens t) us ts h part)

  of_global : (g : GlobalTree) → DotsIn (global_tokens g) → D g.type_use
  unfolding global_tokens
  of_global g dots =
      dots g.type_use (inside (type_tokens g.type_use) (list_tokens kind.Comma name_tokens g.names) (type_tokens g.type_use)
      (tokens_if (value_tokens basic_tokens) g.values) (itself (type_tokens g.type_use)))

  of_field : (f : FieldTree) → DotsIn (field_tokens f) → D f.type_use
  unfolding field_tokens
  of_field f dots = dots f.type_use (back (list_tokens kind.Comma name_tokens f.names) (type_tokens f.type_use))

  of_param : (p : ParamTree) → DotsIn (param_tokens p) → D p.type_use
  unfolding param_tokens
  of_param p dots = dots p.type_use (back (list_tokens kind.Comma ident_tokens p.names) (type_tokens p.type_use))

  each_param : (ps : List (Item ParamTree)) → DotsIn (list_tokens kind.Comma param_tokens ps) → All D (map (λ i. i.value.type_use) ps)
  each_param ps dots =
      let whole = list_tokens kind.Comma param_tokens ps in
      All-map D (λ (i : Item ParamTree). i.value.type_use) ps
      (All-weaker (λ i. IsPart (param_tokens i.value) whole) (λ i. D i.value.type_use)
      (λ i part. of_param i.value (narrowed (param_tokens i.value) whole part dots)) ps (of_list kind.Comma param_tokens ps))

  of_params : (ps : List (Item ParamTree)) → DotsIn (list_tokens kind.Comma param_tokens ps) → All D (parameter_types ps)
  of_params ps dots = of_parameters D ps (each_param ps dots)

  of_result : (r : ResultTree) → DotsIn (result_tokens r) → All D (result_types r)
  unfolding result_tokens
  of_result no_result dots = All-nil D
  of_result (one_result t) dots = All-cons D t [] (dots t (itself (type_tokens t))) (All-nil D)
  of_result (results o ts c) dots =
      let types = list_tokens kind.Comma type_tokens ts in
      All-map D (λ (i : Item TypeTree). i.value) ts
      (All-weaker (λ i. IsPart (type_tokens i.value) types) (λ i. D i.value)
      (λ i part. dots i.value (inside (type_tokens i.value) (sign kind.LeftParen o ∷ []) types (sign kind.RightParen c ∷ []) part)) ts
      (of_list kind.Comma type_tokens ts))

  of_method : (m : MethodTree) → DotsIn (method_tokens m) → All D (signature_types m.params m.result)
  unfolding method_tokens
  of_method m dots =
      let params = list_tokens kind.Comma param_tokens m.params in
      let types = result_tokens m.result in
      let before = sign kind.Name m.name ∷ (sign kind.LeftParen m.lparen ∷ []) in
      let after = sign kind.RightParen m.rparen ∷ types in
      let whole = before ++ (params ++ after) in
      All-append D (map (λ (i : Item ParamTree). i.value.type_use) m.params) (result_types m.result)
      (each_param m.params (narrowed params whole (inside params before params after (itself params)) dots))
      (of_result m.result (narrowed types whole
      (part_of types (params ++ after) whole
      (part_of types after (params ++ after) (back (sign kind.RightParen m.rparen ∷ []) types) (back params after)) (back before (params ++ after))) dots))

  of_body : (b : BodyTree) → DotsIn (body_tokens b) → All D (written_types b)
  unfolding body_tokens
  of_body (Other t) dots = All-cons D t [] (dots t (itself (type_tokens t))) (All-nil D)
  of_body (Struct s o fs c) dots =
      let fields = list_tokens kind.Semicolon field_tokens fs in
      let before = sign kind.Struct s ∷ (sign kind.LeftBrace o ∷ []) in
      let after = sign kind.RightBrace c ∷ [] in
      All-map D (λ (i : Item FieldTree). i.value.type_use) fs
      (All-weaker (λ i. IsPart (field_tokens i.value) fields) (λ i. D i.value.type_use)
      (λ i part. of_field i.value (narrowed (field_tokens i.value) (before ++ (fields ++ after)) (inside (field_tokens i.value) before fields after part) dots))
      fs (of_list kind.Semicolon field_tokens fs))
  of_body (Interface w o ms c) dots =
      let methods = list_tokens kind.Semicolon method_tokens ms in
      let before = sign kind.Interface w ∷ (sign kind.LeftBrace o ∷ []) in
      let after = sign kind.RightBrace c ∷ [] in
      all_given D (λ i. IsPart (method_tokens i.value) methods) (λ (i : Item MethodTree). signature_types i.value.params i.value.result)
      (λ i part. of_method i.value (narrowed (method_tokens i.value) (before ++ (methods
      ++ after)) (inside (method_tokens i.value) before methods after part) dots))
      ms (of_list kind.Semicolon method_tokens ms)

  of_spec : (t : TypeSpecTree) → DotsIn (type_spec_tokens t) → All D (written_types t.body)
  unfolding type_spec_tokens
  of_spec t dots = of_body t.body (narrowed (body_tokens t.body) (sign kind.Name t.name ∷ body_tokens t.body)
      (back (sign kind.Name t.name ∷ []) (body_tokens t.body)) dots)

  abbrev before_params : FuncTree → List Token
  before_params f = tokens_if receiver_tokens f.receiver ++ (sign kind.Name f.name ∷ (sign kind.LeftParen f.lparen ∷ []))

  func_params : (f : FuncTree) → DotsIn (func_tokens f) → All D (parameter_types f.params)
  unfolding func_tokens
  func_params f dots =
      let params = list_tokens kind.Comma param_tokens f.params in
      let after = sign kind.RightParen f.rparen ∷ (result_tokens f.result ++ block_tokens f.body) in
      let named = sign kind.Name f.name ∷ (sign kind.LeftParen f.lparen ∷ (params ++ after)) in
      of_params f.params (narrowed params (tokens_if receiver_tokens f.receiver ++ named)
      (part_of params named (tokens_if receiver_tokens f.receiver ++ named)
      (inside params (sign kind.Name f.name ∷ (sign kind.LeftParen f.lparen ∷ [])) params after (itself params))
      (back (tokens_if receiver_tokens f.receiver) named)) dots)

  func_results : (f : FuncTree) → DotsIn (func_tokens f) → All D (result_types f.result)
  unfolding func_tokens
  func_results f dots =
      let params = list_tokens kind.Comma param_tokens f.params in
      let types = result_tokens f.result in
      let after = sign kind.RightParen f.rparen ∷ (types ++ block_tokens f.body) in
      let named = sign kind.Name f.name ∷ (sign kind.LeftParen f.lparen ∷ (params ++ after)) in
      let whole = tokens_if receiver_tokens f.receiver ++ named in
      of_result f.result (narrowed types whole
      (part_of types named whole
      (part_of types after named (inside types (sign kind.RightParen f.rparen ∷ []) types (block_tokens f.body) (itself types))
      (back (sign kind.Name f.name ∷ (sign kind.LeftParen f.lparen ∷ params)) after))
      (back (tokens_if receiver_tokens f.receiver) named)) dots)

-- the declarations of a file of that rank

module _ (D : ℕ → TypeTree → Type 0) (rank : ℕ) where
  abbrev VariableDotted : PlacedVariable → Type 0
  VariableDotted v = D v.file v.type_use

  abbrev DefinitionDotted : PlacedType → Type 0
  DefinitionDotted d = All (D d.file) (written_types d.spec.body)

  abbrev ParametersDotted : PlacedFunction → Type 0
  ParametersDotted f = All (D f.file) (parameter_types f.function.params)

  abbrev ResultsDotted : PlacedFunction → Type 0
  ResultsDotted f = All (D f.file) (result_types f.function.result)

  decl_variables_dotted : (d : DeclTree) → DotsIn (D rank) (decl_tokens d) → All VariableDotted (decl_variables rank d)
  unfolding decl_tokens
  decl_variables_dotted (VarDecl k g s) dots =
      let specs = group_tokens global_tokens g in
      let whole = sign kind.Var k ∷ (specs ++ (sign kind.Semicolon s ∷ [])) in
      all_given VariableDotted (λ x. IsPart (global_tokens x) specs) (variables_of rank)
      (λ x part.
      let is : D rank x.type_use =
      of_global (D rank) x (narrowed (D rank) (global_tokens x) whole
      (inside (global_tokens x) (sign kind.Var k ∷ []) specs (sign kind.Semicolon s ∷ []) part) dots) in
      All-map VariableDotted (λ (i : Item ℕ). record { file = rank; name = i.value; type_use = x.type_use }) x.names
      (all_alike (D rank x.type_use) is x.names))
      (group_items g) (of_group global_tokens g)
  decl_variables_dotted (TypeDecl k g s) dots = All-nil VariableDotted
  decl_variables_dotted (FuncDecl k f s) dots = All-nil VariableDotted

  decl_types_dotted : (d : DeclTree) → DotsIn (D rank) (decl_tokens d) → All DefinitionDotted (decl_types rank d)
  unfolding decl_tokens
  decl_types_dotted (VarDecl k g s) dots = All-nil DefinitionDotted
  decl_types_dotted (TypeDecl k g s) dots =
      let specs = group_tokens type_spec_tokens g in
      let whole = sign kind.TypeWord k ∷ (specs ++ (sign kind.Semicolon s ∷ [])) in
      All-map DefinitionDotted (placed_type rank) (group_items g)
      (All-weaker (λ t. IsPart (type_spec_tokens t) specs) (λ t. All (D rank) (written_types t.body))
      (λ t part. of_spec (D rank) t (narrowed (D rank) (type_spec_tokens t) whole
      (inside (type_spec_tokens t) (sign kind.TypeWord k ∷ []) specs (sign kind.Semicolon s ∷ []) part) dots))
      (group_items g) (of_group type_spec_tokens g))
  decl_types_dotted (FuncDecl k f s) dots = All-nil DefinitionDotted

  of_function : (k : ℕ) (f : FuncTree) (s : ℕ) → DotsIn (D rank) (decl_tokens (FuncDecl k f s)) → DotsIn (D rank) (func_tokens f)
  unfolding decl_tokens
  of_function k f s dots =
      narrowed (D rank) (func_tokens f) (sign kind.Func k ∷ (func_tokens f ++ (sign kind.Semicolon s ∷ [])))
      (inside (func_tokens f) (sign kind.Func k ∷ []) (func_tokens f) (sign kind.Semicolon s ∷ []) (itself (func_tokens f))) dots

  decl_parameters_dotted : (d : DeclTree) → DotsIn (D rank) (decl_tokens d) → All ParametersDotted (decl_functions rank d)
  decl_parameters_dotted (VarDecl k g s) dots = All-nil ParametersDotted
  decl_parameters_dotted (TypeDecl k g s) dots = All-nil ParametersDotted
  decl_parameters_dotted (FuncDecl k f s) dots =
      All-cons ParametersDotted (record { file = rank; function = f }) [] (func_params (D rank) f (of_function k f s dots)) (All-nil ParametersDotted)

  decl_results_dotted : (d : DeclTree) → DotsIn (D rank) (decl_tokens d) → All ResultsDotted (decl_functions rank d)
  decl_results_dotted (VarDecl k g s) dots = All-nil ResultsDotted
  decl_results_dotted (TypeDecl k g s) dots = All-nil ResultsDotted
  decl_results_dotted (FuncDecl k f s) dots =
      All-cons ResultsDotted (record { file = rank; function = f }) [] (func_results (D rank) f (of_function k f s dots)) (All-nil ResultsDotted)

  -- what holds of what each declaration of a file lists
  each_decl : {X : Type 0} (P : X → Type 0) (list : DeclTree → List X) → ((d : DeclTree) → DotsIn (D rank) (decl_tokens d) → All P (list d)) →
      (tree : FileTree) → DotsIn (D rank) (flatten tree) → All P (flat_map list tree.decls)
  unfolding flatten
  each_decl P list each tree dots =
      let imports = all_tokens imports_tokens tree.imports in
      let decls = all_tokens decl_tokens tree.decls in
      let header = sign kind.Package tree.keyword ∷ (sign kind.Name tree.name ∷ (sign kind.Semicolon tree.semicolon ∷ imports)) in
      all_given P (λ d. IsPart (decl_tokens d) decls) list
      (λ d part. each d (narrowed (D rank) (decl_tokens d) (header ++ decls) (part_of (decl_tokens d) decls (header ++ decls) part (back header decls)) dots))
      tree.decls (of_all decl_tokens tree.decls)

-- the files of a package

-- it is one of the files, with its rank
abbrev IsRankedIn : List FileParts → RankedSource → Type 0
IsRankedIn all r = (f : FileParts) × ((slice_get all r.0 ≡ Some f) × (r.1 ≡ source_of f))

ranked_from : (all fs : List FileParts) (n : ℕ) → ((k : ℕ) (f : FileParts) → slice_get fs k ≡ Some f → slice_get all (n + k) ≡ Some f) →
    All (IsRankedIn all) (enumerate_from n (map source_of fs))
ranked_from all [] n at = All-nil (IsRankedIn all)
ranked_from all (f ∷ fs) n at =
    All-cons (IsRankedIn all) (n, source_of f) (enumerate_from (n + 1) (map source_of fs))
    (f, (subst (λ k. slice_get all k ≡ Some f) (let e : n + 0 ≡ n = omega arith in e) (at 0 f refl), refl))
    (ranked_from all fs (n + 1)
    (λ k g is. subst (λ j. slice_get all j ≡ Some g) (let e : n + suc k ≡ n + 1 + k = omega arith in e) (at (suc k) g is)))

are_ranked : (all : List FileParts) → All (IsRankedIn all) (enumerate_from 0 (map source_of all))
are_ranked all = ranked_from all all 0 (λ k f is. subst (λ j. slice_get all j ≡ Some f) (let e : k ≡ 0 + k = omega arith in e) is)

-- each is the source of its text
source_in : (files : List FileParts) → AreSourceFiles files → (k : ℕ) (f : FileParts) → slice_get files k ≡ Some f → IsSourceFile (source_of f)
source_in files sources k f is =
    all_got (λ (g : FileParts). IsSourceFile (source_of g)) files k f (recursion_from_All (λ (g : FileParts). IsSourceFile (source_of g)) files sources) is

module _ (path : List ℕ) (files : List FileParts) (names : ℕ → Option (List ℕ)) (export_data_of : List ℕ → ExportData) (sources : AreSourceFiles files) where
  abbrev table : ScopedPackage
  table = with_names names (scoped files)

  abbrev own : Package
  own = package_in path (map source_of files) table export_data_of

  ordered : StandInOrder own.layout own.size
  ordered = named_ordered names (scoped files) (package_ordered (map spelled_file files) (numbered_files files sources))

  found_first : (at : Position) (u : ℕ) → u < own.size → LiesAt own.layout at u → IsFoundAt own.layout own.size at u
  found_first at u lt stands = record {
    within = lt;
    holds = stands;
    first = λ v less there.
        let within : v < own.size = omega arith in
        let same : v ≡ u = one_stands own.layout own.size ordered at v u within lt there stands in absurd (omega arith);
  }

  -- a name behind a dot is a selector
  selected : (file d n : ℕ) (f : FileParts) → slice_get files file ≡ Some f → n ≡ suc d → IsPart (sign kind.Dot d ∷ (sign kind.Name n ∷ [])) (kinds_of f.cut) →
      IsSelectedAt own file n
  selected file d n f is next part =
      let at : Position = record { file = file; index = n } in
      let token = identifier_among n (kinds_of f.cut) (part.holds kind.Name n (inr (inl (refl, refl)))) in
      let place : IsIdentifierPlace files at = record { file = f; of_rank = is; token = token.0; is_identifier = token.1.0; stands = token.1.1 } in
      let one : HasIdentifierAt own.layout own.size at = (named_has_one names (scoped files) at).0 (place_has_one files sources at place) in
      let stands = one.1.1 in
      let in_file : slice_get files (own.layout.place one.0).file ≡ Some f = ap (slice_get files) stands.1 ∙ is in
      let fits : FitsTokens f.cut (own.layout.place one.0).index (own.layout.role one.0) =
      named_role_told names files sources one.0 one.1.0 stands.0 f in_file in
      let dot = of_kind f.cut kind.Dot d (part.holds kind.Dot d (inl (refl, refl))) in
      let follows : FollowsDot f.cut (own.layout.place one.0).index = (d, (sym next ∙ sym stands.2, dot)) in
      record { identifier = one.0; found = found_first at one.0 one.1.0 stands; selected = fits.selected.1 follows }

  type_dotted : (file : ℕ) (f : FileParts) → slice_get files file ≡ Some f → (t : TypeTree) → IsPart (type_tokens t) (kinds_of f.cut) → IsDotted own file t
  unfolding type_tokens
  type_dotted file f is (Local n) part = tt
  type_dotted file f is (Imported q d n) part =
      let row = part.consecutive 0 (consecutive 0 f.cut.text (tokens_in f.cut)) in
      let first : q ≡ row.0 = row.1.0 in
      let second : d ≡ suc row.0 = row.1.1.0 in
      let third : n ≡ suc (suc row.0) = row.1.1.1.0 in
      let behind = sign kind.Dot d ∷ (sign kind.Name n ∷ []) in (
        omega arith,
        selected file d n f is (omega arith) (part_of behind (sign kind.Name q ∷ behind) (kinds_of f.cut) (back (sign kind.Name q ∷ []) behind) part),
      )
  type_dotted file f is (Pointer s t) part =
      type_dotted file f is t (part_of (type_tokens t) (sign kind.Star s ∷ type_tokens t) (kinds_of f.cut) (back (sign kind.Star s ∷ []) (type_tokens t)) part)
  type_dotted file f is (Slice o c t) part =
      let brackets = sign kind.LeftBracket o ∷ (sign kind.RightBracket c ∷ []) in
      type_dotted file f is t (part_of (type_tokens t) (brackets ++ type_tokens t) (kinds_of f.cut) (back brackets (type_tokens t)) part)

  file_dots : (r : RankedSource) → IsRankedIn files r → DotsIn (IsDotted own r.0) (flatten r.1.tree)
  file_dots r h =
      let f = h.0 in
      let is : IsSourceFile (source_of f) = source_in files sources r.0 f h.1.0 in
      let tokens : flatten r.1.tree ≡ kinds_of f.cut = ap (λ (s : SourceFile). flatten s.tree) h.1.1 ∙ is.is_tree.written in
      λ t part. type_dotted r.0 f h.1.0 t (subst (IsPart (type_tokens t)) tokens part)

  each_file : {X : Type 0} (P : X → Type 0) (list : ℕ → DeclTree → List X) →
      ((rank : ℕ) (d : DeclTree) → DotsIn (IsDotted own rank) (decl_tokens d) → All P (list rank d)) →
      All P (flat_map (λ (r : RankedSource). flat_map (list r.0) r.1.tree.decls) (enumerate_from 0 (map source_of files)))
  each_file P list each =
      all_given P (IsRankedIn files) (λ (r : RankedSource). flat_map (list r.0) r.1.tree.decls)
      (λ r h. each_decl (IsDotted own) r.0 P (list r.0) (each r.0) r.1.tree (file_dots r h)) (enumerate_from 0 (map source_of files)) (are_ranked files)

  own_dotted : AreTypesDotted own
  own_dotted = record {
    variables = each_file (VariableDotted (IsDotted own) 0) decl_variables (decl_variables_dotted (IsDotted own));
    definitions = each_file (DefinitionDotted (IsDotted own) 0) decl_types (decl_types_dotted (IsDotted own));
    parameters = each_file (ParametersDotted (IsDotted own) 0) decl_functions (decl_parameters_dotted (IsDotted own));
    results = each_file (ResultsDotted (IsDotted own) 0) decl_functions (decl_results_dotted (IsDotted own));
  }

pub types_dotted : (p : Package) → IsParsedPackage p → AreTypesDotted p
types_dotted p h =
    let own_files = map source_of h.files in
    let is : p ≡ package_in h.path own_files (with_names h.is_package.is_laid.names (scoped h.files)) h.export_data_of =
    h.is_package.is_package ∙ ap (λ table. package_in h.path own_files table h.export_data_of) h.is_package.is_laid.is_named in
    subst AreTypesDotted (sym is) (own_dotted h.path h.files h.is_package.is_laid.names h.export_data_of h.sources)
