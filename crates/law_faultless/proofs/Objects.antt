-- The code of each function of an object is that of a function of one of the package's files.
use Rattle.std.proofs.Common.{ℕ, suc, ◌≡◌, inl, inr, List, [], ◌∷◌, map, Option, Some, None, refl, sym, subst}
use Rattle.std.specs.Prelude.{Contains, slice_get}
use Rattle.std.specs.List.{AllByRecursion}
use Rattle.base_lemmas.proofs.EachElement.{all_append}
use Rattle.go_ast.specs.SourceFile.{SourceFile}
use Rattle.go_ast.specs.Tree.{Item, TypeSpecTree, FuncTree, DeclTree, VarDecl, TypeDecl, FuncDecl}
use Rattle.types_declared.specs.Files.{group_items}
use Rattle.types_expr.specs.Types.{PlainType}
use Rattle.types_declared.specs.Package.{Package}
use Rattle.types_info.proofs.DeclKinds.{Holds}
use Rattle.law_tokens.proofs.Elements.{all_made}
use Rattle.build_object.specs.Lines.{GlobalName, FunctionName, CodeLine}
use Rattle.build_object.specs.Names.{function_names}
use Rattle.build_object.specs.Objects.{ObjectDefinition, Initial, ObjectDeclaration, TypeOf, Variable}
use Rattle.build_object.specs.Objects.{FunctionOf, Object, type_declarations, declared_type, known_variable, first_initial}
use Rattle.build_object.specs.Objects.{other_initials, variable_declarations, global_variables, function_of}
use Rattle.build_object.specs.Objects.{declared_function, names_behind, declared_by, declared_in}
use Rattle.build_object.specs.Objects.{names_behind_all, declared_from, definition_of}
use Rattle.build_object.specs.Source.{Source}
use Rattle.build_object.specs.Sources.{IsSourceOf, IsObjectOf}
use Rattle.law_faultless.proofs.Lists.{all_held, contained}

module _ (P : List CodeLine → Type 0) where
  abbrev Good : ObjectDeclaration → Type 0
  Good (TypeOf name definition) = Unit {0}
  Good (Variable name own value) = Unit {0}
  Good (FunctionOf f) = P f.code

  abbrev All : List ObjectDeclaration → Type 0
  All ds = AllByRecursion Good ds

  variable_good : (own : Option PlainType) (name : Option GlobalName) (value : Option Initial) → All (known_variable own name value)
  variable_good None name value = tt
  variable_good (Some own) None value = tt
  variable_good (Some own) (Some name) value = (tt, tt)

  variables_good : (s : Source) (own : Option PlainType) (ns : List (Item ℕ)) (values : List (Option Initial)) → All (variable_declarations s own ns values)
  unfolding variable_declarations
  variables_good s own [] values = tt
  variables_good s own (n ∷ ns) values =
      all_append Good (known_variable own (s.global n.value) (first_initial values)) (variable_declarations s own ns (other_initials values))
      (variable_good own (s.global n.value) (first_initial values)) (variables_good s own ns (other_initials values))

  defined_good : (name : Option GlobalName) (definition : Option ObjectDefinition) → All (type_declarations name definition)
  defined_good None definition = tt
  defined_good (Some name) None = tt
  defined_good (Some name) (Some definition) = (tt, tt)

  -- the code of each function of the file is such
  HasGood : Source → List DeclTree → Type 0
  HasGood s ds = (k : ℕ) (g : FuncTree) (c : ℕ) → Holds ds (FuncDecl k g c) → (name : FunctionName) → P (function_of s g name).code

  function_good : (s : Source) (names : List FunctionName) (g : FuncTree) → ((name : FunctionName) → P (function_of s g name).code) →
      All (declared_function s names g)
  function_good s [] g h = tt
  function_good s (name ∷ others) g h = (h name, tt)

  decl_good : (s : Source) (names : List FunctionName) (d : DeclTree) → HasGood s (d ∷ []) → All (declared_by s names d)
  unfolding declared_by HasGood
  decl_good s names (VarDecl p g c) h = all_made Good (global_variables s) (λ x. variables_good s _ x.names _) (group_items g)
  decl_good s names (TypeDecl p g c) h =
      all_made Good (declared_type s) (λ (x : TypeSpecTree). defined_good (s.global x.name) (definition_of s.world s.asks x.body)) (group_items g)
  decl_good s names (FuncDecl p f c) h = function_good s names f (h p f c (inl refl))

  decls_good : (s : Source) (names : List FunctionName) (ds : List DeclTree) → HasGood s ds → All (declared_in s names ds)
  unfolding declared_in HasGood
  decls_good s names [] h = tt
  decls_good s names (d ∷ ds) h =
      all_append Good (declared_by s names d) (declared_in s (names_behind names d) ds)
      (decl_good s names d (λ k g c i. elim i [ inl e ↦ h k g c (inl e) | inr z ↦ absurd z ]))
      (decls_good s (names_behind names d) ds (λ k g c i. h k g c (inr i)))

  files_good : (ss : List Source) (names : List FunctionName) (fs : List SourceFile) →
      ((file : ℕ) (f : SourceFile) (s : Source) → slice_get fs file ≡ Some f → slice_get ss file ≡ Some s → HasGood s f.tree.decls) →
      All (declared_from ss names (map (λ f. f.tree) fs))
  unfolding declared_from
  files_good [] names fs h = tt
  files_good (s ∷ ss) names [] h = tt
  files_good (s ∷ ss) names (f ∷ fs) h =
      all_append Good (declared_in s names f.tree.decls) (declared_from ss (names_behind_all names f.tree.decls) (map (λ x. x.tree) fs))
      (decls_good s names f.tree.decls (h 0 f s refl refl))
      (files_good ss (names_behind_all names f.tree.decls) fs (λ file g t at there. h (suc file) g t at there))

  -- A property of the code of each function of each file is one of each function of the object.
  pub object_good : (p : Package) (files_of : List ℕ → List SourceFile) (o : Object) → IsObjectOf p files_of o →
      ((file : ℕ) (f : SourceFile) → slice_get p.files file ≡ Some f → (s : Source) → IsSourceOf p files_of file f s → (k : ℕ) (g : FuncTree) (c : ℕ) →
      Holds f.tree.decls (FuncDecl k g c) → (name : FunctionName) → P (function_of s g name).code) →
      (d : ObjectDeclaration) → Contains o.declarations d → Good d
  unfolding HasGood
  object_good p files_of o is h d here =
      let all = files_good is.sources (function_names p.path p.files) p.files
      (λ file f s at there k g c i name. h file f at s (is.made_of file f s at there) k g c i name) in
      all_held Good o.declarations d (subst (λ (z : Object). All z.declarations) (sym is.is_object) all) (contained o.declarations d here)
