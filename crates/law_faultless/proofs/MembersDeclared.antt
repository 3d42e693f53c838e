-- The names by which fields and methods are declared are those identifiers that are there as members.
use Rattle.std.proofs.Common.{ℕ, ◌≡◌, inl, inr, Bool, true, false, if◌then◌else◌, List, [], ◌∷◌, ◌++◌, Option, Some, None, ap, sym, refl, ◌∙◌}
use Rattle.std.specs.Prelude.{bytes_eq, codes}
use Rattle.std.specs.List.{AllByRecursion, flat_map}
use Rattle.std.proofs.lemmas.Bool.{true≢false}
use Rattle.base_lemmas.proofs.EachElement.{all_append}
use Rattle.go_ast.specs.Tree.{Item, Group, single, several, TypeTree, IdentTree, Named, Underscore, ExprTree, OperandTrees, LinkTrees, ArgumentTrees}
use Rattle.go_ast.specs.Tree.{LiteralTree, ElementTrees, SimpleTree, LocalTree, InitTree, ForTree, StatementTree, BlockTree, StatementTrees, IfTree}
use Rattle.go_ast.specs.Tree.{ElseTree, GlobalTree, FieldTree, MethodTree, BodyTree, Other, Struct, Interface, TypeSpecTree, ReceiverTree, ParamTree}
use Rattle.go_ast.specs.Tree.{ResultTree, no_result, one_result, results, FuncTree, ImportTree, ImportsTree, DeclTree, VarDecl, TypeDecl, FuncDecl, FileTree}
use Rattle.go_ast.specs.Tree as tree
use Rattle.go_scope.specs.declared.model.Block.{Block}
use Rattle.go_scope.specs.declared.model.Block.TheVariants.{Package as PackageBlock}
use Rattle.go_scope.specs.declared.model.Purpose.TheVariants as purpose
use Rattle.go_scope.specs.declared.model.Role.{Role}
use Rattle.go_scope.specs.declared.model.Role.TheVariants.{Use, Declaring, NotLexical}
use Rattle.go_scope.specs.Site.{Site, TokenSpellings, site}
use Rattle.go_scope.specs.ExpressionSites.{sites_if, list_sites, type_sites, key_sites, expr_sites, operand_sites, link_sites, argument_sites}
use Rattle.go_scope.specs.ExpressionSites.{literal_sites, element_sites, exprs_sites}
use Rattle.go_scope.specs.StatementSites.{ident_sites, left_sites, assigned_sites, simple_sites, value_sites, local_sites, separated_sites, group_sites}
use Rattle.go_scope.specs.StatementSites.{init_sites, for_sites, open_of, statement_sites, block_sites, statements_sites, if_sites, else_sites}
use Rattle.go_scope.specs.FileSites.{global_name, member_name, spec_sites, global_sites, field_sites, body_sites, type_spec_sites, receiver_sites}
use Rattle.go_scope.specs.FileSites.{param_sites, result_sites, func_block, func_role, func_sites, import_name, import_purpose, import_sites, imports_sites}
use Rattle.go_scope.specs.FileSites.{method_block, method_sites, decl_sites, file_sites}
use Rattle.types_declared.specs.Files.{group_items}
use Rattle.types_info.proofs.DeclKinds.{Holds}

abbrev is_member : Role → Bool
is_member (NotLexical purpose.Member) = true
is_member r = false

-- no identifier is a member
abbrev NoMember : List Site → Type 0
NoMember xs = AllByRecursion (λ (x : Site). is_member x.role ≡ false) xs

joined : (xs ys : List Site) → NoMember xs → NoMember ys → NoMember (xs ++ ys)
joined xs ys a b = all_append (λ (x : Site). is_member x.role ≡ false) xs ys a b

listed : {X : Type 0} (f : X → List Site) → ((x : X) → NoMember (f x)) → (xs : List (Item X)) → NoMember (list_sites f xs)
listed f h [] = tt
listed f h (x ∷ xs) = joined (f x.value) (list_sites f xs) (h x.value) (listed f h xs)

optional : {X : Type 0} (f : X → List Site) → ((x : X) → NoMember (f x)) → (x : Option X) → NoMember (sites_if f x)
optional f h None = tt
optional f h (Some x) = h x

separated : {X : Type 0} (f : ℕ → X → List Site) → ((n : ℕ) (x : X) → NoMember (f n x)) → (close : ℕ) (xs : List (Item X)) →
    NoMember (separated_sites f close xs)
unfolding separated_sites
separated f h close [] = tt
separated f h close (x ∷ xs) = joined (f _ x.value) (separated_sites f close xs) (h _ x.value) (separated f h close xs)

grouped : {X : Type 0} (f : ℕ → X → List Site) → ((n : ℕ) (x : X) → NoMember (f n x)) → (n : ℕ) (g : Group X) → NoMember (group_sites f n g)
unfolding group_sites
grouped f h n (single x) = h n x
grouped f h n (several o xs c) = separated f h c xs

module _ (s : TokenSpellings) where
  of_type : (t : TypeTree) → NoMember (type_sites s t)
  unfolding type_sites
  of_type (tree.Local n) = (refl, tt)
  of_type (tree.Imported p d n) = (refl, (refl, tt))
  of_type (tree.Pointer p t) = of_type t
  of_type (tree.Slice o c t) = of_type t

  of_key : (k : Option (ℕ × ℕ)) → NoMember (key_sites s k)
  of_key None = tt
  of_key (Some k) = (refl, tt)

  mutual
    unfolding expr_sites operand_sites link_sites argument_sites literal_sites element_sites

    of_expr : (e : ExprTree) → NoMember (expr_sites s e)
    of_expr (tree.Number n) = tt
    of_expr (tree.Text n) = tt
    of_expr (tree.Name n) = (refl, tt)
    of_expr (tree.Blank n) = (refl, tt)
    of_expr (tree.Composite l) = of_literal l
    of_expr (tree.Paren o e c) = of_expr e
    of_expr (tree.Prefix op p e) = of_expr e
    of_expr (tree.Address p l) = of_literal l
    of_expr (tree.Chain e ls) = joined (expr_sites s e) (link_sites s ls) (of_expr e) (of_links ls)
    of_expr (tree.Binary e os) = joined (expr_sites s e) (operand_sites s os) (of_expr e) (of_operands os)

    of_operands : (os : OperandTrees) → NoMember (operand_sites s os)
    of_operands tree.no_operand = tt
    of_operands (tree.operand op p e os) = joined (expr_sites s e) (operand_sites s os) (of_expr e) (of_operands os)

    of_links : (ls : LinkTrees) → NoMember (link_sites s ls)
    of_links tree.no_link = tt
    of_links (tree.selector d n ls) = (refl, of_links ls)
    of_links (tree.index o e c ls) = joined (expr_sites s e) (link_sites s ls) (of_expr e) (of_links ls)
    of_links (tree.call o xs c ls) = joined (argument_sites s xs) (link_sites s ls) (of_arguments xs) (of_links ls)

    of_arguments : (xs : ArgumentTrees) → NoMember (argument_sites s xs)
    of_arguments tree.no_argument = tt
    of_arguments (tree.argument e comma rest) = joined (expr_sites s e) (argument_sites s rest) (of_expr e) (of_arguments rest)

    of_literal : (l : LiteralTree) → NoMember (literal_sites s l)
    of_literal (tree.literal t o es c) = joined (type_sites s t) (element_sites s es) (of_type t) (of_elements es)

    of_elements : (es : ElementTrees) → NoMember (element_sites s es)
    of_elements tree.no_element = tt
    of_elements (tree.element key e comma rest) =
        joined (key_sites s key) (expr_sites s e ++ element_sites s rest) (of_key key)
        (joined (expr_sites s e) (element_sites s rest) (of_expr e) (of_elements rest))

  of_exprs : (es : List (Item ExprTree)) → NoMember (exprs_sites s es)
  of_exprs es = listed (expr_sites s) of_expr es

  of_assigned : (e : ExprTree) → NoMember (assigned_sites s e)
  unfolding expr_sites
  of_assigned (tree.Blank n) = (refl, tt)
  of_assigned (tree.Name n) = (refl, tt)
  of_assigned (tree.Number n) = tt
  of_assigned (tree.Text n) = tt
  of_assigned (tree.Composite l) = of_expr (tree.Composite l)
  of_assigned (tree.Paren o e c) = of_expr (tree.Paren o e c)
  of_assigned (tree.Prefix op p e) = of_expr (tree.Prefix op p e)
  of_assigned (tree.Address p l) = of_expr (tree.Address p l)
  of_assigned (tree.Chain e ls) = of_expr (tree.Chain e ls)
  of_assigned (tree.Binary e os) = of_expr (tree.Binary e os)

  of_left : (b : Block) (q : ℕ) (e : ExprTree) → NoMember (left_sites s b q e)
  unfolding expr_sites
  of_left b q (tree.Blank n) = (refl, tt)
  of_left b q (tree.Name n) = (refl, tt)
  of_left b q (tree.Number n) = tt
  of_left b q (tree.Text n) = tt
  of_left b q (tree.Composite l) = of_expr (tree.Composite l)
  of_left b q (tree.Paren o e c) = of_expr (tree.Paren o e c)
  of_left b q (tree.Prefix op p e) = of_expr (tree.Prefix op p e)
  of_left b q (tree.Address p l) = of_expr (tree.Address p l)
  of_left b q (tree.Chain e ls) = of_expr (tree.Chain e ls)
  of_left b q (tree.Binary e os) = of_expr (tree.Binary e os)

  of_simple : (b : Block) (q : ℕ) (x : SimpleTree) → NoMember (simple_sites s b q x)
  unfolding simple_sites
  of_simple b q (tree.Alone e) = of_expr e
  of_simple b q (tree.Step e op p) = of_expr e
  of_simple b q (tree.Update e op p f) = joined (expr_sites s e) (expr_sites s f) (of_expr e) (of_expr f)
  of_simple b q (tree.Assign es p fs) =
      joined (list_sites (assigned_sites s) es) (exprs_sites s fs) (listed (assigned_sites s) of_assigned es) (of_exprs fs)
  of_simple b q (tree.Define es p fs) =
      joined (list_sites (left_sites s b q) es) (exprs_sites s fs) (listed (left_sites s b q) (of_left b q) es) (of_exprs fs)

  of_ident : (b : Block) (q : ℕ) (i : IdentTree) → NoMember (ident_sites s (Declaring b q) i)
  of_ident b q (Named n) = (refl, tt)
  of_ident b q (Underscore n) = (refl, tt)

  of_local : (b : Block) (q : ℕ) (l : LocalTree) → NoMember (local_sites s b q l)
  unfolding local_sites
  of_local b q l =
      let types = sites_if (type_sites s) l.type_use in
      let values = sites_if (value_sites s) l.values in
      joined (list_sites (ident_sites s (Declaring b q)) l.names) (types ++ values) (listed (ident_sites s (Declaring b q)) (of_ident b q) l.names)
      (joined types values (optional (type_sites s) of_type l.type_use) (optional (value_sites s) (λ v. of_exprs v.1) l.values))

  of_init : (b : Block) (i : InitTree) → NoMember (init_sites s b i)
  unfolding init_sites
  of_init b i = optional (simple_sites s b i.semicolon) (of_simple b i.semicolon) i.simple

  of_for : (b : Block) (o : ℕ) (f : ForTree) → NoMember (for_sites s b o f)
  unfolding for_sites
  of_for b o tree.forever = tt
  of_for b o (tree.while e) = of_expr e
  of_for b o (tree.clauses init first condition second post) =
      let test = sites_if (expr_sites s) condition in
      let last = sites_if (simple_sites s b o) post in
      joined (sites_if (simple_sites s b first) init) (test ++ last) (optional (simple_sites s b first) (of_simple b first) init)
      (joined test last (optional (expr_sites s) of_expr condition) (optional (simple_sites s b o) (of_simple b o) post))

  mutual
    unfolding statement_sites

    of_statement : (b : Block) (q : ℕ) (x : StatementTree) → NoMember (statement_sites s b q x)
    of_statement b q tree.Empty = tt
    of_statement b q (tree.Var p g) = grouped (local_sites s b) (of_local b) q g
    of_statement b q (tree.Simple x) = of_simple b q x
    of_statement b q (tree.Inner x) = of_block x
    of_statement b q (tree.If x) = of_if q x
    of_statement b q (tree.For p f x) = joined (for_sites s _ (open_of x) f) (block_sites s x) (of_for _ (open_of x) f) (of_block x)
    of_statement b q (tree.Break p) = tt
    of_statement b q (tree.Continue p) = tt
    of_statement b q (tree.Return p es) = of_exprs es

    of_block : (x : BlockTree) → NoMember (block_sites s x)
    of_block (tree.block o ss c) = of_statements _ c ss

    of_statements : (b : Block) (close : ℕ) (x : StatementTrees) → NoMember (statements_sites s b close x)
    of_statements b close tree.no_statement = tt
    of_statements b close (tree.statement x p rest) =
        joined (statement_sites s b _ x) (statements_sites s b close rest) (of_statement b _ x) (of_statements b close rest)

    of_if : (q : ℕ) (x : IfTree) → NoMember (if_sites s q x)
    of_if q (tree.if_tree p init e x otherwise) =
        let s3 = block_sites s x ++ else_sites s q otherwise in
        joined (sites_if (init_sites s _) init) (expr_sites s e ++ s3) (optional (init_sites s _) (of_init _) init)
        (joined (expr_sites s e) s3 (of_expr e) (joined (block_sites s x) (else_sites s q otherwise) (of_block x) (of_else q otherwise)))

    of_else : (q : ℕ) (x : ElseTree) → NoMember (else_sites s q x)
    of_else q tree.no_else = tt
    of_else q (tree.else_if p i) = of_if q i
    of_else q (tree.else_block p b) = of_block b

-- a token by which a declaration declares a field or a method

abbrev pub IsFieldIn : BodyTree → ℕ → Type 0
IsFieldIn (Other t) i = ⊥
IsFieldIn (Struct k o fs c) i = (f : Item FieldTree) × (Holds fs f × ((n : Item ℕ) × (Holds f.value.names n × (n.value ≡ i))))
IsFieldIn (Interface k o ms c) i = (m : Item MethodTree) × (Holds ms m × (m.value.name ≡ i))

abbrev pub IsMemberIn : DeclTree → ℕ → Type 0
IsMemberIn (VarDecl k g s) i = ⊥
IsMemberIn (TypeDecl k g s) i = (x : TypeSpecTree) × (Holds (group_items g) x × IsFieldIn x.body i)
IsMemberIn (FuncDecl k f s) i = (r : ReceiverTree) × ((f.receiver ≡ Some r) × (f.name ≡ i))

module _ (M : ℕ → Type 0) (s : TokenSpellings) where
  abbrev Q : Site → Type 0
  Q x = x.role ≡ NotLexical purpose.Member → M x.place.index

  others : (xs : List Site) → NoMember xs → AllByRecursion Q xs
  others [] h = tt
  others (x ∷ xs) h = ((λ e. absurd (true≢false (sym (ap is_member e) ∙ h.0))), others xs h.1)

  names_in : (ns : List (Item ℕ)) → ((n : Item ℕ) → Holds ns n → M n.value) → AllByRecursion Q (list_sites (member_name s) ns)
  names_in [] m = tt
  names_in (n ∷ ns) m = ((λ e. m n (inl refl)), names_in ns (λ k i. m k (inr i)))

  field_in : (f : FieldTree) → ((n : Item ℕ) → Holds f.names n → M n.value) → AllByRecursion Q (field_sites s f)
  unfolding field_sites
  field_in f m = all_append Q (list_sites (member_name s) f.names) (type_sites s f.type_use) (names_in f.names m)
      (others (type_sites s f.type_use) (of_type s f.type_use))

  fields_in : (fs : List (Item FieldTree)) → ((f : Item FieldTree) → Holds fs f → (n : Item ℕ) → Holds f.value.names n → M n.value) →
      AllByRecursion Q (list_sites (field_sites s) fs)
  fields_in [] m = tt
  fields_in (f ∷ fs) m =
      all_append Q (field_sites s f.value) (list_sites (field_sites s) fs) (field_in f.value (m f (inl refl))) (fields_in fs (λ g i. m g (inr i)))

  of_param : (b : Block) (q : ℕ) (x : ParamTree) → NoMember (param_sites s b q x)
  unfolding param_sites
  of_param b q x =
      joined (list_sites (ident_sites s (Declaring b q)) x.names) (type_sites s x.type_use) (listed (ident_sites s (Declaring b q)) (of_ident s b q) x.names)
      (of_type s x.type_use)

  of_result : (r : ResultTree) → NoMember (result_sites s r)
  unfolding result_sites
  of_result no_result = tt
  of_result (one_result t) = of_type s t
  of_result (results o ts c) = listed (type_sites s) (of_type s) ts

  method_in : (x : MethodTree) → M x.name → AllByRecursion Q (method_sites s x)
  unfolding method_sites
  method_in x m =
      let b = method_block s x in
      let params = list_sites (param_sites s b x.rparen) x.params in (
        (λ e. m),
        others (params ++ result_sites s x.result)
            (joined params (result_sites s x.result) (listed (param_sites s b x.rparen) (of_param b x.rparen) x.params) (of_result x.result)),
      )

  methods_in : (ms : List (Item MethodTree)) → ((x : Item MethodTree) → Holds ms x → M x.value.name) → AllByRecursion Q (list_sites (method_sites s) ms)
  methods_in [] m = tt
  methods_in (x ∷ ms) m =
      all_append Q (method_sites s x.value) (list_sites (method_sites s) ms) (method_in x.value (m x (inl refl))) (methods_in ms (λ y i. m y (inr i)))

  body_in : (b : BodyTree) → ((i : ℕ) → IsFieldIn b i → M i) → AllByRecursion Q (body_sites s b)
  unfolding body_sites
  body_in (Other t) m = others (type_sites s t) (of_type s t)
  body_in (Struct k o fs c) m = fields_in fs (λ f i n j. m n.value (f, (i, (n, (j, refl)))))
  body_in (Interface k o ms c) m = methods_in ms (λ x i. m x.value.name (x, (i, refl)))

  spec_in : (x : TypeSpecTree) → ((i : ℕ) → IsFieldIn x.body i → M i) → AllByRecursion Q (type_spec_sites s x)
  unfolding type_spec_sites
  spec_in x m = ((λ e. let z : ⊥ = cc in absurd z), body_in x.body m)

  specs_in : (xs : List (Item TypeSpecTree)) → ((x : TypeSpecTree) → Holds (group_items (several 0 xs 0)) x → (i : ℕ) → IsFieldIn x.body i → M i) →
      AllByRecursion Q (flat_map (λ (x : Item TypeSpecTree). type_spec_sites s x.value) xs)
  specs_in [] m = tt
  specs_in (x ∷ xs) m = all_append Q (type_spec_sites s x.value) _ (spec_in x.value (m x.value (inl refl))) (specs_in xs (λ y i. m y (inr i)))

  group_in : (g : Group TypeSpecTree) → ((x : TypeSpecTree) → Holds (group_items g) x → (i : ℕ) → IsFieldIn x.body i → M i) →
      AllByRecursion Q (spec_sites (type_spec_sites s) g)
  unfolding group_sites separated_sites
  group_in (single x) m = spec_in x (m x (inl refl))
  group_in (several o xs c) m = specs_in xs m

  of_global : (x : GlobalTree) → NoMember (global_sites s x)
  unfolding global_sites
  of_global x =
      joined (list_sites (global_name s) x.names) (type_sites s x.type_use) (listed (global_name s) (λ n. (refl, tt)) x.names) (of_type s x.type_use)

  of_receiver : (b : Block) (q : ℕ) (r : ReceiverTree) → NoMember (receiver_sites s b q r)
  unfolding receiver_sites
  of_receiver b q r = joined (ident_sites s (Declaring b q) r.name) (site s r.type_name Use ∷ []) (of_ident s b q r.name) (refl, tt)

  plain_function : (b : Bool) → (if b then NotLexical purpose.InitFunction else Declaring PackageBlock 0) ≡ NotLexical purpose.Member → ⊥
  plain_function true e = cc
  plain_function false e = cc

  function_name : (o : Option ReceiverTree) (name : List ℕ) (i : ℕ) → ((r : ReceiverTree) → o ≡ Some r → M i) →
      func_role o name ≡ NotLexical purpose.Member → M i
  function_name (Some r) name i m e = m r refl
  function_name None name i m e = absurd (plain_function (bytes_eq name (codes "init")) e)

  function_in : (f : FuncTree) → ((r : ReceiverTree) → f.receiver ≡ Some r → M f.name) → AllByRecursion Q (func_sites s f)
  unfolding func_sites
  function_in f m =
      let b = func_block s f in
      let o = open_of f.body in
      let s2 = list_sites (param_sites s b o) f.params in
      let s3 = result_sites s f.result in
      let s4 = block_sites s f.body in
      all_append Q (sites_if (receiver_sites s b o) f.receiver) (site s f.name (func_role f.receiver (s.spell f.name)) ∷ (s2 ++ (s3 ++ s4)))
      (others (sites_if (receiver_sites s b o) f.receiver) (optional (receiver_sites s b o) (of_receiver b o) f.receiver)) (
        function_name f.receiver (s.spell f.name) f.name m,
        others (s2 ++ (s3 ++ s4))
            (joined s2 (s3 ++ s4) (listed (param_sites s b o) (of_param b o) f.params) (joined s3 s4 (of_result f.result) (of_block s f.body))),
      )

  decl_in : (d : DeclTree) → ((i : ℕ) → IsMemberIn d i → M i) → AllByRecursion Q (decl_sites s d)
  unfolding decl_sites
  decl_in (VarDecl k g c) m = others (spec_sites (global_sites s) g) (grouped (λ n. global_sites s) (λ n. of_global) 0 g)
  decl_in (TypeDecl k g c) m = group_in g (λ x h i f. m i (x, (h, f)))
  decl_in (FuncDecl k f c) m = function_in f (λ r e. m f.name (r, (e, refl)))

  decls_in : (ds : List DeclTree) → ((d : DeclTree) → Holds ds d → (i : ℕ) → IsMemberIn d i → M i) → AllByRecursion Q (flat_map (decl_sites s) ds)
  decls_in [] m = tt
  decls_in (d ∷ ds) m = all_append Q (decl_sites s d) (flat_map (decl_sites s) ds) (decl_in d (m d (inl refl))) (decls_in ds (λ e i. m e (inr i)))

  of_import_name : (n : Option ℕ) → NoMember (import_name s n)
  of_import_name None = tt
  of_import_name (Some n) = (refl, tt)

  of_literal_role : (n : Option ℕ) → is_member (NotLexical (import_purpose n)) ≡ false
  of_literal_role None = refl
  of_literal_role (Some n) = refl

  of_import : (i : ImportTree) → NoMember (import_sites s i)
  unfolding import_sites
  of_import i =
      joined (import_name s i.name) (site s i.path (NotLexical (import_purpose i.name)) ∷ []) (of_import_name i.name) (of_literal_role i.name, tt)

  of_imports : (is : List ImportsTree) → NoMember (flat_map (imports_sites s) is)
  unfolding imports_sites
  of_imports [] = tt
  of_imports (i ∷ is) =
      joined (imports_sites s i) (flat_map (imports_sites s) is) (grouped (λ n. import_sites s) (λ n. of_import) 0 i.imports) (of_imports is)

  pub members_in : (f : FileTree) → ((d : DeclTree) → Holds f.decls d → (i : ℕ) → IsMemberIn d i → M i) → AllByRecursion Q (file_sites s f)
  unfolding file_sites
  members_in f m = (
    (λ e. let z : ⊥ = cc in absurd z),
    all_append Q (flat_map (imports_sites s) f.imports) (flat_map (decl_sites s) f.decls) (others (flat_map (imports_sites s) f.imports) (of_imports f.imports))
        (decls_in f.decls m),
  )
