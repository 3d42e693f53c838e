-- No fault of statements comes where an import gets the name that it declared already.
use Rattle.std.proofs.Common.{ℕ, suc, ◌≡◌, ◌<◌, ◌+◌, inl, inr, Bool, true, false, List, [], ◌∷◌, ◌++◌, Option, Some, None, map, refl, sym, ap, ◌∙◌}
use Rattle.std.proofs.Common.{subst, arith}
use Rattle.std.specs.Prelude.{option_map}
use Rattle.std.specs.List.{enumerate_from, flat_map}
use Rattle.std.proofs.lemmas.List.{map-append}
use Rattle.base_files.specs.declared.fault_kind.FaultKind.TheVariants as kind
use Rattle.go_ast.specs.SourceFile.{SourceFile}
use Rattle.go_ast.specs.Tree.{Item, ExprTree, Number, Text, Name, Blank, Composite, Paren, Prefix, Address, Chain, Binary, SimpleTree, Alone, Step, Update}
use Rattle.go_ast.specs.Tree.{Assign, Define, InitTree, ForTree, forever, while, clauses, StatementTree, Empty, Var, Simple, Inner, If, For, Break}
use Rattle.go_ast.specs.Tree.{Continue, Return, BlockTree, block, StatementTrees, no_statement, statement, IfTree, if_tree, ElseTree, no_else, else_if}
use Rattle.go_ast.specs.Tree.{else_block, DeclTree, VarDecl, TypeDecl, FuncDecl}
use Rattle.go_scope.specs.declared.model.Position.{Position}
use Rattle.go_scope.specs.declared.model.Role.{Role}
use Rattle.go_scope.specs.declared.model.Role.TheVariants.{Use, Declaring, LeftName, Implied, NotLexical}
use Rattle.go_scope.specs.Bindings.{is_implied}
use Rattle.go_scope.specs.Moves.{moved_role}
use Rattle.go_scope.specs.Table.{LiesAt}
use Rattle.law_tokens.proofs.Ordered.{one_stands}
use Rattle.law_rename.specs.Around.{from_on}
use Rattle.law_rename.specs.Gained.{Gain}
use Rattle.law_rename.specs.Renumbered.{block_by, decl_by, else_by, expr_by, exprs_by, for_by, if_by, init_by, simple_by, statement_by, statements_by}
use Rattle.types_declared.specs.declared.fault.Fault.{Fault}
use Rattle.types_declared.specs.Listing.{IsOfSomeItem}
use Rattle.types_declared.specs.Package.{Package, laid_of}
use Rattle.types_resolve.specs.Scoping.{IsScopeFault}
use Rattle.types_resolve.specs.StatementMarks.{DeclaresAt, DeclaresName, Defines, IsFaultOfMark, IsFaultOfMarks, SomeDeclares, StatementMark}
use Rattle.types_resolve.specs.StatementMarks.{Stray, block_marks, decl_marks, else_marks, file_marks, for_marks, if_marks, init_marks, optional_marks}
use Rattle.types_resolve.specs.StatementMarks.{simple_marks, statement_marks, statements_marks, stray}
use Rattle.law_gained_names.specs.NamedPackage.{numbers_of}
use Rattle.law_changed_types.specs.RenumberedPackage.{AreRenumberedFiles}
use Rattle.law_gained_names.specs.GainedName.{IsGainedAt, NoMarkFaultComes}
use Rattle.law_gained_names.proofs.Scopes.{all_counted, counts_there}
use Rattle.law_gained_names.proofs.Unknown.{in_order}

-- marks with other numbers of tokens

module _ (g : ℕ → ℕ) where
  abbrev mark_by : StatementMark → StatementMark
  mark_by (Defines es at) = Defines (exprs_by g es) (g at)
  mark_by (Stray at) = Stray (g at)

  joined : (xs ys us vs : List StatementMark) → us ≡ map mark_by xs → vs ≡ map mark_by ys → us ++ vs ≡ map mark_by (xs ++ ys)
  joined xs ys us vs one two = (λ j. one j ++ two j) ∙ sym (map-append mark_by xs ys)

  simple_moves : (s : SimpleTree) → simple_marks (simple_by g s) ≡ map mark_by (simple_marks s)
  unfolding simple_marks
  simple_moves (Alone e) = refl
  simple_moves (Step e op p) = refl
  simple_moves (Update e op p f) = refl
  simple_moves (Assign es p fs) = refl
  simple_moves (Define es p fs) = refl

  optional_moves : (s : Option SimpleTree) → optional_marks (option_map (simple_by g) s) ≡ map mark_by (optional_marks s)
  optional_moves None = refl
  optional_moves (Some s) = simple_moves s

  for_moves : (f : ForTree) → for_marks (for_by g f) ≡ map mark_by (for_marks f)
  unfolding for_marks
  for_moves forever = refl
  for_moves (while e) = refl
  for_moves (clauses init p condition q post) =
      joined (optional_marks init) (optional_marks post) (optional_marks (option_map (simple_by g) init)) (optional_marks (option_map (simple_by g) post))
      (optional_moves init) (optional_moves post)

  init_moves : (i : Option InitTree) → init_marks (option_map (init_by g) i) ≡ map mark_by (init_marks i)
  init_moves None = refl
  init_moves (Some i) = optional_moves i.simple

  stray_moves : (b : Bool) (p : ℕ) → stray b (g p) ≡ map mark_by (stray b p)
  stray_moves true p = refl
  stray_moves false p = refl

  mutual
    unfolding statement_marks block_marks statements_marks if_marks else_marks statement_by block_by statements_by if_by else_by

    statement_moves : (b : Bool) (s : StatementTree) → statement_marks b (statement_by g s) ≡ map mark_by (statement_marks b s)
    statement_moves b Empty = refl
    statement_moves b (Var p v) = refl
    statement_moves b (Simple s) = simple_moves s
    statement_moves b (Inner x) = block_moves b x
    statement_moves b (If i) = if_moves b i
    statement_moves b (For p f x) =
        joined (for_marks f) (block_marks true x) (for_marks (for_by g f)) (block_marks true (block_by g x)) (for_moves f) (block_moves true x)
    statement_moves b (Break p) = stray_moves b p
    statement_moves b (Continue p) = stray_moves b p
    statement_moves b (Return p es) = refl

    block_moves : (b : Bool) (x : BlockTree) → block_marks b (block_by g x) ≡ map mark_by (block_marks b x)
    block_moves b (block o ss c) = statements_moves b ss

    statements_moves : (b : Bool) (ss : StatementTrees) → statements_marks b (statements_by g ss) ≡ map mark_by (statements_marks b ss)
    statements_moves b no_statement = refl
    statements_moves b (statement s p rest) =
        joined (statement_marks b s) (statements_marks b rest) (statement_marks b (statement_by g s)) (statements_marks b (statements_by g rest))
        (statement_moves b s) (statements_moves b rest)

    if_moves : (b : Bool) (i : IfTree) → if_marks b (if_by g i) ≡ map mark_by (if_marks b i)
    if_moves b (if_tree p init e x rest) =
        joined (init_marks init) (block_marks b x ++ else_marks b rest) (init_marks (option_map (init_by g) init))
        (block_marks b (block_by g x) ++ else_marks b (else_by g rest)) (init_moves init)
        (joined (block_marks b x) (else_marks b rest) (block_marks b (block_by g x)) (else_marks b (else_by g rest)) (block_moves b x) (else_moves b rest))

    else_moves : (b : Bool) (x : ElseTree) → else_marks b (else_by g x) ≡ map mark_by (else_marks b x)
    else_moves b no_else = refl
    else_moves b (else_if p i) = if_moves b i
    else_moves b (else_block p x) = block_moves b x

  decl_moves : (d : DeclTree) → decl_marks (decl_by g d) ≡ map mark_by (decl_marks d)
  unfolding decl_marks
  decl_moves (VarDecl k v s) = refl
  decl_moves (TypeDecl k v s) = refl
  decl_moves (FuncDecl k f s) = block_moves false f.body

  decls_move : (ds : List DeclTree) → flat_map decl_marks (map (decl_by g) ds) ≡ map mark_by (flat_map decl_marks ds)
  decls_move [] = refl
  decls_move (d ∷ ds) =
      joined (decl_marks d) (flat_map decl_marks ds) (decl_marks (decl_by g d)) (flat_map decl_marks (map (decl_by g) ds)) (decl_moves d) (decls_move ds)

implied_stays : (m : ℕ → ℕ → ℕ) (r : Role) → is_implied (moved_role m r) ≡ is_implied r
implied_stays m Use = refl
implied_stays m (NotLexical p) = refl
implied_stays m (Declaring b s) = refl
implied_stays m (LeftName b s) = refl
implied_stays m (Implied b s) = refl

-- their faults

module _ (i : Gain) (at : ℕ) (p q : Package) (h : IsGainedAt i at p q) (fine : (f : Fault) → IsScopeFault (laid_of p) f → ⊥) where
  abbrev t : ℕ → ℕ → ℕ
  t = (numbers_of i at).token

  lies_there : (file n d : ℕ) → LiesAt p.layout (record { file = file; index = n }) d →
      LiesAt q.layout (record { file = file; index = t file n }) (from_on (suc at) d)
  lies_there file n d lies = (
    ap is_implied (h.renumbered.roles d) ∙ implied_stays h.renumbered.ends (p.layout.role d) ∙ lies.0,
    ap (λ (z : Position). z.file) (h.renumbered.places d) ∙ lies.1,
    ap (λ (z : Position). z.index) (h.renumbered.places d) ∙ ap (λ f. t f (p.layout.place d).index) lies.1 ∙ ap (t file) lies.2,
  )

  declares_there : (file n : ℕ) → DeclaresAt (laid_of p) file n → (DeclaresAt (laid_of q) file (t file n) → ⊥) → ⊥
  declares_there file n x none =
      let d = x.identifier in
      let k = from_on (suc at) d in
      let place : Position = record { file = file; index = t file n } in
      let less : k < q.size = h.renumbered.within d x.found.within in
      let lies = lies_there file n d x.found.holds in
      all_counted i at p q h fine d x.found.within x.declares (λ counts.
      none (record {
        identifier = k;
        found = record {
          within = less;
          holds = lies;
          first = λ v before there.
              let same : v ≡ k = one_stands q.layout q.size (in_order q h.renumbered.parsed_too) place v k
              (let z : v < q.size = omega arith in z) less there lies in
              omega arith;
        };
        declares = (counts_there i at p q h d counts).declares;
      }))

  name_declares : (file : ℕ) (x : ExprTree) → DeclaresName (laid_of p) file x → (DeclaresName (laid_of q) file (expr_by (t file) x) → ⊥) → ⊥
  unfolding expr_by
  name_declares file (Name n) x none = declares_there file n x none
  name_declares file (Number n) x none = x
  name_declares file (Text n) x none = x
  name_declares file (Blank n) x none = x
  name_declares file (Composite l) x none = x
  name_declares file (Paren o y c) x none = x
  name_declares file (Prefix op k y) x none = x
  name_declares file (Address k l) x none = x
  name_declares file (Chain y ls) x none = x
  name_declares file (Binary y os) x none = x

  some_declare : (file : ℕ) (es : List (Item ExprTree)) → SomeDeclares (laid_of p) file es →
      (SomeDeclares (laid_of q) file (exprs_by (t file) es) → ⊥) → ⊥
  some_declare file [] x none = x
  some_declare file (y ∷ ys) (inl x) none = name_declares file y.value x (λ z. none (inl z))
  some_declare file (y ∷ ys) (inr x) none = some_declare file ys x (λ z. none (inr z))

  mark_back : (file : ℕ) (m : StatementMark) (f : Fault) → IsFaultOfMark (laid_of q) file (mark_by (t file) m) f →
      (f : Fault) × IsFaultOfMark (laid_of p) file m f
  mark_back file (Defines es n) f x = (record { file = file; token = n; kind = kind.NoNew }, (refl, λ some. some_declare file es some x.1))
  mark_back file (Stray n) f x = (record { file = file; token = n; kind = kind.Loop }, refl)

  marks_back : (file : ℕ) (ms : List StatementMark) (f : Fault) → IsOfSomeItem (IsFaultOfMark (laid_of q) file) (map (mark_by (t file)) ms) f →
      (f : Fault) × IsOfSomeItem (IsFaultOfMark (laid_of p) file) ms f
  marks_back file [] f x = absurd x
  marks_back file (m ∷ ms) f (inl x) = let z = mark_back file m f x in (z.0, inl z.1)
  marks_back file (m ∷ ms) f (inr x) = let z = marks_back file ms f x in (z.0, inr z.1)

  files_back : (k : ℕ) (ps qs : List SourceFile) → AreRenumberedFiles t k ps qs → (f : Fault) →
      IsOfSomeItem (IsFaultOfMarks (laid_of q)) (enumerate_from k qs) f → (f : Fault) × IsOfSomeItem (IsFaultOfMarks (laid_of p)) (enumerate_from k ps) f
  files_back k [] [] same f x = absurd x
  files_back k [] (y ∷ ys) same f x = absurd same
  files_back k (z ∷ zs) [] same f x = absurd x
  files_back k (z ∷ zs) (y ∷ ys) same f (inl x) =
      let moved : file_marks y.tree ≡ map (mark_by (t k)) (file_marks z.tree) = ap (flat_map decl_marks) same.0 ∙ decls_move (t k) z.tree.decls in
      let found = marks_back k (file_marks z.tree) f (subst (λ ms. IsOfSomeItem (IsFaultOfMark (laid_of q) k) ms f) moved x) in
      (found.0, inl found.1)
  files_back k (z ∷ zs) (y ∷ ys) same f (inr x) = let found = files_back (k + 1) zs ys same.1 f x in (found.0, inr found.1)

pub no_mark_fault_comes : NoMarkFaultComes
no_mark_fault_comes i at p q h fine none f x =
    let found = files_back i at p q h fine 0 p.files q.files h.renumbered.files f x in none found.0 found.1
