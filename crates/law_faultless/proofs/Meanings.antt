-- What the declarations and the names of a package mean is decided.
use Rattle.std.proofs.Common.{ℕ, zero, suc, ◌≡◌, ◌⊎◌, inl, inr, true, List, sym, subst, refl, arith}
use Rattle.std.specs.Prelude.{codes, Some, slice_get}
use Rattle.go_ast.specs.SourceFile.{SourceFile}
use Rattle.go_scope.specs.declared.model.Block.{Block}
use Rattle.go_scope.specs.declared.model.Block.TheVariants.{Universe, File, Inner}
use Rattle.go_scope.specs.declared.model.Block.TheVariants.{Package as PackageBlock}
use Rattle.go_scope.specs.declared.model.Purpose.TheVariants as purpose
use Rattle.go_scope.specs.declared.model.Role.{Role}
use Rattle.go_scope.specs.declared.model.Role.TheVariants.{Use, Declaring, LeftName, Implied, NotLexical}
use Rattle.go_scope.specs.Bindings.{block_of, is_implied}
use Rattle.go_scope.specs.FileSites.{universe}
use Rattle.go_scope.specs.Table.{LiesAt, IsFoundAt}
use Rattle.go_scope.specs.WellFormed.{WellFormed}
use Rattle.types_expr.specs.declared.types.Basic.TheVariants as basic
use Rattle.types_expr.specs.declared.types.Builtin.TheVariants as builtin
use Rattle.types_expr.specs.Types.{Signature, Meaning, Broken}
use Rattle.types_expr.specs.World.{Bound}
use Rattle.types_expr.specs.World.{Means as Stands}
use Rattle.types_declared.specs.MeaningOf.{PredeclaredMeans, a_type, a_truth, an_untruth, a_nil, a_function, parameter_types, result_types}
use Rattle.types_declared.specs.MeaningOf.{HasSignature, DeclaresVariable, DeclaresFunction, IsMeaningOf}
use Rattle.types_declared.specs.MeaningOf as bound
use Rattle.types_declared.specs.Package.{Package, Export, PlacedFunction, package_variables, package_functions, package_types, variable_place, function_place}
use Rattle.types_declared.specs.Package.{type_place}
use Rattle.types_declared.specs.Written.{BindsToken, DeclaresType, IsBroken, IsExportAt}
use Rattle.types_declared.proofs.Binding.{one_first}
use Rattle.types_declared.proofs.ByteKeys.{cases_bytes}
use Rattle.types_declared.proofs.Naming.{one_binding}
use Rattle.types_info.proofs.DeclKinds.{Holds}
use Rattle.types_info.specs.MeaningsView.{IsPredeclaredMeaning}
use Rattle.types_info.specs.Worlds.{DenotesExport, IsBoundAt, by_scope, by_package, IsName, is_bound, is_unbound}
use Rattle.types_info.proofs.DeclaredMeanings.{type_named, function_named, true_named, false_named, nil_named, universal_only, no_import_meaning, no_meaning}
use Rattle.law_faultless.specs.Strings.{AreStringsKnown}
use Rattle.law_faultless.proofs.Deciding.{Decided, is_true}
use Rattle.law_faultless.proofs.FilesDecided.{IsGlobal}
use Rattle.law_faultless.proofs.GlobalsDecided.{declared_in}
use Rattle.law_faultless.proofs.TypesDecided.{found, token_bound, rank, ranked, path, export, typed, all_typed}

-- what a predeclared name means

meant_as : (word name : List ℕ) (m : Meaning) → PredeclaredMeans word m → word ≡ name → (k : Meaning) × PredeclaredMeans name k
meant_as word name m is e = (m, subst (λ n. PredeclaredMeans n m) e is)

universe_means : (name : List ℕ) → Holds universe name → (m : Meaning) × PredeclaredMeans name m
universe_means name (inl e) = meant_as _ name _ (a_type basic.Bool) e
universe_means name (inr (inl e)) = meant_as _ name _ (a_type basic.Int) e
universe_means name (inr (inr (inl e))) = meant_as _ name _ (a_type basic.String) e
universe_means name (inr (inr (inr (inl e)))) = meant_as _ name _ a_truth e
universe_means name (inr (inr (inr (inr (inl e))))) = meant_as _ name _ an_untruth e
universe_means name (inr (inr (inr (inr (inr (inl e)))))) = meant_as _ name _ a_nil e
universe_means name (inr (inr (inr (inr (inr (inr (inl e))))))) = meant_as _ name _ (a_function builtin.Append) e
universe_means name (inr (inr (inr (inr (inr (inr (inr (inl e)))))))) = meant_as _ name _ (a_function builtin.Len) e
universe_means name (inr (inr (inr (inr (inr (inr (inr (inr (inl e))))))))) = meant_as _ name _ (a_function builtin.Panic) e
universe_means name (inr (inr (inr (inr (inr (inr (inr (inr (inr (inl e)))))))))) = meant_as _ name _ (a_function builtin.Print) e
universe_means name (inr (inr (inr (inr (inr (inr (inr (inr (inr (inr (inl e))))))))))) = meant_as _ name _ (a_function builtin.Println) e
universe_means name (inr (inr (inr (inr (inr (inr (inr (inr (inr (inr (inr z))))))))))) = absurd z

-- or that a name is none

abbrev Refuted : List ℕ → List ℕ → Type 0
Refuted name word = name ≡ word → ⊥

no_word : (name : List ℕ) → Refuted name (codes "bool") → Refuted name (codes "int") → Refuted name (codes "string") → Refuted name (codes "true") →
    Refuted name (codes "false") →
    Refuted name (codes "nil") → Refuted name (codes "append") → Refuted name (codes "len") → Refuted name (codes "panic") → Refuted name (codes "print") →
    Refuted name (codes "println") → (n : List ℕ) (m : Meaning) → name ≡ n → PredeclaredMeans n m → ⊥
no_word name a b c d e f g h i j k n m is (a_type basic.Bool) = a is
no_word name a b c d e f g h i j k n m is (a_type basic.Int) = b is
no_word name a b c d e f g h i j k n m is (a_type basic.String) = c is
no_word name a b c d e f g h i j k n m is a_truth = d is
no_word name a b c d e f g h i j k n m is an_untruth = e is
no_word name a b c d e f g h i j k n m is a_nil = f is
no_word name a b c d e f g h i j k n m is (a_function builtin.Append) = g is
no_word name a b c d e f g h i j k n m is (a_function builtin.Len) = h is
no_word name a b c d e f g h i j k n m is (a_function builtin.Panic) = i is
no_word name a b c d e f g h i j k n m is (a_function builtin.Print) = j is
no_word name a b c d e f g h i j k n m is (a_function builtin.Println) = k is

pub predeclared_meaning : (name : List ℕ) → ((b : Bound) × IsPredeclaredMeaning name b) ⊎ ((m : Meaning) → PredeclaredMeans name m → ⊥)
predeclared_meaning name = elim (cases_bytes name (codes "bool")) [
  | inl e ↦ inl (_, type_named name basic.Bool e)
  | inr a ↦ elim (cases_bytes name (codes "int")) [
    | inl e ↦ inl (_, type_named name basic.Int e)
    | inr b ↦ elim (cases_bytes name (codes "string")) [
      | inl e ↦ inl (_, type_named name basic.String e)
      | inr c ↦ elim (cases_bytes name (codes "true")) [
        | inl e ↦ inl (_, true_named name e)
        | inr d ↦ elim (cases_bytes name (codes "false")) [
          | inl e ↦ inl (_, false_named name e)
          | inr x ↦ elim (cases_bytes name (codes "nil")) [
            | inl e ↦ inl (_, nil_named name e)
            | inr f ↦ elim (cases_bytes name (codes "append")) [
              | inl e ↦ inl (_, function_named name builtin.Append e)
              | inr g ↦ elim (cases_bytes name (codes "len")) [
                | inl e ↦ inl (_, function_named name builtin.Len e)
                | inr h ↦ elim (cases_bytes name (codes "panic")) [
                  | inl e ↦ inl (_, function_named name builtin.Panic e)
                  | inr i ↦ elim (cases_bytes name (codes "print")) [
                    | inl e ↦ inl (_, function_named name builtin.Print e)
                    | inr j ↦ elim (cases_bytes name (codes "println")) [
                      | inl e ↦ inl (_, function_named name builtin.Println e)
                      | inr k ↦ inr (λ m is. no_word name a b c d x f g h i j k name m refl is)
                    ]
                  ]
                ]
              ]
            ]
          ]
        ]
      ]
    ]
  ]
]

module _ (p : Package) (w : WellFormed p.layout) (strings : AreStringsKnown p) (broken : (rank : ℕ) → Decided (IsBroken p rank)) where
  signature : (f : PlacedFunction) → ((s : Signature) × HasSignature p f s) ⊎ ((s : Signature) → HasSignature p f s → ⊥)
  signature f = elim (all_typed p w strings broken f.file (parameter_types f.function.params)) [
    | inr none ↦ inr (λ s h. none s.parameters h.parameters)
    | inl ps ↦ elim (all_typed p w strings broken f.file (result_types f.function.result)) [
      | inr none ↦ inr (λ s h. none s.results h.results)
      | inl rs ↦ inl (record { parameters = ps.0; results = rs.0 }, record { parameters = ps.1; results = rs.1 })
    ]
  ]

  -- what a declaration means, or that it means nothing

  abbrev AreMeaningsOf : ℕ → Type 0
  AreMeaningsOf d = ((b : Bound) × IsMeaningOf p d b) ⊎ ((b : Bound) → IsMeaningOf p d b → ⊥)

  universal : (d : ℕ) → block_of (p.layout.role d) ≡ Universe → AreMeaningsOf d
  universal d e = elim (is_true (is_implied (p.layout.role d))) [
    | inr other ↦ inr (λ b m. other (universal_only p d b e m).0)
    | inl implied ↦ elim (predeclared_meaning (p.names d)) [
      | inl b ↦ inl (
        b.0,
        subst (IsMeaningOf p d) (sym b.1.at)
            (bound.predeclared {name = p.names d} {m = b.1.meaning} (record { implied = implied; universe = e; named = refl }) b.1.means),
      )
      | inr none ↦ inr (λ b m. let u = (universal_only p d b e m).1 in none u.meaning u.means)
    ]
  ]

  imported : (d file : ℕ) → block_of (p.layout.role d) ≡ File file → AreMeaningsOf d
  imported d file e = elim (path p w strings d) [
    | inl q ↦ inl (_, bound.import_name {path = q.0} q.1)
    | inr none ↦ inr (λ b m. no_import_meaning p d file e none b m)
  ]

  -- no variable, no function and no type is declared there
  abbrev DeclaresNothing : ℕ → Type 0
  DeclaresNothing d =
      ((r : ℕ) → DeclaresVariable p d r → ⊥) × (((r : ℕ) → DeclaresFunction p d r → ⊥) × ((r : ℕ) → DeclaresType p d r → ⊥))

  global_or_none : (d : ℕ) → block_of (p.layout.role d) ≡ PackageBlock → ((b : Bound) × IsMeaningOf p d b) ⊎ DeclaresNothing d
  global_or_none d e = elim (rank p w variable_place (package_variables p) d) [
    | inl r ↦
        let v = r.1.item in
        elim (typed p w strings broken v.file v.type_use) [
          | inl t ↦ inl (_, bound.variable {v = v} (e, (r.0, (r.1, r.1.has_rank))) t.1)
          | inr none ↦ inl (_, bound.broken_variable {v = v} (e, (r.0, (r.1, r.1.has_rank))) none)
        ]
    | inr vs ↦ elim (rank p w function_place (package_functions p) d) [
      | inl r ↦
          let f = r.1.item in
          elim (signature f) [
            | inl s ↦ inl (_, bound.function {f = f} (e, (r.0, (r.1, r.1.has_rank))) s.1)
            | inr none ↦ inl (_, bound.broken_function {f = f} (e, (r.0, (r.1, r.1.has_rank))) none)
          ]
      | inr fs ↦ elim (rank p w type_place (package_types p) d) [
        | inl r ↦ elim (broken r.0) [
          | inl b ↦ inl (_, bound.broken_definition {rank = r.0} e r.1 b)
          | inr fine ↦ inl (_, bound.definition {rank = r.0} e r.1 fine)
        ]
        | inr ts ↦ inr (vs, (fs, ts))
      ]
    ]
  ]

  global : (d : ℕ) → block_of (p.layout.role d) ≡ PackageBlock → AreMeaningsOf d
  global d e = elim (global_or_none d e) [ inl b ↦ inl b | inr none ↦ inr (no_meaning p d e none.0 none.1.0 none.1.1) ]

  -- what a file declares in the package's block means something
  pub global_meant : (d file i : ℕ) (s : SourceFile) → block_of (p.layout.role d) ≡ PackageBlock → slice_get p.files file ≡ Some s →
      LiesAt p.layout (record { file = file; index = i }) d → IsGlobal s.tree.decls i → (b : Bound) × IsMeaningOf p d b
  global_meant d file i s e at stands g = elim (global_or_none d e) [
    | inl b ↦ b
    | inr none ↦ elim (declared_in p file i s at g) [
      | inl v ↦ (let r = ranked p w variable_place (package_variables p) d v.0 v.1.0 v.1.1.0 (subst (λ a. LiesAt p.layout a d) (sym v.1.1.1) stands) in
          absurd (none.0 r.0 r.1))
      | inr other ↦ elim other [
        | inl v ↦ (let r = ranked p w function_place (package_functions p) d v.0 v.1.0 v.1.1.0
            (subst (λ a. LiesAt p.layout a d) (sym v.1.1.1) stands) in absurd (none.1.0 r.0 r.1))
        | inr v ↦ (let r = ranked p w type_place (package_types p) d v.0 v.1.0 v.1.1.0 (subst (λ a. LiesAt p.layout a d) (sym v.1.1.1) stands) in
            absurd (none.1.1 r.0 r.1))
      ]
    ]
  ]

  -- and so does a predeclared name
  pub universal_meant : (d : ℕ) → block_of (p.layout.role d) ≡ Universe → is_implied (p.layout.role d) ≡ true → Holds universe (p.names d) →
      (b : Bound) × IsMeaningOf p d b
  universal_meant d e implied named =
      let m = universe_means (p.names d) named in
      (_, bound.predeclared {name = p.names d} {m = m.0} (record { implied = implied; universe = e; named = refl }) m.1)

  by_block : (d : ℕ) (b : Block) → block_of (p.layout.role d) ≡ b → AreMeaningsOf d
  by_block d Universe e = universal d e
  by_block d (File file) e = imported d file e
  by_block d PackageBlock e = global d e
  by_block d (Inner file from to) e = inl (_, bound.local e)

  pub meant : (d : ℕ) → ((b : Bound) × IsMeaningOf p d b) ⊎ ((b : Bound) → IsMeaningOf p d b → ⊥)
  meant d = by_block d (block_of (p.layout.role d)) refl

  -- what the name at a token is bound to

  abbrev IsScoped : ℕ → ℕ → Type 0
  IsScoped file token = (b : Bound) × ((d : ℕ) × (BindsToken p file token d × IsMeaningOf p d b))

  scoped : (file token : ℕ) → IsScoped file token ⊎ ((b : Bound) (d : ℕ) → BindsToken p file token d → IsMeaningOf p d b → ⊥)
  scoped file token = elim (token_bound p w file token) [
    | inr none ↦ inr (λ b d binds m. none d binds)
    | inl d ↦ elim (meant d.0) [
      | inl b ↦ inl (b.0, (d.0, (d.1, b.1)))
      | inr none ↦ inr (λ b e binds m. none b (subst (λ k. IsMeaningOf p k b) (one_binding p w file token e d.0 binds d.1) m))
    ]
  ]

  is_selected : (r : Role) → Decided (r ≡ NotLexical purpose.Selected)
  is_selected Use = inr (λ e. cc)
  is_selected (Declaring b s) = inr (λ e. cc)
  is_selected (LeftName b s) = inr (λ e. cc)
  is_selected (Implied b s) = inr (λ e. cc)
  is_selected (NotLexical purpose.Selected) = inl refl
  is_selected (NotLexical purpose.Key) = inr (λ e. cc)
  is_selected (NotLexical purpose.PackageClause) = inr (λ e. cc)
  is_selected (NotLexical purpose.Member) = inr (λ e. cc)
  is_selected (NotLexical purpose.ImportPath) = inr (λ e. cc)
  is_selected (NotLexical purpose.UnnamedImport) = inr (λ e. cc)
  is_selected (NotLexical purpose.InitFunction) = inr (λ e. cc)
  is_selected (NotLexical purpose.Blank) = inr (λ e. cc)

  exported : (file token u : ℕ) → IsFoundAt p.layout p.size (record { file = file; index = token }) u → p.layout.role u ≡ NotLexical purpose.Selected →
      ((e : Export) × DenotesExport p file token e) ⊎ ((e : Export) → DenotesExport p file token e → ⊥)
  exported file zero u f role = inr (λ e s. let at : zero ≡ suc (suc s.before) = s.behind_dot in absurd (omega arith))
  exported file (suc zero) u f role = inr (λ e s. let at : suc zero ≡ suc (suc s.before) = s.behind_dot in absurd (omega arith))
  exported file (suc (suc before)) u f role = elim (export p w strings file before (suc (suc before))) [
    | inl e ↦ inl (e.0, record { before = before; behind_dot = refl; identifier = u; found = f; selected = role; exported = e.1 })
    | inr none ↦ inr (λ e s.
        let at : suc (suc before) ≡ suc (suc s.before) = s.behind_dot in
        let same : s.before ≡ before = omega arith in
        none e (subst (λ i. IsExportAt p file i (suc (suc before)) e) same s.exported))
  ]

  selected : (file token : ℕ) → ((e : Export) × DenotesExport p file token e) ⊎ ((e : Export) → DenotesExport p file token e → ⊥)
  selected file token = elim (found p w (record { file = file; index = token })) [
    | inr none ↦ inr (λ e s. none s.identifier s.found)
    | inl u ↦ elim (is_selected (p.layout.role u.0)) [
      | inl role ↦ exported file token u.0 u.1 role
      | inr other ↦ inr (λ e s.
          other (subst (λ k. p.layout.role k ≡ NotLexical purpose.Selected)
          (one_first (LiesAt p.layout (record { file = file; index = token })) p.size s.identifier u.0 s.found u.1) s.selected))
    ]
  ]

  unbound : (file token : ℕ) → ((b : Bound) (d : ℕ) → BindsToken p file token d → IsMeaningOf p d b → ⊥) → ((e : Export) → DenotesExport p file token e → ⊥) →
      (b : Bound) →
      IsBoundAt p file token b → ⊥
  unbound file token scope behind b (by_scope {declaration} binds m) = scope b declaration binds m
  unbound file token scope behind _ (by_package {e} s) = behind e s

  pub name : (file token : ℕ) → (b : Bound) × IsName p file token b
  name file token = elim (scoped file token) [
    | inl b ↦ (b.0, is_bound (by_scope b.1.1.0 b.1.1.1))
    | inr none ↦ elim (selected file token) [
      | inl e ↦ (Stands e.0.meaning, is_bound (by_package e.1))
      | inr other ↦ (Stands Broken, is_unbound (unbound file token none other))
    ]
  ]
