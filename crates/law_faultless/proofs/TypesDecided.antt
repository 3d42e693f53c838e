-- What the Types of a package name is decided.
use Rattle.std.proofs.Common.{ℕ, ◌≡◌, ◌⊎◌, inl, inr, true, List, [], ◌∷◌, length, sym, subst, refl, ◌∙◌}
use Rattle.std.specs.Prelude.{Option, Some, None, slice_get}
use Rattle.std.proofs.lemmas.Option.{none-some, same_Some, slice_get_within}
use Rattle.go_scanner.specs.declared.piece.Class.{Class}
use Rattle.go_scanner.specs.declared.piece.Class.TheVariants as class
use Rattle.go_scanner.specs.CutText.{token_at}
use Rattle.go_scanner.specs.TokenValues.{IsStringClass}
use Rattle.go_ast.specs.SourceFile.{SourceFile}
use Rattle.go_ast.specs.Tree.{TypeTree, Local, Imported, Pointer, Slice}
use Rattle.go_scope.specs.declared.model.Block.TheVariants.{Universe}
use Rattle.go_scope.specs.declared.model.Position.{Position}
use Rattle.go_scope.specs.Bindings.{IsIdentifier, IsImport, IsBoundTo, block_of, is_implied}
use Rattle.go_scope.specs.Table.{LiesAt, IsFoundAt}
use Rattle.go_scope.specs.WellFormed.{WellFormed}
use Rattle.go_scope.proofs.Uniqueness.{same_or_not}
use Rattle.types_declared.specs.Laid.{literal_of}
use Rattle.types_expr.specs.declared.types.Basic.{Basic}
use Rattle.types_expr.specs.declared.types.Basic.TheVariants as basic
use Rattle.types_expr.specs.Types.{PlainType, BasicType, Defined, Meaning, Value, TypeName, Function, BuiltinName, Results, Broken}
use Rattle.types_expr.specs.Types.{Package as PackageName}
use Rattle.types_expr.specs.Types.{Pointer as PointerType, Slice as SliceType}
use Rattle.types_declared.specs.MeaningOf.{AreTypesOf}
use Rattle.types_declared.specs.Package.{Package, Export, IsRanked, package_types, type_place, symbol_in, spelled}
use Rattle.types_declared.specs.Written.{BindsToken, IsPredeclared, DeclaresType, DeclaresImport, IsExportAt, basic_name, DenotesType}
use Rattle.types_declared.specs.Written.{Mentions, by_name, by_pointer, by_slice, IsBroken, IsTypeOf}
use Rattle.types_declared.specs.Written as written
use Rattle.types_declared.proofs.Binding.{one_first}
use Rattle.types_declared.proofs.ByteKeys.{cases_bytes}
use Rattle.types_declared.proofs.Naming.{one_binding, one_import_path, one_export}
use Rattle.types_declared.proofs.Ranking.{one_rank}
use Rattle.law_faultless.specs.Strings.{AreStringsKnown}
use Rattle.law_faultless.proofs.Deciding.{Decided, both, turned, is_true, is_false, first_below}
use Rattle.law_faultless.proofs.Lexical.{same_block, file_block, binding}

pub string_class : (c : Class) → Decided (IsStringClass c)
string_class class.InterpretedString = inl (inl refl)
string_class class.RawString = inl (inr refl)
string_class _ = inr (λ h. elim h [ inl e ↦ cc | inr e ↦ cc ])

type_meaning : (m : Meaning) → ((t : PlainType) × (m ≡ TypeName t)) ⊎ ((t : PlainType) → m ≡ TypeName t → ⊥)
type_meaning (TypeName t) = inl (t, refl)
type_meaning (Value k a) = inr (λ t e. cc)
type_meaning (Function s) = inr (λ t e. cc)
type_meaning (BuiltinName b) = inr (λ t e. cc)
type_meaning PackageName = inr (λ t e. cc)
type_meaning (Results ts) = inr (λ t e. cc)
type_meaning Broken = inr (λ t e. cc)

module _ (p : Package) (w : WellFormed p.layout) where
  stands : (at : Position) (u : ℕ) → Decided (LiesAt p.layout at u)
  stands at u =
      turned (IsIdentifier p.layout u × (((p.layout.place u).file ≡ at.file) × ((p.layout.place u).index ≡ at.index))) (LiesAt p.layout at u)
      (λ h. (h.0, h.1.0, h.1.1)) (λ h. (h.0, (h.1, h.2)))
      (both (IsIdentifier p.layout u) (((p.layout.place u).file ≡ at.file) × ((p.layout.place u).index ≡ at.index)) (is_false (is_implied (p.layout.role u)))
      (both ((p.layout.place u).file ≡ at.file) ((p.layout.place u).index ≡ at.index) (same_or_not (p.layout.place u).file at.file)
      (same_or_not (p.layout.place u).index at.index)))

  -- the identifier at a token, or none
  pub found : (at : Position) → ((u : ℕ) × IsFoundAt p.layout p.size at u) ⊎ ((u : ℕ) → IsFoundAt p.layout p.size at u → ⊥)
  found at = elim (first_below (LiesAt p.layout at) (stands at) p.size) [ inl f ↦ inl f | inr none ↦ inr (λ u f. none u f.within f.holds) ]

  -- the declaration that the scopes bind a token to, or none
  pub token_bound : (file token : ℕ) → ((d : ℕ) × BindsToken p file token d) ⊎ ((d : ℕ) → BindsToken p file token d → ⊥)
  token_bound file token = elim (found (record { file = file; index = token })) [
    | inr none ↦ inr (λ d b. none b.identifier b.found)
    | inl u ↦ elim (binding p.layout p.names w u.0) [
      | inl d ↦ inl (d.0, record { identifier = u.0; found = u.1; bound = d.1 })
      | inr none ↦ inr (λ d b.
          none d (subst (λ v. IsBoundTo p.layout p.names v d)
          (one_first (LiesAt p.layout (record { file = file; index = token })) p.size b.identifier u.0 b.found u.1) b.bound))
    ]
  ]

  -- the rank of what a declaration declares, or none
  module _ {X : Type 0} (place_of : X → Position) (xs : List X) (d : ℕ) where
    Ranks : ℕ → Type 0
    Ranks r = (x : X) × ((slice_get xs r ≡ Some x) × LiesAt p.layout (place_of x) d)

    ranks : (r : ℕ) (o : Option X) → slice_get xs r ≡ o → Decided (Ranks r)
    unfolding Ranks
    ranks r None e = inr (λ h. none-some h.0 (sym e ∙ h.1.0))
    ranks r (Some x) e = elim (stands (place_of x) d) [
      | inl s ↦ inl (x, (e, s))
      | inr n ↦ inr (λ h. n (subst (λ y. LiesAt p.layout (place_of y) d) (same_Some h.0 x (sym h.1.0 ∙ e)) h.1.1))
    ]

    pub rank : ((r : ℕ) × IsRanked place_of xs p.layout d r) ⊎ ((r : ℕ) → IsRanked place_of xs p.layout d r → ⊥)
    unfolding Ranks
    rank = elim (first_below Ranks (λ r. ranks r (slice_get xs r) refl) (length xs)) [
      | inl f ↦ inl (
        f.0,
        record {
          item = f.1.holds.0;
          has_rank = f.1.holds.1.0;
          stands = f.1.holds.1.1;
          first = λ r x lt e s. f.1.first r lt (x, (e, s));
        },
      )
      | inr none ↦ inr (λ r h. none r (slice_get_within xs r h.item h.has_rank) (h.item, (h.has_rank, h.stands)))
    ]

    -- where one is declared there, it has a rank
    pub ranked : (r : ℕ) (x : X) → slice_get xs r ≡ Some x → LiesAt p.layout (place_of x) d → (k : ℕ) × IsRanked place_of xs p.layout d k
    unfolding Ranks
    ranked r x e s = elim (first_below Ranks (λ k. ranks k (slice_get xs k) refl) (length xs)) [
      | inl f ↦ (
        f.0,
        record {
          item = f.1.holds.0;
          has_rank = f.1.holds.1.0;
          stands = f.1.holds.1.1;
          first = λ k y lt q i. f.1.first k lt (y, (q, i));
        },
      )
      | inr none ↦ absurd (none r (slice_get_within xs r x e) (x, (e, s)))
    ]

  module _ (strings : AreStringsKnown p) where
    -- the path of an import, or none
    path_in : (d : ℕ) → IsImport p.layout d → (o : Option SourceFile) → slice_get p.files (p.layout.place d).file ≡ o →
        ((q : List ℕ) × DeclaresImport p d q) ⊎ ((q : List ℕ) → DeclaresImport p d q → ⊥)
    path_in d is None e = inr (λ q h. none-some h.of_path.source (sym e ∙ h.of_path.is_file))
    path_in d is (Some s) e =
        let token = (p.layout.place (literal_of p.layout d)).index in
        elim (string_class (token_at s.cut token).class) [
          | inl string ↦ (let v = strings (p.layout.place d).file s e token string in
              inl (
                v.0,
                record {
                  is_import = is;
                  of_path = record { source = s; is_file = e; has_literal = record { is_string = string; stands_for = v.1 } };
                },
              ))
          | inr n ↦ inr (λ q h.
              let same : h.of_path.source ≡ s = same_Some h.of_path.source s (sym h.of_path.is_file ∙ e) in
              n (subst (λ (x : SourceFile). IsStringClass (token_at x.cut token).class) same h.of_path.has_literal.is_string))
        ]

    pub path : (d : ℕ) → ((q : List ℕ) × DeclaresImport p d q) ⊎ ((q : List ℕ) → DeclaresImport p d q → ⊥)
    path d = elim (file_block (block_of (p.layout.role d))) [
      | inl is ↦ path_in d is (slice_get p.files (p.layout.place d).file) refl
      | inr n ↦ inr (λ q h. n h.is_import)
    ]

    -- what a package exports as a name behind its own, or nothing
    export_in : (file before name d : ℕ) → BindsToken p file before d → (q : List ℕ) → DeclaresImport p d q → (o : Option Export) →
        (p.export_data_of q).exported (spelled p file name) ≡ o → ((e : Export) × IsExportAt p file before name e) ⊎
        ((e : Export) → IsExportAt p file before name e → ⊥)
    export_in file before name d b q i (Some e) is = inl (e, record { import = d; binds = b; of_import = record { path = q; imports = i; exported = is } })
    export_in file before name d b q i None is = inr (λ e h.
        let same : h.import ≡ d = one_binding p w file before h.import d h.binds b in
        let of_d : DeclaresImport p d h.of_import.path = subst (λ k. DeclaresImport p k h.of_import.path) same h.of_import.imports in
        let one : h.of_import.path ≡ q = one_import_path p d h.of_import.path q of_d i in
        none-some e (sym is ∙ subst (λ r. (p.export_data_of r).exported (spelled p file name) ≡ Some e) one h.of_import.exported))

    pub export : (file before name : ℕ) → ((e : Export) × IsExportAt p file before name e) ⊎ ((e : Export) → IsExportAt p file before name e → ⊥)
    export file before name = elim (token_bound file before) [
      | inr none ↦ inr (λ e h. none h.import h.binds)
      | inl d ↦ elim (path d.0) [
        | inl q ↦ export_in file before name d.0 d.1 q.0 q.1 ((p.export_data_of q.0).exported (spelled p file name)) refl
        | inr none ↦ inr (λ e h.
            none h.of_import.path (subst (λ k. DeclaresImport p k h.of_import.path) (one_binding p w file before h.import d.0 h.binds d.1) h.of_import.imports))
      ]
    ]

    -- the basic type of a predeclared name, or none

    predeclared : (d : ℕ) (name : List ℕ) → Decided (IsPredeclared p d name)
    predeclared d name =
        turned ((is_implied (p.layout.role d) ≡ true) × ((block_of (p.layout.role d) ≡ Universe) × (p.names d ≡ name))) (IsPredeclared p d name)
        (λ h. record { implied = h.0; universe = h.1.0; named = h.1.1 }) (λ h. (h.implied, (h.universe, h.named)))
        (both (is_implied (p.layout.role d) ≡ true) ((block_of (p.layout.role d) ≡ Universe) × (p.names d ≡ name)) (is_true (is_implied (p.layout.role d)))
        (both (block_of (p.layout.role d) ≡ Universe) (p.names d ≡ name) (same_block (block_of (p.layout.role d)) Universe) (cases_bytes (p.names d) name)))

    basic_type : (d : ℕ) → ((b : Basic) × IsPredeclared p d (basic_name b)) ⊎ ((b : Basic) → IsPredeclared p d (basic_name b) → ⊥)
    basic_type d = elim (predeclared d (basic_name basic.Bool)) [
      | inl h ↦ inl (basic.Bool, h)
      | inr x ↦ elim (predeclared d (basic_name basic.Int)) [
        | inl h ↦ inl (basic.Int, h)
        | inr y ↦ elim (predeclared d (basic_name basic.String)) [
          | inl h ↦ inl (basic.String, h)
          | inr z ↦ inr (λ b h. none x y z b h)
        ]
      ]
    ]
      where
        none : (IsPredeclared p d (basic_name basic.Bool) → ⊥) → (IsPredeclared p d (basic_name basic.Int) → ⊥) →
            (IsPredeclared p d (basic_name basic.String) → ⊥) →
            (b : Basic) → IsPredeclared p d (basic_name b) → ⊥
        none x y z basic.Bool h = x h
        none x y z basic.Int h = y h
        none x y z basic.String h = z h

    -- the type that a Type names, or none

    no_local : (file n d : ℕ) → BindsToken p file n d → ((b : Basic) → IsPredeclared p d (basic_name b) → ⊥) → ((r : ℕ) → DeclaresType p d r → ⊥) →
        (t : PlainType) →
        DenotesType p file (Local n) t → ⊥
    no_local file n d is x y _ (written.predeclared {d = e} b binds h) = x b
        (subst (λ k. IsPredeclared p k (basic_name b)) (one_binding p w file n e d binds is) h)
    no_local file n d is x y _ (written.defined {d = e} {rank = r} binds h) = y r (subst (λ k. DeclaresType p k r) (one_binding p w file n e d binds is) h)

    unbound_local : (file n : ℕ) → ((d : ℕ) → BindsToken p file n d → ⊥) → (t : PlainType) → DenotesType p file (Local n) t → ⊥
    unbound_local file n none _ (written.predeclared {d = e} b binds h) = none e binds
    unbound_local file n none _ (written.defined {d = e} binds h) = none e binds

    no_imported : (file q d n : ℕ) → ((e : Export) → IsExportAt p file q n e → (t : PlainType) → e.meaning ≡ TypeName t → ⊥) → (t : PlainType) →
        DenotesType p file (Imported q d n) t → ⊥
    no_imported file q d n none t (written.imported h) = none h.export h.exported t h.is_type

    no_pointer : (file s : ℕ) (x : TypeTree) → ((t : PlainType) → DenotesType p file x t → ⊥) → (t : PlainType) → DenotesType p file (Pointer s x) t → ⊥
    no_pointer file s x none _ (written.pointer {t} h) = none t h

    no_slice : (file o c : ℕ) (x : TypeTree) → ((t : PlainType) → DenotesType p file x t → ⊥) → (t : PlainType) → DenotesType p file (Slice o c x) t → ⊥
    no_slice file o c x none _ (written.slice {t} h) = none t h

    pub named : (file : ℕ) (x : TypeTree) → ((t : PlainType) × DenotesType p file x t) ⊎ ((t : PlainType) → DenotesType p file x t → ⊥)
    named file (Local n) = elim (token_bound file n) [
      | inr none ↦ inr (unbound_local file n none)
      | inl d ↦ elim (basic_type d.0) [
        | inl b ↦ inl (BasicType b.0, written.predeclared b.0 d.1 b.1)
        | inr x ↦ elim (rank type_place (package_types p) d.0) [
          | inl r ↦ inl (Defined (symbol_in p r.0), written.defined d.1 r.1)
          | inr y ↦ inr (no_local file n d.0 d.1 x y)
        ]
      ]
    ]
    named file (Imported q d n) = elim (export file q n) [
      | inr none ↦ inr (no_imported file q d n (λ e h t is. none e h))
      | inl e ↦ elim (type_meaning e.0.meaning) [
        | inl t ↦ inl (t.0, written.imported (record { export = e.0; exported = e.1; is_type = t.1 }))
        | inr none ↦ inr (no_imported file q d n (λ f h t is. none t (subst (λ (g : Export). g.meaning ≡ TypeName t) (one_export p w file q n f e.0 h e.1) is)))
      ]
    ]
    named file (Pointer s x) = elim (named file x) [ inl t ↦ inl (PointerType t.0, written.pointer t.1) | inr none ↦ inr (no_pointer file s x none) ]
    named file (Slice o c x) = elim (named file x) [ inl t ↦ inl (SliceType t.0, written.slice t.1) | inr none ↦ inr (no_slice file o c x none) ]

    module _ (broken : (rank : ℕ) → Decided (IsBroken p rank)) where
      -- whether a Type mentions a broken definition

      abbrev MentionsBroken : ℕ → TypeTree → Type 0
      MentionsBroken file x = (r : ℕ) × (Mentions p file x r × IsBroken p r)

      local_mention : (file n d : ℕ) → BindsToken p file n d → ((r : ℕ) → DeclaresType p d r → IsBroken p r → ⊥) → (r : ℕ) →
          Mentions p file (Local n) r → IsBroken p r → ⊥
      local_mention file n d is none r (by_name {d = e} binds h) b = none r (subst (λ k. DeclaresType p k r) (one_binding p w file n e d binds is) h) b

      no_mention : (file n : ℕ) → ((d : ℕ) → BindsToken p file n d → ⊥) → (r : ℕ) → Mentions p file (Local n) r → ⊥
      no_mention file n none r (by_name {d = e} binds h) = none e binds

      imported_mention : (file q d n r : ℕ) → Mentions p file (Imported q d n) r → ⊥
      imported_mention file q d n r h = elim h [ ]

      target : (file s : ℕ) (x : TypeTree) (r : ℕ) → Mentions p file (Pointer s x) r → Mentions p file x r
      target file s x r (by_pointer h) = h

      element : (file o c : ℕ) (x : TypeTree) (r : ℕ) → Mentions p file (Slice o c x) r → Mentions p file x r
      element file o c x r (by_slice h) = h

      broken_mention : (file : ℕ) (x : TypeTree) → Decided (MentionsBroken file x)
      broken_mention file (Local n) = elim (token_bound file n) [
        | inr none ↦ inr (λ h. no_mention file n none h.0 h.1.0)
        | inl d ↦ elim (rank type_place (package_types p) d.0) [
          | inr none ↦ inr (λ h. local_mention file n d.0 d.1 (λ r is b. none r is) h.0 h.1.0 h.1.1)
          | inl r ↦ elim (broken r.0) [
            | inl b ↦ inl (r.0, (by_name d.1 r.1, b))
            | inr fine ↦ inr (λ h.
                local_mention file n d.0 d.1
                (λ k is b. fine (subst (IsBroken p) (one_rank type_place (package_types p) p.layout d.0 k r.0 is r.1) b)) h.0 h.1.0 h.1.1)
          ]
        ]
      ]
      broken_mention file (Imported q d n) = inr (λ h. imported_mention file q d n h.0 h.1.0)
      broken_mention file (Pointer s x) = elim (broken_mention file x) [
        | inl h ↦ inl (h.0, (by_pointer h.1.0, h.1.1))
        | inr none ↦ inr (λ h. none (h.0, (target file s x h.0 h.1.0, h.1.1)))
      ]
      broken_mention file (Slice o c x) = elim (broken_mention file x) [
        | inl h ↦ inl (h.0, (by_slice h.1.0, h.1.1))
        | inr none ↦ inr (λ h. none (h.0, (element file o c x h.0 h.1.0, h.1.1)))
      ]

      -- the type of a Type that is not broken, or none
      pub typed : (file : ℕ) (x : TypeTree) → ((t : PlainType) × IsTypeOf p file x t) ⊎ ((t : PlainType) → IsTypeOf p file x t → ⊥)
      typed file x = elim (named file x) [
        | inr none ↦ inr (λ t h. none t h.names)
        | inl t ↦ elim (broken_mention file x) [
          | inl b ↦ inr (λ s h. h.whole b.0 b.1.0 b.1.1)
          | inr none ↦ inl (t.0, record { names = t.1; whole = λ r m b. none (r, (m, b)) })
        ]
      ]

      pub all_typed : (file : ℕ) (xs : List TypeTree) →
          ((ts : List PlainType) × AreTypesOf p file xs ts) ⊎ ((ts : List PlainType) → AreTypesOf p file xs ts → ⊥)
      all_typed file [] = inl ([], tt)
      all_typed file (x ∷ xs) = elim (typed file x) [
        | inr none ↦ inr (λ ts h. first none ts h)
        | inl t ↦ elim (all_typed file xs) [ inl ts ↦ inl (t.0 ∷ ts.0, (t.1, ts.1)) | inr none ↦ inr (λ ts h. rest none ts h) ]
      ]
        where
          first : ((t : PlainType) → IsTypeOf p file x t → ⊥) → (ts : List PlainType) → AreTypesOf p file (x ∷ xs) ts → ⊥
          first none [] h = h
          first none (t ∷ ts) h = none t h.0

          rest : ((ts : List PlainType) → AreTypesOf p file xs ts → ⊥) → (ts : List PlainType) → AreTypesOf p file (x ∷ xs) ts → ⊥
          rest none [] h = h
          rest none (t ∷ ts) h = none ts h.1
