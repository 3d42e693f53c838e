-- Written types and broken definitions of packages whose tokens correspond.
use Rattle.std.proofs.Common.{ℕ, ◌≡◌, List, [], ◌∷◌, sym, ◌∙◌, subst, ⊎_elim}
use Rattle.std.specs.Prelude.{Contains}
use Rattle.base_lemmas.proofs.Elements.{nothing_in, first_in, later_in, first_or_later}
use Rattle.go_ast.specs.Tree.{TypeTree, Local, Imported, Pointer, Slice, BodyTree, Other}
use Rattle.go_ast.specs.Tree as tree
use Rattle.types_expr.specs.declared.symbol.Symbol.{Symbol}
use Rattle.types_expr.specs.Types.{PlainType, Defined}
use Rattle.types_declared.specs.Package.{Package, package_types, type_place, spelled}
use Rattle.types_declared.specs.Written.{DeclaresType, NamesExport, DenotesType, predeclared, defined, imported, pointer, slice, basic_name, written_types}
use Rattle.types_declared.specs.Written.{Mentions, by_name, by_pointer, by_slice, IsWrittenIn, IsBroken, by_itself, through, IsTypeOf, contained_types}
use Rattle.types_declared.specs.MeaningOf.{AreTypesOf, parameter_types, result_types}
use Rattle.law_changed_types.proofs.RenumberedTypesAlike.{Half, SameTree, SameTrees, SameBody, SameType, Turned, TurnedIdentifiers, symbols, binds}
use Rattle.law_changed_types.proofs.RenumberedTypesAlike.{is_predeclared, export, ranked, SameForm}
use Rattle.types_declared.specs.Definitions.{WrittenForm, OfType, OfSignature}

-- type expressions turned round
pub turned_tree : (T : ℕ → ℕ → ℕ → Type 0) (p q : Package) (file : ℕ) (t x : TypeTree) → SameTree T p q file t x → SameTree (Turned T) q p file x t
turned_tree T p q file (Local n) (Local m) s = s
turned_tree T p q file (Imported u d n) (Imported v e m) s = (s.0, sym s.1)
turned_tree T p q file (Pointer s t) (Pointer r x) h = turned_tree T p q file t x h
turned_tree T p q file (Slice o c t) (Slice r k x) h = turned_tree T p q file t x h
turned_tree T p q file (Local n) (Imported v e m) h = absurd h
turned_tree T p q file (Local n) (Pointer r x) h = absurd h
turned_tree T p q file (Local n) (Slice r k x) h = absurd h
turned_tree T p q file (Imported u d n) (Local m) h = absurd h
turned_tree T p q file (Imported u d n) (Pointer r x) h = absurd h
turned_tree T p q file (Imported u d n) (Slice r k x) h = absurd h
turned_tree T p q file (Pointer s t) (Local m) h = absurd h
turned_tree T p q file (Pointer s t) (Imported v e m) h = absurd h
turned_tree T p q file (Pointer s t) (Slice r k x) h = absurd h
turned_tree T p q file (Slice o c t) (Local m) h = absurd h
turned_tree T p q file (Slice o c t) (Imported v e m) h = absurd h
turned_tree T p q file (Slice o c t) (Pointer r x) h = absurd h

-- lists of type expressions turned round
pub turned_trees : (T : ℕ → ℕ → ℕ → Type 0) (p q : Package) (file : ℕ) (ts xs : List TypeTree) → SameTrees T p q file ts xs →
    SameTrees (Turned T) q p file xs ts
turned_trees T p q file [] [] s = tt
turned_trees T p q file [] (x ∷ xs) s = absurd s
turned_trees T p q file (t ∷ ts) [] s = absurd s
turned_trees T p q file (t ∷ ts) (x ∷ xs) s = (turned_tree T p q file t x s.0, turned_trees T p q file ts xs s.1)

pub turned_form : (T : ℕ → ℕ → ℕ → Type 0) (p q : Package) (file : ℕ) (f g : WrittenForm) → SameForm T p q file f g → SameForm (Turned T) q p file g f
turned_form T p q file (OfType t) (OfType x) h = turned_tree T p q file t x h
turned_form T p q file (OfSignature ps r) (OfSignature qs s) h = (
  turned_trees T p q file (parameter_types ps) (parameter_types qs) h.0,
  turned_trees T p q file (result_types r) (result_types s) h.1,
)
turned_form T p q file (OfType t) (OfSignature qs s) h = absurd h
turned_form T p q file (OfSignature ps r) (OfType x) h = absurd h

-- a type expression in the first list has its counterpart in the second one
pub counterpart : (T : ℕ → ℕ → ℕ → Type 0) (p q : Package) (file : ℕ) (ts xs : List TypeTree) (t : TypeTree) → SameTrees T p q file ts xs → Contains ts t →
    (x : TypeTree) × (Contains xs x × SameTree T p q file t x)
counterpart T p q file [] [] t h c = absurd (nothing_in t c)
counterpart T p q file [] (x ∷ xs) t h c = absurd h
counterpart T p q file (y ∷ ts) [] t h c = absurd h
counterpart T p q file (y ∷ ts) (x ∷ xs) t h c =
    let Found : Type 0 = (z : TypeTree) × (Contains (x ∷ xs) z × SameTree T p q file t z) in
    let here : y ≡ t → Found = λ e. (x, (first_in x xs, subst (λ z. SameTree T p q file z x) e h.0)) in
    let there : Contains ts t → Found = λ k.
    let z = counterpart T p q file ts xs t h.1 k in
    (z.0, (later_in x xs z.0 z.1.0, z.1.1)) in
    ⊎_elim here there (first_or_later y ts t c)

-- the type expressions of corresponding definitions
pub same_written : (T : ℕ → ℕ → ℕ → Type 0) (p q : Package) (file : ℕ) (b c : BodyTree) → SameBody T p q file b c →
    SameTrees T p q file (written_types b) (written_types c)
same_written T p q file (Other t) (Other x) h = (h, tt)
same_written T p q file (tree.Struct k o fs c) (tree.Struct i j gs e) h = h
same_written T p q file (Other t) (tree.Struct i j gs e) h = absurd h
same_written T p q file (tree.Struct k o fs c) (Other x) h = absurd h
same_written T p q file (tree.Interface k o ms c) (tree.Interface i j ns e) h = h
same_written T p q file (Other t) (tree.Interface i j ns e) h = absurd h
same_written T p q file (tree.Struct k o fs c) (tree.Interface i j ns e) h = absurd h
same_written T p q file (tree.Interface k o ms c) (Other x) h = absurd h
same_written T p q file (tree.Interface k o ms c) (tree.Struct i j gs e) h = absurd h

pub same_contained : (T : ℕ → ℕ → ℕ → Type 0) (p q : Package) (file : ℕ) (b c : BodyTree) → SameBody T p q file b c →
    SameTrees T p q file (contained_types b) (contained_types c)
same_contained T p q file (Other t) (Other x) h = (h, tt)
same_contained T p q file (tree.Struct k o fs c) (tree.Struct i j gs e) h = h
same_contained T p q file (Other t) (tree.Struct i j gs e) h = absurd h
same_contained T p q file (tree.Struct k o fs c) (Other x) h = absurd h
same_contained T p q file (tree.Interface k o ms c) (tree.Interface i j ns e) h = tt
same_contained T p q file (Other t) (tree.Interface i j ns e) h = absurd h
same_contained T p q file (tree.Struct k o fs c) (tree.Interface i j ns e) h = absurd h
same_contained T p q file (tree.Interface k o ms c) (Other x) h = absurd h
same_contained T p q file (tree.Interface k o ms c) (tree.Struct i j gs e) h = absurd h

module _ (T : ℕ → ℕ → ℕ → Type 0) (I : ℕ → ℕ → Type 0) (p q : Package) (h : Half T I p q) (k : Half (Turned T) (TurnedIdentifiers I) q p) where
  pub declares_type : (d e rank : ℕ) → I d e → DeclaresType p d rank → DeclaresType q e rank
  declares_type d e rank i is =
      ranked T I p q h k type_place (SameType T p q) (SameType (Turned T) q p) (package_types p) (package_types q) h.types k.types
      (λ x y s. s.place) (λ x y s. s.place) d e rank i is

  -- written types

  names_export : (file u v n m : ℕ) (t : PlainType) → T file u v → spelled q file m ≡ spelled p file n → NamesExport p file u n t → NamesExport q file v m t
  names_export file u v n m t at same is =
      record { export = is.export; exported = export T I p q h file u v n m is.export at same is.exported; is_type = is.is_type }

  pub denotes : (file : ℕ) (tree : TypeTree) (t : PlainType) → DenotesType p file tree t → (x : TypeTree) → SameTree T p q file tree x → DenotesType q file x t
  denotes file _ _ (predeclared {n = n} {d = d} b bound is) (Local m) s =
      let e = binds T I p q h file n m d s bound in
      predeclared {n = m} {d = e.0} b e.1.1 (is_predeclared T I p q h d e.0 (basic_name b) e.1.0 is)
  denotes file _ _ (defined {n = n} {d = d} {rank = r} bound is) (Local m) s =
      let e = binds T I p q h file n m d s bound in
      subst (λ (y : Symbol). DenotesType q file (Local m) (Defined y)) (symbols T I p q h r)
      (defined {n = m} {d = e.0} {rank = r} e.1.1 (declares_type d e.0 r e.1.0 is))
  denotes file _ _ (imported {q = u} {d = d} {n = n} {t = t} is) (Imported v f m) s =
      imported {q = v} {d = f} {n = m} {t = t} (names_export file u v n m t s.0 s.1 is)
  denotes file _ _ (pointer {s = o} {tree = tree} {t = t} is) (Pointer r x) s = pointer {s = r} {tree = x} {t = t} (denotes file tree t is x s)
  denotes file _ _ (slice {o = o} {c = c} {tree = tree} {t = t} is) (Slice r j x) s = slice {o = r} {c = j} {tree = x} {t = t} (denotes file tree t is x s)
  denotes file _ _ (predeclared b bound is) (Imported v f m) s = absurd s
  denotes file _ _ (predeclared b bound is) (Pointer r x) s = absurd s
  denotes file _ _ (predeclared b bound is) (Slice r j x) s = absurd s
  denotes file _ _ (defined bound is) (Imported v f m) s = absurd s
  denotes file _ _ (defined bound is) (Pointer r x) s = absurd s
  denotes file _ _ (defined bound is) (Slice r j x) s = absurd s
  denotes file _ _ (imported is) (Local m) s = absurd s
  denotes file _ _ (imported is) (Pointer r x) s = absurd s
  denotes file _ _ (imported is) (Slice r j x) s = absurd s
  denotes file _ _ (pointer is) (Local m) s = absurd s
  denotes file _ _ (pointer is) (Imported v f m) s = absurd s
  denotes file _ _ (pointer is) (Slice r j x) s = absurd s
  denotes file _ _ (slice is) (Local m) s = absurd s
  denotes file _ _ (slice is) (Imported v f m) s = absurd s
  denotes file _ _ (slice is) (Pointer r x) s = absurd s

  pub mentions : (file : ℕ) (tree : TypeTree) (rank : ℕ) → Mentions p file tree rank → (x : TypeTree) → SameTree T p q file tree x → Mentions q file x rank
  mentions file _ _ (by_name {n = n} {d = d} {rank = r} bound is) (Local m) s =
      let e = binds T I p q h file n m d s bound in
      by_name {n = m} {d = e.0} {rank = r} e.1.1 (declares_type d e.0 r e.1.0 is)
  mentions file _ _ (by_pointer {s = o} {rank = r} {t = t} is) (Pointer j x) s = by_pointer {s = j} {rank = r} {t = x} (mentions file t r is x s)
  mentions file _ _ (by_slice {o = o} {c = c} {rank = r} {t = t} is) (Slice j l x) s =
      by_slice {o = j} {c = l} {rank = r} {t = x} (mentions file t r is x s)
  mentions file _ _ (by_name bound is) (Imported v f m) s = absurd s
  mentions file _ _ (by_name bound is) (Pointer j x) s = absurd s
  mentions file _ _ (by_name bound is) (Slice j l x) s = absurd s
  mentions file _ _ (by_pointer is) (Local m) s = absurd s
  mentions file _ _ (by_pointer is) (Imported v f m) s = absurd s
  mentions file _ _ (by_pointer is) (Slice j l x) s = absurd s
  mentions file _ _ (by_slice is) (Local m) s = absurd s
  mentions file _ _ (by_slice is) (Imported v f m) s = absurd s
  mentions file _ _ (by_slice is) (Pointer j x) s = absurd s

  -- what is written in a definition has its counterpart in the other package
  pub written : (rank file : ℕ) (t : TypeTree) → IsWrittenIn p rank file t → (x : TypeTree) × (IsWrittenIn q rank file x × SameTree T p q file t x)
  written rank file t is =
      let d = is.definition in
      let e = h.types rank d is.has_rank in
      let same = e.1.1 in
      let x = counterpart T p q d.file (written_types d.spec.body) (written_types e.0.spec.body) t
      (same_written T p q d.file d.spec.body e.0.spec.body same.body) is.written in (
        x.0,
        (
          record { definition = e.0; has_rank = e.1.0; in_file = same.file ∙ is.in_file; written = x.1.0 },
          subst (λ i. SameTree T p q i t x.0) is.in_file x.1.1,
        ),
      )

module _ (T : ℕ → ℕ → ℕ → Type 0) (I : ℕ → ℕ → Type 0) (p q : Package) (h : Half T I p q) (k : Half (Turned T) (TurnedIdentifiers I) q p) where
  pub denotes_back : (file : ℕ) (tree x : TypeTree) (t : PlainType) → SameTree T p q file tree x → DenotesType q file x t → DenotesType p file tree t
  denotes_back file tree x t s is = denotes (Turned T) (TurnedIdentifiers I) q p k h file x t is tree (turned_tree T p q file tree x s)

  pub mentions_back : (file : ℕ) (tree x : TypeTree) (rank : ℕ) → SameTree T p q file tree x → Mentions q file x rank → Mentions p file tree rank
  mentions_back file tree x rank s is = mentions (Turned T) (TurnedIdentifiers I) q p k h file x rank is tree (turned_tree T p q file tree x s)

  pub broken : (rank : ℕ) → IsBroken p rank → IsBroken q rank
  broken _ (by_itself {rank = r} {file = f} {t = t} is none) =
      let x = written T I p q h k r f t is in
      by_itself {rank = r} {file = f} {t = x.0} x.1.0 (λ u d. none u (denotes_back f t x.0 u x.1.1 d))
  broken _ (through {rank = r} {file = f} {other = o} {t = t} is mention b) =
      let x = written T I p q h k r f t is in
      through {rank = r} {file = f} {other = o} {t = x.0} x.1.0 (mentions T I p q h k f t o mention x.0 x.1.1) (broken o b)

module _ (T : ℕ → ℕ → ℕ → Type 0) (I : ℕ → ℕ → Type 0) (p q : Package) (h : Half T I p q) (k : Half (Turned T) (TurnedIdentifiers I) q p) where
  pub broken_back : (rank : ℕ) → IsBroken q rank → IsBroken p rank
  broken_back rank b = broken (Turned T) (TurnedIdentifiers I) q p k h rank b

  pub type_of : (file : ℕ) (tree x : TypeTree) (t : PlainType) → SameTree T p q file tree x → IsTypeOf p file tree t → IsTypeOf q file x t
  type_of file tree x t s is = record {
    names = denotes T I p q h k file tree t is.names x s;
    whole = λ rank m b. is.whole rank (mentions_back T I p q h k file tree x rank s m) (broken_back rank b);
  }

  pub types_of : (file : ℕ) (trees xs : List TypeTree) (ts : List PlainType) → SameTrees T p q file trees xs → AreTypesOf p file trees ts →
      AreTypesOf q file xs ts
  types_of file [] [] [] s is = tt
  types_of file [] [] (t ∷ ts) s is = absurd is
  types_of file [] (x ∷ xs) ts s is = absurd s
  types_of file (y ∷ ys) [] ts s is = absurd s
  types_of file (y ∷ ys) (x ∷ xs) [] s is = absurd is
  types_of file (y ∷ ys) (x ∷ xs) (t ∷ ts) s is = (type_of file y x t s.0 is.0, types_of file ys xs ts s.1 is.1)
