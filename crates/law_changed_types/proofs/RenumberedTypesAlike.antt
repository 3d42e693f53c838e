-- Two packages whose tokens and identifiers correspond, seen from one of them. Seen from both, the relation can be turned round.
use Rattle.std.proofs.Common.{ℕ, suc, ◌≡◌, true, List, [], ◌∷◌, map, Option, Some, None, is_some, ap, ◌∙◌}
use Rattle.std.specs.Prelude.{slice_get}
use Rattle.go_ast.specs.Tree.{TypeTree, Local, Imported, Pointer, Slice, BodyTree, Other, ReceiverTree}
use Rattle.go_ast.specs.Tree as tree
use Rattle.go_scope.specs.declared.model.Position.{Position}
use Rattle.go_scope.specs.declared.model.Block.TheVariants.{Universe, Inner}
use Rattle.go_scope.specs.declared.model.Role.TheVariants.{NotLexical}
use Rattle.go_scope.specs.declared.model.Purpose.TheVariants as purpose
use Rattle.go_scope.specs.Bindings.{IsBoundTo, IsPackageLevel, block_of, is_implied}
use Rattle.go_scope.specs.Table.{IsFoundAt, LiesAt}
use Rattle.types_declared.specs.Package.{Package, PlacedVariable, PlacedType, PlacedFunction, IsRanked, package_variables, package_types, package_functions}
use Rattle.types_declared.specs.Package.{variable_place, type_place, function_place, symbol_in, spelled}
use Rattle.types_declared.specs.Written.{BindsToken, IsPredeclared, DeclaresImport, IsExportAt, asked_types}
use Rattle.types_declared.specs.MeaningOf.{parameter_types, result_types}
use Rattle.types_declared.specs.Definitions.{PlacedField, WrittenForm, OfType, OfSignature, package_fields}
use Rattle.law_changed_types.specs.SameBindings.{IsSelectedAt}

-- which token of a file becomes which, and which identifier
abbrev pub Tokens : Type 1
Tokens = ℕ → ℕ → ℕ → Type 0

abbrev pub Identifiers : Type 1
Identifiers = ℕ → ℕ → Type 0

-- positions correspond
pub record SamePlace (T : ℕ → ℕ → ℕ → Type 0) (a b : Position) : Type 0 where
  pub file : b.file ≡ a.file
  pub index : T a.file a.index b.index

module _ (T : ℕ → ℕ → ℕ → Type 0) (p q : Package) where
  -- type expressions of one form, at corresponding tokens, with the same names behind dots
  abbrev pub SameTree : ℕ → TypeTree → TypeTree → Type 0
  SameTree file (Local n) (Local m) = T file n m
  SameTree file (Imported u d n) (Imported v e m) = T file u v × (spelled q file m ≡ spelled p file n)
  SameTree file (Pointer s t) (Pointer r x) = SameTree file t x
  SameTree file (Slice o c t) (Slice r k x) = SameTree file t x
  SameTree file t x = ⊥

  abbrev pub SameTrees : ℕ → List TypeTree → List TypeTree → Type 0
  SameTrees file [] [] = Unit {0}
  SameTrees file [] (x ∷ xs) = ⊥
  SameTrees file (t ∷ ts) [] = ⊥
  SameTrees file (t ∷ ts) (x ∷ xs) = SameTree file t x × SameTrees file ts xs

  -- right sides of type definitions
  abbrev pub SameBody : ℕ → BodyTree → BodyTree → Type 0
  SameBody file (Other t) (Other x) = SameTree file t x
  SameBody file (tree.Struct k o fs c) (tree.Struct i j gs e) = SameTrees file (map (λ f. f.value.type_use) fs) (map (λ f. f.value.type_use) gs)
  SameBody file (tree.Interface k o ms c) (tree.Interface i j ns e) = SameTrees file (asked_types ms) (asked_types ns)
  SameBody file b c = ⊥

  -- what written members have
  abbrev pub SameForm : ℕ → WrittenForm → WrittenForm → Type 0
  SameForm file (OfType t) (OfType x) = SameTree file t x
  SameForm file (OfSignature ps r) (OfSignature qs s) = SameTrees file (parameter_types ps) (parameter_types qs) × SameTrees file (result_types r)
      (result_types s)
  SameForm file f g = ⊥

  abbrev pub SameReceiver : ℕ → Option ReceiverTree → Option ReceiverTree → Type 0
  SameReceiver file None None = Unit {0}
  SameReceiver file None (Some s) = ⊥
  SameReceiver file (Some r) None = ⊥
  SameReceiver file (Some r) (Some s) = T file r.type_name s.type_name × (is_some s.star ≡ is_some r.star)

  pub record SameVariable (v w : PlacedVariable) : Type 0 where
    pub file : w.file ≡ v.file
    pub place : SamePlace T (variable_place v) (variable_place w)
    pub type_use : SameTree v.file v.type_use w.type_use

  pub record SameType (d e : PlacedType) : Type 0 where
    pub file : e.file ≡ d.file
    pub place : SamePlace T (type_place d) (type_place e)
    pub body : SameBody d.file d.spec.body e.spec.body

  pub record SameFunction (f g : PlacedFunction) : Type 0 where
    pub file : g.file ≡ f.file
    pub place : SamePlace T (function_place f) (function_place g)
    pub name : spelled q g.file g.function.name ≡ spelled p f.file f.function.name
    pub receiver : SameReceiver f.file f.function.receiver g.function.receiver
    pub parameters : SameTrees f.file (parameter_types f.function.params) (parameter_types g.function.params)
    pub results : SameTrees f.file (result_types f.function.result) (result_types g.function.result)

  pub record SameField (f g : PlacedField) : Type 0 where
    pub definition : g.definition ≡ f.definition
    pub file : g.file ≡ f.file
    pub name : spelled q g.file g.name ≡ spelled p f.file f.name
    pub form : SameForm f.file f.form g.form

-- each element of the first list corresponds to that of the same index of the second one
abbrev pub Follows : {X : Type 0} → (X → X → Type 0) → List X → List X → Type 0
Follows {X = X} R xs ys = (rank : ℕ) (x : X) → slice_get xs rank ≡ Some x → (y : X) × ((slice_get ys rank ≡ Some y) × R x y)

-- a name behind a dot, and the token before the dot
pub record BehindDot (T : ℕ → ℕ → ℕ → Type 0) (file a b : ℕ) : Type 0 where
  pub was : ℕ
  pub is : ℕ
  pub was_behind : a ≡ suc (suc was)
  pub is_behind : b ≡ suc (suc is)
  pub follows : T file was is

-- What is so in p is so in q, at corresponding tokens and identifiers.
pub record Half (T : ℕ → ℕ → ℕ → Type 0) (I : ℕ → ℕ → Type 0) (p q : Package) : Type 0 where
  pub path : q.path ≡ p.path
  pub found : (file a b u : ℕ) → T file a b → IsFoundAt p.layout p.size (record { file = file; index = a }) u →
      (v : ℕ) × (I u v × IsFoundAt q.layout q.size (record { file = file; index = b }) v)
  pub lies : (a b : Position) (u v : ℕ) → SamePlace T a b → I u v → LiesAt p.layout a u → LiesAt q.layout b v
  pub bound : (u v d : ℕ) → I u v → IsBoundTo p.layout p.names u d → (e : ℕ) × (I d e × IsBoundTo q.layout q.names v e)
  pub implied : (d e : ℕ) → I d e → is_implied (p.layout.role d) ≡ true → is_implied (q.layout.role e) ≡ true
  pub universe : (d e : ℕ) → I d e → block_of (p.layout.role d) ≡ Universe → block_of (q.layout.role e) ≡ Universe
  pub level : (d e : ℕ) → I d e → IsPackageLevel p.layout d → IsPackageLevel q.layout e
  pub inner : (d e f a b : ℕ) → I d e → block_of (p.layout.role d) ≡ Inner f a b →
      (x : ℕ) × ((y : ℕ) × (block_of (q.layout.role e) ≡ Inner f x y))
  pub selected : (d e : ℕ) → I d e → p.layout.role d ≡ NotLexical purpose.Selected → q.layout.role e ≡ NotLexical purpose.Selected
  pub names : (d e : ℕ) → I d e → is_implied (p.layout.role d) ≡ true → q.names e ≡ p.names d
  pub variables : Follows (SameVariable T p q) (package_variables p) (package_variables q)
  pub types : Follows (SameType T p q) (package_types p) (package_types q)
  pub functions : Follows (SameFunction T p q) (package_functions p) (package_functions q)
  pub fields : Follows (SameField T p q) (package_fields p) (package_fields q)
  pub imports : (d e : ℕ) (path : List ℕ) → I d e → DeclaresImport p d path → DeclaresImport q e path
  pub dots : (file a b : ℕ) → T file a b → IsSelectedAt p file a → BehindDot T file a b
  pub selectors : (file a b : ℕ) → T file a b → IsSelectedAt p file a → spelled q file b ≡ spelled p file a
  pub exports : (path : List ℕ) → q.export_data_of path ≡ p.export_data_of path

module _ (T : ℕ → ℕ → ℕ → Type 0) (I : ℕ → ℕ → Type 0) (p q : Package) (h : Half T I p q) where
  pub symbols : (rank : ℕ) → symbol_in q rank ≡ symbol_in p rank
  symbols rank = ap (λ path. record { «package» = path; rank = rank }) h.path

  pub binds : (file a b d : ℕ) → T file a b → BindsToken p file a d → (e : ℕ) × (I d e × BindsToken q file b e)
  binds file a b d t x =
      let v = h.found file a b x.identifier t x.found in
      let e = h.bound x.identifier v.0 d v.1.0 x.bound in
      (e.0, (e.1.0, record { identifier = v.0; found = v.1.1; bound = e.1.1 }))

  pub is_predeclared : (d e : ℕ) (name : List ℕ) → I d e → IsPredeclared p d name → IsPredeclared q e name
  is_predeclared d e name i x = record {
    implied = h.implied d e i x.implied;
    universe = h.universe d e i x.universe;
    named = h.names d e i x.implied ∙ x.named;
  }

  -- a qualified identifier, where the name behind the dot is spelled alike
  pub export : (file u v n m : ℕ) (x : _) → T file u v → spelled q file m ≡ spelled p file n → IsExportAt p file u n x → IsExportAt q file v m x
  export file u v n m x t same is =
      let of = is.of_import in
      let e = binds file u v is.import t is.binds in
      record {
        import = e.0;
        binds = e.1.1;
        of_import = record {
          path = of.path;
          imports = h.imports is.import e.0 of.path e.1.0 of.imports;
          exported = ap (λ name. (q.export_data_of of.path).exported name) same
              ∙ ap (λ known. known.exported (spelled p file n)) (h.exports of.path)
              ∙ of.exported;
        };
      }

-- turned round: the tokens and identifiers of q in p
abbrev pub Turned : (ℕ → ℕ → ℕ → Type 0) → ℕ → ℕ → ℕ → Type 0
Turned T file a b = T file b a

abbrev pub TurnedIdentifiers : (ℕ → ℕ → Type 0) → ℕ → ℕ → Type 0
TurnedIdentifiers I a b = I b a

-- d declares what has this rank, where elements correspond both ways
pub ranked : {X : Type 0} (T : ℕ → ℕ → ℕ → Type 0) (I : ℕ → ℕ → Type 0) (p q : Package) → Half T I p q → Half (Turned T) (TurnedIdentifiers I) q p →
    (place_of : X → Position) (R S : X → X → Type 0) (xs ys : List X) → Follows R xs ys → Follows S ys xs →
    ((x y : X) → R x y → SamePlace T (place_of x) (place_of y)) → ((x y : X) → S y x → SamePlace (Turned T) (place_of y) (place_of x)) →
    (d e rank : ℕ) → I d e → IsRanked place_of xs p.layout d rank → IsRanked place_of ys q.layout e rank
ranked T I p q h k place_of R S xs ys there back forth other d e rank i is =
    let now = there rank is.item is.has_rank in
    record {
      item = now.0;
      has_rank = now.1.0;
      stands = h.lies (place_of is.item) (place_of now.0) d e (forth is.item now.0 now.1.1) i is.stands;
      first = λ r y lt at lies.
          let was = back r y at in
          is.first r was.0 lt was.1.0 (k.lies (place_of y) (place_of was.0) e d (other was.0 y was.1.1) i lies);
    }
