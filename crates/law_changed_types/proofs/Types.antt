-- In packages that are bound alike, written types, broken definitions and underlying types are the same.
use Rattle.std.proofs.Common.{ℕ, ◌≡◌, List, [], ◌∷◌, ◌∙◌, subst}
use Rattle.std.specs.Prelude.{All, Some, slice_get}
use Rattle.std.proofs.lemmas.List.Elements.{All-head, All-tail, All-contains, recursion_from_All}
use Rattle.go_ast.specs.Tree.{TypeTree, Local, Imported, BodyTree, Other}
use Rattle.law_tokens.proofs.Elements.{all_got}
use Rattle.types_expr.specs.declared.symbol.Symbol.{Symbol}
use Rattle.types_expr.specs.Types.{PlainType, Defined, Underlying}
use Rattle.types_expr.specs.Types.{Struct as StructOf, Interface as InterfaceOf}
use Rattle.types_declared.specs.Package.{Package, PlacedType, package_types, type_place}
use Rattle.types_declared.specs.Written.{DeclaresType, NamesExport, DenotesType, predeclared, defined, imported, pointer, slice, basic_name, written_types}
use Rattle.types_declared.specs.Written.{Mentions, by_name, by_pointer, by_slice, IsWrittenIn, IsBroken, by_itself, through, IsTypeOf}
use Rattle.types_declared.specs.MeaningOf.{AreTypesOf}
use Rattle.types_declared.specs.Definitions.{HasUnderlying}
use Rattle.types_declared.specs.Definitions.{basic, struct, interface, named}
use Rattle.types_declared.specs.Definitions.{pointer as pointer_to, slice as slice_of, imported as of_imported}
use Rattle.law_changed_types.specs.SameBindings.{IsDotted}
use Rattle.law_changed_types.proofs.Alike.{Alike, turned, tokens, symbols, is_predeclared, exports, ranked_by, got_by}

pub declares_type : (p q : Package) → Alike p q → (d rank : ℕ) → DeclaresType p d rank → DeclaresType q d rank
declares_type p q a d rank h = ranked_by type_place (package_types p) (package_types q) p.layout q.layout d rank a.types a.layout h

-- written types

names_export : (p q : Package) → Alike p q → (file u d n : ℕ) (t : PlainType) → IsDotted p file (Imported u d n) → NamesExport p file u n t →
    NamesExport q file u n t
names_export p q a file u d n t dots h =
    record { export = h.export; exported = exports p q a file u n h.export dots.0 dots.1 h.exported; is_type = h.is_type }

pub denotes : (p q : Package) → Alike p q → (file : ℕ) (tree : TypeTree) (t : PlainType) → DenotesType p file tree t → IsDotted p file tree →
    DenotesType q file tree t
denotes p q a file _ _ (predeclared {n = n} {d = d} b binds is) dots =
    predeclared {n = n} {d = d} b (tokens p q a file n d binds) (is_predeclared p q a d (basic_name b) is)
denotes p q a file _ _ (defined {n = n} {d = d} {rank = r} binds is) dots =
    subst (λ (s : Symbol). DenotesType q file (Local n) (Defined s)) (symbols p q a r)
    (defined {n = n} {d = d} {rank = r} (tokens p q a file n d binds) (declares_type p q a d r is))
denotes p q a file _ _ (imported {q = u} {d = d} {n = n} {t = t} h) dots = imported {q = u} {d = d} {n = n} {t = t} (names_export p q a file u d n t dots h)
denotes p q a file _ _ (pointer {s = s} {tree = tree} {t = t} h) dots = pointer {s = s} {tree = tree} {t = t} (denotes p q a file tree t h dots)
denotes p q a file _ _ (slice {o = o} {c = c} {tree = tree} {t = t} h) dots = slice {o = o} {c = c} {tree = tree} {t = t} (denotes p q a file tree t h dots)

mentions : (p q : Package) → Alike p q → (file : ℕ) (tree : TypeTree) (rank : ℕ) → Mentions p file tree rank → Mentions q file tree rank
mentions p q a file _ _ (by_name {n = n} {d = d} {rank = r} binds is) =
    by_name {n = n} {d = d} {rank = r} (tokens p q a file n d binds) (declares_type p q a d r is)
mentions p q a file _ _ (by_pointer {s = s} {rank = r} {t = t} h) = by_pointer {s = s} {rank = r} {t = t} (mentions p q a file t r h)
mentions p q a file _ _ (by_slice {o = o} {c = c} {rank = r} {t = t} h) = by_slice {o = o} {c = c} {rank = r} {t = t} (mentions p q a file t r h)

-- broken definitions

written : (p q : Package) → Alike p q → (rank file : ℕ) (t : TypeTree) → IsWrittenIn p rank file t → IsWrittenIn q rank file t
written p q a rank file t h = record {
  definition = h.definition;
  has_rank = got_by (package_types p) (package_types q) rank h.definition a.types h.has_rank;
  in_file = h.in_file;
  written = h.written;
}

all_written_dotted : (p q : Package) → Alike p q → (rank : ℕ) (d : PlacedType) → slice_get (package_types p) rank ≡ Some d →
    All (IsDotted p d.file) (written_types d.spec.body)
all_written_dotted p q a rank d at =
    let P : PlacedType → Type 0 = λ x. All (IsDotted p x.file) (written_types x.spec.body) in
    all_got P (package_types p) rank d (recursion_from_All P (package_types p) a.dotted.definitions) at

written_dotted : (p q : Package) → Alike p q → (rank file : ℕ) (t : TypeTree) → IsWrittenIn p rank file t → IsDotted p file t
written_dotted p q a rank file t h =
    let d = h.definition in
    subst (λ i. IsDotted p i t) h.in_file
    (All-contains (IsDotted p d.file) (written_types d.spec.body) t (all_written_dotted p q a rank d h.has_rank) h.written)

pub broken : (p q : Package) → Alike p q → (rank : ℕ) → IsBroken p rank → IsBroken q rank
broken p q a _ (by_itself {rank = r} {file = f} {t = t} is none) =
    by_itself {rank = r} {file = f} {t = t} (written p q a r f t is)
    (λ u h. none u (denotes q p (turned p q a) f t u h (written_dotted q p (turned p q a) r f t (written p q a r f t is))))
broken p q a _ (through {rank = r} {file = f} {other = o} {t = t} is mention h) =
    through {rank = r} {file = f} {other = o} {t = t} (written p q a r f t is) (mentions p q a f t o mention) (broken p q a o h)

pub type_of : (p q : Package) → Alike p q → (file : ℕ) (tree : TypeTree) (t : PlainType) → IsTypeOf p file tree t → IsDotted p file tree →
    IsTypeOf q file tree t
type_of p q a file tree t h dots = record {
  names = denotes p q a file tree t h.names dots;
  whole = λ rank m b. h.whole rank (mentions q p (turned p q a) file tree rank m) (broken q p (turned p q a) rank b);
}

pub types_of : (p q : Package) → Alike p q → (file : ℕ) (trees : List TypeTree) (ts : List PlainType) → AreTypesOf p file trees ts →
    All (IsDotted p file) trees → AreTypesOf q file trees ts
types_of p q a file [] [] h dots = tt
types_of p q a file [] (t ∷ ts) h dots = absurd h
types_of p q a file (x ∷ xs) [] h dots = absurd h
types_of p q a file (x ∷ xs) (t ∷ ts) h dots = (
  type_of p q a file x t h.0 (All-head (IsDotted p file) x xs dots),
  types_of p q a file xs ts h.1 (All-tail (IsDotted p file) x xs dots),
)

-- underlying types

other_dotted : (p q : Package) → Alike p q → (rank : ℕ) (d : PlacedType) (tree : TypeTree) → slice_get (package_types p) rank ≡ Some d →
    d.spec.body ≡ Other tree → IsDotted p d.file tree
other_dotted p q a rank d tree at body =
    All-head (IsDotted p d.file) tree []
    (subst (λ (b : BodyTree). All (IsDotted p d.file) (written_types b)) body (all_written_dotted p q a rank d at))

pub has_underlying : (p q : Package) → Alike p q → (t : PlainType) (u : Underlying) → HasUnderlying p t u → HasUnderlying q t u
has_underlying p q a _ _ (basic {b = b}) = basic {b = b}
has_underlying p q a _ _ (pointer_to {t = t}) = pointer_to {t = t}
has_underlying p q a _ _ (slice_of {t = t}) = slice_of {t = t}
has_underlying p q a _ _ (struct {rank = r} {d = d} {k = k} {o = o} {c = c} {fs = fs} at body) =
    subst (λ (s : Symbol). HasUnderlying q (Defined s) (StructOf s)) (symbols p q a r)
    (struct {rank = r} {d = d} {k = k} {o = o} {c = c} {fs = fs} (got_by (package_types p) (package_types q) r d a.types at) body)
has_underlying p q a _ _ (interface {rank = r} {d = d} {k = k} {o = o} {c = c} {ms = ms} at body) =
    subst (λ (s : Symbol). HasUnderlying q (Defined s) (InterfaceOf s)) (symbols p q a r)
    (interface {rank = r} {d = d} {k = k} {o = o} {c = c} {ms = ms} (got_by (package_types p) (package_types q) r d a.types at) body)
has_underlying p q a _ _ (named {rank = r} {d = d} {tree = tree} {t = t} {u = u} at body is h) =
    subst (λ (s : Symbol). HasUnderlying q (Defined s) u) (symbols p q a r)
    (named {rank = r} {d = d} {tree = tree} {t = t} {u = u} (got_by (package_types p) (package_types q) r d a.types at) body
    (denotes p q a d.file tree t is (other_dotted p q a r d tree at body)) (has_underlying p q a t u h))
has_underlying p q a _ _ (of_imported {path = path} {rank = r} other) =
    subst (λ u. HasUnderlying q (Defined (record { «package» = path; rank = r })) u) (a.underlying path r)
    (of_imported {path = path} {rank = r} (λ e. other (e ∙ a.path)))
