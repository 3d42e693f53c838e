-- Written types, broken definitions and underlying types of a moved package.
use Rattle.std.proofs.Common.{ℕ, ◌≡◌, List, [], ◌∷◌, Some, option_map, map, refl, sym, ap, ◌∙◌, subst}
use Rattle.std.specs.Prelude.{All, slice_get}
use Rattle.std.proofs.lemmas.List.Elements.{All-head, All-tail, All-contains, recursion_from_All}
use Rattle.go_ast.specs.Tree.{TypeTree, Local, Imported, BodyTree, Other}
use Rattle.go_scope.specs.declared.model.Position.{Position}
use Rattle.go_scope.specs.Bindings.{Layout, IsBoundTo, is_implied, block_of}
use Rattle.go_scope.specs.Table.{IsFoundAt}
use Rattle.law_tokens.proofs.Elements.{all_got}
use Rattle.types_expr.specs.declared.symbol.Symbol.{Symbol}
use Rattle.types_expr.specs.Types.{PlainType, BasicType, Defined, Pointer, Slice}
use Rattle.types_declared.specs.Package.{Package, PlacedType, Export, package_types, package_variables, package_functions}
use Rattle.types_declared.specs.Package.{type_place, symbol_in, spelled}
use Rattle.types_declared.specs.Written.{BindsToken, IsPredeclared, DeclaresType, IsExportAt, NamesExport, DenotesType, predeclared, defined, imported}
use Rattle.types_declared.specs.Written.{pointer, slice, basic_name, written_types, Mentions, by_name, by_pointer, by_slice, IsWrittenIn, IsBroken, by_itself}
use Rattle.types_declared.specs.Written.{through, IsTypeOf}
use Rattle.types_declared.specs.MeaningOf.{AreTypesOf}
use Rattle.law_changed_types.specs.SameBindings.{IsDotted, IsSelectedAt, AreTypesDotted}
use Rattle.law_changed_types.proofs.Alike.{ranked_by, got_by, found_by}
use Rattle.law_changed_types.proofs.Dotted.{types_dotted}
use Rattle.law_changed_types.proofs.Listed.{same_variables, same_types, same_functions}
use Rattle.law_changed_types.specs.Moved.{PathMap, IsInjective, moved_symbol, moved_type, moved_meaning}
use Rattle.law_changed_types.proofs.Moving.{ap2}
use Rattle.law_changed_types.specs.MovedPackage.{IsMovedPackage, moved_export}
use Rattle.law_changed_types.proofs.Inversions.{some_back, type_name_back}

-- tokens

module _ (g : PathMap) (inj : IsInjective g) (p q : Package) (a : IsMovedPackage g p q) where
  pub same_place_types : package_types q ≡ package_types p
  same_place_types = same_types p.files q.files a.trees

  pub same_place_variables : package_variables q ≡ package_variables p
  same_place_variables = same_variables p.files q.files a.trees

  pub same_place_functions : package_functions q ≡ package_functions p
  same_place_functions = same_functions p.files q.files a.trees

  pub dotted : AreTypesDotted p
  dotted = types_dotted p a.parsed

  pub symbols : (rank : ℕ) → symbol_in q rank ≡ moved_symbol g (symbol_in p rank)
  symbols rank = ap (λ path. record { «package» = path; rank = rank }) a.path

  same_roles : (d : ℕ) → q.layout.role d ≡ p.layout.role d
  same_roles d = ap (λ (l : Layout). l.role d) a.layout

  pub binds : (file token d : ℕ) → BindsToken p file token d → BindsToken q file token d
  binds file token d b = record {
    identifier = b.identifier;
    found = found_by p.layout q.layout p.size q.size (record { file = file; index = token }) b.identifier a.layout a.size b.found;
    bound = subst (λ (l : Layout). IsBoundTo l q.names b.identifier d) (sym a.layout) ((a.bindings b.identifier d).0 b.bound);
  }

  pub binds_back : (file token d : ℕ) → BindsToken q file token d → BindsToken p file token d
  binds_back file token d b = record {
    identifier = b.identifier;
    found = found_by q.layout p.layout q.size p.size (record { file = file; index = token }) b.identifier (sym a.layout) (sym a.size) b.found;
    bound = (a.bindings b.identifier d).1 (subst (λ (l : Layout). IsBoundTo l q.names b.identifier d) a.layout b.bound);
  }

  pub declares_type : (d rank : ℕ) → DeclaresType p d rank → DeclaresType q d rank
  declares_type d rank h = ranked_by type_place (package_types p) (package_types q) p.layout q.layout d rank same_place_types a.layout h

  pub declares_type_back : (d rank : ℕ) → DeclaresType q d rank → DeclaresType p d rank
  declares_type_back d rank h =
      ranked_by type_place (package_types q) (package_types p) q.layout p.layout d rank (sym same_place_types) (sym a.layout) h

  pub is_predeclared : (d : ℕ) (name : List ℕ) → IsPredeclared p d name → IsPredeclared q d name
  is_predeclared d name h = record {
    implied = ap is_implied (same_roles d) ∙ h.implied;
    universe = ap block_of (same_roles d) ∙ h.universe;
    named = a.predeclared d h.implied ∙ h.named;
  }

  pub is_predeclared_back : (d : ℕ) (name : List ℕ) → IsPredeclared q d name → IsPredeclared p d name
  is_predeclared_back d name h =
      let implied : is_implied (p.layout.role d) ≡ _ = ap is_implied (sym (same_roles d)) ∙ h.implied in
      record { implied = implied; universe = ap block_of (sym (same_roles d)) ∙ h.universe; named = sym (a.predeclared d implied) ∙ h.named }

  -- exports of imported packages

  same_export : (file token : ℕ) (path : List ℕ) → IsSelectedAt p file token →
      (q.export_data_of (g path)).exported (spelled q file token) ≡ option_map (moved_export g) ((p.export_data_of path).exported (spelled p file token))
  same_export file token path s =
      ap (λ name. (q.export_data_of (g path)).exported name) (a.selectors file token s) ∙ a.exports path (spelled p file token)

  pub export_moves : (file u n : ℕ) (e : Export) → IsSelectedAt p file n → IsExportAt p file u n e → IsExportAt q file u n (moved_export g e)
  export_moves file u n e s h =
      let of = h.of_import in
      record {
        import = h.import;
        binds = binds file u h.import h.binds;
        of_import = record {
          path = g of.path;
          imports = (a.imports h.import).forth of.path of.imports;
          exported = same_export file n of.path s ∙ ap (option_map (moved_export g)) of.exported;
        };
      }

  pub export_back : (file u n : ℕ) (e : Export) → IsSelectedAt p file n → IsExportAt q file u n e →
      (x : Export) × ((e ≡ moved_export g x) × IsExportAt p file u n x)
  export_back file u n e s h =
      let of = h.of_import in
      let i = (a.imports h.import).back of.path of.imports in
      let x = some_back (moved_export g) ((p.export_data_of i.0).exported (spelled p file n)) e
      (sym (same_export file n i.0 s) ∙ ap (λ path. (q.export_data_of path).exported (spelled q file n)) (sym i.1.0) ∙ of.exported) in (
        x.0,
        (
          x.1.1,
          record {
            import = h.import;
            binds = binds_back file u h.import h.binds;
            of_import = record { path = i.0; imports = i.1.1; exported = x.1.0 };
          },
        ),
      )

  names_export : (file u d n : ℕ) (t : PlainType) → IsDotted p file (Imported u d n) → NamesExport p file u n t → NamesExport q file u n (moved_type g t)
  names_export file u d n t dots h = record {
    export = moved_export g h.export;
    exported = export_moves file u n h.export dots.1 h.exported;
    is_type = ap (moved_meaning g) h.is_type;
  }

  names_export_back : (file u d n : ℕ) (t : PlainType) → IsDotted p file (Imported u d n) → NamesExport q file u n t →
      (x : PlainType) × ((t ≡ moved_type g x) × NamesExport p file u n x)
  names_export_back file u d n t dots h =
      let e = export_back file u n h.export dots.1 h.exported in
      let x = type_name_back g e.0.meaning t (ap (λ (z : Export). z.meaning) (sym e.1.0) ∙ h.is_type) in
      (x.0, (x.1.1, record { export = e.0; exported = e.1.1; is_type = x.1.0 }))

  -- written types

  pub denotes : (file : ℕ) (tree : TypeTree) (t : PlainType) → DenotesType p file tree t → IsDotted p file tree → DenotesType q file tree (moved_type g t)
  denotes file _ _ (predeclared {n = n} {d = d} b bound is) dots =
      predeclared {n = n} {d = d} b (binds file n d bound) (is_predeclared d (basic_name b) is)
  denotes file _ _ (defined {n = n} {d = d} {rank = r} bound is) dots =
      subst (λ (s : Symbol). DenotesType q file (Local n) (Defined s)) (symbols r)
      (defined {n = n} {d = d} {rank = r} (binds file n d bound) (declares_type d r is))
  denotes file _ _ (imported {q = u} {d = d} {n = n} {t = t} h) dots =
      imported {q = u} {d = d} {n = n} {t = moved_type g t} (names_export file u d n t dots h)
  denotes file _ _ (pointer {s = s} {tree = tree} {t = t} h) dots = pointer {s = s} {tree = tree} {t = moved_type g t} (denotes file tree t h dots)
  denotes file _ _ (slice {o = o} {c = c} {tree = tree} {t = t} h) dots =
      slice {o = o} {c = c} {tree = tree} {t = moved_type g t} (denotes file tree t h dots)

  pub denotes_back : (file : ℕ) (tree : TypeTree) (t : PlainType) → DenotesType q file tree t → IsDotted p file tree →
      (x : PlainType) × ((t ≡ moved_type g x) × DenotesType p file tree x)
  denotes_back file _ _ (predeclared {n = n} {d = d} b bound is) dots =
      (BasicType b, (refl, predeclared {n = n} {d = d} b (binds_back file n d bound) (is_predeclared_back d (basic_name b) is)))
  denotes_back file _ _ (defined {n = n} {d = d} {rank = r} bound is) dots =
      (Defined (symbol_in p r), (ap Defined (symbols r), defined {n = n} {d = d} {rank = r} (binds_back file n d bound) (declares_type_back d r is)))
  denotes_back file _ _ (imported {q = u} {d = d} {n = n} {t = t} h) dots =
      let x = names_export_back file u d n t dots h in
      (x.0, (x.1.0, imported {q = u} {d = d} {n = n} {t = x.0} x.1.1))
  denotes_back file _ _ (pointer {s = s} {tree = tree} {t = t} h) dots =
      let x = denotes_back file tree t h dots in
      (Pointer x.0, (ap Pointer x.1.0, pointer {s = s} {tree = tree} {t = x.0} x.1.1))
  denotes_back file _ _ (slice {o = o} {c = c} {tree = tree} {t = t} h) dots =
      let x = denotes_back file tree t h dots in
      (Slice x.0, (ap Slice x.1.0, slice {o = o} {c = c} {tree = tree} {t = x.0} x.1.1))

  mentions : (file : ℕ) (tree : TypeTree) (rank : ℕ) → Mentions p file tree rank → Mentions q file tree rank
  mentions file _ _ (by_name {n = n} {d = d} {rank = r} bound is) = by_name {n = n} {d = d} {rank = r} (binds file n d bound) (declares_type d r is)
  mentions file _ _ (by_pointer {s = s} {rank = r} {t = t} h) = by_pointer {s = s} {rank = r} {t = t} (mentions file t r h)
  mentions file _ _ (by_slice {o = o} {c = c} {rank = r} {t = t} h) = by_slice {o = o} {c = c} {rank = r} {t = t} (mentions file t r h)

  mentions_back : (file : ℕ) (tree : TypeTree) (rank : ℕ) → Mentions q file tree rank → Mentions p file tree rank
  mentions_back file _ _ (by_name {n = n} {d = d} {rank = r} bound is) =
      by_name {n = n} {d = d} {rank = r} (binds_back file n d bound) (declares_type_back d r is)
  mentions_back file _ _ (by_pointer {s = s} {rank = r} {t = t} h) = by_pointer {s = s} {rank = r} {t = t} (mentions_back file t r h)
  mentions_back file _ _ (by_slice {o = o} {c = c} {rank = r} {t = t} h) = by_slice {o = o} {c = c} {rank = r} {t = t} (mentions_back file t r h)

  -- broken definitions

  written : (rank file : ℕ) (t : TypeTree) → IsWrittenIn p rank file t → IsWrittenIn q rank file t
  written rank file t h = record {
    definition = h.definition;
    has_rank = got_by (package_types p) (package_types q) rank h.definition same_place_types h.has_rank;
    in_file = h.in_file;
    written = h.written;
  }

  written_back : (rank file : ℕ) (t : TypeTree) → IsWrittenIn q rank file t → IsWrittenIn p rank file t
  written_back rank file t h = record {
    definition = h.definition;
    has_rank = got_by (package_types q) (package_types p) rank h.definition (sym same_place_types) h.has_rank;
    in_file = h.in_file;
    written = h.written;
  }

  all_written_dotted : (rank : ℕ) (d : PlacedType) → slice_get (package_types p) rank ≡ Some d → All (IsDotted p d.file) (written_types d.spec.body)
  all_written_dotted rank d at =
      let P : PlacedType → Type 0 = λ x. All (IsDotted p x.file) (written_types x.spec.body) in
      all_got P (package_types p) rank d (recursion_from_All P (package_types p) dotted.definitions) at

  written_dotted : (rank file : ℕ) (t : TypeTree) → IsWrittenIn p rank file t → IsDotted p file t
  written_dotted rank file t h =
      let d = h.definition in
      subst (λ i. IsDotted p i t) h.in_file
      (All-contains (IsDotted p d.file) (written_types d.spec.body) t (all_written_dotted rank d h.has_rank) h.written)

  pub broken : (rank : ℕ) → IsBroken p rank → IsBroken q rank
  broken _ (by_itself {rank = r} {file = f} {t = t} is none) =
      by_itself {rank = r} {file = f} {t = t} (written r f t is)
      (λ u h. let x = denotes_back f t u h (written_dotted r f t is) in none x.0 x.1.1)
  broken _ (through {rank = r} {file = f} {other = o} {t = t} is mention h) =
      through {rank = r} {file = f} {other = o} {t = t} (written r f t is) (mentions f t o mention) (broken o h)

  pub broken_back : (rank : ℕ) → IsBroken q rank → IsBroken p rank
  broken_back _ (by_itself {rank = r} {file = f} {t = t} is none) =
      by_itself {rank = r} {file = f} {t = t} (written_back r f t is)
      (λ u h. none (moved_type g u) (denotes f t u h (written_dotted r f t (written_back r f t is))))
  broken_back _ (through {rank = r} {file = f} {other = o} {t = t} is mention h) =
      through {rank = r} {file = f} {other = o} {t = t} (written_back r f t is) (mentions_back f t o mention) (broken_back o h)

  -- types of type expressions

  pub type_of : (file : ℕ) (tree : TypeTree) (t : PlainType) → IsDotted p file tree → IsTypeOf p file tree t → IsTypeOf q file tree (moved_type g t)
  type_of file tree t dots h =
      record { names = denotes file tree t h.names dots; whole = λ rank m b. h.whole rank (mentions_back file tree rank m) (broken_back rank b) }

  pub type_of_back : (file : ℕ) (tree : TypeTree) (t : PlainType) → IsDotted p file tree → IsTypeOf q file tree t →
      (x : PlainType) × ((t ≡ moved_type g x) × IsTypeOf p file tree x)
  type_of_back file tree t dots h =
      let x = denotes_back file tree t h.names dots in
      (x.0, (x.1.0, record { names = x.1.1; whole = λ rank m b. h.whole rank (mentions file tree rank m) (broken rank b) }))

  pub types_of : (file : ℕ) (trees : List TypeTree) (ts : List PlainType) → All (IsDotted p file) trees → AreTypesOf p file trees ts →
      AreTypesOf q file trees (map (moved_type g) ts)
  types_of file [] [] dots h = tt
  types_of file [] (t ∷ ts) dots h = absurd h
  types_of file (x ∷ xs) [] dots h = absurd h
  types_of file (x ∷ xs) (t ∷ ts) dots h = (
    type_of file x t (All-head (IsDotted p file) x xs dots) h.0,
    types_of file xs ts (All-tail (IsDotted p file) x xs dots) h.1,
  )

  pub types_of_back : (file : ℕ) (trees : List TypeTree) (ts : List PlainType) → All (IsDotted p file) trees → AreTypesOf q file trees ts →
      (us : List PlainType) × ((ts ≡ map (moved_type g) us) × AreTypesOf p file trees us)
  types_of_back file [] [] dots h = ([], (refl, tt))
  types_of_back file [] (t ∷ ts) dots h = absurd h
  types_of_back file (x ∷ xs) [] dots h = absurd h
  types_of_back file (x ∷ xs) (t ∷ ts) dots h =
      let u = type_of_back file x t (All-head (IsDotted p file) x xs dots) h.0 in
      let us = types_of_back file xs ts (All-tail (IsDotted p file) x xs dots) h.1 in
      (u.0 ∷ us.0, (ap2 (λ (y : PlainType) (ys : List PlainType). y ∷ ys) u.1.0 us.1.0, (u.1.1, us.1.1)))

  pub other_dotted : (rank : ℕ) (d : PlacedType) (tree : TypeTree) → slice_get (package_types p) rank ≡ Some d → d.spec.body ≡ Other tree →
      IsDotted p d.file tree
  other_dotted rank d tree at body =
      All-head (IsDotted p d.file) tree []
      (subst (λ (b : BodyTree). All (IsDotted p d.file) (written_types b)) body (all_written_dotted rank d at))
