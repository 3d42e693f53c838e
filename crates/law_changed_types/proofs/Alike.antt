-- Packages that are bound alike, as a relation that can be turned round; the declarations to which their tokens are bound.
use Rattle.std.proofs.Common.{ℕ, suc, ◌≡◌, ◌↔◌, List, true, ap, sym, ◌∙◌, subst}
use Rattle.std.specs.Prelude.{All, Some, slice_get}
use Rattle.std.proofs.lemmas.List.Elements.{All-weaker}
use Rattle.go_ast.specs.Tree.{TypeTree, Local, Imported, Pointer, Slice}
use Rattle.go_scope.specs.declared.model.Position.{Position}
use Rattle.go_scope.specs.Bindings.{Layout, Names, IsBoundTo, is_implied, block_of}
use Rattle.go_scope.specs.Table.{IsFoundAt}
use Rattle.law_rename.specs.Renaming.{HasSameBindings}
use Rattle.types_declared.specs.Package.{Package, Export, PlacedVariable, PlacedType, PlacedFunction, IsRanked, symbol_in, spelled}
use Rattle.types_declared.specs.Package.{package_variables, package_types, package_functions}
use Rattle.types_declared.specs.Written.{BindsToken, IsPredeclared, DeclaresImport, IsExportAt, written_types}
use Rattle.types_declared.specs.MeaningOf.{parameter_types, result_types}
use Rattle.law_changed_types.specs.SameBindings.{IsSelectedAt, IsDotted, AreTypesDotted, IsBoundAlike}
use Rattle.law_changed_types.proofs.Dotted.{types_dotted}
use Rattle.law_changed_types.proofs.Listed.{same_variables, same_types, same_functions}

-- q is to p as p is to q
pub record Alike (p q : Package) : Type 0 where
  pub path : q.path ≡ p.path
  pub size : q.size ≡ p.size
  pub layout : q.layout ≡ p.layout
  pub variables : package_variables q ≡ package_variables p
  pub types : package_types q ≡ package_types p
  pub functions : package_functions q ≡ package_functions p
  pub bindings : HasSameBindings p.layout p.names q.names
  pub predeclared : (d : ℕ) → is_implied (p.layout.role d) ≡ true → q.names d ≡ p.names d
  pub imports : (d : ℕ) (path : List ℕ) → DeclaresImport p d path ↔ DeclaresImport q d path
  pub dotted : AreTypesDotted p
  pub sees : (d file token : ℕ) (path : List ℕ) (e : Export) → BindsToken p file token d → DeclaresImport p d path →
      IsSelectedAt p file (suc (suc token)) →
      ((p.export_data_of path).exported (spelled p file (suc (suc token))) ≡ Some e) ↔
      ((q.export_data_of path).exported (spelled q file (suc (suc token))) ≡ Some e)
  pub underlying : (path : List ℕ) (rank : ℕ) →
      ((q.export_data_of path).definition rank).underlying ≡ ((p.export_data_of path).definition rank).underlying

pub of_bound : (p q : Package) → IsBoundAlike p q → Alike p q
of_bound p q a = record {
  path = a.path;
  size = a.size;
  layout = a.layout;
  variables = same_variables p.files q.files a.trees;
  types = same_types p.files q.files a.trees;
  functions = same_functions p.files q.files a.trees;
  bindings = a.bindings;
  predeclared = a.predeclared;
  imports = a.imports;
  dotted = types_dotted p a.parsed;
  sees = a.sees;
  underlying = a.underlying;
}

-- by layouts

pub found_by : (l k : Layout) (m n : ℕ) (at : Position) (u : ℕ) → k ≡ l → n ≡ m → IsFoundAt l m at u → IsFoundAt k n at u
found_by l k m n at u layout size found =
    subst (λ (x : Layout). IsFoundAt x n at u) (sym layout) (subst (λ i. IsFoundAt l i at u) (sym size) found)

bound_by : (l k : Layout) (names : Names) (u d : ℕ) → k ≡ l → IsBoundTo l names u d → IsBoundTo k names u d
bound_by l k names u d layout bound = subst (λ (x : Layout). IsBoundTo x names u d) (sym layout) bound

same_role : (l k : Layout) (d : ℕ) → k ≡ l → k.role d ≡ l.role d
same_role l k d layout = ap (λ (x : Layout). x.role d) layout

pub ranked_by : {X : Type 0} (place_of : X → Position) (xs ys : List X) (l k : Layout) (d rank : ℕ) → ys ≡ xs → k ≡ l → IsRanked place_of xs l d rank →
    IsRanked place_of ys k d rank
ranked_by place_of xs ys l k d rank list layout h =
    subst (λ zs. IsRanked place_of zs k d rank) (sym list) (subst (λ (x : Layout). IsRanked place_of xs x d rank) (sym layout) h)

pub got_by : {X : Type 0} (xs ys : List X) (rank : ℕ) (x : X) → ys ≡ xs → slice_get xs rank ≡ Some x → slice_get ys rank ≡ Some x
got_by xs ys rank x list at = ap (λ zs. slice_get zs rank) list ∙ at

module _ (p q : Package) (size : q.size ≡ p.size) (layout : q.layout ≡ p.layout) where
  pub selected : (file token : ℕ) → IsSelectedAt p file token → IsSelectedAt q file token
  selected file token s = record {
    identifier = s.identifier;
    found = found_by p.layout q.layout p.size q.size (record { file = file; index = token }) s.identifier layout size s.found;
    selected = same_role p.layout q.layout s.identifier layout ∙ s.selected;
  }

  pub dotted : (file : ℕ) (t : TypeTree) → IsDotted p file t → IsDotted q file t
  dotted file (Local n) h = tt
  dotted file (Imported u d n) h = (h.0, selected file n h.1)
  dotted file (Pointer s t) h = dotted file t h
  dotted file (Slice o c t) h = dotted file t h

  all_dotted : (file : ℕ) (ts : List TypeTree) → All (IsDotted p file) ts → All (IsDotted q file) ts
  all_dotted file ts h = All-weaker (IsDotted p file) (IsDotted q file) (dotted file) ts h

types_dotted_too : (p q : Package) → Alike p q → AreTypesDotted q
types_dotted_too p q a = record {
  variables = subst (All (λ (v : PlacedVariable). IsDotted q v.file v.type_use)) (sym a.variables)
      (All-weaker (λ (v : PlacedVariable). IsDotted p v.file v.type_use) (λ v. IsDotted q v.file v.type_use)
      (λ v h. dotted p q a.size a.layout v.file v.type_use h) (package_variables p) a.dotted.variables);
  definitions = subst (All (λ (d : PlacedType). All (IsDotted q d.file) (written_types d.spec.body))) (sym a.types)
      (All-weaker (λ (d : PlacedType). All (IsDotted p d.file) (written_types d.spec.body)) (λ d. All (IsDotted q d.file) (written_types d.spec.body))
      (λ d h. all_dotted p q a.size a.layout d.file (written_types d.spec.body) h) (package_types p) a.dotted.definitions);
  parameters = subst (All (λ (f : PlacedFunction). All (IsDotted q f.file) (parameter_types f.function.params))) (sym a.functions)
      (All-weaker (λ (f : PlacedFunction). All (IsDotted p f.file) (parameter_types f.function.params))
      (λ f. All (IsDotted q f.file) (parameter_types f.function.params))
      (λ f h. all_dotted p q a.size a.layout f.file (parameter_types f.function.params) h) (package_functions p) a.dotted.parameters);
  results = subst (All (λ (f : PlacedFunction). All (IsDotted q f.file) (result_types f.function.result))) (sym a.functions)
      (All-weaker (λ (f : PlacedFunction). All (IsDotted p f.file) (result_types f.function.result))
      (λ f. All (IsDotted q f.file) (result_types f.function.result))
      (λ f h. all_dotted p q a.size a.layout f.file (result_types f.function.result) h) (package_functions p) a.dotted.results);
}

-- tokens

pub tokens : (p q : Package) → Alike p q → (file token d : ℕ) → BindsToken p file token d → BindsToken q file token d
tokens p q a file token d b = record {
  identifier = b.identifier;
  found = found_by p.layout q.layout p.size q.size (record { file = file; index = token }) b.identifier a.layout a.size b.found;
  bound = bound_by p.layout q.layout q.names b.identifier d a.layout ((a.bindings b.identifier d).0 b.bound);
}

tokens_back : (p q : Package) → Alike p q → (file token d : ℕ) → BindsToken q file token d → BindsToken p file token d
tokens_back p q a file token d b = record {
  identifier = b.identifier;
  found = found_by q.layout p.layout q.size p.size (record { file = file; index = token }) b.identifier (sym a.layout) (sym a.size) b.found;
  bound = (a.bindings b.identifier d).1 (bound_by q.layout p.layout q.names b.identifier d (sym a.layout) b.bound);
}

pub turned : (p q : Package) → Alike p q → Alike q p
turned p q a = record {
  path = sym a.path;
  size = sym a.size;
  layout = sym a.layout;
  variables = sym a.variables;
  types = sym a.types;
  functions = sym a.functions;
  bindings = λ u e. (
    (λ b. bound_by p.layout q.layout p.names u e a.layout ((a.bindings u e).1 (bound_by q.layout p.layout q.names u e (sym a.layout) b))),
    (λ b. bound_by p.layout q.layout q.names u e a.layout ((a.bindings u e).0 (bound_by q.layout p.layout p.names u e (sym a.layout) b))),
  );
  predeclared = λ d implied. sym (a.predeclared d (ap is_implied (sym (same_role p.layout q.layout d a.layout)) ∙ implied));
  imports = λ d path. ((a.imports d path).1, (a.imports d path).0);
  dotted = types_dotted_too p q a;
  sees = λ d file token path e b i s.
      let both = a.sees d file token path e (tokens_back p q a file token d b) ((a.imports d path).1 i)
      (selected q p (sym a.size) (sym a.layout) file (suc (suc token)) s) in
      (both.1, both.0);
  underlying = λ path rank. sym (a.underlying path rank);
}

pub symbols : (p q : Package) → Alike p q → (rank : ℕ) → symbol_in q rank ≡ symbol_in p rank
symbols p q a rank = ap (λ path. record { «package» = path; rank = rank }) a.path

pub is_predeclared : (p q : Package) → Alike p q → (d : ℕ) (name : List ℕ) → IsPredeclared p d name → IsPredeclared q d name
is_predeclared p q a d name h = record {
  implied = ap is_implied (same_role p.layout q.layout d a.layout) ∙ h.implied;
  universe = ap block_of (same_role p.layout q.layout d a.layout) ∙ h.universe;
  named = a.predeclared d h.implied ∙ h.named;
}

-- exports of imported packages

next_export : (p q : Package) → Alike p q → (file token : ℕ) (e : Export) → IsSelectedAt p file (suc (suc token)) →
    IsExportAt p file token (suc (suc token)) e → IsExportAt q file token (suc (suc token)) e
next_export p q a file token e s h =
    let of_import = h.of_import in
    record {
      import = h.import;
      binds = tokens p q a file token h.import h.binds;
      of_import = record {
        path = of_import.path;
        imports = (a.imports h.import of_import.path).0 of_import.imports;
        exported = (a.sees h.import file token of_import.path e h.binds of_import.imports s).0 of_import.exported;
      };
    }

pub exports : (p q : Package) → Alike p q → (file token name : ℕ) (e : Export) → name ≡ suc (suc token) → IsSelectedAt p file name →
    IsExportAt p file token name e → IsExportAt q file token name e
exports p q a file token name e at s h =
    subst (λ n. IsExportAt q file token n e) (sym at)
    (next_export p q a file token e (subst (λ n. IsSelectedAt p file n) at s) (subst (λ n. IsExportAt p file token n e) at h))
