-- Names and worlds of a moved package's files.
use Rattle.std.proofs.Common.{ℕ, ◌≡◌, Bool, true, false, ◌||◌, List, Option, Some, None, option_map, refl, sym, ap, ◌∙◌, subst}
use Rattle.std.specs.Prelude.{slice_get}
use Rattle.std.specs.Cmp.Lexicographic.{bytes_decides}
use Rattle.std.proofs.lemmas.Bool.{true≢false}
use Rattle.go_ast.specs.SourceFile.{spelling_of}
use Rattle.go_scope.specs.WellFormed.{WellFormed}
use Rattle.types_expr.specs.declared.symbol.Symbol.{Symbol}
use Rattle.types_expr.specs.Types.{PlainType, BasicType, Defined, Pointer, Slice, Underlying, Plain, PointerTo, SliceOf, Signature, Broken, same_path}
use Rattle.types_expr.specs.Types.{Struct as StructOf, Interface as InterfaceOf}
use Rattle.types_expr.specs.Types.{underlying_by}
use Rattle.types_expr.specs.World.{Bound, Definition, Field, Method, struct_of, struct_or_target, field_owner, owner, is_seen, seen_field}
use Rattle.types_expr.specs.World.{seen_method, field_of, method_of, a_method, first_member, member_by}
use Rattle.types_expr.specs.World.{Means as Stands}
use Rattle.types_expr.specs.WorldView.{no_definition}
use Rattle.types_declared.specs.Package.{Package, PlacedType, Export, package_types, symbol_in}
use Rattle.types_declared.specs.Definitions.{AreDefinitions}
use Rattle.types_info.specs.Worlds.{DenotesExport, IsBoundAt, by_scope, by_package, IsName, is_bound, is_unbound}
use Rattle.types_info.proofs.OneMeaning.{one_name}
use Rattle.types_info.proofs.OneWorld.{one_definition, same_tests}
use Rattle.law_changed_types.specs.SameBindings.{IsSelectedAt}
use Rattle.law_changed_types.proofs.Alike.{selected, got_by}
use Rattle.law_changed_types.proofs.Worlds.{layout_formed, tokens_rise}
use Rattle.law_changed_types.specs.Moved.{PathMap, IsInjective, moved_symbol, moved_type, moved_underlying, moved_signature, moved_bound, moved_member}
use Rattle.law_changed_types.proofs.Moving.{Move, ap2, if_moves}
use Rattle.law_changed_types.proofs.TypesMove.{same_paths, underlying_moves}
use Rattle.law_changed_types.specs.MovedPackage.{IsMovedPackage, NamesMove, WorldsMove, moved_export, moved_field, moved_method, moved_definition}
use Rattle.law_changed_types.proofs.Written.{same_place_types, symbols, binds, binds_back, export_moves, export_back}
use Rattle.law_changed_types.proofs.Underlying.{other_path}
use Rattle.law_changed_types.proofs.MovedTypesMeanings.{meaning, meaning_back}
use Rattle.law_changed_types.proofs.Defined.{definition_moves}
use Rattle.law_changed_types.proofs.ImplementingMoves.{implementing_moves, implementing_back}

module _ (g : PathMap) (inj : IsInjective g) (p q : Package) (a : IsMovedPackage g p q) where
  -- names

  denotes_export : (file token : ℕ) (e : Export) → DenotesExport p file token e → DenotesExport q file token (moved_export g e)
  denotes_export file token e h =
      let old : IsSelectedAt p file token = record { identifier = h.identifier; found = h.found; selected = h.selected } in
      let now = selected p q a.size a.layout file token old in
      record {
        before = h.before;
        behind_dot = h.behind_dot;
        identifier = now.identifier;
        found = now.found;
        selected = now.selected;
        exported = export_moves g inj p q a file h.before token e old h.exported;
      }

  denotes_export_back : (file token : ℕ) (e : Export) → DenotesExport q file token e →
      (x : Export) × ((e ≡ moved_export g x) × DenotesExport p file token x)
  denotes_export_back file token e h =
      let old = selected q p (sym a.size) (sym a.layout) file token (record { identifier = h.identifier; found = h.found; selected = h.selected }) in
      let x = export_back g inj p q a file h.before token e old h.exported in (
        x.0,
        (
          x.1.0,
          record {
            before = h.before;
            behind_dot = h.behind_dot;
            identifier = old.identifier;
            found = old.found;
            selected = old.selected;
            exported = x.1.1;
          },
        ),
      )

  bound_at : (file token : ℕ) (b : Bound) → IsBoundAt p file token b → IsBoundAt q file token (moved_bound g b)
  bound_at file token _ (by_scope {declaration = d} {b = b} bound means) =
      by_scope {declaration = d} {b = moved_bound g b} (binds g inj p q a file token d bound) (meaning g inj p q a d b means)
  bound_at file token _ (by_package {e = e} h) = by_package {e = moved_export g e} (denotes_export file token e h)

  bound_at_back : (file token : ℕ) (b : Bound) → IsBoundAt q file token b → (x : Bound) × ((b ≡ moved_bound g x) × IsBoundAt p file token x)
  bound_at_back file token _ (by_scope {declaration = d} {b = b} bound means) =
      let x = meaning_back g inj p q a d b means in
      (x.0, (x.1.0, by_scope {declaration = d} {b = x.0} (binds_back g inj p q a file token d bound) x.1.1))
  bound_at_back file token _ (by_package {e = e} h) =
      let x = denotes_export_back file token e h in
      (Stands x.0.meaning, (ap (λ (y : Export). Stands y.meaning) x.1.0, by_package {e = x.0} x.1.1))

  pub name_moves : (file token : ℕ) (b : Bound) → IsName p file token b → IsName q file token (moved_bound g b)
  name_moves file token _ (is_bound {b = b} h) = is_bound {b = moved_bound g b} (bound_at file token b h)
  name_moves file token _ (is_unbound none) = is_unbound (λ b h. let x = bound_at_back file token b h in none x.0 x.1.1)

  pub name_back : (file token : ℕ) (b : Bound) → IsName q file token b → (x : Bound) × ((b ≡ moved_bound g x) × IsName p file token x)
  name_back file token _ (is_bound {b = b} h) =
      let x = bound_at_back file token b h in
      (x.0, (x.1.0, is_bound {b = x.0} x.1.1))
  name_back file token _ (is_unbound none) =
      (Stands Broken, (refl, is_unbound (λ b h. none (moved_bound g b) (bound_at file token b h))))

  -- definitions

  now_formed : WellFormed q.layout
  now_formed = subst WellFormed (sym a.layout) (layout_formed p a.parsed)

  by_rank : (c d : Symbol → Definition) → AreDefinitions p c → AreDefinitions q d → (rank : ℕ) (o : Option PlacedType) →
      slice_get (package_types p) rank ≡ o → d (symbol_in q rank) ≡ moved_definition g (c (symbol_in p rank))
  by_rank c d before after rank None at =
      let none : slice_get (package_types q) rank ≡ None = ap (λ ts. slice_get ts rank) (same_place_types g inj p q a) ∙ at in
      after.beyond rank none
      ∙ ap no_definition (symbols g inj p q a rank)
      ∙ ap (moved_definition g) (sym (before.beyond rank at))
  by_rank c d before after rank (Some t) at =
      one_definition q now_formed rank (d (symbol_in q rank)) (moved_definition g (c (symbol_in p rank)))
      (after.own rank t (got_by (package_types p) (package_types q) rank t (same_place_types g inj p q a) at))
      (definition_moves g inj p q a rank (c (symbol_in p rank)) (before.own rank t at))

  by_path : (c d : Symbol → Definition) → AreDefinitions p c → AreDefinitions q d → (s : Symbol) (own : Bool) → same_path s.package p.path ≡ own →
      d (moved_symbol g s) ≡ moved_definition g (c s)
  by_path c d before after s true e =
      let is : s ≡ symbol_in p s.rank = ap (λ path. record { «package» = path; rank = s.rank }) ((bytes_decides s.package p.path).0 e) in
      ap (λ x. d (moved_symbol g x)) is
      ∙ ap d (sym (symbols g inj p q a s.rank))
      ∙ by_rank c d before after s.rank (slice_get (package_types p) s.rank) refl
      ∙ ap (λ x. moved_definition g (c x)) (sym is)
  by_path c d before after s false e =
      let other : s.package ≡ p.path → ⊥ = λ h. true≢false (sym ((bytes_decides s.package p.path).1 h) ∙ e) in
      after.imported (g s.package) s.rank (other_path g inj p q a s.package other)
      ∙ a.definitions s.package s.rank
      ∙ ap (moved_definition g) (sym (before.imported s.package s.rank other))

  pub same_definitions : (c d : Symbol → Definition) → AreDefinitions p c → AreDefinitions q d → (s : Symbol) →
      d (moved_symbol g s) ≡ moved_definition g (c s)
  same_definitions c d before after s = by_path c d before after s (same_path s.package p.path) refl

-- members

struct_moves : (g : PathMap) (u : Underlying) → struct_of (moved_underlying g u) ≡ option_map (moved_symbol g) (struct_of u)
struct_moves g (Plain b) = refl
struct_moves g (PointerTo t) = refl
struct_moves g (SliceOf t) = refl
struct_moves g (InterfaceOf s) = refl
struct_moves g (StructOf s) = refl

target_moves : (m : Move) (u : Underlying) →
    struct_or_target m.new.definition (moved_underlying m.path u) ≡ option_map (moved_symbol m.path) (struct_or_target m.old.definition u)
target_moves m (Plain b) = refl
target_moves m (PointerTo t) = ap struct_of (underlying_moves m t) ∙ struct_moves m.path (underlying_by m.old.definition t)
target_moves m (SliceOf t) = refl
target_moves m (InterfaceOf s) = refl
target_moves m (StructOf s) = refl

field_owner_moves : (m : Move) (t : PlainType) →
    field_owner m.new.definition (moved_type m.path t) ≡ option_map (moved_symbol m.path) (field_owner m.old.definition t)
unfolding field_owner
field_owner_moves m t = ap (struct_or_target m.new.definition) (underlying_moves m t) ∙ target_moves m (underlying_by m.old.definition t)

owner_moves : (g : PathMap) (t : PlainType) → owner (moved_type g t) ≡ option_map (moved_symbol g) (owner t)
unfolding owner
owner_moves g (BasicType b) = refl
owner_moves g (Defined s) = refl
owner_moves g (Pointer (BasicType b)) = refl
owner_moves g (Pointer (Defined s)) = refl
owner_moves g (Pointer (Pointer t)) = refl
owner_moves g (Pointer (Slice t)) = refl
owner_moves g (Slice t) = refl

seen_stays : (m : Move) (own now : List ℕ) (s : Symbol) (e : Bool) → now ≡ m.path own → is_seen now (moved_symbol m.path s) e ≡ is_seen own s e
seen_stays m own now s e at = ap (λ (b : Bool). e || b) (ap (λ path. same_path path (m.path s.package)) at ∙ same_paths m own s.package)

seen_field_moves : (m : Move) (own now : List ℕ) (f : Option Field) → now ≡ m.path own →
    seen_field now (option_map (moved_field m.path) f) ≡ option_map (moved_field m.path) (seen_field own f)
seen_field_moves m own now None at = refl
seen_field_moves m own now (Some f) at =
    if_moves (option_map (moved_field m.path)) (is_seen own f.symbol f.exported) _ (Some f) None (seen_stays m own now f.symbol f.exported at)

seen_method_moves : (m : Move) (own now : List ℕ) (f : Option Method) → now ≡ m.path own →
    seen_method now (option_map (moved_method m.path) f) ≡ option_map (moved_method m.path) (seen_method own f)
seen_method_moves m own now None at = refl
seen_method_moves m own now (Some f) at =
    if_moves (option_map (moved_method m.path)) (is_seen own f.symbol f.exported) _ (Some f) None (seen_stays m own now f.symbol f.exported at)

a_method_moves : (g : PathMap) (s : Symbol) (o : Bool) (x : Option Signature) →
    a_method (moved_symbol g s) o (option_map (moved_signature g) x) ≡ moved_member g (a_method s o x)
a_method_moves g s o None = refl
a_method_moves g s o (Some x) = refl

first_moves : (g : PathMap) (f : Option Field) (x : Option Method) →
    first_member (option_map (moved_field g) f) (option_map (moved_method g) x) ≡ option_map (moved_member g) (first_member f x)
first_moves g (Some f) x = refl
first_moves g None None = refl
first_moves g None (Some x) = ap Some (a_method_moves g x.symbol x.on_pointer x.signature)

module _ (m : Move) (c d : Symbol → Definition) (same : (s : Symbol) → d (moved_symbol m.path s) ≡ moved_definition m.path (c s)) (own now : List ℕ)
    (at : now ≡ m.path own) where
  field_moves : (name : List ℕ) (s : Option Symbol) →
      field_of d now name (option_map (moved_symbol m.path) s) ≡ option_map (moved_field m.path) (field_of c own name s)
  field_moves name None = refl
  field_moves name (Some s) = ap (λ (x : Definition). seen_field now (x.field name)) (same s) ∙ seen_field_moves m own now ((c s).field name) at

  method_moves : (name : List ℕ) (s : Option Symbol) →
      method_of d now name (option_map (moved_symbol m.path) s) ≡ option_map (moved_method m.path) (method_of c own name s)
  method_moves name None = refl
  method_moves name (Some s) = ap (λ (x : Definition). seen_method now (x.method name)) (same s) ∙ seen_method_moves m own now ((c s).method name) at

  pub member_moves : (name : List ℕ) (t : PlainType) (f : Option Symbol) →
      field_owner (λ s. (d s).underlying) (moved_type m.path t) ≡ option_map (moved_symbol m.path) f → field_owner (λ s. (c s).underlying) t ≡ f →
      member_by d now name (moved_type m.path t) ≡ option_map (moved_member m.path) (member_by c own name t)
  unfolding member_by
  member_moves name t f is was =
      ap2 first_member (ap (field_of d now name) is ∙ field_moves name f ∙ ap (λ x. option_map (moved_field m.path) (field_of c own name x)) (sym was))
      (ap (method_of d now name) (owner_moves m.path t) ∙ method_moves name (owner t))
      ∙ first_moves m.path (field_of c own name (field_owner (λ s. (c s).underlying) t)) (method_of c own name (owner t))

-- the laws

pub names_move : NamesMove
names_move g inj p q a file token =
    record { forth = λ b h. name_moves g inj p q a file token b h; back = λ b h. name_back g inj p q a file token b h }

pub worlds_move : WorldsMove
worlds_move g inj p q a file f h v w before after uses spelled =
    let c = before.definitions in
    let d = after.definitions in
    let same = same_definitions g inj p q a c d before.are_definitions after.are_definitions in
    let bound : (token : ℕ) → w.bound token ≡ moved_bound g (v.bound token) = λ token.
    let x = name_back g inj p q a file token (w.bound token) (after.names token) in
    x.1.0 ∙ ap (moved_bound g)
    (one_name p (layout_formed p a.parsed) (tokens_rise p a.parsed) file token x.0 (v.bound token) x.1.1 (before.names token)) in
    let m : Move = record {
      path = g;
      injective = inj;
      old = record { bound = v.bound; member = v.member; definition = λ s. (c s).underlying; implements = λ t s. false };
      new = record { bound = w.bound; member = w.member; definition = λ s. (d s).underlying; implements = λ t s. false };
      bound = bound;
      definition = λ s. ap (λ (x : Definition). x.underlying) (same s);
      implements = λ t s. refl;
    } in
    record {
      bound = bound;
      definition = λ s.
          after.definition (moved_symbol g s)
          ∙ ap (λ (x : Definition). x.underlying) (same s)
          ∙ ap (moved_underlying g) (sym (before.definition s));
      implements = λ t s.
          same_tests (w.implements (moved_type g t) (moved_symbol g s)) (v.implements t s)
          (λ e. (before.implements t s).1 (implementing_back m c d same t s ((after.implements (moved_type g t) (moved_symbol g s)).0 e)))
          (λ e. (after.implements (moved_type g t) (moved_symbol g s)).1 (implementing_moves m c d same t s ((before.implements t s).0 e)));
      members = λ u inside.
          let name = spelling_of f u.place in
          after.member u.place (moved_type g u.before)
          ∙ ap (λ n. member_by d q.path n (moved_type g u.before)) (spelled u inside)
          ∙ member_moves m c d same p.path q.path a.path name u.before (field_owner (λ s. (c s).underlying) u.before)
          (field_owner_moves m u.before) refl
          ∙ ap (option_map (moved_member g)) (sym (before.member u.place u.before));
    }
