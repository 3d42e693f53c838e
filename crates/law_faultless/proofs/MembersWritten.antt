-- The members that type definitions write: each type expression of a member is one of its definition. So in a package of a workspace without
-- faults each member has what it is written with: a field a type, and a method that an interface asks for a signature.
use Rattle.std.proofs.Common.{ℕ, zero, suc, ◌≡◌, ◌+◌, inl, inr, List, [], ◌∷◌, map, sym, subst, refl, arith}
use Rattle.std.specs.Prelude.{Contains, Some, slice_get}
use Rattle.std.proofs.lemmas.Option.{none-some, same_Some}
use Rattle.base_lemmas.proofs.Elements.{first_in, later_in}
use Rattle.base_files.specs.Workspace.{Workspace}
use Rattle.go_ast.specs.Tree.{Item, IdentTree, TypeTree, FieldTree, MethodTree, ParamTree, BodyTree, Other, Struct, Interface}
use Rattle.types_expr.specs.Types.{PlainType, WrittenAs, AFieldOf, AMethodOf}
use Rattle.types_declared.specs.Package.{Package, PlacedType, package_types}
use Rattle.types_declared.specs.Written.{written_types, signature_types, result_types, IsWrittenIn, IsTypeOf, by_itself}
use Rattle.types_declared.specs.MeaningOf.{parameter_types, AreTypesOf}
use Rattle.types_declared.specs.Definitions.{PlacedField, WrittenForm, OfType, OfSignature, HasForm, body_fields, fields_from, package_fields}
use Rattle.types_info.proofs.DeclKinds.{Holds, holds_got, holds_append, holds_flat, holds_map, held_left, held_right, held_flat, held_map}
use Rattle.workspace_check.specs.FaultLists.{ListsFaults}
use Rattle.workspace_check.specs.Verdicts.{Verdicts, AreVerdicts}
use Rattle.refs_binding.specs.Uses.{IsCheckedPackage}
use Rattle.law_faultless.proofs.PackageWorlds.{not_broken}

holds_contains : {X : Type 0} (xs : List X) (x : X) → Holds xs x → Contains xs x
holds_contains [] x h = absurd h
holds_contains (y ∷ ys) x h = elim h [
  | inl e ↦ subst (Contains (y ∷ ys)) e (first_in y ys)
  | inr later ↦ later_in y ys x (holds_contains ys x later)
]

-- the type expressions of a member
abbrev pub form_types : WrittenForm → List TypeTree
form_types (OfType t) = t ∷ []
form_types (OfSignature ps r) = signature_types ps r

record IsInBody (definition file : ℕ) (b : BodyTree) (f : PlacedField) : Type 0 where
  of_struct : f.definition ≡ definition
  in_file : file ≡ f.file
  types : (t : TypeTree) → Holds (form_types f.form) t → Holds (written_types b) t

-- a member of a method, and one of a field
abbrev pub member_asked : (definition file : ℕ) → Item MethodTree → PlacedField
member_asked definition file m = record {
  definition = definition;
  file = file;
  name = m.value.name;
  form = OfSignature m.value.params m.value.result;
}

abbrev member_typed : (definition file : ℕ) → TypeTree → Item ℕ → PlacedField
member_typed definition file t n = record { definition = definition; file = file; name = n.value; form = OfType t }

in_body : (definition file : ℕ) (b : BodyTree) (f : PlacedField) → Holds (body_fields definition file b) f → IsInBody definition file b f
in_body definition file (Other t) f h = absurd h
in_body definition file (Interface k o ms c) f h =
    let i = holds_map (member_asked definition file) ms f h in
    let own : (t : TypeTree) → Holds (signature_types i.0.value.params i.0.value.result) t → Holds (written_types (Interface k o ms c)) t =
    λ t is. held_flat (λ (m : Item MethodTree). signature_types m.value.params m.value.result) ms i.0 t i.1.0 is in
    subst (IsInBody definition file (Interface k o ms c)) i.1.1 (record { of_struct = refl; in_file = refl; types = own })
in_body definition file (Struct k o fs c) f h =
    let x = holds_flat (λ (i : Item FieldTree). map (member_typed definition file i.value.type_use) i.value.names) fs f h in
    let n = holds_map (member_typed definition file x.0.value.type_use) x.0.value.names f x.1.1 in
    let types : List TypeTree = map (λ (i : Item FieldTree). i.value.type_use) fs in
    let own : (t : TypeTree) → Holds (x.0.value.type_use ∷ []) t → Holds types t =
    λ t is. elim is [
      | inl e ↦ subst (Holds types) e (held_map (λ (i : Item FieldTree). i.value.type_use) fs x.0 x.1.0)
      | inr none ↦ absurd none
    ] in
    subst (IsInBody definition file (Struct k o fs c)) n.1.1 (record { of_struct = refl; in_file = refl; types = own })

record IsInTypes (first : ℕ) (ds : List PlacedType) (f : PlacedField) : Type 0 where
  rank : ℕ
  definition : PlacedType
  has_rank : slice_get ds rank ≡ Some definition
  of_struct : f.definition ≡ first + rank
  in_file : definition.file ≡ f.file
  types : (t : TypeTree) → Holds (form_types f.form) t → Holds (written_types definition.spec.body) t

in_types : (first : ℕ) (ds : List PlacedType) (f : PlacedField) → Holds (fields_from first ds) f → IsInTypes first ds f
in_types first [] f h = absurd h
in_types first (d ∷ ds) f h = elim (holds_append (body_fields first d.file d.spec.body) (fields_from (suc first) ds) f h) [
  | inl here ↦ (let b = in_body first d.file d.spec.body f here in record {
    rank = 0;
    definition = d;
    has_rank = refl;
    of_struct = let e : f.definition ≡ first = b.of_struct in omega (arith, e);
    in_file = b.in_file;
    types = b.types;
  })
  | inr later ↦ (let t = in_types (suc first) ds f later in record {
    rank = suc t.rank;
    definition = t.definition;
    has_rank = t.has_rank;
    of_struct = let e : f.definition ≡ suc first + t.rank = t.of_struct in omega (arith, e);
    in_file = t.in_file;
    types = t.types;
  })
]

-- The type definition that writes a member, with the member's type expressions among its own.
pub record IsMemberWritten (p : Package) (f : PlacedField) : Type 0 where
  pub definition : PlacedType
  pub has_rank : slice_get (package_types p) f.definition ≡ Some definition
  pub in_file : definition.file ≡ f.file
  pub types : (t : TypeTree) → Holds (form_types f.form) t → Contains (written_types definition.spec.body) t

pub field_is_written : (p : Package) (rank : ℕ) (f : PlacedField) → slice_get (package_fields p) rank ≡ Some f → IsMemberWritten p f
field_is_written p rank f at =
    let t = in_types 0 (package_types p) f (holds_got (package_fields p) rank f at) in
    let same : t.rank ≡ f.definition = let e : f.definition ≡ 0 + t.rank = t.of_struct in omega (arith, e) in
    record {
      definition = t.definition;
      has_rank = subst (λ n. slice_get (package_types p) n ≡ Some t.definition) same t.has_rank;
      in_file = t.in_file;
      types = λ x is. holds_contains (written_types t.definition.spec.body) x (t.types x is);
    }

-- what the body of a type definition writes is written in the package
pub member_held : (first : ℕ) (ds : List PlacedType) (rank : ℕ) (d : PlacedType) → slice_get ds rank ≡ Some d → (f : PlacedField) →
    Holds (body_fields (first + rank) d.file d.spec.body) f → Holds (fields_from first ds) f
member_held first [] rank d at f h = absurd (none-some d at)
member_held first (x ∷ ds) zero d at f h =
    let same : first + 0 ≡ first = omega arith in
    held_left (body_fields first x.file x.spec.body) (fields_from (suc first) ds) f
    (subst (λ (z : PlacedType). Holds (body_fields first z.file z.spec.body) f) (sym (same_Some x d at))
    (subst (λ n. Holds (body_fields n d.file d.spec.body) f) same h))
member_held first (x ∷ ds) (suc rank) d at f h =
    let same : first + suc rank ≡ suc first + rank = omega arith in
    held_right (body_fields first x.file x.spec.body) (fields_from (suc first) ds) f
    (member_held (suc first) ds rank d at f (subst (λ n. Holds (body_fields n d.file d.spec.body) f) same h))

-- So is each method that an interface asks for.
pub asked_held : (p : Package) (rank : ℕ) (d : PlacedType) → slice_get (package_types p) rank ≡ Some d → (k o c : ℕ) (ms : List (Item MethodTree)) →
    d.spec.body ≡ Interface k o ms c → (i : Item MethodTree) → Holds ms i → Holds (package_fields p) (member_asked rank d.file i)
asked_held p rank d at k o c ms body i among =
    let f = member_asked rank d.file i in
    let here : Holds (body_fields rank d.file d.spec.body) f =
    subst (λ b. Holds (body_fields rank d.file b) f) (sym body) (held_map (member_asked rank d.file) ms i among) in
    let same : rank ≡ 0 + rank = omega arith in
    member_held 0 (package_types p) rank d at f (subst (λ n. Holds (body_fields n d.file d.spec.body) f) same here)

-- the type expression of a parameter stands once for each of its names
parameter_written : (ps : List (Item ParamTree)) (t : TypeTree) → Holds (parameter_types ps) t → Holds (map (λ i. i.value.type_use) ps) t
parameter_written ps t h =
    let x = holds_flat (λ (i : Item ParamTree). map (λ (n : Item IdentTree). i.value.type_use) i.value.names) ps t h in
    let n = holds_map (λ (n : Item IdentTree). x.0.value.type_use) x.0.value.names t x.1.1 in
    subst (Holds (map (λ (i : Item ParamTree). i.value.type_use) ps)) n.1.1 (held_map (λ (i : Item ParamTree). i.value.type_use) ps x.0 x.1.0)

module _ (w : Workspace) (sound : ListsFaults w []) (known : Verdicts) (right : AreVerdicts w known) (p : Package) (is : IsCheckedPackage w known p)
    (rank file : ℕ) where
  type_found : (t : TypeTree) → IsWrittenIn p rank file t → ((u : PlainType) → IsTypeOf p file t u → ⊥) → ⊥
  type_found t written none =
      let whole = not_broken w sound known right p is in
      whole rank (by_itself written (λ u names. none u (record { names = names; whole = λ n m b. whole n b })))

  types_found : (ts : List TypeTree) → ((t : TypeTree) → Holds ts t → IsWrittenIn p rank file t) → ((us : List PlainType) → AreTypesOf p file ts us → ⊥) → ⊥
  types_found [] each none = none [] tt
  types_found (t ∷ ts) each none =
      type_found t (each t (inl refl)) (λ u own. types_found ts (λ x h. each x (inr h)) (λ us are. none (u ∷ us) (own, are)))

  form_found : (form : WrittenForm) → ((t : TypeTree) → Holds (form_types form) t → IsWrittenIn p rank file t) →
      ((t : WrittenAs) → HasForm p file form t → ⊥) → ⊥
  form_found (OfType t) each none = type_found t (each t (inl refl)) (λ u h. none (AFieldOf u) h)
  form_found (OfSignature ps r) each none =
      let types : List TypeTree = map (λ (i : Item ParamTree). i.value.type_use) ps in
      let params : (t : TypeTree) → Holds (parameter_types ps) t → IsWrittenIn p rank file t =
      λ t h. each t (held_left types (result_types r) t (parameter_written ps t h)) in
      let given : (t : TypeTree) → Holds (result_types r) t → IsWrittenIn p rank file t = λ t h. each t (held_right types (result_types r) t h) in
      types_found (parameter_types ps) params (λ us are. types_found (result_types r) given
      (λ vs also. none (AMethodOf (record { parameters = us; results = vs })) (record { parameters = are; results = also })))

-- A member has a type or a signature.
pub member_found : (w : Workspace) → ListsFaults w [] → (known : Verdicts) → AreVerdicts w known → (p : Package) → IsCheckedPackage w known p →
    (rank : ℕ) (f : PlacedField) → slice_get (package_fields p) rank ≡ Some f → ((t : WrittenAs) → HasForm p f.file f.form t → ⊥) → ⊥
member_found w sound known right p is rank f at none =
    let h = field_is_written p rank f at in
    form_found w sound known right p is f.definition f.file f.form
    (λ t own. record { definition = h.definition; has_rank = h.has_rank; in_file = h.in_file; written = h.types t own }) none
