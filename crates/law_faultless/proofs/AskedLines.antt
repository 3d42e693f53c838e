-- The names in objects of the methods that the interfaces of a file ask for, by the tokens of their names.
use Rattle.std.proofs.Common.{ℕ, zero, suc, ◌≡◌, ◌+◌, ◌==◌, inl, inr, Bool, true, false, if◌then◌else◌, List, [], ◌∷◌, map, ap, sym, subst, refl, ◌∙◌, arith}
use Rattle.std.proofs.Common.{eq-eqb}
use Rattle.std.specs.Prelude.{Some, slice_get}
use Rattle.std.proofs.lemmas.Bool.{true≢false, eqb-true}
use Rattle.std.proofs.lemmas.Option.{none-some, same_Some}
use Rattle.go_ast.specs.SourceFile.{SourceFile}
use Rattle.go_ast.specs.Tree.{Item, MethodTree, BodyTree, Other, Struct, Interface}
use Rattle.go_scope.specs.declared.model.Position.{Position}
use Rattle.types_declared.specs.Definitions.{PlacedField, OfSignature, body_fields, fields_from, package_fields}
use Rattle.types_declared.specs.Package.{Package, PlacedType, declared_types, package_types}
use Rattle.types_info.specs.Uniqueness.{TokensRise}
use Rattle.types_info.proofs.DeclKinds.{Holds, holds_flat, holds_map, held_left, held_right, held_flat, held_map}
use Rattle.refs_binding.specs.Binding.{field_place}
use Rattle.refs_lookup.proofs.MembersApart.{one_field}
use Rattle.build_object.specs.Lines.{FunctionName, Method}
use Rattle.build_object.specs.Names.{MethodAsked, spelled_in, name_of_type, asked_by_body, asked_if, asked_in_file}
use Rattle.build_object.specs.Sources.{asked_there}
use Rattle.law_faultless.proofs.GlobalsDecided.{held_number}

-- the methods that a body asks for
abbrev pub methods_of : BodyTree → List (Item MethodTree)
methods_of (Other t) = []
methods_of (Struct k o fs c) = []
methods_of (Interface k o ms c) = ms

-- what is found at a token, where all that stands there has one name

there_by : (x : MethodAsked) (xs : List MethodAsked) (token : ℕ) (b : Bool) → (x.place == token) ≡ b →
    asked_there (x ∷ xs) token ≡ (if b then Some x.name else asked_there xs token)
there_by x xs token b e = ap (λ (z : Bool). if z then Some x.name else asked_there xs token) e

there_step : (x : MethodAsked) (xs : List MethodAsked) (token : ℕ) (name : FunctionName) → (x.place ≡ token → x.name ≡ name) → (a : MethodAsked) →
    Holds (x ∷ xs) a → a.place ≡ token → (Holds xs a → asked_there xs token ≡ Some name) → (b : Bool) → (x.place == token) ≡ b →
    asked_there (x ∷ xs) token ≡ Some name
there_step x xs token name here a h e later true same =
    there_by x xs token true same ∙ ap (λ (z : FunctionName). Some z) (here (eqb-true x.place token same))
there_step x xs token name here a h e later false other = there_by x xs token false other ∙ later (elim h [
  | inl is ↦ absurd (true≢false (sym (eq-eqb x.place token (ap (λ (z : MethodAsked). z.place) is ∙ e)) ∙ other))
  | inr more ↦ more
])

first_asked : (xs : List MethodAsked) (token : ℕ) (name : FunctionName) → ((a : MethodAsked) → Holds xs a → a.place ≡ token → a.name ≡ name) →
    (a : MethodAsked) → Holds xs a → a.place ≡ token → asked_there xs token ≡ Some name
first_asked [] token name all a h e = absurd h
first_asked (x ∷ xs) token name all a h e =
    there_step x xs token name (all x (inl refl)) a h e (λ k. first_asked xs token name (λ c i. all c (inr i)) a k e) (x.place == token) refl

-- the entries of a file

abbrev asked_entry : (path : List ℕ) → List SourceFile → PlacedType → Item MethodTree → MethodAsked
asked_entry path files t i = record { place = i.value.name; name = Method (name_of_type path files t) (spelled_in files t.file i.value.name) }

by_body : (path : List ℕ) (files : List SourceFile) (t : PlacedType) (b : BodyTree) → asked_by_body path files t b ≡ map (asked_entry path files t)
    (methods_of b)
by_body path files t (Other u) = refl
by_body path files t (Struct k o fs c) = refl
by_body path files t (Interface k o ms c) = refl

record IsEntry (path : List ℕ) (files : List SourceFile) (file : ℕ) (a : MethodAsked) : Type 0 where
  definition : PlacedType
  held : Holds (declared_types files) definition
  in_file : definition.file ≡ file
  method : Item MethodTree
  member : Holds (methods_of definition.spec.body) method
  is : asked_entry path files definition method ≡ a

entry_if : (path : List ℕ) (files : List SourceFile) (file : ℕ) (a : MethodAsked) (t : PlacedType) → Holds (declared_types files) t → (b : Bool) →
    (t.file == file) ≡ b → Holds (if b then asked_by_body path files t t.spec.body else []) a → IsEntry path files file a
entry_if path files file a t held true e h =
    let m = holds_map (asked_entry path files t) (methods_of t.spec.body) a (subst (λ l. Holds l a) (by_body path files t t.spec.body) h) in
    record { definition = t; held = held; in_file = eqb-true t.file file e; method = m.0; member = m.1.0; is = m.1.1 }
entry_if path files file a t held false e h = absurd h

entry_held : (path : List ℕ) (files : List SourceFile) (file : ℕ) (a : MethodAsked) → Holds (asked_in_file path files file) a → IsEntry path files file a
entry_held path files file a h =
    let x = holds_flat (asked_if path files file) (declared_types files) a h in entry_if path files file a x.0 x.1.0 (x.0.file == file) refl x.1.1

held_entry : (path : List ℕ) (files : List SourceFile) (file : ℕ) (t : PlacedType) → Holds (declared_types files) t → t.file ≡ file → (m : Item MethodTree) →
    Holds (methods_of t.spec.body) m → Holds (asked_in_file path files file) (asked_entry path files t m)
held_entry path files file t held in_file m member =
    held_flat (asked_if path files file) (declared_types files) t (asked_entry path files t m) held
    (subst (λ (b : Bool). Holds (if b then asked_by_body path files t t.spec.body else []) (asked_entry path files t m)) (sym (eq-eqb t.file file in_file))
    (subst (λ l. Holds l (asked_entry path files t m)) (sym (by_body path files t t.spec.body))
    (held_map (asked_entry path files t) (methods_of t.spec.body) m member)))

-- a method that is asked for is a written member, and no other stands at its token

abbrev member_of : (n file : ℕ) → Item MethodTree → PlacedField
member_of n file i = record { definition = n; file = file; name = i.value.name; form = OfSignature i.value.params i.value.result }

method_member : (n file : ℕ) (b : BodyTree) (m : Item MethodTree) → Holds (methods_of b) m → Holds (body_fields n file b) (member_of n file m)
method_member n file (Other t) m h = absurd h
method_member n file (Struct k o fs c) m h = absurd h
method_member n file (Interface k o ms c) m h = held_map (member_of n file) ms m h

members_held : (n i : ℕ) (ds : List PlacedType) (d : PlacedType) (f : PlacedField) → slice_get ds i ≡ Some d →
    Holds (body_fields (n + i) d.file d.spec.body) f → Holds (fields_from n ds) f
members_held n i [] d f at h = absurd (none-some d at)
members_held n zero (x ∷ xs) d f at h =
    held_left (body_fields n x.file x.spec.body) (fields_from (suc n) xs) f
    (subst (λ (z : PlacedType). Holds (body_fields n z.file z.spec.body) f) (sym (same_Some x d at))
    (subst (λ k. Holds (body_fields k d.file d.spec.body) f) (let z : n + 0 ≡ n = omega arith in z) h))
members_held n (suc i) (x ∷ xs) d f at h =
    held_right (body_fields n x.file x.spec.body) (fields_from (suc n) xs) f
    (members_held (suc n) i xs d f at (subst (λ k. Holds (body_fields k d.file d.spec.body) f) (let z : n + suc i ≡ suc n + i = omega arith in z) h))

module _ (p : Package) (rising : TokensRise p.files) where
  ranked_member : (i : ℕ) (t : PlacedType) → slice_get (package_types p) i ≡ Some t → (m : Item MethodTree) → Holds (methods_of t.spec.body) m →
      (rank : ℕ) × (slice_get (package_fields p) rank ≡ Some (member_of i t.file m))
  ranked_member i t at m member =
      held_number (package_fields p) (member_of i t.file m)
      (members_held 0 i (package_types p) t (member_of i t.file m) at
      (subst (λ k. Holds (body_fields k t.file t.spec.body) (member_of i t.file m)) (let z : i ≡ 0 + i = omega arith in z)
      (method_member i t.file t.spec.body m member)))

  one_owner : (t u : PlacedType) (m n : Item MethodTree) → Holds (package_types p) t → Holds (package_types p) u → t.file ≡ u.file →
      Holds (methods_of t.spec.body) m → Holds (methods_of u.spec.body) n → m.value.name ≡ n.value.name → t ≡ u
  one_owner t u m n held also file member other name =
      let i = held_number (package_types p) t held in
      let j = held_number (package_types p) u also in
      let r = ranked_member i.0 t i.1 m member in
      let q = ranked_member j.0 u j.1 n other in
      let place : field_place (member_of i.0 t.file m) ≡ field_place (member_of j.0 u.file n) =
      ap (λ (k : ℕ). let at : Position = record { file = k; index = m.value.name } in at) file ∙
      ap (λ (k : ℕ). let at : Position = record { file = u.file; index = k } in at) name in
      let rank : r.0 ≡ q.0 = one_field p.files rising r.0 q.0 (member_of i.0 t.file m) (member_of j.0 u.file n) r.1 q.1 place in
      let same = same_Some (member_of i.0 t.file m) (member_of j.0 u.file n) (sym r.1 ∙ (ap (slice_get (package_fields p)) rank ∙ q.1)) in
      let one : i.0 ≡ j.0 = ap (λ (z : PlacedField). z.definition) same in
      same_Some t u (sym i.1 ∙ (ap (slice_get (package_types p)) one ∙ j.1))

  -- so it is found by its token
  pub asked_known : (file : ℕ) (t : PlacedType) → Holds (package_types p) t → t.file ≡ file → (m : Item MethodTree) → Holds (methods_of t.spec.body) m →
      asked_there (asked_in_file p.path p.files file) m.value.name ≡ Some (Method (name_of_type p.path p.files t) (spelled_in p.files t.file m.value.name))
  asked_known file t held in_file m member =
      first_asked (asked_in_file p.path p.files file) m.value.name (Method (name_of_type p.path p.files t) (spelled_in p.files t.file m.value.name))
      (λ a k place.
      let y = entry_held p.path p.files file a k in
      let name : y.method.value.name ≡ m.value.name = ap (λ (z : MethodAsked). z.place) y.is ∙ place in
      let owner : y.definition ≡ t = one_owner y.definition t y.method m y.held held (y.in_file ∙ sym in_file) y.member member name in
      ap (λ (z : MethodAsked). z.name) (sym y.is) ∙
      (ap (λ (z : PlacedType). Method (name_of_type p.path p.files z) (spelled_in p.files z.file y.method.value.name)) owner ∙
      ap (λ (n : ℕ). Method (name_of_type p.path p.files t) (spelled_in p.files t.file n)) name)) (asked_entry p.path p.files t m)
      (held_entry p.path p.files file t held in_file m member) refl
