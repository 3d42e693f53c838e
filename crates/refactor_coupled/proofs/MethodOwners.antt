-- Which type definition has a method: the interface that asks for it, or the type of its receiver. definition: all type definitions.
use Rattle.std.proofs.Common.{ℕ, ◌≡◌, ◌⊎◌, inl, inr, Bool, true, false, List, ap, sym, subst, refl, ◌∙◌, if◌then◌else◌}
use Rattle.std.specs.Prelude.{Option, Some, None, option_map, slice_get}
use Rattle.std.proofs.lemmas.Bool.{false≢true, true≢false}
use Rattle.std.proofs.lemmas.Option.{none-some, same_Some}
use Rattle.base_files.specs.Workspace.{Workspace}
use Rattle.go_scope.specs.WellFormed.{WellFormed}
use Rattle.types_expr.specs.declared.symbol.Symbol.{Symbol}
use Rattle.types_expr.specs.Types.{PlainType, Defined, Underlying, Plain, PointerTo, SliceOf}
use Rattle.types_expr.specs.Types.{Struct, Interface, Signature, WrittenAs, AFieldOf, AMethodOf, is_interface}
use Rattle.types_expr.specs.World.{Definition, Field as Written, Method as Received, SetMethod, Implements, as_set_method}
use Rattle.types_expr.specs.World.{asked_as, has_if_asked, in_method_set, in_set_by, reaches, received_method}
use Rattle.types_expr.specs.WorldView.{no_definition}
use Rattle.types_declared.specs.Package.{Package, PlacedFunction, spelled, symbol_in}
use Rattle.types_declared.specs.Definitions.{PlacedField, package_fields, HasForm, HasUnderlying, IsCountingField}
use Rattle.types_declared.specs.Definitions.{IsCountingMethod, IsDefinition, IsFoundField, IsFoundMethod, IsMethodOf, has}
use Rattle.types_info.proofs.OneWorld.{one_underlying_of}
use Rattle.types_members.proofs.MethodNames.{one_method_name, one_owner}
use Rattle.workspace_check.specs.Verdicts.{Verdicts}
use Rattle.workspace_check.proofs.OnePackage.{layout_formed}
use Rattle.refs_binding.specs.declared.declaration.Declaration.{Declaration}
use Rattle.refs_binding.specs.declared.declaration.Declaration.TheVariants.{Field, Method}
use Rattle.refs_binding.specs.Uses.{IsCheckedPackage}
use Rattle.refs_binding.proofs.Units.{one_package}
use Rattle.refactor_coupled.specs.Coupling.{AsksFor, HasInSet, declaration_in_set, type_through}
use Rattle.refactor_coupled.specs.Implementing.{AreAllDefinitions, IsTypeSymbol}
use Rattle.refactor_coupled.specs.Reached.{declaration_called, declaration_through, received_declaration}
use Rattle.refactor_coupled.proofs.Implemented.{through_any}
use Rattle.refactor_coupled.proofs.WrittenForms.{asking_interface, writing_struct}

-- Underlying types that are interfaces, and others

pub under_cases : (u : Underlying) → ((i : Symbol) × (u ≡ Interface i)) ⊎ (is_interface u ≡ false)
under_cases (Interface i) = inl (i, refl)
under_cases (Plain b) = inr refl
under_cases (PointerTo t) = inr refl
under_cases (SliceOf t) = inr refl
under_cases (Struct s) = inr refl

pub form_cases : (f : WrittenAs) → ((t : PlainType) × (f ≡ AFieldOf t)) ⊎ ((g : Signature) × (f ≡ AMethodOf g))
form_cases (AFieldOf t) = inl (t, refl)
form_cases (AMethodOf g) = inr (g, refl)

through_received : (definition : Symbol → Definition) (d : Definition) (u : Underlying) (name : List ℕ) → is_interface u ≡ false →
    declaration_through definition d u name ≡ received_declaration d name
through_received definition d (Plain b) name e = refl
through_received definition d (PointerTo t) name e = refl
through_received definition d (SliceOf t) name e = refl
through_received definition d (Struct s) name e = refl
through_received definition d (Interface i) name e = absurd (true≢false e)

set_received : (definition : Symbol → Definition) (star : Bool) (s : Symbol) (u : Underlying) (name : List ℕ) → is_interface u ≡ false →
    in_set_by definition star s u name ≡ received_method star ((definition s).method name)
set_received definition star s (Plain b) name e = refl
set_received definition star s (PointerTo t) name e = refl
set_received definition star s (SliceOf t) name e = refl
set_received definition star s (Struct t) name e = refl
set_received definition star s (Interface i) name e = absurd (true≢false e)

declared_received : (u : Underlying) (method : Symbol) → is_interface u ≡ false → declaration_in_set u method ≡ Method method
declared_received (Plain b) method e = refl
declared_received (PointerTo t) method e = refl
declared_received (SliceOf t) method e = refl
declared_received (Struct s) method e = refl
declared_received (Interface i) method e = absurd (true≢false e)

-- A method of a method set is that of a receiver, or one that an interface asks for.

abbrev as_received : Received → SetMethod
as_received x = record { symbol = x.symbol; exported = x.exported; signature = x.signature }

abbrev as_asked : Written → Signature → SetMethod
as_asked f g = record { symbol = f.symbol; exported = f.exported; signature = Some g }

received_some : (star : Bool) (o : Option Received) (m : SetMethod) → received_method star o ≡ Some m → (x : Received) × ((o ≡ Some x) × (m.symbol ≡ x.symbol))
received_some star None m e = absurd (none-some m e)
received_some star (Some x) m e = by_reach (reaches star x.on_pointer) e
  where
    by_reach : (reached : Bool) → (if reached then Some (as_received x) else None) ≡ Some m → (y : Received) × ((Some x ≡ Some y) × (m.symbol ≡ y.symbol))
    by_reach true k = (x, (refl, sym (ap (λ (y : SetMethod). y.symbol) (same_Some (as_received x) m k))))
    by_reach false k = absurd (none-some m k)

pub record IsAskedAs (o : Option Written) (m : SetMethod) : Type 0 where
  pub written : Written
  pub is_written : o ≡ Some written
  pub signature : Signature
  pub is_method : written.form ≡ AMethodOf signature
  pub is_symbol : m.symbol ≡ written.symbol

asked_some : (o : Option Written) (m : SetMethod) → as_set_method o ≡ Some m → IsAskedAs o m
asked_some None m e = absurd (none-some m e)
asked_some (Some f) m e = by_form f.form refl e
  where
    by_form : (form : WrittenAs) → f.form ≡ form → asked_as f.symbol f.exported form ≡ Some m → IsAskedAs (Some f) m
    by_form (AFieldOf t) is k = absurd (none-some m k)
    by_form (AMethodOf g) is k = record {
      written = f;
      is_written = refl;
      signature = g;
      is_method = is;
      is_symbol = sym (ap (λ (y : SetMethod). y.symbol) (same_Some (as_asked f g) m k));
    }

-- The type has the method under the name: it asks for it, or is the type of its receiver.
pub data IsOwner (definition : Symbol → Definition) (s : Symbol) (name : List ℕ) (e : Declaration) : Type 0 where
  asks : AsksFor definition s name e → IsOwner definition s name e
  receives : (m : Received) → (definition s).method name ≡ Some m → e ≡ Method m.symbol → is_interface (definition s).underlying ≡ false →
      IsOwner definition s name e

-- What implements an interface by a method of the type implements it by the owner of the method.
pub record OwnsFor (definition : Symbol → Definition) (of : Symbol) (star : Bool) (name : List ℕ) (e : Declaration) : Type 0 where
  pub owner : Symbol
  pub owns : IsOwner definition owner name e
  pub called : declaration_called definition (definition of) name ≡ Some e
  pub keeps : (interface : Symbol) → Implements definition (type_through star of) interface → Implements definition (type_through star owner) interface

asked_same : (f g : Symbol) (e : Declaration) → e ≡ Field f → e ≡ Field g → f ≡ g
asked_same f g e h k = cc

received_same : (f g : Symbol) (e : Declaration) → e ≡ Method f → e ≡ Method g → f ≡ g
received_same f g e h k = cc

not_both : (f g : Symbol) (e : Declaration) → e ≡ Field f → e ≡ Method g → ⊥
not_both f g e h k = cc

module _ (w : Workspace) (known : Verdicts) (definition : Symbol → Definition) (are : AreAllDefinitions (IsCheckedPackage w known) definition)
    (decided : (s : Symbol) → IsTypeSymbol (IsCheckedPackage w known) s ⊎ (definition s ≡ no_definition s)) where
  abbrev IsType : Symbol → Type 0
  IsType s = IsTypeSymbol (IsCheckedPackage w known) s

  pub its_definition : (s : Symbol) (of : IsType s) → IsDefinition of.inside of.rank (definition s)
  its_definition s of =
      subst (λ x. IsDefinition of.inside of.rank (definition x)) (sym of.is_symbol) (are.each of.inside of.is_package of.rank of.definition of.has_rank)

  -- what has a member or an interface is a type definition

  pub writing_type : (s : Symbol) (name : List ℕ) (f : Written) → (definition s).field name ≡ Some f → IsType s
  writing_type s name f at = elim (decided s) [
    | inl is ↦ is
    | inr none ↦ absurd (none-some f (sym (ap (λ (d : Definition). d.field name) none) ∙ at))
  ]

  pub receiving_type : (s : Symbol) (name : List ℕ) (m : Received) → (definition s).method name ≡ Some m → IsType s
  receiving_type s name m at = elim (decided s) [
    | inl is ↦ is
    | inr none ↦ absurd (none-some m (sym (ap (λ (d : Definition). d.method name) none) ∙ at))
  ]

  pub interface_type : (s i : Symbol) → (definition s).underlying ≡ Interface i → IsType s
  interface_type s i under = elim (decided s) [
    | inl is ↦ is
    | inr none ↦
        let own : Struct s ≡ Interface i = sym (ap (λ (d : Definition). d.underlying) none) ∙ under in
        let never : ⊥ = cc in
        absurd never
  ]

  formed : (p : Package) → IsCheckedPackage w known p → WellFormed p.layout
  formed p is = layout_formed w known p.path p is.is_checked

  pub under_is : (s : Symbol) (of : IsType s) (u : Underlying) → HasUnderlying of.inside (Defined (symbol_in of.inside of.rank)) u →
      (definition s).underlying ≡ u
  under_is s of u h =
      one_underlying_of of.inside (formed of.inside of.is_package) of.rank (definition s).underlying u (its_definition s of).underlying (has h)

  -- Written members

  pub record IsWrittenBy (s : Symbol) (name : List ℕ) (f : Written) : Type 0 where
    pub of : IsType s
    pub field : PlacedField
    pub counting : IsCountingField of.inside of.rank name f.symbol.rank field
    pub has_form : HasForm of.inside field.file field.form f.form
    pub is_symbol : f.symbol ≡ symbol_in of.inside f.symbol.rank

  found_written : (s : Symbol) (name : List ℕ) (f : Written) (of : IsType s) → IsFoundField of.inside of.rank name (Some f) → IsWrittenBy s name f
  found_written s name f of h = record { of = of; field = h.0; counting = h.1.0; has_form = h.1.1; is_symbol = h.1.2 }

  pub written_by : (s : Symbol) (name : List ℕ) (f : Written) → (definition s).field name ≡ Some f → IsWrittenBy s name f
  written_by s name f at =
      let of = writing_type s name f at in
      found_written s name f of (subst (IsFoundField of.inside of.rank name) at ((its_definition s of).fields name))

  same_writer : (a b : Symbol) (m n : List ℕ) (f g : Written) → IsWrittenBy a m f → IsWrittenBy b n g → f.symbol ≡ g.symbol → (a ≡ b) × (m ≡ n)
  same_writer a b m n f g h k same =
      let p = h.of.inside in
      let q = k.of.inside in
      let path : p.path ≡ q.path = ap (λ (s : Symbol). s.package) (sym h.is_symbol ∙ same ∙ k.is_symbol) in
      let one : p ≡ q = one_package w known p q h.of.is_package k.of.is_package path in
      let rank : f.symbol.rank ≡ g.symbol.rank = ap (λ (s : Symbol). s.rank) same in
      let field : h.field ≡ k.field = same_Some h.field k.field
      (sym h.counting.is_field.has_rank ∙ ap (λ (x : Package). slice_get (package_fields x) f.symbol.rank) one ∙ ap (slice_get (package_fields q)) rank
      ∙ k.counting.is_field.has_rank) in
      let owner : h.of.rank ≡ k.of.rank =
      sym h.counting.is_field.of_struct ∙ ap (λ (x : PlacedField). x.definition) field ∙ k.counting.is_field.of_struct in (
        h.of.is_symbol ∙ ap (λ (x : Package). symbol_in x h.of.rank) one ∙ ap (symbol_in q) owner ∙ sym k.of.is_symbol,
        sym h.counting.is_field.named ∙ ap (λ (x : Package). spelled x h.field.file h.field.name) one
            ∙ ap (λ (x : PlacedField). spelled q x.file x.name) field ∙ k.counting.is_field.named,
      )

  -- The interface that asks for a method is the underlying type of its own definition.
  pub own_interface : (s : Symbol) (name : List ℕ) (f : Written) (g : Signature) → (definition s).field name ≡ Some f → f.form ≡ AMethodOf g →
      (definition s).underlying ≡ Interface s
  own_interface s name f g at is =
      let h = written_by s name f at in
      let p = h.of.inside in
      let under = asking_interface p f.symbol.rank h.field h.counting.is_field.has_rank g (subst (HasForm p h.field.file h.field.form) is h.has_form) in
      let here = subst (λ n. HasUnderlying p (Defined (symbol_in p n)) (Interface (symbol_in p n))) h.counting.is_field.of_struct under in
      under_is s h.of (Interface (symbol_in p h.of.rank)) here ∙ ap Interface (sym h.of.is_symbol)

  -- What an interface writes is a method.
  pub asks_method : (s : Symbol) (name : List ℕ) (f : Written) → (definition s).field name ≡ Some f → is_interface (definition s).underlying ≡ true →
      (g : Signature) × (f.form ≡ AMethodOf g)
  asks_method s name f at writes = elim (form_cases f.form) [
    | inr method ↦ method
    | inl field ↦
        let h = written_by s name f at in
        let p = h.of.inside in
        let under =
        writing_struct p f.symbol.rank h.field h.counting.is_field.has_rank field.0 (subst (HasForm p h.field.file h.field.form) field.1 h.has_form) in
        let here = subst (λ n. HasUnderlying p (Defined (symbol_in p n)) (Struct (symbol_in p n))) h.counting.is_field.of_struct under in
        absurd (false≢true (sym (ap is_interface (under_is s h.of (Struct (symbol_in p h.of.rank)) here)) ∙ writes))
  ]

  -- Methods of receivers

  pub record IsReceivedBy (s : Symbol) (name : List ℕ) (m : Received) : Type 0 where
    pub of : IsType s
    pub method : PlacedFunction
    pub counting : IsCountingMethod of.inside of.rank name m.symbol.rank method
    pub is_symbol : m.symbol ≡ symbol_in of.inside m.symbol.rank

  found_received : (s : Symbol) (name : List ℕ) (m : Received) (of : IsType s) → IsFoundMethod of.inside of.rank name (Some m) → IsReceivedBy s name m
  found_received s name m of h = record { of = of; method = h.0; counting = h.1; is_symbol = h.4 }

  pub received_by : (s : Symbol) (name : List ℕ) (m : Received) → (definition s).method name ≡ Some m → IsReceivedBy s name m
  received_by s name m at =
      let of = receiving_type s name m at in
      found_received s name m of (subst (IsFoundMethod of.inside of.rank name) at ((its_definition s of).methods name))

  same_receiver : (a b : Symbol) (m n : List ℕ) (f g : Received) → IsReceivedBy a m f → IsReceivedBy b n g → f.symbol ≡ g.symbol → (a ≡ b) × (m ≡ n)
  same_receiver a b m n f g h k same =
      let p = h.of.inside in
      let q = k.of.inside in
      let path : p.path ≡ q.path = ap (λ (s : Symbol). s.package) (sym h.is_symbol ∙ same ∙ k.is_symbol) in
      let one : p ≡ q = one_package w known p q h.of.is_package k.of.is_package path in
      let rank : f.symbol.rank ≡ g.symbol.rank = ap (λ (s : Symbol). s.rank) same in
      let there : IsMethodOf p k.of.rank n f.symbol.rank k.method =
      subst (λ r. IsMethodOf p k.of.rank n r k.method) (sym rank)
      (subst (λ (x : Package). IsMethodOf x k.of.rank n g.symbol.rank k.method) (sym one) k.counting.is_method) in
      let owner : k.of.rank ≡ h.of.rank =
      one_owner p (formed p h.of.is_package) f.symbol.rank h.of.rank k.of.rank m n h.method k.method h.counting.is_method there in (
        h.of.is_symbol ∙ ap (λ (x : Package). symbol_in x h.of.rank) one ∙ ap (symbol_in q) (sym owner) ∙ sym k.of.is_symbol,
        sym (one_method_name p f.symbol.rank h.of.rank k.of.rank m n h.method k.method h.counting.is_method there),
      )

  -- Owners

  pub only_owner : (a b : Symbol) (m n : List ℕ) (e : Declaration) → IsOwner definition a m e → IsOwner definition b n e → (a ≡ b) × (m ≡ n)
  only_owner a b m n e (asks h) (asks k) =
      same_writer a b m n h.written k.written (written_by a m h.written h.is_written) (written_by b n k.written k.is_written)
      (asked_same h.written.symbol k.written.symbol e h.is_declaration k.is_declaration)
  only_owner a b m n e (asks h) (receives y at is not) = absurd (not_both h.written.symbol y.symbol e h.is_declaration is)
  only_owner a b m n e (receives x at is not) (asks k) = absurd (not_both k.written.symbol x.symbol e k.is_declaration is)
  only_owner a b m n e (receives x at is not) (receives y there same none) =
      same_receiver a b m n x y (received_by a m x at) (received_by b n y there) (received_same x.symbol y.symbol e is same)

  pub owner_type : (s : Symbol) (name : List ℕ) (e : Declaration) → IsOwner definition s name e → IsType s
  owner_type s name e (asks h) = writing_type s name h.written h.is_written
  owner_type s name e (receives m at is not) = receiving_type s name m at

  pub owner_called : (s : Symbol) (name : List ℕ) (e : Declaration) → IsOwner definition s name e → declaration_called definition (definition s) name ≡ Some e
  owner_called s name e (asks h) =
      ap (λ u. declaration_through definition (definition s) u name) (own_interface s name h.written h.signature h.is_written h.is_method)
      ∙ ap (option_map (λ (f : Written). Field f.symbol)) h.is_written ∙ ap Some (sym h.is_declaration)
  owner_called s name e (receives m at is not) =
      through_received definition (definition s) (definition s).underlying name not ∙ ap (option_map (λ (x : Received). Method x.symbol)) at
      ∙ ap Some (sym is)

  -- an interface has the method set of the definition that writes it
  interface_set : (s i : Symbol) → (definition s).underlying ≡ Interface i → (definition i).underlying ≡ Interface i → (name : List ℕ) →
      in_method_set definition (type_through false s) name ≡ in_method_set definition (type_through false i) name
  interface_set s i under own name =
      ap (λ f. f name) (through_any definition s false) ∙ ap (λ u. in_set_by definition false s u name) under
      ∙ sym (ap (λ f. f name) (through_any definition i false) ∙ ap (λ u. in_set_by definition false i u name) own)

  kept_by_interface : (s i : Symbol) → (definition s).underlying ≡ Interface i → (definition i).underlying ≡ Interface i → (interface : Symbol) →
      Implements definition (type_through false s) interface → Implements definition (type_through false i) interface
  kept_by_interface s i under own interface h = record {
    writes_one = h.writes_one;
    has = λ name. sym (ap (has_if_asked ((definition interface).field name)) (interface_set s i under own name)) ∙ h.has name;
  }

  by_interface : (star : Bool) (of i : Symbol) (name : List ℕ) (e : Declaration) → (definition of).underlying ≡ Interface i → (m : SetMethod) →
      in_set_by definition star of (Interface i) name ≡ Some m → e ≡ Field m.symbol → OwnsFor definition of star name e
  by_interface true of i name e under m at is = absurd (none-some m at)
  by_interface false of i name e under m at is =
      let h = asked_some ((definition i).field name) m at in
      let declares : e ≡ Field h.written.symbol = is ∙ ap Field h.is_symbol in
      let own = own_interface i name h.written h.signature h.is_written h.is_method in
      record {
        owner = i;
        owns = asks (record {
          written = h.written;
          is_written = h.is_written;
          signature = h.signature;
          is_method = h.is_method;
          is_declaration = declares;
        });
        called =
            ap (λ u. declaration_through definition (definition of) u name) under ∙ ap (option_map (λ (f : Written). Field f.symbol)) h.is_written
            ∙ ap Some (sym declares);
        keeps = kept_by_interface of i under own;
      }

  by_receiver : (star : Bool) (of : Symbol) (name : List ℕ) (e : Declaration) → is_interface (definition of).underlying ≡ false → (m : SetMethod) →
      received_method star ((definition of).method name) ≡ Some m → e ≡ Method m.symbol → OwnsFor definition of star name e
  by_receiver star of name e not m at is =
      let x = received_some star ((definition of).method name) m at in
      let owns : IsOwner definition of name e = receives x.0 x.1.0 (is ∙ ap Method x.1.1) not in
      record { owner = of; owns = owns; called = owner_called of name e owns; keeps = λ interface h. h }

  pub owned_for : (of : Symbol) (star : Bool) (name : List ℕ) (e : Declaration) → HasInSet definition star of name e → OwnsFor definition of star name e
  owned_for of star name e h = elim (under_cases (definition of).underlying) [
    | inl i ↦
        by_interface star of i.0 name e i.1 h.method (sym (ap (λ u. in_set_by definition star of u name) i.1) ∙ h.is_method)
        (h.is_declaration ∙ ap (λ u. declaration_in_set u h.method.symbol) i.1)
    | inr not ↦
        by_receiver star of name e not h.method (sym (set_received definition star of (definition of).underlying name not) ∙ h.is_method)
        (h.is_declaration ∙ declared_received (definition of).underlying h.method.symbol not)
  ]
