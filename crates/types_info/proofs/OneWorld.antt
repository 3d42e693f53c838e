-- A file has at most one world.
use Rattle.std.proofs.Common.{ℕ, ◌≡◌, inl, inr, List, ap, sym, subst, refl, ◌∙◌, Bool, true, false}
use Rattle.std.specs.Prelude.{Option, Some, None, slice_get}
use Rattle.std.specs.Cmp.Lexicographic.{bytes_decides}
use Rattle.std.proofs.Math.Path.{fun_ext}
use Rattle.std.proofs.lemmas.Bool.{cases_order, true≢false}
use Rattle.std.proofs.lemmas.Option.{same_Some}
use Rattle.go_ast.specs.Tree.{ReceiverTree}
use Rattle.go_ast.specs.SourceFile.{SourceFile, spelling_of}
use Rattle.go_scope.specs.WellFormed.{WellFormed}
use Rattle.types_expr.specs.declared.symbol.Symbol.{Symbol}
use Rattle.types_expr.specs.Types.{PlainType, Defined, Underlying, WrittenAs, AFieldOf, AMethodOf, same_path}
use Rattle.types_expr.specs.World.{World, Definition, Field, Method, Implements, member_by}
use Rattle.types_declared.specs.Package.{Package, PlacedType, PlacedFunction, package_types, package_functions, symbol_in}
use Rattle.types_declared.specs.Definitions.{WrittenForm, OfType, OfSignature, HasForm, PlacedField, package_fields, IsCountingField}
use Rattle.types_declared.specs.Definitions.{IsCountingMethod, is_on_pointer, IsFoundField, IsFoundMethod, IsFoundSignature}
use Rattle.types_declared.specs.Definitions.{IsUnderlyingOf, has, has_none, IsDefinition, AreDefinitions}
use Rattle.types_info.specs.Worlds.{IsWorldOf}
use Rattle.types_info.specs.Uniqueness.{TokensRise}
use Rattle.types_declared.proofs.OneUnderlying.{one_underlying}
use Rattle.types_info.proofs.OneMeaning.{one_type, one_signature_of, one_signature_found, one_name}

-- fields

counting_rank : (p : Package) (definition : ℕ) (name : List ℕ) (r s : ℕ) (f g : PlacedField) → IsCountingField p definition name r f →
    IsCountingField p definition name s g → r ≡ s
counting_rank p definition name r s f g a b = elim (cases_order r s) [
  | inl same ↦ same
  | inr o ↦ elim o [ inl less ↦ absurd (b.first r f less a.is_field) | inr more ↦ absurd (a.first s g more b.is_field) ]
]

pub one_form : (p : Package) → WellFormed p.layout → (file : ℕ) (form : WrittenForm) (t u : WrittenAs) → HasForm p file form t → HasForm p file form u → t ≡ u
one_form p w file (OfType x) (AFieldOf t) (AFieldOf u) h k = ap AFieldOf (one_type p w file x t u h k)
one_form p w file (OfType x) (AFieldOf t) (AMethodOf u) h k = absurd k
one_form p w file (OfType x) (AMethodOf t) u h k = absurd h
one_form p w file (OfSignature ps r) (AMethodOf s) (AMethodOf u) h k = ap AMethodOf (one_signature_of p w file ps r s u h k)
one_form p w file (OfSignature ps r) (AMethodOf s) (AFieldOf u) h k = absurd k
one_form p w file (OfSignature ps r) (AFieldOf t) u h k = absurd h

one_field : (p : Package) → WellFormed p.layout → (definition : ℕ) (name : List ℕ) (o u : Option Field) → IsFoundField p definition name o →
    IsFoundField p definition name u → o ≡ u
one_field p w definition name None None a b = refl
one_field p w definition name None (Some y) a b = absurd (a y.symbol.rank b.0 y.form b.1.0 b.1.1)
one_field p w definition name (Some x) None a b = absurd (b x.symbol.rank a.0 x.form a.1.0 a.1.1)
one_field p w definition name (Some x) (Some y) a b =
    let rank : x.symbol.rank ≡ y.symbol.rank = counting_rank p definition name x.symbol.rank y.symbol.rank a.0 b.0 a.1.0 b.1.0 in
    let place : b.0 ≡ a.0 = same_Some b.0 a.0 (sym b.1.0.is_field.has_rank ∙ ap (slice_get (package_fields p)) (sym rank) ∙ a.1.0.is_field.has_rank) in
    let symbols : x.symbol ≡ y.symbol = a.1.2 ∙ ap (symbol_in p) rank ∙ sym b.1.2 in
    let forms : x.form ≡ y.form = one_form p w a.0.file a.0.form x.form y.form a.1.1 (subst (λ f. HasForm p f.file f.form y.form) place b.1.1) in
    ap Some (
    ap (λ s. record { symbol = s; exported = x.exported; form = x.form }) symbols ∙
    ap (λ e. record { symbol = y.symbol; exported = e; form = x.form }) (a.1.3 ∙ sym b.1.3) ∙
    ap (λ t. record { symbol = y.symbol; exported = y.exported; form = t }) forms)

-- methods

counting_method : (p : Package) (definition : ℕ) (name : List ℕ) (r s : ℕ) (f g : PlacedFunction) → IsCountingMethod p definition name r f →
    IsCountingMethod p definition name s g → r ≡ s
counting_method p definition name r s f g a b = elim (cases_order r s) [
  | inl same ↦ same
  | inr o ↦ elim o [ inl less ↦ absurd (b.first r f less a.is_method) | inr more ↦ absurd (a.first s g more b.is_method) ]
]

abbrev pointer_or : Option ReceiverTree → Bool
pointer_or None = false
pointer_or (Some r) = is_on_pointer r

one_method : (p : Package) → WellFormed p.layout → (definition : ℕ) (name : List ℕ) (o u : Option Method) → IsFoundMethod p definition name o →
    IsFoundMethod p definition name u → o ≡ u
one_method p w definition name None None a b = refl
one_method p w definition name None (Some y) a b = absurd (a y.symbol.rank b.0 b.1)
one_method p w definition name (Some x) None a b = absurd (b x.symbol.rank a.0 a.1)
one_method p w definition name (Some x) (Some y) a b =
    let rank : x.symbol.rank ≡ y.symbol.rank = counting_method p definition name x.symbol.rank y.symbol.rank a.0 b.0 a.1 b.1 in
    let place : b.0 ≡ a.0 = same_Some b.0 a.0 (sym b.1.is_method.has_rank ∙ ap (slice_get (package_functions p)) (sym rank) ∙ a.1.is_method.has_rank) in
    let symbols : x.symbol ≡ y.symbol = a.4 ∙ ap (symbol_in p) rank ∙ sym b.4 in
    let signatures : x.signature ≡ y.signature = one_signature_found p w a.0 x.signature y.signature a.2 (subst (λ f. IsFoundSignature p f y.signature)
    place b.2) in
    let pointers : is_on_pointer a.1.is_method.receiver ≡ is_on_pointer b.1.is_method.receiver =
    ap pointer_or (sym a.1.is_method.received ∙ ap (λ f. f.function.receiver) (sym place) ∙ b.1.is_method.received) in
    ap Some (
    ap (λ s. record { symbol = s; exported = x.exported; on_pointer = x.on_pointer; signature = x.signature }) symbols ∙
    ap (λ e. record { symbol = y.symbol; exported = e; on_pointer = x.on_pointer; signature = x.signature }) (a.5 ∙ sym b.5) ∙
    ap (λ o. record { symbol = y.symbol; exported = y.exported; on_pointer = o; signature = x.signature }) (a.3 ∙ pointers ∙ sym b.3) ∙
    ap (λ s. record { symbol = y.symbol; exported = y.exported; on_pointer = y.on_pointer; signature = s }) signatures)

-- definitions

pub one_underlying_of : (p : Package) → WellFormed p.layout → (rank : ℕ) (u v : Underlying) → IsUnderlyingOf p rank u → IsUnderlyingOf p rank v → u ≡ v
one_underlying_of p w rank u v (has h) (has k) = one_underlying p w (Defined (symbol_in p rank)) u v h k
one_underlying_of p w rank u _ (has h) (has_none none) = absurd (none u h)
one_underlying_of p w rank _ v (has_none none) (has k) = absurd (none v k)
one_underlying_of p w rank _ _ (has_none none) (has_none other) = refl

pub one_definition : (p : Package) → WellFormed p.layout → (rank : ℕ) (c d : Definition) → IsDefinition p rank c → IsDefinition p rank d → c ≡ d
one_definition p w rank c d a b =
    ap (λ u. record { underlying = u; field = c.field; method = c.method }) (one_underlying_of p w rank c.underlying d.underlying a.underlying b.underlying) ∙
    ap (λ f. record { underlying = d.underlying; field = f; method = c.method })
    (fun_ext (λ name. one_field p w rank name (c.field name) (d.field name) (a.fields name) (b.fields name))) ∙
    ap (λ m. record { underlying = d.underlying; field = d.field; method = m })
    (fun_ext (λ name. one_method p w rank name (c.method name) (d.method name) (a.methods name) (b.methods name)))

own_definition : (p : Package) → WellFormed p.layout → (c d : Symbol → Definition) → AreDefinitions p c → AreDefinitions p d →
    (rank : ℕ) (o : Option PlacedType) → slice_get (package_types p) rank ≡ o →
    c (symbol_in p rank) ≡ d (symbol_in p rank)
own_definition p w c d a b rank None e = a.beyond rank e ∙ sym (b.beyond rank e)
own_definition p w c d a b rank (Some t) e = one_definition p w rank (c (symbol_in p rank)) (d (symbol_in p rank)) (a.own rank t e) (b.own rank t e)

in_package : (p : Package) → WellFormed p.layout → (c d : Symbol → Definition) → AreDefinitions p c → AreDefinitions p d → (s : Symbol) (t : Bool) →
    same_path s.package p.path ≡ t → c s ≡ d s
in_package p w c d a b s true e =
    let here : s ≡ symbol_in p s.rank = ap (λ path. record { «package» = path; rank = s.rank }) ((bytes_decides s.package p.path).0 e) in
    ap c here ∙ own_definition p w c d a b s.rank (slice_get (package_types p) s.rank) refl ∙ ap d (sym here)
in_package p w c d a b s false e =
    let other : s.package ≡ p.path → ⊥ = λ h. true≢false (sym ((bytes_decides s.package p.path).1 h) ∙ e) in
    a.imported s.package s.rank other ∙ sym (b.imported s.package s.rank other)

pub one_definitions : (p : Package) → WellFormed p.layout → (c d : Symbol → Definition) → AreDefinitions p c → AreDefinitions p d → c ≡ d
one_definitions p w c d a b = fun_ext (λ s. in_package p w c d a b s (same_path s.package p.path) refl)

-- worlds

-- two tests that hold in the same cases
pub same_tests : (a b : Bool) → (a ≡ true → b ≡ true) → (b ≡ true → a ≡ true) → a ≡ b
same_tests true b f g = sym (f refl)
same_tests false true f g = g refl
same_tests false false f g = refl

-- worlds with one list of definitions agree on which types implement which interfaces
pub same_implementing : (p q : Package) (i j : ℕ) (f g : SourceFile) (v w : World) (a : IsWorldOf p i f v) (b : IsWorldOf q j g w) →
    a.definitions ≡ b.definitions → (t : PlainType) (s : Symbol) → v.implements t s ≡ w.implements t s
same_implementing p q i j f g v w a b same t s =
    same_tests (v.implements t s) (w.implements t s)
    (λ e. (b.implements t s).1 (subst (λ d. Implements d t s) same ((a.implements t s).0 e)))
    (λ e. (a.implements t s).1 (subst (λ d. Implements d t s) (sym same) ((b.implements t s).0 e)))

pub has_one_world : (p : Package) → WellFormed p.layout → TokensRise p.files → (file : ℕ) (s : SourceFile) (v w : World) → IsWorldOf p file s v →
    IsWorldOf p file s w → v ≡ w
has_one_world p formed rising file s v w a b =
    let same = one_definitions p formed a.definitions b.definitions a.are_definitions b.are_definitions in
    let bounds : v.bound ≡ w.bound = fun_ext (λ token. one_name p formed rising file token (v.bound token) (w.bound token) (a.names token) (b.names token)) in
    let members : v.member ≡ w.member =
    fun_ext (λ token. fun_ext (λ t. a.member token t ∙ ap (λ d. member_by d p.path (spelling_of s token) t) same ∙ sym (b.member token t))) in
    let definitions : v.definition ≡ w.definition = fun_ext
    (λ symbol. a.definition symbol ∙ ap (λ d. (d symbol).underlying) same ∙ sym (b.definition symbol)) in
    let implementing : v.implements ≡ w.implements =
    fun_ext (λ t. fun_ext (λ i. same_implementing p p file file s s v w a b same t i)) in
    ap (λ x. record { bound = x; member = v.member; definition = v.definition; implements = v.implements }) bounds ∙
    ap (λ x. record { bound = w.bound; member = x; definition = v.definition; implements = v.implements }) members ∙
    ap (λ x. record { bound = w.bound; member = w.member; definition = x; implements = v.implements }) definitions ∙
    ap (λ x. record { bound = w.bound; member = w.member; definition = w.definition; implements = x }) implementing
