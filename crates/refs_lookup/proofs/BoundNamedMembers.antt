-- A declaring identifier of a member declares at most one.
use Rattle.std.proofs.Common.{ℕ, ◌≡◌, List, ap, sym, ◌∙◌}
use Rattle.std.specs.Prelude.{Some, slice_get}
use Rattle.types_expr.specs.declared.symbol.Symbol.{Symbol}
use Rattle.types_declared.specs.Definitions.{PlacedField, package_fields}
use Rattle.types_declared.specs.Package.{Package, PlacedFunction, package_functions, function_place}
use Rattle.types_info.specs.Uniqueness.{TokensRise}
use Rattle.refs_binding.specs.declared.declaration.Declaration.{Declaration}
use Rattle.refs_binding.specs.declared.declaration.Declaration.TheVariants.{Predeclared, Declared, Field, Method}
use Rattle.refs_binding.specs.Binding.{DeclaresMember, IsNameOf, IsFieldAt, IsMethodAt, field_place}
use Rattle.refs_binding.proofs.NamedPlaces.{stands_once}
use Rattle.refs_lookup.proofs.MembersApart.{one_field, one_function, no_field_and_function}

field_at : (p : Package) (u rank : ℕ) → IsNameOf (IsFieldAt p) p u rank →
    (f : PlacedField) × ((slice_get (package_fields p) rank ≡ Some f) × (field_place f ≡ p.layout.place u))
field_at p u rank n = (n.is_at.counts.field, (n.is_at.counts.counting.is_field.has_rank, n.is_at.named_at ∙ stands_once p u n.at n.stands))

method_at : (p : Package) (u rank : ℕ) → IsNameOf (IsMethodAt p) p u rank →
    (f : PlacedFunction) × ((slice_get (package_functions p) rank ≡ Some f) × (function_place f ≡ p.layout.place u))
method_at p u rank n = (n.is_at.counts.method, (n.is_at.counts.counting.is_method.has_rank, n.is_at.named_at ∙ stands_once p u n.at n.stands))

abbrev symbol : List ℕ → ℕ → Symbol
symbol path rank = record { «package» = path; rank = rank }

same_symbol : (s t : Symbol) (path : List ℕ) → s.package ≡ path → t.package ≡ path → s.rank ≡ t.rank → s ≡ t
same_symbol s t path e f r = ap (λ q. symbol q s.rank) (e ∙ sym f) ∙ ap (symbol t.package) r

both_fields : (p : Package) → TokensRise p.files → (u j k : ℕ) → IsNameOf (IsFieldAt p) p u j → IsNameOf (IsFieldAt p) p u k → j ≡ k
both_fields p rising u j k a b =
    let x = field_at p u j a in
    let y = field_at p u k b in
    one_field p.files rising j k x.0 y.0 x.1.0 y.1.0 (x.1.1 ∙ sym y.1.1)

both_methods : (p : Package) → TokensRise p.files → (u j k : ℕ) → IsNameOf (IsMethodAt p) p u j → IsNameOf (IsMethodAt p) p u k → j ≡ k
both_methods p rising u j k a b =
    let x = method_at p u j a in
    let y = method_at p u k b in
    one_function p.files rising j k x.0 y.0 x.1.0 y.1.0 (x.1.1 ∙ sym y.1.1)

not_both : (p : Package) → TokensRise p.files → (u j k : ℕ) → IsNameOf (IsFieldAt p) p u j → IsNameOf (IsMethodAt p) p u k → ⊥
not_both p rising u j k a b =
    let x = field_at p u j a in
    let y = method_at p u k b in
    no_field_and_function p.files rising j k x.0 y.0 x.1.0 y.1.0 (x.1.1 ∙ sym y.1.1)

pub one_by_name : (p : Package) → TokensRise p.files → (u : ℕ) (d e : Declaration) → DeclaresMember p u d → DeclaresMember p u e → d ≡ e
one_by_name p rising u (Field s) (Field t) h k = ap Field (same_symbol s t p.path h.0 k.0 (both_fields p rising u s.rank t.rank h.1 k.1))
one_by_name p rising u (Field s) (Method t) h k = absurd (not_both p rising u s.rank t.rank h.1 k.1)
one_by_name p rising u (Method s) (Field t) h k = absurd (not_both p rising u t.rank s.rank k.1 h.1)
one_by_name p rising u (Method s) (Method t) h k = ap Method (same_symbol s t p.path h.0 k.0 (both_methods p rising u s.rank t.rank h.1 k.1))
one_by_name p rising u (Field s) (Predeclared n) h k = absurd k
one_by_name p rising u (Field s) (Declared path n) h k = absurd k
one_by_name p rising u (Method s) (Predeclared n) h k = absurd k
one_by_name p rising u (Method s) (Declared path n) h k = absurd k
one_by_name p rising u (Predeclared n) e h k = absurd h
one_by_name p rising u (Declared path n) e h k = absurd h
