-- What a name selects by the definitions after a change it selects by the old types and the new names.
use Rattle.std.proofs.Common.{ℕ, ◌≡◌, Bool, true, List, if◌then◌else◌, ap, sym, subst, refl, ◌∙◌}
use Rattle.std.specs.Prelude.{Option, Some, None}
use Rattle.std.proofs.lemmas.Option.{none-some, same_Some}
use Rattle.base_edits.specs.Revisions.{Revision}
use Rattle.types_expr.specs.declared.symbol.Symbol.{Symbol}
use Rattle.types_expr.specs.Types.{PlainType}
use Rattle.types_expr.specs.World.{Definition, Field, Method, Member, field_owner, owner, is_seen, seen_field, field_of, method_of}
use Rattle.types_expr.specs.World.{member_by}
use Rattle.types_declared.specs.Laid.{is_exported}
use Rattle.types_declared.specs.Package.{Package}
use Rattle.refs_binding.specs.declared.declaration.Declaration.{Declaration}
use Rattle.refs_binding.specs.Binding.{declaration_of}
use Rattle.refactor_conflict.specs.MembersAfter.{IsFieldOfStruct, IsMethodOfOwner, IsMemberAfter}
use Rattle.law_renamed_workspaces.specs.MembersMoved.{HasFirstField, IsDefinitionAfter}
use Rattle.law_renamed_workspaces.proofs.UsersReach.{FirstIs, a_field, no_field as method_alone, first_is, field_there, method_there}
use Rattle.law_agreement.proofs.MembersThere.{HasNewMembers}

-- `Near`: the definitions whose members are known. Those of a type that has a method are, and so is the struct of its values.
module _ (Known : Package → Type 0) (r : Revision) (ds es : Symbol → Definition)
    (after : (s : Symbol) → IsDefinitionAfter Known r s.package s.rank (ds s) (es s)) (own : List ℕ)
    (Near : Symbol → Type 0) (members : (s : Symbol) → Near s → HasNewMembers Known r s.package s.rank (es s))
    (method_near : (s : Symbol) (name : List ℕ) (m : Method) → (es s).method name ≡ Some m → Near s)
    (struct_near : (t : PlainType) (s : Symbol) → owner t ≡ Some s → Near s → (struct : Symbol) →
    field_owner (λ z. (es z).underlying) t ≡ Some struct → Near struct)
    (new : List ℕ) where
  seen_by : (s t : Symbol) (e f : Bool) → s.package ≡ t.package → e ≡ f → is_seen own s e ≡ true → is_seen own t f ≡ true
  seen_by s t e f path same h =
      subst (λ b. is_seen own t b ≡ true) same
      (subst (λ (q : List ℕ). is_seen own (record { «package» = q; rank = t.rank }) e ≡ true) path h)

  field_selected : (o : Option Symbol) (f : Field) → field_of es own new o ≡ Some f → IsFieldOfStruct Known r own new o f.symbol
  field_selected None f e = absurd (none-some f e)
  field_selected (Some s) f e =
      let k = field_there own ((es s).field new) f e in
      let x = (after s).no_others new f k.0 in
      record {
        of_struct = s;
        is_struct = refl;
        of_package = x.of_package;
        has = record { seen = seen_by f.symbol s f.exported (is_exported new) x.of_package x.exported k.1; has = x.counts };
      }

  method_selected : (o : Option Symbol) (m : Method) → method_of es own new o ≡ Some m → IsMethodOfOwner Known r own new o m.symbol
  method_selected None m e = absurd (none-some m e)
  method_selected (Some s) m e =
      let k = method_there own ((es s).method new) m e in
      let x = (members s (method_near s new m k.0)).methods new m k.0 in
      record {
        of_type = s;
        is_owner = refl;
        of_package = x.of_package;
        has = record { seen = seen_by m.symbol s m.exported (is_exported new) x.of_package x.exported k.1; has = x.counts };
      }

  -- where no field is selected, there is none by the new names
  no_field : (s : Symbol) → Near s → field_of es own new (Some s) ≡ None → (f : Symbol) → IsFieldOfStruct Known r own new (Some s) f → ⊥
  no_field s near none f h =
      let same : s ≡ h.of_struct = same_Some s h.of_struct h.is_struct in
      let counts : HasFirstField Known r s.package s.rank new f.rank =
      subst (λ (z : Symbol). HasFirstField Known r z.package z.rank new f.rank) (sym same) h.has.has in
      let visible : is_seen own s (is_exported new) ≡ true = subst (λ (z : Symbol). is_seen own z (is_exported new) ≡ true) (sym same) h.has.seen in
      let x = (members s near).fields new f.rank counts in
      let path : x.field.symbol.package ≡ s.package = ((after s).no_others new x.field x.found).of_package in
      let seen : is_seen own x.field.symbol x.field.exported ≡ true =
      seen_by s x.field.symbol (is_exported new) x.field.exported (sym path) (sym x.exported) visible in
      let found : field_of es own new (Some s) ≡ Some x.field = ap (seen_field own) x.found ∙ field_seen x.field seen in
      none-some x.field (sym none ∙ found)
    where
      field_seen : (g : Field) → is_seen own g.symbol g.exported ≡ true → seen_field own (Some g) ≡ Some g
      field_seen g e = ap (λ b. if b then Some g else None) e

  module _ (t : PlainType) where
    abbrev struct : Option Symbol
    struct = field_owner (λ z. (es z).underlying) t

    abbrev Selects : Declaration → Type 0
    Selects e = IsMemberAfter Known r own new (λ z. (es z).underlying) t e

    none_of : (o : Option Symbol) → struct ≡ o → field_of es own new o ≡ None → (owned : Option Symbol) → owner t ≡ owned → (m : Method) →
        method_of es own new owned ≡ Some m → (f : Symbol) → IsFieldOfStruct Known r own new o f → ⊥
    none_of None e none owned is m found f h = none-some h.of_struct h.is_struct
    none_of (Some s) e none None is m found f h = none-some m found
    none_of (Some s) e none (Some of) is m found f h =
        let near : Near of = method_near of new m (method_there own ((es of).method new) m found).0 in
        no_field s (struct_near t of is near s e) none f h

    by_first : (m : Member) → FirstIs (field_of es own new struct) (method_of es own new (owner t)) m → Selects (declaration_of m)
    by_first m (a_field f is of) = subst Selects (sym of) (field_selected struct f is)
    by_first m (method_alone x none is of) =
        subst Selects (sym of) (none_of struct refl none (owner t) refl x is, method_selected (owner t) x is)

    pub selects : (m : Member) → member_by es own new t ≡ Some m → Selects (declaration_of m)
    unfolding member_by
    selects m e = by_first m (first_is (field_of es own new struct) (method_of es own new (owner t)) m e)
