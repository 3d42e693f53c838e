-- What a name selects by the old types and the new names it selects by the definitions after the change.
use Rattle.std.proofs.Common.{ℕ, ◌≡◌, Bool, true, false, List, if◌then◌else◌, ap, sym, subst, refl, ◌∙◌}
use Rattle.std.specs.Prelude.{Option, Some, None}
use Rattle.std.proofs.Math.Path.{fun_ext}
use Rattle.std.proofs.lemmas.Option.{none-some, same_Some}
use Rattle.base_edits.specs.Revisions.{Revision}
use Rattle.types_expr.specs.declared.symbol.Symbol.{Symbol}
use Rattle.types_expr.specs.Types.{PlainType}
use Rattle.types_expr.specs.World.{Definition, Field, Method, Member, AField, field_owner, owner, is_seen, seen_field, seen_method, field_of, method_of}
use Rattle.types_expr.specs.World.{a_method, first_member, member_by}
use Rattle.types_declared.specs.Laid.{is_exported}
use Rattle.types_declared.specs.Package.{Package}
use Rattle.refs_binding.specs.declared.declaration.Declaration.TheVariants.{Method as IsMethod}
use Rattle.refs_binding.specs.Binding.{declaration_of}
use Rattle.refs_binding.proofs.MemberParts.{method_declared}
use Rattle.refactor_conflict.specs.MembersAfter.{IsFieldOfStruct, IsMethodOfOwner, IsMemberAfter}
use Rattle.law_renamed_workspaces.specs.MovedExports.{field_called, method_called}
use Rattle.law_renamed_workspaces.specs.MembersMoved.{HasFirstField, HasFirstMethod, IsDefinitionAfter}
use Rattle.law_faultless.proofs.MembersSettled.{seen_one}

-- a seen member is one of the definition

pub kept_seen : {X : Type 0} (b : Bool) (x y : X) → (if b then Some x else None) ≡ Some y → b ≡ true
kept_seen true x y e = refl
kept_seen false x y e = absurd (none-some y e)

pub field_there : (own : List ℕ) (o : Option Field) (f : Field) → seen_field own o ≡ Some f → o ≡ Some f
field_there own None f e = absurd (none-some f e)
field_there own (Some g) f e = seen_one (is_seen own g.symbol g.exported) g f e

pub method_there : (own : List ℕ) (o : Option Method) (m : Method) → seen_method own o ≡ Some m → o ≡ Some m
method_there own None m e = absurd (none-some m e)
method_there own (Some n) m e = seen_one (is_seen own n.symbol n.exported) n m e

field_seen : (own : List ℕ) (f : Field) → is_seen own f.symbol f.exported ≡ true → seen_field own (Some f) ≡ Some f
field_seen own f e = ap (λ b. if b then Some f else None) e

method_seen : (own : List ℕ) (m : Method) → is_seen own m.symbol m.exported ≡ true → seen_method own (Some m) ≡ Some m
method_seen own m e = ap (λ b. if b then Some m else None) e

-- which kind of member is the first
data FirstIs (f : Option Field) (n : Option Method) (m : Member) : Type 0 where
  is_field : (x : Field) → f ≡ Some x → m ≡ AField x.symbol x.form → FirstIs f n m
  is_method : (x : Method) → f ≡ None → n ≡ Some x → m ≡ a_method x.symbol x.on_pointer x.signature → FirstIs f n m

first_is : (f : Option Field) (n : Option Method) (m : Member) → first_member f n ≡ Some m → FirstIs f n m
first_is (Some x) n m e = is_field x refl (sym (same_Some (AField x.symbol x.form) m e))
first_is None None m e = absurd (none-some m e)
first_is None (Some x) m e = is_method x refl refl (sym (same_Some (a_method x.symbol x.on_pointer x.signature) m e))

module _ (Known : Package → Type 0) (r : Revision) (ds es : Symbol → Definition)
    (after : (s : Symbol) → IsDefinitionAfter Known r s.package s.rank (ds s) (es s)) (own old new : List ℕ) where
  seen_by : (s t : Symbol) (b : Bool) → s.package ≡ t.package → is_seen own t b ≡ true → is_seen own s b ≡ true
  seen_by s t b e h = subst (λ (path : List ℕ). is_seen own (record { «package» = path; rank = s.rank }) b ≡ true) (sym e) h

  -- a field stays
  field_stays : (o : Option Symbol) (f : Field) → field_of ds own old o ≡ Some f → IsFieldOfStruct Known r own new o f.symbol →
      field_of es own new o ≡ Some (field_called new f)
  field_stays None f e h = absurd (none-some f e)
  field_stays (Some s) f e h =
      let same : s ≡ h.of_struct = same_Some s h.of_struct h.is_struct in
      let there : (es s).field new ≡ Some (field_called new f) =
      (after s).fields old new f (field_there own ((ds s).field old) f e)
      (subst (λ (x : Symbol). HasFirstField Known r x.package x.rank new f.symbol.rank) (sym same) h.has.has) in
      ap (seen_field own) there ∙ field_seen own (field_called new f) (seen_by f.symbol h.of_struct (is_exported new) h.of_package h.has.seen)

  -- no field comes
  none_comes : (o : Option Symbol) → ((f : Symbol) → IsFieldOfStruct Known r own new o f → ⊥) → field_of es own new o ≡ None
  none_comes None none = refl
  none_comes (Some s) none = by_field (field_of es own new (Some s)) refl
    where
      by_field : (x : Option Field) → field_of es own new (Some s) ≡ x → field_of es own new (Some s) ≡ None
      by_field None e = e
      by_field (Some f) e =
          let there : (es s).field new ≡ Some f = field_there own ((es s).field new) f e in
          let x = (after s).no_others new f there in
          let visible : is_seen own f.symbol f.exported ≡ true =
          kept_seen (is_seen own f.symbol f.exported) f f (sym (ap (seen_field own) there) ∙ e) in
          let seen : is_seen own s (is_exported new) ≡ true =
          seen_by s f.symbol (is_exported new) (sym x.of_package) (subst (λ b. is_seen own f.symbol b ≡ true) x.exported visible) in
          absurd (none (record { «package» = s.package; rank = f.symbol.rank })
          (record { of_struct = s; is_struct = refl; of_package = refl; has = record { seen = seen; has = x.counts } }))

  -- a method stays
  method_stays : (o : Option Symbol) (m : Method) → method_of ds own old o ≡ Some m → IsMethodOfOwner Known r own new o m.symbol →
      method_of es own new o ≡ Some (method_called new m)
  method_stays None m e h = absurd (none-some m e)
  method_stays (Some s) m e h =
      let same : s ≡ h.of_type = same_Some s h.of_type h.is_owner in
      let there : (es s).method new ≡ Some (method_called new m) =
      (after s).methods old new m (method_there own ((ds s).method old) m e)
      (subst (λ (x : Symbol). HasFirstMethod Known r x.package x.rank new m.symbol.rank) (sym same) h.has.has) in
      ap (seen_method own) there ∙ method_seen own (method_called new m) (seen_by m.symbol h.of_type (is_exported new) h.of_package h.has.seen)

  same_owner : (t : PlainType) → field_owner (λ s. (es s).underlying) t ≡ field_owner (λ s. (ds s).underlying) t
  same_owner t = ap (λ f. field_owner f t) (fun_ext (λ s. (after s).underlying))

  by_kind : (t : PlainType) (m : Member) →
      FirstIs (field_of ds own old (field_owner (λ s. (ds s).underlying) t)) (method_of ds own old (owner t)) m →
      IsMemberAfter Known r own new (λ s. (ds s).underlying) t (declaration_of m) →
      first_member (field_of es own new (field_owner (λ s. (ds s).underlying) t)) (method_of es own new (owner t)) ≡ Some m
  by_kind t m (is_field f is e) h =
      let k : IsFieldOfStruct Known r own new (field_owner (λ s. (ds s).underlying) t) f.symbol =
      subst (λ (x : Member). IsMemberAfter Known r own new (λ s. (ds s).underlying) t (declaration_of x)) e h in
      ap (λ o. first_member o (method_of es own new (owner t))) (field_stays (field_owner (λ s. (ds s).underlying) t) f is k) ∙ ap Some (sym e)
  by_kind t m (is_method x none is e) h =
      let of : declaration_of m ≡ IsMethod x.symbol = ap declaration_of e ∙ method_declared x.symbol x.on_pointer x.signature in
      let k = subst (IsMemberAfter Known r own new (λ s. (ds s).underlying) t) of h in
      ap (λ o. first_member o (method_of es own new (owner t))) (none_comes (field_owner (λ s. (ds s).underlying) t) k.0)
      ∙ ap (first_member None) (method_stays (owner t) x is k.1) ∙ ap Some (sym e)

  pub member_stays : (t : PlainType) (m : Member) → member_by ds own old t ≡ Some m →
      IsMemberAfter Known r own new (λ s. (ds s).underlying) t (declaration_of m) → member_by es own new t ≡ Some m
  unfolding member_by
  member_stays t m e h =
      ap (λ o. first_member (field_of es own new o) (method_of es own new (owner t))) (same_owner t)
      ∙ by_kind t m (first_is (field_of ds own old (field_owner (λ s. (ds s).underlying) t)) (method_of ds own old (owner t)) m e) h
