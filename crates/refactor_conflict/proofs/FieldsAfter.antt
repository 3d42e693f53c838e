-- Members that are looked up by their new names.
use Rattle.std.proofs.Common.{ℕ, ◌≡◌, ◌<◌, inl, inr, Bool, true, false, List, ap, sym, subst, refl, ◌∙◌, arith}
use Rattle.std.specs.Prelude.{Option, Some, None, ◌↔◌, IsTrue, is_some, option_map}
use Rattle.std.proofs.lemmas.Bool.{cases_lt, false≢true}
use Rattle.std.proofs.lemmas.Option.{same_Some, none-some}
use Rattle.base_files.specs.Workspace.{Workspace}
use Rattle.types_declared.specs.Laid.{is_exported}
use Rattle.types_expr.specs.declared.symbol.Symbol.{Symbol}
use Rattle.types_expr.specs.Types.{PlainType, Defined, Underlying}
use Rattle.types_expr.specs.World.{is_seen, field_owner, owner}
use Rattle.types_declared.specs.Package.{Package, symbol_in}
use Rattle.types_declared.specs.Definitions.{HasUnderlying}
use Rattle.workspace_check.specs.Verdicts.{Verdicts}
use Rattle.workspace_check.proofs.OnePackage.{layout_formed}
use Rattle.refs_binding.specs.declared.declaration.Declaration.{Declaration}
use Rattle.refs_binding.specs.declared.declaration.Declaration.TheVariants.{Predeclared, Declared, Field, Method}
use Rattle.refs_binding.specs.Steps.{IsDeclarationResult}
use Rattle.refs_binding.specs.Uses.{IsCheckedPackage}
use Rattle.refs_binding.proofs.Units.{one_package}
use Rattle.base_edits.specs.Revisions.{Revision}
use Rattle.refs_binding.specs.DeclaringPlaces.{InPackage}
use Rattle.refactor_conflict.specs.NamesAfter.{IsMethodAfter}
use Rattle.refactor_conflict.specs.MembersAfter.{IsFirst, IsFirstField, IsFirstMethod, IsFieldIn, IsMethodIn}
use Rattle.refactor_conflict.specs.MembersAfter.{HasFieldAfter, IsMemberAfter}
use Rattle.refactor_conflict.specs.MembersFound.{IsRankFound, IsStructFound, SelectsField, SelectsMethod}
use Rattle.refactor_conflict.proofs.Structs.{field_written, found_struct, struct_had}

-- the first of some ranks

pub one_first : (K : ℕ → Type 0) (a b : ℕ) → IsFirst K a → IsFirst K b → a ≡ b
one_first K a b h k = elim (cases_lt a b) [
  | inl lt ↦ absurd (k.first a lt h.has)
  | inr ge ↦ elim (cases_lt b a) [ inl less ↦ absurd (h.first b less k.has) | inr more ↦ omega arith ]
]

-- in the package of a path

pub mapped_in : (Known : Package → Type 0) (path : List ℕ) (P Q : Package → Type 0) → ((p : Package) → Known p → p.path ≡ path → P p → Q p) →
    InPackage Known path P → InPackage Known path Q
mapped_in Known path P Q to h = record { inside = h.inside; is_package = h.is_package; of_path = h.of_path; holds = to h.inside h.is_package h.of_path h.holds }

module _ (w : Workspace) (known : Verdicts) where
  -- A relation that holds of the package at a path holds of each package that has the path.
  pub of_one : (p : Package) → IsCheckedPackage w known p → (path : List ℕ) → p.path ≡ path → (P : Package → Type 0) →
      InPackage (IsCheckedPackage w known) path P → P p
  of_one p is path e P h = subst P (one_package w known h.inside p h.is_package is (h.of_path ∙ sym e)) h.holds

  pub found_in : (p : Package) → IsCheckedPackage w known p → (path : List ℕ) → p.path ≡ path → (P : Package → ℕ → Type 0) → (o : Option ℕ) →
      IsRankFound (P p) o →
      IsRankFound (λ n. InPackage (IsCheckedPackage w known) path (λ q. P q n)) o
  found_in p is path e P None h = λ rank k. h rank (of_one p is path e (λ q. P q rank) k)
  found_in p is path e P (Some rank) h = record { inside = p; is_package = is; of_path = e; holds = h }

  -- the values of a definition have a field
  pub has_no_field : (r : Revision) (p : Package) → IsCheckedPackage w known p → (rank : ℕ) (name : List ℕ) → IsStructFound p rank None →
      HasFieldAfter (IsCheckedPackage w known) r p rank name → ⊥
  has_no_field r p is rank name h k = none-some k.struct (found_struct p (layout_formed w known p.path p is.is_checked) rank None k.struct h k.underlying)

  pub has_the_field : (r : Revision) (p : Package) → IsCheckedPackage w known p → (rank : ℕ) (name : List ℕ) (s : Symbol) → IsStructFound p rank (Some s) →
      (o : Option ℕ) →
      IsRankFound (IsFieldIn (IsCheckedPackage w known) r p.path name s) o → (b : Bool) → b ≡ is_some o →
      IsTrue b ↔ HasFieldAfter (IsCheckedPackage w known) r p rank name
  has_the_field r p is rank name s h o found b e = (from o found e, to o found e)
    where
      from : (x : Option ℕ) → IsRankFound (IsFieldIn (IsCheckedPackage w known) r p.path name s) x → b ≡ is_some x → IsTrue b →
          HasFieldAfter (IsCheckedPackage w known) r p rank name
      from None k e t = absurd (false≢true (sym e ∙ t))
      from (Some n) k e t = record {
        struct = s;
        underlying = elim (struct_had p rank s h) [
          | inl had ↦ had
          | inr own ↦ (
              let first = of_one p is s.package (sym (ap (λ (z : Symbol). z.package) own.0)) (λ q. IsFirstField r q s.rank name n) k.has in
              let f = first.has.field in
              let at : f.definition ≡ rank = first.has.of_struct ∙ ap (λ (z : Symbol). z.rank) own.0 in
              let written = field_written p n f first.has.has_rank in
              absurd (own.1 written.0 (subst (λ k. HasUnderlying p (Defined (symbol_in p k)) written.0) at written.1)))
        ];
        rank = n;
        has = k;
      }

      to : (x : Option ℕ) → IsRankFound (IsFieldIn (IsCheckedPackage w known) r p.path name s) x → b ≡ is_some x →
          HasFieldAfter (IsCheckedPackage w known) r p rank name → IsTrue b
      to None none e k =
          let same : s ≡ k.struct = same_Some s k.struct (found_struct p (layout_formed w known p.path p is.is_checked) rank (Some s) k.struct h
          k.underlying) in
          absurd (none k.rank (subst (λ z. IsFieldIn (IsCheckedPackage w known) r p.path name z k.rank) (sym same) k.has))
      to (Some n) found e k = e

-- where a name is seen

pub field_seen : (Known : Package → Type 0) (r : Revision) (own name : List ℕ) (s : Symbol) → is_seen own s (is_exported name) ≡ true → (o : Option ℕ) →
    IsRankFound (λ rank. InPackage Known s.package (λ p. IsFirstField r p s.rank name rank)) o → IsRankFound (IsFieldIn Known r own name s) o
field_seen Known r own name s seen None h = λ rank k. h rank k.has
field_seen Known r own name s seen (Some rank) h = record { seen = seen; has = h }

pub field_unseen : (Known : Package → Type 0) (r : Revision) (own name : List ℕ) (s : Symbol) → is_seen own s (is_exported name) ≡ false → (rank : ℕ) →
    IsFieldIn Known r own name s rank → ⊥
field_unseen Known r own name s unseen rank k = false≢true (sym unseen ∙ k.seen)

pub method_seen : (Known : Package → Type 0) (r : Revision) (own name : List ℕ) (s : Symbol) → is_seen own s (is_exported name) ≡ true → (o : Option ℕ) →
    IsRankFound (λ rank. InPackage Known s.package (λ p. IsFirstMethod Known r p s.rank name rank)) o → IsRankFound (IsMethodIn Known r own name s) o
method_seen Known r own name s seen None h = λ rank k. h rank k.has
method_seen Known r own name s seen (Some rank) h = record { seen = seen; has = h }

pub method_unseen : (Known : Package → Type 0) (r : Revision) (own name : List ℕ) (s : Symbol) → is_seen own s (is_exported name) ≡ false → (rank : ℕ) →
    IsMethodIn Known r own name s rank → ⊥
method_unseen Known r own name s unseen rank k = false≢true (sym unseen ∙ k.seen)

-- methods, where no field has the name

pub method_first : (Known : Package → Type 0) (r : Revision) (path : List ℕ) (d : ℕ) (name : List ℕ) →
    ((p : Package) → Known p → p.path ≡ path → HasFieldAfter Known r p d name → ⊥) → (o : Option ℕ) →
    IsRankFound (λ rank. InPackage Known path (λ p. IsFirst (IsMethodAfter r p d name) rank)) o →
    IsRankFound (λ rank. InPackage Known path (λ p. IsFirstMethod Known r p d name rank)) o
method_first Known r path d name none None h = λ rank k. h rank
    (mapped_in Known path (λ p. IsFirstMethod Known r p d name rank) (λ p. IsFirst (IsMethodAfter r p d name) rank) (λ p is e m. m.has) k)
method_first Known r path d name none (Some rank) h =
    mapped_in Known path (λ p. IsFirst (IsMethodAfter r p d name) rank) (λ p. IsFirstMethod Known r p d name rank)
    (λ p is e m. record { no_field = none p is e; has = m }) h

-- by the type before

pub no_field_behind : (Known : Package → Type 0) (r : Revision) (own name : List ℕ) (definition : Symbol → Underlying) (t : PlainType) →
    None ≡ field_owner definition t → (d : Declaration) →
    SelectsField Known r own name definition t d → ⊥
no_field_behind Known r own name definition t none (Predeclared n) k = k
no_field_behind Known r own name definition t none (Declared path d) k = k
no_field_behind Known r own name definition t none (Field s) k = none-some k.of_struct (none ∙ k.is_struct)
no_field_behind Known r own name definition t none (Method s) k = k

pub field_behind : (Known : Package → Type 0) (r : Revision) (own name : List ℕ) (definition : Symbol → Underlying) (t : PlainType) (s : Symbol) →
    Some s ≡ field_owner definition t → (o : Option ℕ) →
    IsRankFound (IsFieldIn Known r own name s) o → (found : Option Declaration) →
    found ≡ option_map (λ n. Field (record { «package» = s.package; rank = n })) o →
    IsDeclarationResult (SelectsField Known r own name definition t) found
field_behind Known r own name definition t s e None h found is = subst (IsDeclarationResult (SelectsField Known r own name definition t)) (sym is) none
  where
    none : (d : Declaration) → SelectsField Known r own name definition t d → ⊥
    none (Predeclared n) k = k
    none (Declared path d) k = k
    none (Field f) k = h f.rank (subst (λ z. IsFieldIn Known r own name z f.rank) (sym (same_Some s k.of_struct (e ∙ k.is_struct))) k.has)
    none (Method f) k = k
field_behind Known r own name definition t s e (Some n) h found is =
    subst (IsDeclarationResult (SelectsField Known r own name definition t)) (sym is) (record { of_struct = s; is_struct = sym e; of_package = refl; has = h })

pub no_method_behind : (Known : Package → Type 0) (r : Revision) (own name : List ℕ) (t : PlainType) → None ≡ owner t → (d : Declaration) →
    SelectsMethod Known r own name t d → ⊥
no_method_behind Known r own name t none (Predeclared n) k = k
no_method_behind Known r own name t none (Declared path d) k = k
no_method_behind Known r own name t none (Field s) k = k
no_method_behind Known r own name t none (Method s) k = none-some k.of_type (none ∙ k.is_owner)

pub method_behind : (Known : Package → Type 0) (r : Revision) (own name : List ℕ) (t : PlainType) (s : Symbol) → Some s ≡ owner t → (o : Option ℕ) →
    IsRankFound (IsMethodIn Known r own name s) o → (found : Option Declaration) →
    found ≡ option_map (λ n. Method (record { «package» = s.package; rank = n })) o →
    IsDeclarationResult (SelectsMethod Known r own name t) found
method_behind Known r own name t s e None h found is = subst (IsDeclarationResult (SelectsMethod Known r own name t)) (sym is) none
  where
    none : (d : Declaration) → SelectsMethod Known r own name t d → ⊥
    none (Predeclared n) k = k
    none (Declared path d) k = k
    none (Field f) k = k
    none (Method f) k = h f.rank (subst (λ z. IsMethodIn Known r own name z f.rank) (sym (same_Some s k.of_type (e ∙ k.is_owner))) k.has)
method_behind Known r own name t s e (Some n) h found is =
    subst (IsDeclarationResult (SelectsMethod Known r own name t)) (sym is) (record { of_type = s; is_owner = sym e; of_package = refl; has = h })

pub field_is_member : (Known : Package → Type 0) (r : Revision) (own name : List ℕ) (definition : Symbol → Underlying) (t : PlainType) (d : Declaration) →
    SelectsField Known r own name definition t d →
    IsMemberAfter Known r own name definition t d
field_is_member Known r own name definition t (Predeclared n) k = k
field_is_member Known r own name definition t (Declared path d) k = k
field_is_member Known r own name definition t (Field s) k = k
field_is_member Known r own name definition t (Method s) k = absurd k

pub method_is_member : (Known : Package → Type 0) (r : Revision) (own name : List ℕ) (definition : Symbol → Underlying) (t : PlainType) →
    ((d : Declaration) → SelectsField Known r own name definition t d → ⊥) → (o : Option Declaration) →
    IsDeclarationResult (SelectsMethod Known r own name t) o →
    IsDeclarationResult (IsMemberAfter Known r own name definition t) o
method_is_member Known r own name definition t none None h = by
  where
    by : (d : Declaration) → IsMemberAfter Known r own name definition t d → ⊥
    by (Predeclared n) k = k
    by (Declared path d) k = k
    by (Field s) k = none (Field s) k
    by (Method s) k = h (Method s) k.1
method_is_member Known r own name definition t none (Some (Predeclared n)) h = h
method_is_member Known r own name definition t none (Some (Declared path d)) h = h
method_is_member Known r own name definition t none (Some (Field s)) h = absurd h
method_is_member Known r own name definition t none (Some (Method s)) h = ((λ f k. none (Field f) k), h)
