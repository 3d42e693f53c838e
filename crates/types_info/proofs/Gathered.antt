-- The lists of a package's qualified identifiers while they are built.
use Rattle.std.proofs.Common.{ℕ, ◌≡◌, ◌+◌, ◌<◌, inl, inr, List, length, ap, sym, subst, ◌∙◌, arith}
use Rattle.std.specs.Prelude.{Option, Some, ◌↔◌}
use Rattle.std.specs.Borrow.{Bor}
use Rattle.std.proofs.lemmas.Bool.{cases_lt}
use Rattle.go_scope.specs.declared.model.Position.{Position}
use Rattle.go_scope.specs.Named.{name_value}
use Rattle.types_declared.specs.Package.{Package}
use Rattle.types_declared.specs.Written.{DeclaresImport}
use Rattle.types_info.specs.declared.lists.Qualified.{Qualified}
use Rattle.types_info.specs.declared.lists.Lists.{Lists}
use Rattle.types_info.specs.Lists.{IsListedUnder, path_for, AreWithin, AddsDeclaration, AddsUnder}
use Rattle.types_info.specs.QualifiedIdentifiers.{IsQualifiedByPath, IsOnePath, IsQualifiedAt, AreQualifiedBelow, AreListsBelow, ListsIdentifier}
use Rattle.types_info.proofs.NamesBefore.{path_is}

-- A list for each import

pub no_lists : (p : Package) (lists : Lists) → AreWithin lists → AreListsBelow p 0 lists
no_lists p lists within = record { within = within; paths = λ d path lt. absurd (omega arith) }

pub next_list : (p : Package) (d : ℕ) (old new : Lists) (o : Option (Bor (List ℕ))) → AreListsBelow p d old → length old.numbers.items ≡ d →
    AddsDeclaration old new (name_value o) → IsOnePath (DeclaresImport p d) o → AreListsBelow p (d + 1) new
next_list p d old new o h size adds one = record {
  within = adds.within;
  paths = λ e path lt. elim (cases_lt e d) [
    | inl below ↦
        subst (λ x. (x ≡ Some path) ↔ DeclaresImport p e path) (sym (adds.kept e (subst (λ n. e < n) (sym size) below))) (h.paths e path below)
    | inr ge ↦
        let here : d ≡ e = omega arith in
        let its : path_for new d ≡ name_value o = ap (path_for new) (sym size) ∙ adds.here in
        subst (λ n. (path_for new n ≡ Some path) ↔ DeclaresImport p n path) here
        (subst (λ x. (x ≡ Some path) ↔ DeclaresImport p d path) (sym its) (path_is (DeclaresImport p d) o path one))
  ];
}

-- One identifier

pub not_listed : (p : Package) (u : ℕ) (lists : Lists) → AreListsBelow p p.size lists → ((path : List ℕ) → IsQualifiedByPath p u path → ⊥) →
    ListsIdentifier p u lists lists
not_listed p u lists are none = record {
  lists = are;
  listed = λ path at. (λ h. inl h, λ h. elim h [ inl o ↦ o | inr b ↦ absurd (none path b.0) ]);
}

pub is_listed : (p : Package) (u d : ℕ) (at : Position) (old new : Lists) → AreListsBelow p p.size old → d < p.size → p.layout.place u ≡ at →
    ((path : List ℕ) → IsQualifiedByPath p u path ↔ DeclaresImport p d path) → AreWithin new → ((e : ℕ) → path_for new e ≡ path_for old e) →
    AddsUnder old.all.items new.all.items (path_for old d) at → ListsIdentifier p u old new
is_listed p u d at old new are lt place before within kept adds = record {
  lists = record {
    within = within;
    paths = λ e path below. subst (λ x. (x ≡ Some path) ↔ DeclaresImport p e path) (sym (kept e)) (are.paths e path below);
  };
  listed = λ path x. (
    λ h. elim ((adds path x).0 h) [ inl o ↦ inl o | inr q ↦ inr ((before path).1 ((are.paths d path lt).0 q.0), place ∙ q.1) ],
    λ h. (adds path x).1 (elim h [
      | inl o ↦ inl o
      | inr b ↦ inr ((are.paths d path lt).1 ((before path).0 b.0), sym place ∙ b.1)
    ]),
  );
}

-- The identifiers before a loop's index

pub none_passed : (p : Package) (all : List Qualified) → ((path : List ℕ) (at : Position) → IsListedUnder all path at → ⊥) → AreQualifiedBelow p 0 all
none_passed p all none path at = (
  (λ h. absurd (none path at h)),
  (λ h. let lt : h.identifier < 0 = h.below in absurd (omega arith)),
)

pub one_passed : (p : Package) (u : ℕ) (old new : Lists) → AreQualifiedBelow p u old.all.items → ListsIdentifier p u old new →
    AreQualifiedBelow p (u + 1) new.all.items
one_passed p u old new h adds path at = (to, from)
  where
    to : IsListedUnder new.all.items path at → IsQualifiedAt p (u + 1) path at
    to is = elim ((adds.listed path at).0 is) [
      | inl earlier ↦
          let b = (h path at).0 earlier in
          record { identifier = b.identifier; below = (let lt : b.identifier < u = b.below in omega arith); is_at = b.is_at; behind = b.behind }
      | inr last ↦ record { identifier = u; below = omega arith; is_at = last.1; behind = last.0 }
    ]

    from : IsQualifiedAt p (u + 1) path at → IsListedUnder new.all.items path at
    from b = (adds.listed path at).1 (elim (cases_lt b.identifier u) [
      | inl lt ↦ inl ((h path at).1 (record { identifier = b.identifier; below = lt; is_at = b.is_at; behind = b.behind }))
      | inr ge ↦
          let lt : b.identifier < u + 1 = b.below in
          let here : b.identifier ≡ u = omega arith in
          inr (subst (λ v. IsQualifiedByPath p v path) here b.behind, subst (λ v. p.layout.place v ≡ at) here b.is_at)
    ])
