-- Layouts that agree in all on which bindings depend have equal bindings.
use Rattle.std.proofs.Common.{ℕ, ◌≡◌, inl, inr, List, true}
use Rattle.std.specs.Prelude.{◌↔◌}
use Rattle.go_scope.specs.Scopes.{IsInside}
use Rattle.go_scope.specs.Bindings.{Layout, Names, MayDeclare, IsLeftName, SameBlock, InScope, Declares, IsPackageLevel, IsImport, Displaces, Counts}
use Rattle.go_scope.specs.Bindings.{BindsAt, IsBoundTo, use_bound, own, scope_of, is_use}

pub record Alike (l k : Layout) : Type 0 where
  pub may : (d : ℕ) → MayDeclare l d ↔ MayDeclare k d
  pub left : (d : ℕ) → IsLeftName l d ↔ IsLeftName k d
  pub uses : (d : ℕ) → (is_use (l.role d) ≡ true) ↔ (is_use (k.role d) ≡ true)
  pub same : (d e : ℕ) → SameBlock l d e ↔ SameBlock k d e
  pub scope : (d u : ℕ) → InScope l d u ↔ InScope k d u
  pub package_level : (d : ℕ) → IsPackageLevel l d ↔ IsPackageLevel k d
  pub import : (d : ℕ) → IsImport l d ↔ IsImport k d
  pub inside : (d e : ℕ) → IsInside (scope_of (l.role d)) (scope_of (l.role e)) ↔ IsInside (scope_of (k.role d)) (scope_of (k.role e))

swap : {A B : Type 0} → A ↔ B → B ↔ A
swap e = (e.1, e.0)

pub alike_sym : (l k : Layout) → Alike l k → Alike k l
alike_sym l k a = record {
  may = λ d. swap (a.may d);
  left = λ d. swap (a.left d);
  uses = λ d. swap (a.uses d);
  same = λ d e. swap (a.same d e);
  scope = λ d u. swap (a.scope d u);
  package_level = λ d. swap (a.package_level d);
  import = λ d. swap (a.import d);
  inside = λ d e. swap (a.inside d e);
}

declares_alike : (l k : Layout) → Alike l k → (names : Names) (d : ℕ) → Declares l names d → Declares k names d
declares_alike l k a names d x = record {
  may = (a.may d).0 x.may;
  is_new = λ left e me se ne he. x.is_new ((a.left d).1 left) e ((a.may e).1 me) ((a.same e d).1 se) ne ((a.scope e d).1 he);
}

displaces_alike : (l k : Layout) → Alike l k → (e d : ℕ) → Displaces l e d → Displaces k e d
displaces_alike l k a e d (inl s) = inl ((a.same e d).0 s.0, s.1)
displaces_alike l k a e d (inr p) = inr ((a.package_level e).0 p.0, (a.import d).0 p.1)

counts_alike : (l k : Layout) → Alike l k → (names : Names) (d : ℕ) → Counts l names d → Counts k names d
counts_alike l k a names d x = record {
  declares = declares_alike l k a names d x.declares;
  first = λ e de ne p. x.first e (declares_alike k l (alike_sym l k a) names e de) ne (displaces_alike k l (alike_sym l k a) e d p);
}

binds_alike : (l k : Layout) → Alike l k → (names : Names) (name : List ℕ) (u d : ℕ) → BindsAt l names name u d → BindsAt k names name u d
binds_alike l k a names name u d x = record {
  counts = counts_alike l k a names d x.counts;
  named = x.named;
  in_scope = (a.scope d u).0 x.in_scope;
  innermost = λ e ce ne he i. x.innermost e (counts_alike k l (alike_sym l k a) names e ce) ne ((a.scope e u).1 he) ((a.inside e d).1 i);
}

pub bound_alike : (l k : Layout) → Alike l k → (names : Names) (u d : ℕ) → IsBoundTo l names u d → IsBoundTo k names u d
bound_alike l k a names u d (use_bound (inl i) x) = use_bound (inl ((a.uses u).0 i)) (binds_alike l k a names (names u) u d x)
bound_alike l k a names u d (use_bound (inr i) x) =
    use_bound (inr ((a.left u).0 i.0, λ y. i.1 (declares_alike k l (alike_sym l k a) names u y))) (binds_alike l k a names (names u) u d x)
bound_alike l k a names u d (own p c) = own p (counts_alike l k a names d c)
