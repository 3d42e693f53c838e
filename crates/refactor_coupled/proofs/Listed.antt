-- What a list of declarations has, by symbols.
use Rattle.std.proofs.Common.{ℕ, ◌≡◌, ◌==◌, ◌<◌, ◌+◌, arith, length, Bool, true, List, [], ◌∷◌, ◌++◌, ap, sym, subst, ◌∙◌, inl, inr, eqb-true}
use Rattle.std.specs.Prelude.{Contains, Option, Some, None, slice_get}
use Rattle.std.specs.List.{list_any}
use Rattle.std.specs.Cmp.Lexicographic.{bytes_decides}
use Rattle.std.proofs.lemmas.Bool.{and_parts, or_cases, cases_lt, false≢true}
use Rattle.std.proofs.lemmas.List.Elements.{Contains-append_left, Contains-push, Contains-push_cases}
use Rattle.std.proofs.lemmas.Option.{none-some, same_Some, slice_get_within}
use Rattle.base_lemmas.proofs.Elements.{first_in, later_in}
use Rattle.types_expr.specs.declared.symbol.Symbol.{Symbol}
use Rattle.workspace_graph.specs.Search.{IsMarked}
use Rattle.types_expr.specs.Types.{same_path, same_symbol}
use Rattle.refs_binding.specs.declared.declaration.Declaration.{Declaration}
use Rattle.refs_binding.specs.declared.declaration.Declaration.TheVariants.{Predeclared, Declared, Field, Method}
use Rattle.refactor_coupled.specs.RenamedTypes.{is_received_method, is_written_member}
use Rattle.refactor_coupled.specs.Reached.{AddsDeclarations, AddsOne, IsMethodOfType, IsReachedMethod, IsReachedMethodAt, is_listed}
use Rattle.refactor_coupled.specs.declared.coupling.Reached.{Reached}
use Rattle.refactor_coupled.specs.declared.renamed_types.RenamedTypes.{RenamedTypes}

pub symbol_told : (a b : Symbol) → same_symbol a b ≡ true → a ≡ b
symbol_told a b h =
    let both = and_parts (a.rank == b.rank) (same_path a.package b.package) h in
    let rank : a.rank ≡ b.rank = eqb-true a.rank b.rank both.0 in
    let path : a.package ≡ b.package = (bytes_decides a.package b.package).0 both.1 in
    λ i. record { «package» = path i; rank = rank i }

written_told : (s : Symbol) (d : Declaration) → is_written_member d s ≡ true → d ≡ Field s
written_told s (Field t) h = ap Field (symbol_told t s h)
written_told s (Method t) h = absurd (false≢true h)
written_told s (Declared path n) h = absurd (false≢true h)
written_told s (Predeclared n) h = absurd (false≢true h)

received_told : (s : Symbol) (d : Declaration) → is_received_method d s ≡ true → d ≡ Method s
received_told s (Method t) h = ap Method (symbol_told t s h)
received_told s (Field t) h = absurd (false≢true h)
received_told s (Declared path n) h = absurd (false≢true h)
received_told s (Predeclared n) h = absurd (false≢true h)

told_by : (test : Declaration → Bool) (e : Declaration) → ((d : Declaration) → test d ≡ true → d ≡ e) → (set : List Declaration) → list_any test set ≡ true →
    Contains set e
told_by test e is [] h = absurd (false≢true h)
told_by test e is (d ∷ set) h = elim (or_cases (test d) (list_any test set) h) [
  | inl here ↦ subst (Contains (d ∷ set)) (is d here) (first_in d set)
  | inr later ↦ later_in d set e (told_by test e is set later)
]

pub listed_told : (set : List Declaration) (e : Declaration) → is_listed set e ≡ true → Contains set e
listed_told set (Field s) h = told_by (λ d. is_written_member d s) (Field s) (written_told s) set h
listed_told set (Method s) h = told_by (λ d. is_received_method d s) (Method s) (received_told s) set h
listed_told set (Declared path n) h = absurd (false≢true h)
listed_told set (Predeclared n) h = absurd (false≢true h)

-- what the list has need not be added
pub nothing_added : (set : List Declaration) (e : Declaration) → is_listed set e ≡ true → AddsOne e set set
nothing_added set e listed d = (
  (λ has. inl has),
  (λ m. elim m [ inl has ↦ has | inr same ↦ subst (Contains set) (sym same) (listed_told set e listed) ]),
)

pub one_added : (old new : List Declaration) (e : Declaration) → new ≡ old ++ e ∷ [] → AddsOne e old new
one_added old new e is d = (
  (λ has. elim (Contains-push_cases old e d (subst (λ l. Contains l d) is has)) [ inl was ↦ inl was | inr same ↦ inr (sym same) ]),
  (λ m. subst (λ l. Contains l d) (sym is) (elim m [
    | inl was ↦ Contains-append_left old (e ∷ []) d was
    | inr same ↦ subst (Contains (old ++ e ∷ [])) (sym same) (Contains-push old e)
  ])),
)

-- no declaration is added where there is none, and one where there is one
pub none_to_add : (set : List Declaration) (o : Option Declaration) → o ≡ None → AddsDeclarations (λ e. o ≡ Some e) set set
none_to_add set o none d = ((λ has. inl has), (λ m. elim m [ inl has ↦ has | inr some ↦ absurd (none-some d (sym none ∙ some)) ]))

pub one_to_add : (old new : List Declaration) (o : Option Declaration) (e : Declaration) → o ≡ Some e → AddsOne e old new →
    AddsDeclarations (λ d. o ≡ Some d) old new
one_to_add old new o e some h d = (
  (λ has. elim ((h d).0 has) [ inl was ↦ inl was | inr same ↦ inr (some ∙ ap Some (sym same)) ]),
  (λ m. elim m [ inl was ↦ (h d).1 (inl was) | inr is ↦ (h d).1 (inr (same_Some d e (sym is ∙ some))) ]),
)

-- The method is that of a reached type below the index.
abbrev pub BelowReached : RenamedTypes → Reached → ℕ → Declaration → Type 0
BelowReached t r below e = (index : ℕ) × ((index < below) × IsReachedMethodAt t r index e)

module _ (t : RenamedTypes) (r : Reached) where
  pub none_added : (set : List Declaration) → AddsDeclarations (BelowReached t r 0) set set
  none_added set e = ((λ has. inl has), (λ m. elim m [ inl has ↦ has | inr k ↦ absurd (omega (arith, k.1.0)) ]))

  pub next_added : (a b c : List Declaration) (below : ℕ) → AddsDeclarations (BelowReached t r below) a b → AddsDeclarations (IsReachedMethodAt t r below) b c →
      AddsDeclarations (BelowReached t r (below + 1)) a c
  next_added a b c below h k e = (
    (λ has. elim ((k e).0 has) [
      | inl was ↦ elim ((h e).0 was) [ inl old ↦ inl old | inr m ↦ inr (m.0, (omega (arith, m.1.0), m.1.1)) ]
      | inr m ↦ inr (below, (omega arith, m))
    ]),
    (λ m. elim m [
      | inl old ↦ (k e).1 (inl ((h e).1 (inl old)))
      | inr of ↦ elim (cases_lt of.0 below) [
        | inl before ↦ (k e).1 (inl ((h e).1 (inr (of.0, (before, of.1.1)))))
        | inr later ↦
            let same : of.0 ≡ below = omega (arith, of.1.0, later) in
            (k e).1 (inr (subst (λ n. IsReachedMethodAt t r n e) same of.1.1))
      ]
    ]),
  )

  pub all_added : (a b : List Declaration) (below : ℕ) → below ≡ length r.called.items → AddsDeclarations (BelowReached t r below) a b →
      AddsDeclarations (IsReachedMethod t r) a b
  all_added a b below end h e = (
    (λ has. elim ((h e).0 has) [ inl old ↦ inl old | inr m ↦ inr (m.0, m.1.1) ]),
    (λ m. elim m [
      | inl old ↦ (h e).1 (inl old)
      | inr of ↦ (h e).1 (inr (of.0, (subst (λ n. of.0 < n) (sym end) (slice_get_within r.called.items of.0 of.1.of of.1.is_type), of.1)))
    ]),
  )

-- the method of the type of an index that was reached
pub method_as : (t : RenamedTypes) (r : Reached) (index : ℕ) (named : Symbol) → slice_get r.called.items index ≡ Some named → IsMarked r.marks.items index →
    (a b : List Declaration) → AddsDeclarations (IsMethodOfType t named) a b → AddsDeclarations (IsReachedMethodAt t r index) a b
method_as t r index named at marked a b h e = (
  (λ has. elim ((h e).0 has) [ inl was ↦ inl was | inr m ↦ inr (record { of = named; is_type = at; marked = marked; is_method = m }) ]),
  (λ m. elim m [
    | inl was ↦ (h e).1 (inl was)
    | inr k ↦ (h e).1 (inr (subst (λ s. IsMethodOfType t s e) (same_Some k.of named (sym k.is_type ∙ at)) k.is_method))
  ]),
)
