-- Steps from definitions to their underlying types, part by part.
use Rattle.std.proofs.Common.{ℕ, zero, suc, ◌≡◌, ◌+◌, ◌<◌, ◌≤◌, inl, inr, Bool, true, false, List, [], ◌∷◌, ◌++◌, length, get_or, ap, sym, subst, refl, ◌∙◌}
use Rattle.std.proofs.Common.{arith}
use Rattle.std.specs.Prelude.{Option, Some, None, slice_get, map}
use Rattle.std.specs.Global.{Vec}
use Rattle.std.proofs.lemmas.Bool.{cases_lt, false≢true}
use Rattle.std.proofs.Math.ListN.{length-map}
use Rattle.std.proofs.lemmas.List.{length_push}
use Rattle.std.proofs.lemmas.Option.{same_Some, slice_get_past, slice_get_within}
use Rattle.go_scope.specs.WellFormed.{WellFormed}
use Rattle.go_ast.specs.Tree.{TypeTree, Other, Struct, Interface}
use Rattle.types_expr.specs.declared.symbol.Symbol.{Symbol}
use Rattle.types_expr.specs.declared.world.Underlying.{Underlying}
use Rattle.types_expr.specs.Types.{PlainType, Defined}
use Rattle.types_expr.specs.Types as types
use Rattle.types_members.specs.declared.underlying.NameStep.{NameStep}
use Rattle.types_members.specs.declared.underlying.NameStep.TheVariants.{Ends, Continues, Nothing}
use Rattle.types_declared.specs.Package.{Package, PlacedType, package_types, symbol_in}
use Rattle.types_declared.specs.Written.{DenotesType}
use Rattle.types_declared.specs.Definitions.{HasUnderlying, struct, interface, named, imported}
use Rattle.types_declared.specs.Reachability.{LinksTo, HasMark, IsReachable, first, behind, IsReachOrder}
use Rattle.types_declared.specs.Broken.{AddsLinks}
use Rattle.types_members.specs.Steps.{IsStepFrom, IsStepBy, IsStep, AreSteps, AreStepLinks, ComesAfterTarget, IsStepOrder, is_last_step}
use Rattle.types_declared.proofs.Naming.{one_named}
use Rattle.types_declared.proofs.DeclaredPaths.{get_before, get_last}
use Rattle.types_declared.proofs.OneUnderlying.{BodyHas, of_body, none_beyond}

-- The step from a definition of this package or another

pub from_imported : (p : Package) (s : Symbol) (u : types.Underlying) → (s.package ≡ p.path → ⊥) →
    u ≡ ((p.export_data_of s.package).definition s.rank).underlying → HasUnderlying p (Defined s) u
from_imported p s u other e = subst (HasUnderlying p (Defined s)) (sym e) (imported {path = s.package} {rank = s.rank} other)

pub own_beyond : (p : Package) (rank : ℕ) → length (package_types p) ≤ rank → (u : types.Underlying) → HasUnderlying p (Defined (symbol_in p rank)) u → ⊥
own_beyond p rank past u h = none_beyond p rank (slice_get_past (package_types p) rank past) u h

pub own_symbol : (p : Package) (s : Symbol) → s.package ≡ p.path → Defined s ≡ Defined (symbol_in p s.rank)
own_symbol p s e = ap (λ v. Defined (record { «package» = v; rank = s.rank })) e

pub from_own : (p : Package) (s : Symbol) → s.package ≡ p.path → (step : NameStep) → IsStepFrom p (Defined (symbol_in p s.rank)) step →
    IsStepFrom p (Defined s) step
from_own p s e step h = subst (λ t. IsStepFrom p t step) (sym (own_symbol p s e)) h

-- The step from a definition whose body is a type expression

pub by_nothing : (p : Package) (file : ℕ) (tree : TypeTree) → ((t : PlainType) → DenotesType p file tree t → ⊥) → IsStepBy p file tree Nothing
by_nothing p file tree none = λ t u names h. none t names

pub by_type : (p : Package) → WellFormed p.layout → (file : ℕ) (tree : TypeTree) (t : PlainType) → DenotesType p file tree t → (s : NameStep) →
    IsStepFrom p t s →
    IsStepBy p file tree s
by_type p w file tree t names (Ends u) h = (t, (names, h))
by_type p w file tree t names (Continues to) h = (subst (DenotesType p file tree) h.0 names, h.1)
by_type p w file tree t names Nothing h = λ v u other k. h u (subst (λ x. HasUnderlying p x u) (one_named p w file tree v t other names) k)

pub of_type : (p : Package) (rank : ℕ) (d : PlacedType) (tree : TypeTree) → slice_get (package_types p) rank ≡ Some d → d.spec.body ≡ Other tree →
    (s : NameStep) → IsStepBy p d.file tree s → IsStep p rank s
of_type p rank d tree is written (Ends u) h = named is written h.1.0 h.1.1
of_type p rank d tree is written (Continues to) h = (record { definition = d; has_rank = is; tree = tree; written = written; names = h.0 }, h.1)
of_type p rank d tree is written Nothing h = λ u k.
    let body : BodyHas p rank d (Other tree) u = subst (λ b. BodyHas p rank d b u) written (of_body p rank d u is k) in
    h body.0 u body.1.0 body.1.1

pub of_struct : (p : Package) (rank : ℕ) (d : PlacedType) (k o c : ℕ) (fs : _) (u : types.Underlying) → slice_get (package_types p) rank ≡ Some d →
    d.spec.body ≡ Struct k o fs c → u ≡ types.Struct (symbol_in p rank) →
    HasUnderlying p (Defined (symbol_in p rank)) u
of_struct p rank d k o c fs u is written e = subst (HasUnderlying p (Defined (symbol_in p rank))) (sym e) (struct is written)

pub of_interface : (p : Package) (rank : ℕ) (d : PlacedType) (k o c : ℕ) (ms : _) (u : types.Underlying) → slice_get (package_types p) rank ≡ Some d →
    d.spec.body ≡ Interface k o ms c → u ≡ types.Interface (symbol_in p rank) → HasUnderlying p (Defined (symbol_in p rank)) u
of_interface p rank d k o c ms u is written e = subst (HasUnderlying p (Defined (symbol_in p rank))) (sym e) (interface is written)

-- each item of a list has a property after one more is pushed
pub each_push : {X : Type 0} (P : ℕ → X → Type 0) (old new : List X) (n : ℕ) (x : X) → new ≡ old ++ (x ∷ []) → length old ≡ n →
    ((r : ℕ) (y : X) → slice_get old r ≡ Some y → P r y) → P n x →
    (r : ℕ) (y : X) → slice_get new r ≡ Some y → P r y
each_push P old new n x is size each last r y h =
    let e : slice_get (old ++ (x ∷ [])) r ≡ Some y = sym (ap (λ xs. slice_get xs r) is) ∙ h in
    elim (cases_lt r (length old)) [
      | inl lt ↦ each r y (sym (get_before old x r lt) ∙ e)
      | inr ge ↦ (let within : r < length (old ++ (x ∷ [])) = slice_get_within (old ++ (x ∷ [])) r y e in
          let len : length (old ++ (x ∷ [])) ≡ length old + 1 = length_push old x in
          let same : r ≡ length old = omega arith in
          let at : x ≡ y = same_Some x y (sym (get_last old x) ∙ (ap (slice_get (old ++ (x ∷ []))) (sym same) ∙ e)) in
          subst (λ k. P k y) (sym (same ∙ size)) (subst (P n) at last))
    ]

-- Links, before a loop's index

pub record LinksBelow (steps : List NameStep) (links : List (Vec ℕ)) (count : ℕ) : Type 0 where
  pub size : length links ≡ suc (length steps)
  pub holds : (to rank : ℕ) → rank < count → slice_get steps rank ≡ Some (Continues to) → LinksTo links to rank
  pub only : (to rank : ℕ) → LinksTo links to rank → slice_get steps rank ≡ Some (Continues to)

pub no_link : (steps : List NameStep) (links : List (Vec ℕ)) → length links ≡ suc (length steps) → ((a b : ℕ) → LinksTo links a b → ⊥) →
    LinksBelow steps links 0
no_link steps links size none = record { size = size; holds = λ to rank lt e. absurd (omega arith); only = λ to rank l. absurd (none to rank l) }

pub next_link : (steps : List NameStep) (old new : List (Vec ℕ)) (rank : ℕ) (s : NameStep) → slice_get steps rank ≡ Some s →
    AddsLinks old new rank (λ to. s ≡ Continues to) → LinksBelow steps old rank →
    LinksBelow steps new (rank + 1)
next_link steps old new rank s is more h = record {
  size = more.size ∙ h.size;
  holds = λ to r lt e. elim (cases_lt r rank) [
    | inl below ↦ more.keeps to r (h.holds to r below e)
    | inr ge ↦ (let same : rank ≡ r = omega arith in
        subst (LinksTo new to) same (more.holds to (same_Some s (Continues to) (sym is ∙ (ap (slice_get steps) same ∙ e)))))
  ];
  only = λ to r l. elim (more.only to r l) [ inl k ↦ h.only to r k | inr k ↦ ap (slice_get steps) k.0 ∙ (is ∙ ap Some k.1) ];
}

pub all_links : (steps : List NameStep) (links : List (Vec ℕ)) (count : ℕ) → count ≡ length steps → LinksBelow steps links count → AreStepLinks steps links
all_links steps links count e h = record {
  size = h.size;
  holds = λ to rank is. h.holds to rank (let lt : rank < length steps = slice_get_within steps rank (Continues to) is in omega arith) is;
  only = h.only;
}

pub links_within : (steps : List NameStep) (links : List (Vec ℕ)) → AreStepLinks steps links → (a b : ℕ) → LinksTo links a b → b < length links
links_within steps links h a b l = let lt : b < length steps = slice_get_within steps b (Continues a) (h.only a b l) in omega (arith, h.size)

-- The marks of steps that end

abbrev ends_at : Option NameStep → Bool
ends_at None = false
ends_at (Some s) = is_last_step s

end_mark : (steps : List NameStep) (rank : ℕ) → get_or (map is_last_step steps ++ (false ∷ [])) rank false ≡ ends_at (slice_get steps rank)
end_mark [] zero = refl
end_mark [] (suc rank) = refl
end_mark (s ∷ steps) zero = refl
end_mark (s ∷ steps) (suc rank) = end_mark steps rank

end_there : (s : NameStep) → is_last_step s ≡ true → (u : Underlying) × (s ≡ Ends u)
end_there (Ends u) e = (u, refl)
end_there (Continues to) e = absurd (false≢true e)
end_there Nothing e = absurd (false≢true e)

end_found : (o : Option NameStep) → ends_at o ≡ true → (u : Underlying) × (o ≡ Some (Ends u))
end_found None e = absurd (false≢true e)
end_found (Some s) e = let found = end_there s e in (found.0, ap Some found.1)

-- The order of steps

step_at : (steps : List NameStep) (links : List (Vec ℕ)) (marks : List Bool) (order : List ℕ) → AreStepLinks steps links →
    marks ≡ map is_last_step steps ++ (false ∷ []) → IsReachOrder links (HasMark marks) order →
    (i : ℕ) → i < length order → (s : NameStep) × ((slice_get steps (get_or order i 0) ≡ Some s) × ComesAfterTarget s order i)
step_at steps links marks order l m o i lt = elim (o.ordered i lt) [
  | inl begins ↦ (let found = end_found (slice_get steps (get_or order i 0))
      (sym (end_mark steps (get_or order i 0)) ∙ (ap (λ ms. get_or ms (get_or order i 0) false) (sym m) ∙ begins)) in
      (Ends found.0, (found.1, tt)))
  | inr led ↦ (Continues (get_or order led.0 0), (l.only (get_or order led.0 0) (get_or order i 0) led.1.1, (led.0, (led.1.0, refl))))
]

pub step_order : (steps : List NameStep) (links : List (Vec ℕ)) (marks : List Bool) (order : List ℕ) → AreStepLinks steps links →
    marks ≡ map is_last_step steps ++ (false ∷ []) → IsReachOrder links (HasMark marks) order →
    IsStepOrder steps order
step_order steps links marks order l m o = record {
  each = step_at steps links marks order l m o;
  ends = λ rank u e. o.places rank (first (ap (λ ms. get_or ms rank false) m ∙ (end_mark steps rank ∙ ap ends_at e)));
  continues = λ rank to e at. o.places rank (behind (subst (IsReachable links (HasMark marks)) at.1.1 (o.reached at.0 at.1.0)) (l.holds to rank e));
}

pub ends_size : (steps : List NameStep) (links : List (Vec ℕ)) (marks : List Bool) → AreStepLinks steps links → marks ≡ map is_last_step steps ++ (false ∷ []) →
    length marks ≡ length links
ends_size steps links marks l m =
    let len : length (map is_last_step steps ++ (false ∷ [])) ≡ length (map is_last_step steps) + 1 = length_push (map is_last_step steps) false in
    let same : length (map is_last_step steps) ≡ length steps = length-map steps is_last_step in
    let e : length marks ≡ length (map is_last_step steps ++ (false ∷ [])) = ap length m in
    omega (arith, l.size)

-- a step continues only to a definition of the package
pub step_within : (p : Package) (steps : List NameStep) → AreSteps p steps → (rank to : ℕ) → slice_get steps rank ≡ Some (Continues to) → to < length steps
step_within p steps are rank to e = let lt : to < length (package_types p) = (are.each rank (Continues to) e).1 in omega (arith, are.all)
