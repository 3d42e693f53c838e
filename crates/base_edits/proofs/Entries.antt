-- The entries of a workspace, by what it has at a path.
use Rattle.std.proofs.Common.{◌≡◌, ℕ, Bool, true, false, List, [], ◌∷◌, cond, Option, Some, None, is_some, IsSome, T, refl, sym, ap, subst, ◌∙◌, ⊎_elim}
use Rattle.std.specs.declared.cmp.Ordering.TheVariants.{Less}
use Rattle.std.specs.Ordering.{eq_by_cmp, is_eq, is_lt}
use Rattle.std.specs.Cmp.{tied_itself, Equal-is}
use Rattle.std.specs.FinMap.{entries, entries_sorted, find, get, get-entries, is_sorted, same_map}
use Rattle.std.specs.FinMap.Entries.{below_all}
use Rattle.std.specs.List.{Contains}
use Rattle.std.proofs.lemmas.Bool.{true≢false, and_parts, false_from_ne_true}
use Rattle.std.proofs.lemmas.Option.{none-some, same_Some}
use Rattle.base_lemmas.proofs.Elements.{nothing_in, first_in, later_in, first_or_later}
use Rattle.base_lemmas.proofs.Tests.{less_from_test}
use Rattle.base_files.specs.Workspace.{Workspace, path_cmp}
use Rattle.base_files.proofs.WorkspaceLaws.{path_cmp_total, path_cmp_exact}

pub exact_path : (x y : List ℕ) → eq_by_cmp path_cmp x y ≡ true → x ≡ y
exact_path x y e = path_cmp_exact x y ((Equal-is (path_cmp x y)).0 e)

pub same_path : (x y : List ℕ) → x ≡ y → eq_by_cmp path_cmp x y ≡ true
same_path x y e = ap (λ z. eq_by_cmp path_cmp x z) (sym e) ∙ ap is_eq (tied_itself path_cmp_total x)

-- ---- what is found is an entry
pub found_in : (es : List (List ℕ × List ℕ)) (q t : List ℕ) → find path_cmp q es ≡ Some t → Contains es (q, t)
found_in [] q t h = absurd (none-some t h)
found_in (e ∷ es) q t h =
    elim (eq_by_cmp path_cmp q e.0) as (λ b. eq_by_cmp path_cmp q e.0 ≡ b → cond b (Some e.1) (find path_cmp q es) ≡ Some t → Contains (e ∷ es) (q, t)) [
      | true ↦ λ tied k. subst (Contains (e ∷ es)) (let is : e ≡ (q, t) = (λ i. (sym (exact_path q e.0 tied) i, same_Some e.1 t k i)) in is) (first_in e es)
      | false ↦ λ apart k. later_in e es (q, t) (found_in es q t k)
    ] refl h

-- and where there is an entry, one is found
pub some_found : (es : List (List ℕ × List ℕ)) (q t : List ℕ) → Contains es (q, t) → (v : List ℕ) × (find path_cmp q es ≡ Some v)
some_found [] q t has = absurd (nothing_in (q, t) has)
some_found (e ∷ es) q t has =
    elim (eq_by_cmp path_cmp q e.0) as (λ b. eq_by_cmp path_cmp q e.0 ≡ b → (v : List ℕ) × (cond b (Some e.1) (find path_cmp q es) ≡ Some v)) [
      | true ↦ λ tied. (e.1, refl)
      | false ↦ λ apart. ⊎_elim
          (λ (is : e ≡ (q, t)). absurd (true≢false (sym (same_path q e.0 (ap (λ (x : List ℕ × List ℕ). x.0) (sym is))) ∙ apart)))
          (λ (rest : Contains es (q, t)). some_found es q t rest)
          (first_or_later e es (q, t) has)
    ] refl

below_at : (k : List ℕ) (es : List (List ℕ × List ℕ)) (e : List ℕ × List ℕ) → below_all path_cmp k es ≡ true → Contains es e → path_cmp k e.0 ≡ Less
below_at k [] e below has = absurd (nothing_in e has)
below_at k (d ∷ es) e below has =
    let parts = and_parts (is_lt (path_cmp k d.0)) (below_all path_cmp k es) below in
    ⊎_elim
    (λ (is : d ≡ e). ap (λ (x : List ℕ × List ℕ). path_cmp k x.0) (sym is) ∙ less_from_test _ parts.0)
    (λ (rest : Contains es e). below_at k es e parts.1 rest)
    (first_or_later d es e has)

less_apart : (x y : List ℕ) → path_cmp x y ≡ Less → x ≡ y → ⊥
less_apart x y less same = true≢false (ap is_lt (sym less ∙ ap (path_cmp x) (sym same) ∙ tied_itself path_cmp_total x))

found_sorted : (es : List (List ℕ × List ℕ)) (e : List ℕ × List ℕ) → is_sorted path_cmp es ≡ true → Contains es e → find path_cmp e.0 es ≡ Some e.1
found_sorted [] e sorted has = absurd (nothing_in e has)
found_sorted (d ∷ es) e sorted has =
    let parts = and_parts (below_all path_cmp d.0 es) (is_sorted path_cmp es) sorted in
    ⊎_elim
    (λ (is : d ≡ e). ap (λ b. cond b (Some d.1) (find path_cmp e.0 es)) (same_path e.0 d.0 (ap (λ (x : List ℕ × List ℕ). x.0) (sym is))) ∙
    ap (λ (x : List ℕ × List ℕ). Some x.1) is)
    (λ (rest : Contains es e).
    let apart : eq_by_cmp path_cmp e.0 d.0 ≡ false = false_from_ne_true (eq_by_cmp path_cmp e.0 d.0)
    (λ tied. less_apart d.0 e.0 (below_at d.0 es e parts.0 rest) (sym (exact_path e.0 d.0 tied))) in
    ap (λ b. cond b (Some d.1) (find path_cmp e.0 es)) apart ∙ found_sorted es e parts.1 rest)
    (first_or_later d es e has)

T_is : (b : Bool) → T b → b ≡ true
T_is true h = refl
T_is false h = absurd h

pub entry_of : (w : Workspace) (q t : List ℕ) → get w q ≡ Some t → Contains (entries w) (q, t)
entry_of w q t is = found_in (entries w) q t (sym (get-entries w q) ∙ is)

pub get_entry : (w : Workspace) (e : List ℕ × List ℕ) → Contains (entries w) e → get w e.0 ≡ Some e.1
get_entry w e has = get-entries w e.0 ∙ found_sorted (entries w) e (T_is _ (entries_sorted w)) has

agree : (x y : Option (List ℕ)) → ((t : List ℕ) → x ≡ Some t → y ≡ Some t) → ((t : List ℕ) → y ≡ Some t → IsSome x) → x ≡ y
agree None None f g = refl
agree None (Some t) f g = absurd (true≢false (sym (g t refl)))
agree (Some t) y f g = sym (f t refl)

-- two workspaces with the same files are one
pub same_files : (v w : Workspace) → ((q t : List ℕ) → get v q ≡ Some t → get w q ≡ Some t) → ((q t : List ℕ) → get w q ≡ Some t → IsSome (get v q)) → v ≡ w
same_files v w f g = same_map path_cmp_total path_cmp_exact v w (λ q. agree (get v q) (get w q) (f q) (g q))

-- the value of an option that has one
pub value_of : {X : Type 0} (o : Option X) → IsSome o → (x : X) × (o ≡ Some x)
value_of None h = absurd (true≢false (sym h))
value_of (Some x) h = (x, refl)

pub some_is : {X : Type 0} (o : Option X) (x : X) → o ≡ Some x → IsSome o
some_is o x e = ap is_some e

pub none_from : {X : Type 0} (o : Option X) → ((x : X) → o ≡ Some x → ⊥) → o ≡ None
none_from None h = refl
none_from (Some x) h = absurd (h x refl)
