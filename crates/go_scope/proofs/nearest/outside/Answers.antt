-- The answers to the goals of `nearest::outside`.
use Rattle.std.proofs.Common.{ℕ, ◌∷◌, [], List, length, ap, subst, Option}
use Rattle.go_scope.specs.declared.model.Block.TheVariants.{Universe, Package, File}
use Rattle.go_scope.specs.declared.model.Position.{Position}
use Rattle.go_scope.specs.Leading.{IsFirstIn}
use Rattle.go_scope.specs.Numbering.{numerals}
use Rattle.go_scope.specs.Table.{layout_of}
use Rattle.go_scope.proofs.Binding.{none_in, package_nearest, file_nearest, universe_nearest}
use Rattle.go_scope.proofs.Tables.{may_in_range}
use Rattle.go_scope.proofs.nearest.outside.Goals as goal

pub returns-in-Some : goal.returns-in-Some
returns-in-Some c =
    let xs = c.args.identifiers.now in
    let l = layout_of xs in
    let names = numerals c.args.names.now in
    let u = c.args.u in
    let N : List ℕ → Type 0 = λ n. IsFirstIn l names n Package (length xs) c.first_outside.result in
    let O : Option ℕ → Type 0 = λ o. IsFirstIn l names (names u) Package (length xs) o in
    let h = subst O c.in-Some.is (subst N (ap (λ n. n ∷ []) c.number_at-name.ensures) (c.first_outside.ensures l names (length xs) c.requires.linked.outer)) in
    package_nearest l names (names u) u c.requires.none_inside c.in-Some.d h.1 h.2 h.3

pub returns-in-Some-first_outside : goal.returns-in-Some-first_outside
returns-in-Some-first_outside c =
    let xs = c.args.identifiers.now in
    let l = layout_of xs in
    let names = numerals c.args.names.now in
    let u = c.args.u in
    let n = length xs in
    let name = ap (λ k. k ∷ []) c.number_at-name.ensures in
    let N : List ℕ → Type 0 = λ k. IsFirstIn l names k Package n c.first_outside.result in
    let M : List ℕ → Type 0 = λ k. IsFirstIn l names k (File c.place_at-file.result.file) n c.first_outside-in-None.result in
    let F : Position → Type 0 = λ p. IsFirstIn l names (names u) (File p.file) n c.first_outside-in-None.result in
    let O : Option ℕ → Type 0 = λ o. IsFirstIn l names (names u) Package n o in
    let Q : Option ℕ → Type 0 = λ o. IsFirstIn l names (names u) (File (l.place u).file) n o in
    let first = subst O c.in-None.is (subst N name (c.first_outside.ensures l names n c.requires.linked.outer)) in
    let h = subst Q c.in-Some-first_outside.is (subst F c.place_at-file.ensures (subst M name (c.first_outside-in-None.ensures l names n
    c.requires.linked.outer))) in
    file_nearest l names (names u) u c.requires.none_inside (none_in l names (names u) u Package n (may_in_range xs) first) c.in-Some-first_outside.d h.1 h.2
    h.3

pub returns-in-None-first_outside : goal.returns-in-None-first_outside
returns-in-None-first_outside c =
    let xs = c.args.identifiers.now in
    let l = layout_of xs in
    let names = numerals c.args.names.now in
    let u = c.args.u in
    let n = length xs in
    let name = ap (λ k. k ∷ []) c.number_at-name.ensures in
    let N : List ℕ → Type 0 = λ k. IsFirstIn l names k Package n c.first_outside.result in
    let M : List ℕ → Type 0 = λ k. IsFirstIn l names k (File c.place_at-file.result.file) n c.first_outside-in-None.result in
    let F : Position → Type 0 = λ p. IsFirstIn l names (names u) (File p.file) n c.first_outside-in-None.result in
    let O : Option ℕ → Type 0 = λ o. IsFirstIn l names (names u) Package n o in
    let Q : Option ℕ → Type 0 = λ o. IsFirstIn l names (names u) (File (l.place u).file) n o in
    let U : List ℕ → Type 0 = λ k. IsFirstIn l names k Universe n c.first_outside-in-None-first_outside.result in
    let first = subst O c.in-None.is (subst N name (c.first_outside.ensures l names n c.requires.linked.outer)) in
    let second = subst Q c.in-None-first_outside.is (subst F c.place_at-file.ensures (subst M name (c.first_outside-in-None.ensures l names n
    c.requires.linked.outer))) in
    universe_nearest l names (names u) u c.requires.none_inside (none_in l names (names u) u Package n (may_in_range xs) first)
    (none_in l names (names u) u (File (l.place u).file) n (may_in_range xs) second) n (may_in_range xs) c.first_outside-in-None-first_outside.result
    (subst U name (c.first_outside-in-None-first_outside.ensures l names n c.requires.linked.outer))
