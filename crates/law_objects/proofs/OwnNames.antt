-- Neither the name nor the literal of an import denotes a package-level declaration or a truth value.
use Rattle.std.proofs.Common.{ℕ, suc, ◌≡◌, ◌<◌, ◌+◌, true, false, List, ap, sym, subst, ◌∙◌}
use Rattle.std.proofs.Common.{inl, inr}
use Rattle.std.proofs.lemmas.Option.{slice_get_within}
use Rattle.go_scope.specs.declared.model.Block.TheVariants.{File}
use Rattle.go_scope.specs.declared.model.Block.TheVariants.{Package as PackageBlock}
use Rattle.go_scope.specs.declared.model.Position.{Position}
use Rattle.go_scope.specs.declared.model.Purpose.TheVariants as purpose
use Rattle.go_scope.specs.declared.model.Role.TheVariants.{Declaring, NotLexical}
use Rattle.go_scope.specs.Bindings.{IsBoundTo, Layout, block_of, is_implied, is_left_name, is_use, own, use_bound}
use Rattle.go_scope.specs.Moves.{moved_place, moved_role}
use Rattle.go_scope.specs.Site.{or_blank}
use Rattle.go_scope.specs.Table.{IsFoundAt, LiesAt}
use Rattle.law_tokens.specs.Order.{StandInOrder}
use Rattle.law_tokens.proofs.Ordered.{one_stands}
use Rattle.law_rename.specs.Gained.{Gain, path_site}
use Rattle.law_rename.proofs.Bound.{nothing_bound}
use Rattle.types_declared.specs.Package.{Package}
use Rattle.types_declared.specs.Written.{BindsToken}
use Rattle.build_object.specs.Lines.{GlobalName}
use Rattle.build_object.specs.Sources.{IsGlobalAt, IsTrueAt}
use Rattle.build_object.specs.Sources as source
use Rattle.law_gained_names.specs.NamedPackage.{numbers_of}
use Rattle.law_gained_names.proofs.Layouts.{from_stays, here_within, path_at, stood_at, token_here}
use Rattle.law_gained_names.proofs.Literals.{import_is}
use Rattle.law_gained_names.specs.GainedName.{IsGainedAt}
use Rattle.law_gained_names.proofs.Scopes.{literal_role}

-- an identifier that declares in a file's block is bound to itself alone
bound_to_itself : (l : Layout) (names : ℕ → List ℕ) (u d file start : ℕ) → l.role u ≡ Declaring (File file) start → IsBoundTo l names u d → u ≡ d
bound_to_itself l names u d file start role (use_bound (inl is) x) = let none : false ≡ true = sym (ap is_use role) ∙ is in cc
bound_to_itself l names u d file start role (use_bound (inr is) x) = let none : false ≡ true = sym (ap is_left_name role) ∙ is.0 in cc
bound_to_itself l names u d file start role (own e c) = e

module _ (i : Gain) (at : ℕ) (p q : Package) (a : IsGainedAt i at p q) where
  old_role : p.layout.role at ≡ Declaring (File i.rank) 0
  old_role =
      ap (λ (l : Layout). l.role at) a.named.was.layout ∙ ap (λ o. (or_blank o).role) (stood_at i at a.named.old a.named.new a.named.gained)

  -- the import declares in the block of its file
  pub import_role : q.layout.role at ≡ Declaring (File i.rank) 0
  import_role = ap q.layout.role (sym (from_stays at)) ∙ a.renumbered.roles at ∙ ap (moved_role a.renumbered.ends) old_role

module _ (i : Gain) (at : ℕ) (p q : Package) (a : IsGainedAt i at p q) (in_order : StandInOrder q.layout q.size) where
  new_role : q.layout.role at ≡ Declaring (File i.rank) 0
  new_role = import_role i at p q a

  new_place : q.layout.place at ≡ record { file = i.rank; index = i.number }
  new_place =
      ap q.layout.place (sym (from_stays at)) ∙ a.renumbered.places at
      ∙ ap (moved_place (numbers_of i at).token) (import_is i at p q a.named a.literals)
      ∙ ap (λ n. record { file = i.rank; index = n }) (token_here i at i.number ∙ from_stays i.number)

  literal_place : q.layout.place (suc at) ≡ record { file = i.rank; index = i.number + 1 }
  literal_place =
      ap (λ (l : Layout). l.place (suc at)) a.named.is.layout
      ∙ ap (λ o. (or_blank o).place) (path_at i at a.named.old a.named.new a.named.gained)

  name_within : at < q.size
  name_within =
      subst (λ k. k < q.size) (from_stays at)
      (a.renumbered.within at
      (subst (λ k. at < k) (sym a.named.was.size) (here_within i at a.named.old a.named.new a.named.gained)))

  literal_within : suc at < q.size
  literal_within =
      subst (λ k. suc at < k) (sym a.named.is.size)
      (slice_get_within a.named.new (suc at) (path_site i) (path_at i at a.named.old a.named.new a.named.gained))

  name_lies : LiesAt q.layout (record { file = i.rank; index = i.number }) at
  name_lies = (ap is_implied new_role, ap (λ (z : Position). z.file) new_place, ap (λ (z : Position). z.index) new_place)

  literal_lies : LiesAt q.layout (record { file = i.rank; index = i.number + 1 }) (suc at)
  literal_lies =
      (ap is_implied (literal_role i at p q a), ap (λ (z : Position). z.file) literal_place, ap (λ (z : Position). z.index) literal_place)

  -- what is found there

  name_found : (u : ℕ) → IsFoundAt q.layout q.size (record { file = i.rank; index = i.number }) u → u ≡ at
  name_found u found =
      one_stands q.layout q.size in_order (record { file = i.rank; index = i.number }) u at found.within name_within found.holds name_lies

  literal_found : (u : ℕ) → IsFoundAt q.layout q.size (record { file = i.rank; index = i.number + 1 }) u → u ≡ suc at
  literal_found u found =
      one_stands q.layout q.size in_order (record { file = i.rank; index = i.number + 1 }) u (suc at) found.within literal_within found.holds literal_lies

  name_binds : (d : ℕ) → BindsToken q i.rank i.number d → at ≡ d
  name_binds d b =
      bound_to_itself q.layout q.names at d i.rank 0 new_role (subst (λ u. IsBoundTo q.layout q.names u d) (name_found b.identifier b.found) b.bound)

  literal_binds : (d : ℕ) → BindsToken q i.rank (i.number + 1) d → ⊥
  literal_binds d b =
      let bound : IsBoundTo q.layout q.names (suc at) d = subst (λ u. IsBoundTo q.layout q.names u d) (literal_found b.identifier b.found) b.bound in
      nothing_bound i i.name at a.named.old a.named.new a.named.gained q.names d (subst (λ (l : Layout). IsBoundTo l q.names (suc at) d) a.named.is.layout
      bound)

  -- the name

  pub name_no_global : (g : GlobalName) → IsGlobalAt q i.rank i.number g → ⊥
  name_no_global _ (source.own {d} b level) =
      let role : q.layout.role d ≡ Declaring (File i.rank) 0 = ap q.layout.role (sym (name_binds d b)) ∙ new_role in
      let block : File i.rank ≡ PackageBlock = sym (ap block_of role) ∙ level in
      cc
  name_no_global _ (source.imported x) =
      let role : Declaring (File i.rank) 0 ≡ NotLexical purpose.Selected =
      sym new_role ∙ ap q.layout.role (sym (name_found x.identifier x.found)) ∙ x.selected in
      cc

  pub name_no_truth : IsTrueAt q i.rank i.number → ⊥
  name_no_truth x =
      let role : q.layout.role x.declaration ≡ Declaring (File i.rank) 0 = ap q.layout.role (sym (name_binds x.declaration x.binds)) ∙ new_role in
      let implied : false ≡ true = sym (ap is_implied role) ∙ x.predeclared.implied in
      cc

  -- the literal

  pub literal_no_global : (g : GlobalName) → IsGlobalAt q i.rank (i.number + 1) g → ⊥
  literal_no_global _ (source.own {d} b level) = literal_binds d b
  literal_no_global _ (source.imported x) =
      let role : NotLexical purpose.ImportPath ≡ NotLexical purpose.Selected =
      sym (literal_role i at p q a) ∙ ap q.layout.role (sym (literal_found x.identifier x.found)) ∙ x.selected in
      cc

  pub literal_no_truth : IsTrueAt q i.rank (i.number + 1) → ⊥
  literal_no_truth x = literal_binds x.declaration x.binds
