-- A package in which an import got the name that it declared already is the old one with the new numbers.
use Rattle.std.proofs.Common.{ℕ, suc, ◌≡◌, ◌<◌, inl, inr, List, map, Some, sym, ap, ◌∙◌, subst}
use Rattle.std.specs.Prelude.{slice_get, option_map}
use Rattle.std.proofs.lemmas.Bool.{cases_eq}
use Rattle.std.proofs.lemmas.Option.{same_Some, slice_get-map}
use Rattle.go_scope.specs.declared.model.Role.TheVariants.{Declaring, NotLexical}
use Rattle.go_scope.specs.declared.model.Block.TheVariants.{File}
use Rattle.go_scope.specs.declared.model.Purpose.TheVariants as purpose
use Rattle.go_scope.specs.Bindings.{IsBoundTo, Layout, Names}
use Rattle.go_scope.specs.Moves.{moved_place, moved_role}
use Rattle.go_scope.specs.Site.{or_blank, sites_layout, sites_names}
use Rattle.go_scope.specs.Table.{LiesAt}
use Rattle.law_rename.specs.Around.{from_on}
use Rattle.law_rename.specs.Gained.{Gain, moved_by}
use Rattle.law_changed_types.specs.SameBindings.{IsSelectedAt}
use Rattle.types_declared.specs.Package.{Package, PlacedFunction, package_functions, package_types, spelled}
use Rattle.types_declared.specs.Definitions.{PlacedField, fields_from, package_fields}
use Rattle.law_changed_types.specs.RenumberedPackage.{IsOldOrNew}
use Rattle.law_changed_types.proofs.RenumberedTypesListed.{new_function, new_field, new_type, types_by, functions_by, fields_by}
use Rattle.law_gained_names.specs.NamedPackage.{IsNamedPackage, NamedPackagesAreRenumbered, numbers_of}
use Rattle.law_gained_names.proofs.Layouts.{token, renumbers, tokens_agree, from_rises, roles, places, same_names, bound, bound_to_old, stood_at, within}
use Rattle.law_gained_names.proofs.Layouts.{old_or_new}
use Rattle.law_gained_names.proofs.Alone.{alone}
use Rattle.law_gained_names.proofs.Dots.{dots}
use Rattle.law_gained_names.proofs.NamedImportsFiles.{by_move, by_token, spelled_by_move}

bound_by : (l k : Layout) (x y : Names) (u d : ℕ) → k ≡ l → y ≡ x → IsBoundTo l x u d → IsBoundTo k y u d
bound_by l k x y u d layout names b =
    subst (λ (z : Layout). IsBoundTo z y u d) (sym layout) (subst (λ (z : Names). IsBoundTo l z u d) (sym names) b)

-- two changes of a list that give one list change each element alike
changed_alike : {X : Type 0} (g h : X → X) (xs ys : List X) → ys ≡ map g xs → ys ≡ map h xs → (rank : ℕ) (x : X) → slice_get xs rank ≡ Some x → g x ≡ h x
changed_alike g h xs ys one two rank x at =
    let by_one : slice_get ys rank ≡ Some (g x) = ap (λ zs. slice_get zs rank) one ∙ slice_get-map g xs rank ∙ ap (option_map g) at in
    let by_two : slice_get ys rank ≡ Some (h x) = ap (λ zs. slice_get zs rank) two ∙ slice_get-map h xs rank ∙ ap (option_map h) at in
    same_Some (g x) (h x) (sym by_one ∙ by_two)

module _ (i : Gain) (at : ℕ) (p q : Package) (a : IsNamedPackage i at p q) where
  abbrev t : ℕ → ℕ → ℕ
  t = token i at

  -- names of declarations are spelled as before

  functions_spelled : (rank : ℕ) (f : PlacedFunction) → slice_get (package_functions p) rank ≡ Some f →
      spelled q f.file (t f.file f.function.name) ≡ spelled p f.file f.function.name
  functions_spelled rank f is =
      let same = changed_alike (new_function (moved_by i)) (new_function t) (package_functions p) (package_functions q)
      (functions_by (moved_by i) p.files q.files (by_move i at p q a.parsed a.file)) (functions_by t p.files q.files (by_token i at p q a.parsed a.file))
      rank f is in
      ap (spelled q f.file) (sym (ap (λ (g : PlacedFunction). g.function.name) same)) ∙ spelled_by_move i p q a.file f.file f.function.name

  fields_spelled : (rank : ℕ) (f : PlacedField) → slice_get (package_fields p) rank ≡ Some f →
      spelled q f.file (t f.file f.name) ≡ spelled p f.file f.name
  fields_spelled rank f is =
      let fields : (m : ℕ → ℕ → ℕ) → package_types q ≡ map (new_type m) (package_types p) → package_fields q ≡ map (new_field m) (package_fields p) =
      λ m e. ap (fields_from 0) e ∙ fields_by m 0 (package_types p) in
      let same = changed_alike (new_field (moved_by i)) (new_field t) (package_fields p) (package_fields q)
      (fields (moved_by i) (types_by (moved_by i) p.files q.files (by_move i at p q a.parsed a.file)))
      (fields t (types_by t p.files q.files (by_token i at p q a.parsed a.file))) rank f is in
      ap (spelled q f.file) (sym (ap (λ (g : PlacedField). g.name) same)) ∙ spelled_by_move i p q a.file f.file f.name

  -- the import's declaration is no selector
  selects_no_import : (d : ℕ) → d ≡ at → p.layout.role d ≡ NotLexical purpose.Selected → ⊥
  selects_no_import d is selected =
      let declares : p.layout.role d ≡ Declaring (File i.rank) 0 =
      ap p.layout.role is ∙ ap (λ (l : Layout). l.role at) a.was.layout ∙ ap (λ o. (or_blank o).role) (stood_at i at a.old a.new a.gained) in
      let same : NotLexical purpose.Selected ≡ Declaring (File i.rank) 0 = sym selected ∙ declares in
      let z : ⊥ = cc in
      z

  selectors_spelled : (file x : ℕ) → IsSelectedAt p file x → spelled q file (t file x) ≡ spelled p file x
  selectors_spelled file x s =
      let lies = s.found.holds in
      let apart : file ≡ i.rank → x ≡ i.number → ⊥ = λ here literal. elim (cases_eq s.identifier at) [
        | inl is ↦ selects_no_import s.identifier is s.selected
        | inr other ↦ alone i at p q a s.identifier other (lies.1 ∙ here) (lies.2 ∙ literal)
      ] in
      ap (spelled q file) (sym (tokens_agree i at file x apart)) ∙ spelled_by_move i p q a.file file x

  -- identifiers

  alone_in_sites : (d : ℕ) → (d ≡ at → ⊥) → ((sites_layout a.old).place d).file ≡ i.rank → ((sites_layout a.old).place d).index ≡ i.number → ⊥
  alone_in_sites d other file index =
      alone i at p q a d other (ap (λ (l : Layout). (l.place d).file) a.was.layout ∙ file) (ap (λ (l : Layout). (l.place d).index) a.was.layout ∙ index)

  covered : (e : ℕ) → e < q.size → IsOldOrNew (numbers_of i at) p q e
  covered e less = elim (old_or_new i at a.old a.new a.gained e (subst (λ n. e < n) a.is.size less)) [
    | inl d ↦ inl (d.0, (d.1.0, subst (λ n. d.0 < n) (sym a.was.size) d.1.1))
    | inr none ↦ inr (λ file x lies. none file x (subst (λ (l : Layout). LiesAt l (record { file = file; index = t file x }) e) a.is.layout lies))
  ]

  pub places_here : (d : ℕ) → q.layout.place (from_on (suc at) d) ≡ moved_place t (p.layout.place d)
  places_here d =
      ap (λ (l : Layout). l.place (from_on (suc at) d)) a.is.layout
      ∙ places i at a.old a.new a.gained alone_in_sites d
      ∙ sym (ap (λ (l : Layout). moved_place t (l.place d)) a.was.layout)

  pub roles_here : (d : ℕ) → q.layout.role (from_on (suc at) d) ≡ moved_role (moved_by i) (p.layout.role d)
  roles_here d =
      ap (λ (l : Layout). l.role (from_on (suc at) d)) a.is.layout
      ∙ roles i at a.old a.new a.gained d
      ∙ sym (ap (λ (l : Layout). moved_role (moved_by i) (l.role d)) a.was.layout)

pub named_packages_are_renumbered : NamedPackagesAreRenumbered
named_packages_are_renumbered i at p q a k =
    let e = from_on (suc at) in
    record {
      path = a.path;
      parsed = a.parsed;
      parsed_too = a.parsed_too;
      apart = λ file. renumbers i at file;
      files = by_token i at p q a.parsed a.file;
      rising = λ d f less. from_rises (suc at) d f less;
      within = λ d less. subst (λ n. e d < n) (sym a.is.size) (within i at a.old a.new a.gained d (subst (λ n. d < n) a.was.size less));
      old_or_new = λ x less. covered i at p q a x less;
      places = λ d. places_here i at p q a d;
      ends = moved_by i;
      roles = λ d. roles_here i at p q a d;
      predeclared = λ d implied.
          ap (λ (z : Names). z (e d)) a.is.names ∙ same_names i at a.old a.new a.gained d ∙ sym (ap (λ (z : Names). z d) a.was.names);
      bound = λ u d.
          let both = bound i at a.old a.new a.gained u d in (
            (λ b. bound_by (sites_layout a.new) q.layout (sites_names a.new) q.names (e u) (e d) a.is.layout a.is.names
                (both.0 (bound_by p.layout (sites_layout a.old) p.names (sites_names a.old) u d (sym a.was.layout) (sym a.was.names) b))),
            (λ b. bound_by (sites_layout a.old) p.layout (sites_names a.old) p.names u d a.was.layout a.was.names
                (both.1 (bound_by q.layout (sites_layout a.new) q.names (sites_names a.new) (e u) (e d) (sym a.is.layout) (sym a.is.names) b))),
          );
      bound_to_old = λ u x b.
          bound_to_old i at a.old a.new a.gained (e u) x
          (bound_by q.layout (sites_layout a.new) q.names (sites_names a.new) (e u) x (sym a.is.layout) (sym a.is.names) b);
      imports = k;
      dots = λ file x s. dots i at p q a.parsed a.file file x s;
      selectors = λ file x s. selectors_spelled i at p q a file x s;
      fields = λ rank f is. fields_spelled i at p q a rank f is;
      functions = λ rank f is. functions_spelled i at p q a rank f is;
      exports = a.exports;
    }
