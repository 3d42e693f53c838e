-- No fault of qualified identifiers comes where an import gets the name that it declared already.
use Rattle.std.proofs.Common.{ℕ, suc, ◌≡◌, ◌<◌, ◌+◌, inl, inr, List, length, map, refl, sym, ap, ◌∙◌, subst, arith}
use Rattle.std.specs.Prelude.{is_some}
use Rattle.std.proofs.lemmas.Bool.{true≢false}
use Rattle.std.proofs.lemmas.Bool.Decides.{nat_tests}
use Rattle.go_scope.specs.declared.model.Position.{Position}
use Rattle.go_scope.specs.declared.model.Purpose.{Purpose}
use Rattle.go_scope.specs.declared.model.Purpose.TheVariants as purpose
use Rattle.go_scope.specs.declared.model.Role.{Role}
use Rattle.go_scope.specs.declared.model.Role.TheVariants.{Use, Declaring, LeftName, Implied, NotLexical}
use Rattle.go_scope.specs.Bindings.{IsBoundTo, Layout, is_implied, is_left_name, is_use, may_declare, own, use_bound}
use Rattle.go_scope.specs.Moves.{moved_role}
use Rattle.go_scope.specs.Named.{with_names}
use Rattle.go_scope.specs.Packages.{ScopedPackage, layout_in, scoped}
use Rattle.go_scope.specs.SpelledFiles.{spelled_file}
use Rattle.go_scope.specs.Table.{LiesAt}
use Rattle.law_tokens.specs.Order.{StandInOrder}
use Rattle.law_tokens.proofs.HeldBytes.{numbered_files}
use Rattle.law_tokens.proofs.Ordered.{named_ordered, one_stands, package_ordered}
use Rattle.law_rename.specs.Around.{from_on}
use Rattle.law_rename.specs.Gained.{Gain}
use Rattle.law_changed_types.specs.SameBindings.{IsParsedPackage, IsSelectedAt}
use Rattle.types_check.specs.Check.{exports_in}
use Rattle.types_declared.specs.declared.fault.Fault.{Fault}
use Rattle.types_declared.specs.Laid.{IsPathOf, is_exported}
use Rattle.types_declared.specs.Package.{Package, laid_of}
use Rattle.types_resolve.specs.Scoping.{IsQualified, IsQualifiedFault, IsUnknownFault, qualified_fault}
use Rattle.law_gained_names.specs.NamedPackage.{numbers_of}
use Rattle.law_gained_names.specs.GainedName.{IsGainedAt, NoUnknownNameComes}
use Rattle.law_gained_names.proofs.Scopes.{from_covers, import_back, literal_role, old_within}

lexical_back : (m : ℕ → ℕ → ℕ) (r : Role) (x : Purpose) → moved_role m r ≡ NotLexical x → r ≡ NotLexical x
lexical_back m (NotLexical y) x same = same
lexical_back m Use x same = same
lexical_back m (Declaring b s) x same = absurd (let z : ⊥ = cc in z)
lexical_back m (LeftName b s) x same = absurd (let z : ⊥ = cc in z)
lexical_back m (Implied b s) x same = absurd (let z : ⊥ = cc in z)

next_back : (at u b : ℕ) → from_on (suc at) u ≡ suc (from_on (suc at) b) → u ≡ suc b
next_back at u b next = grind (arith, nat_tests)

-- identifiers stand in order

pub in_order : (p : Package) → IsParsedPackage p → StandInOrder p.layout p.size
in_order p h =
    let laid = h.is_package.is_laid in
    let plain = package_ordered (map spelled_file h.files) (numbered_files h.files h.sources) in
    let named = named_ordered laid.names (scoped h.files) plain in
    let table = with_names laid.names (scoped h.files) in
    let layout : p.layout ≡ layout_in table = ap (λ (x : Package). x.layout) h.is_package.is_package ∙ ap layout_in laid.is_named in
    let size : p.size ≡ length table.sites =
    ap (λ (x : Package). x.size) h.is_package.is_package ∙ ap (λ (t : ScopedPackage). length t.sites) laid.is_named in
    subst (λ (l : Layout). StandInOrder l p.size) (sym layout) (subst (λ n. StandInOrder (layout_in table) n) (sym size) named)

selected_at : (p : Package) → IsParsedPackage p → (u : ℕ) → u < p.size → p.layout.role u ≡ NotLexical purpose.Selected →
    IsSelectedAt p (p.layout.place u).file (p.layout.place u).index
selected_at p parsed u less selected =
    let place = p.layout.place u in
    let lies : LiesAt p.layout place u = (ap is_implied selected, refl, refl) in
    record {
      identifier = u;
      found = record {
        within = less;
        holds = lies;
        first = λ v before there.
            let same : v ≡ u = one_stands p.layout p.size (in_order p parsed) place v u (let z : v < p.size = omega arith in z) less there lies in
            omega arith;
      };
      selected = selected;
    }

module _ (i : Gain) (at : ℕ) (p q : Package) (h : IsGainedAt i at p q) where
  abbrev t : ℕ → ℕ → ℕ
  t = (numbers_of i at).token

  abbrev k : ℕ → ℕ
  k = from_on (suc at)

  file_at : (d : ℕ) → (q.layout.place (k d)).file ≡ (p.layout.place d).file
  file_at d = ap (λ (z : Position). z.file) (h.renumbered.places d)

  index_at : (d : ℕ) → (q.layout.place (k d)).index ≡ t (p.layout.place d).file (p.layout.place d).index
  index_at d = ap (λ (z : Position). z.index) (h.renumbered.places d)

  selected_back : (u : ℕ) → q.layout.role (k u) ≡ NotLexical purpose.Selected → p.layout.role u ≡ NotLexical purpose.Selected
  selected_back u selected = lexical_back h.renumbered.ends (p.layout.role u) purpose.Selected (sym (h.renumbered.roles u) ∙ selected)

  behind_back : (b u : ℕ) → u < p.size → p.layout.role u ≡ NotLexical purpose.Selected → (p.layout.place u).file ≡ (p.layout.place b).file →
      (q.layout.place (k u)).index ≡ (q.layout.place (k b)).index + 2 → (p.layout.place u).index ≡ (p.layout.place b).index + 2
  behind_back b u less selected file behind =
      let own_file = (p.layout.place u).file in
      let index = (p.layout.place u).index in
      let other = (p.layout.place b).index in
      let dot = h.renumbered.dots own_file index (selected_at p h.renumbered.parsed u less selected) in
      let now : t own_file index ≡ t own_file other + 2 =
      sym (index_at u) ∙ behind ∙ ap (λ n. n + 2) (index_at b ∙ ap (λ f. t f other) (sym file)) in
      let stays : t own_file index ≡ suc (suc (t own_file dot.before)) = dot.stays_behind in
      let same : t own_file dot.before ≡ t own_file other = omega (arith, now, stays) in
      let before : dot.before ≡ other = (h.renumbered.apart own_file).injective dot.before other same in
      let was : index ≡ suc (suc dot.before) = dot.is_behind in
      omega (arith, before, was)

  qualified_back : (b u d : ℕ) → u < p.size → IsQualified (laid_of q) (k b) (k u) (k d) → IsQualified (laid_of p) b u d
  qualified_back b u d less x =
      let selected = selected_back u x.selected in
      let file : (p.layout.place u).file ≡ (p.layout.place b).file = sym (file_at u) ∙ x.same_file ∙ file_at b in
      record {
        selected = selected;
        next = next_back at u b x.next;
        same_file = file;
        behind_dot = behind_back b u less selected file x.behind_dot;
        bound = (h.renumbered.bound b d).1 x.bound;
        is_import = import_back i at p q h d x.is_import;
      }

  literal_unbound : (d : ℕ) → IsBoundTo q.layout q.names (suc at) d → ⊥
  literal_unbound d (use_bound (inl used) bound) = true≢false (sym used ∙ ap is_use (literal_role i at p q h))
  literal_unbound d (use_bound (inr left) bound) = true≢false (sym left.0 ∙ ap is_left_name (literal_role i at p q h))
  literal_unbound d (own same counts) =
      true≢false (sym counts.declares.may ∙ ap (λ n. may_declare (q.layout.role n)) (sym same) ∙ ap may_declare (literal_role i at p q h))

  same_kind : (path name other : List ℕ) → other ≡ name →
      qualified_fault (is_exported other) (exports_in q path other) ≡ qualified_fault (is_exported name) (exports_in p path name)
  same_kind path name other same =
      ap (λ n. qualified_fault (is_exported n) (exports_in q path n)) same
      ∙ ap (λ x. qualified_fault (is_exported name) (is_some (x.exported name))) (h.renumbered.exports path)

  fault_back : (b u d n : ℕ) (f : Fault) → n ≡ k u → n < q.size → (x : IsQualifiedFault q.files (exports_in q) (laid_of q) n f) → x.before ≡ k b →
      x.import ≡ k d →
      (g : Fault) × IsUnknownFault p.files (exports_in p) (laid_of p) g
  fault_back b u d n f is below x before import =
      let less : u < p.size = old_within i at p q h u (subst (λ m. m < q.size) is below) in
      let qualified : IsQualified (laid_of q) (k b) (k u) (k d) =
      subst (λ m. IsQualified (laid_of q) m (k u) (k d)) before
      (subst (λ m. IsQualified (laid_of q) x.before (k u) m) import (subst (λ m. IsQualified (laid_of q) x.before m x.import) is x.qualified)) in
      let imports = (h.renumbered.imports d x.path).1 (record {
        is_import = qualified.is_import;
        of_path = subst (λ m. IsPathOf q.files (laid_of q) m x.path) import x.of_path;
      }) in (
        record { file = (p.layout.place u).file; token = (p.layout.place u).index; kind = f.kind },
        (
          u,
          less,
          record {
            before = b;
            import = d;
            path = x.path;
            qualified = qualified_back b u d less qualified;
            of_path = imports.of_path;
            file = refl;
            token = refl;
            kind = sym (same_kind x.path (p.names u) (q.names n) (ap q.names is ∙ h.keeps.names u)) ∙ x.kind;
          },
        ),
      )

  unknown_back : (f : Fault) → IsUnknownFault q.files (exports_in q) (laid_of q) f → (g : Fault) × IsUnknownFault p.files (exports_in p) (laid_of p) g
  unknown_back f x =
      let fault = x.2 in
      let u = from_covers at x.0 (λ is.
      let z : NotLexical purpose.ImportPath ≡ NotLexical purpose.Selected = sym (literal_role i at p q h) ∙ ap q.layout.role (sym is)
      ∙ fault.qualified.selected in
      cc) in
      let b = from_covers at fault.before (λ is.
      literal_unbound fault.import (subst (λ n. IsBoundTo q.layout q.names n fault.import) is fault.qualified.bound)) in
      let d = h.renumbered.bound_to_old b.0 fault.import (subst (λ n. IsBoundTo q.layout q.names n fault.import) (sym b.1) fault.qualified.bound) in
      fault_back b.0 u.0 d.0 x.0 f (sym u.1) x.1 fault (sym b.1) d.1

pub no_unknown_name_comes : NoUnknownNameComes
no_unknown_name_comes i at p q h fine f x = let g = unknown_back i at p q h f x in fine g.0 g.1
