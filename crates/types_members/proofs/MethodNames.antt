-- The names of methods, by rank, and which of them count.
use Rattle.std.proofs.Common.{ℕ, ◌≡◌, ◌+◌, ◌<◌, Bool, true, false, not, List, length, ap, sym, subst, ◌∙◌}
use Rattle.std.specs.Prelude.{Option, Some, None, slice_get, MatchOption, ◌↔◌}
use Rattle.std.proofs.lemmas.Bool.{false≢true, true≢false, false_from_ne_true, not-true, not_from_false}
use Rattle.std.proofs.lemmas.Option.{same_Some, slice_get_within}
use Rattle.go_scope.specs.WellFormed.{WellFormed}
use Rattle.types_declared.specs.Package.{Package, PlacedFunction, package_functions, package_types, type_place, spelled}
use Rattle.types_declared.specs.Written.{BindsToken, DeclaresType}
use Rattle.types_declared.specs.Definitions.{IsMethodOf, HasFieldNamed}
use Rattle.types_members.specs.MemberNames.{AddsMemberName, AreNamesBelow}
use Rattle.types_members.specs.MembersView.{IsMethodOn, CountsAsMethod, AreCountingMethods}
use Rattle.types_members.specs.MethodsView.{AddsMethodName, no_method, method}
use Rattle.types_declared.proofs.Naming.{one_binding}
use Rattle.types_declared.proofs.Ranking.{one_rank}
use Rattle.types_members.proofs.Marking.{MarksBelow}
use Rattle.types_members.proofs.Noting.{names_next, names_skip}
use Rattle.types_members.proofs.Owning.{HasOwner}

-- the function of this rank is a method of this name of the definition
pub record IsMethodNamed (p : Package) (rank definition : ℕ) (name : List ℕ) : Type 0 where
  pub method : PlacedFunction
  pub is_method : IsMethodOf p definition name rank method

pub same_function : (p : Package) (rank : ℕ) (f g : PlacedFunction) → slice_get (package_functions p) rank ≡ Some f →
    slice_get (package_functions p) rank ≡ Some g → g ≡ f
same_function p rank f g e h = same_Some g f (sym h ∙ e)

-- a method belongs to at most one definition
pub one_owner : (p : Package) → WellFormed p.layout → (rank d e : ℕ) (m n : List ℕ) (f g : PlacedFunction) → IsMethodOf p d m rank f →
    IsMethodOf p e n rank g → e ≡ d
one_owner p w rank d e m n f g a b =
    let same : g ≡ f = same_function p rank f g a.has_rank b.has_rank in
    let receiver = same_Some b.receiver a.receiver (sym b.received ∙ ap (λ x. x.function.receiver) same ∙ a.received) in
    let binds : BindsToken p f.file a.receiver.type_name b.declaration =
    subst (λ r. BindsToken p f.file r.type_name b.declaration) receiver (subst (λ x. BindsToken p x.file b.receiver.type_name b.declaration) same b.binds) in
    let bound : b.declaration ≡ a.declaration = one_binding p w f.file a.receiver.type_name b.declaration a.declaration binds a.binds in
    one_rank type_place (package_types p) p.layout a.declaration e d (subst (λ x. DeclaresType p x e) bound b.of_type) a.of_type

-- a method has at most one name
pub one_method_name : (p : Package) (rank d e : ℕ) (m n : List ℕ) (f g : PlacedFunction) → IsMethodOf p d m rank f → IsMethodOf p e n rank g → n ≡ m
one_method_name p rank d e m n f g a b = sym b.named ∙ ap (λ x. spelled p x.file x.function.name) (same_function p rank f g a.has_rank b.has_rank) ∙ a.named

-- the definition of a method is one of the package
pub owner_within : (p : Package) (rank d : ℕ) → IsMethodOn p rank d → d < length (package_types p)
owner_within p rank d m = slice_get_within (package_types p) d m.is_method.of_type.item m.is_method.of_type.has_rank

pub owner_in_range : (p : Package) (rank : ℕ) (o : Option ℕ) → HasOwner p rank o → MatchOption o (Unit {0}) (λ d. d < length (package_types p))
owner_in_range p rank None h = tt
owner_in_range p rank (Some d) h = owner_within p rank d h

-- One more function

method_here : (p : Package) (rank d : ℕ) (f : PlacedFunction) → slice_get (package_functions p) rank ≡ Some f → IsMethodOn p rank d →
    IsMethodOf p d (spelled p f.file f.function.name) rank f
method_here p rank d f e m =
    let same : m.method ≡ f = same_function p rank f m.method e m.is_method.has_rank in
    let named = sym m.is_method.named ∙ ap (λ x. spelled p x.file x.function.name) same in
    subst (λ n. IsMethodOf p d n rank f) named (subst (λ x. IsMethodOf p d m.name rank x) same m.is_method)

pub names_after : (p : Package) → WellFormed p.layout → (rank : ℕ) (f : PlacedFunction) (o : Option ℕ) (old new : ℕ → List ℕ → Bool) (counts : Bool) →
    slice_get (package_functions p) rank ≡ Some f →
    HasOwner p rank o → AddsMethodName p f o old new counts → AreNamesBelow (IsMethodNamed p) rank old → AreNamesBelow (IsMethodNamed p) (rank + 1) new
names_after p w rank f o old new counts e has (no_method none same fails) h =
    let no : (d : ℕ) → IsMethodOn p rank d → ⊥ = subst (HasOwner p rank) none has in
    names_skip (IsMethodNamed p) rank new (λ d n k. no d (record { name = n; method = k.method; is_method = k.is_method })) (record {
      holds = λ i d n lt k. same d n ∙ h.holds i d n lt k;
      only = λ d n t. h.only d n (sym (same d n) ∙ t);
    })
names_after p w rank f o old new counts e has (method {definition = d} some notes says) h =
    let m : IsMethodOn p rank d = subst (HasOwner p rank) some has in
    let is = method_here p rank d f e m in
    let name = spelled p f.file f.function.name in
    names_next (IsMethodNamed p) rank d name old new (record { method = f; is_method = is })
    (λ x n k. (one_owner p w rank d x name n f k.method is k.is_method, one_method_name p rank d x name n f k.method is k.is_method)) notes h

pub counts_here : (p : Package) → WellFormed p.layout → (rank : ℕ) (f : PlacedFunction) (o : Option ℕ) (old new : ℕ → List ℕ → Bool) (counts : Bool) →
    slice_get (package_functions p) rank ≡ Some f →
    HasOwner p rank o → AddsMethodName p f o old new counts → AreNamesBelow (IsMethodNamed p) rank old → (counts ≡ true) ↔ CountsAsMethod p rank
counts_here p w rank f o old new counts e has (no_method none same fails) h =
    let no : (d : ℕ) → IsMethodOn p rank d → ⊥ = subst (HasOwner p rank) none has in (
      (λ t. absurd (false≢true (sym fails ∙ t))),
      (λ c. absurd (no c.definition (record { name = c.name; method = c.method; is_method = c.counting.is_method }))),
    )
counts_here p w rank f o old new counts e has (method {definition = d} some notes says) h =
    let m : IsMethodOn p rank d = subst (HasOwner p rank) some has in
    let is = method_here p rank d f e m in
    let name = spelled p f.file f.function.name in (
      (λ t. let parts = says.0 t in
          record {
            definition = d;
            name = name;
            method = f;
            counting = record {
              is_method = is;
              no_field = parts.1;
              first = λ other g lt k. true≢false (sym (h.holds other d name lt (record { method = g; is_method = k })) ∙ parts.0);
            };
          }),
      (λ c.
          let ed : c.definition ≡ d = one_owner p w rank d c.definition name c.name f c.method is c.counting.is_method in
          let en : c.name ≡ name = one_method_name p rank d c.definition name c.name f c.method is c.counting.is_method in
          says.1 (
            false_from_ne_true (old d name) (λ t. let before = h.only d name t in
                c.counting.first before.0 before.1.1.method before.1.0
                (subst (λ x. IsMethodOf p x c.name before.0 before.1.1.method) (sym ed)
                (subst (λ n. IsMethodOf p d n before.0 before.1.1.method) (sym en) before.1.1.is_method))),
            λ field. c.counting.no_field (subst (λ x. HasFieldNamed p x c.name) (sym ed) (subst (HasFieldNamed p d) (sym en) field)),
          )),
    )

pub are_counting_methods : (p : Package) (marks : List Bool) (count : ℕ) → count ≡ length (package_functions p) →
    MarksBelow (CountsAsMethod p) marks count → AreCountingMethods p marks
are_counting_methods p marks count e h = record { all = h.all ∙ e; each = λ rank lt. h.each rank (subst (λ n. rank < n) (sym e) lt) }

-- a method whose name was added
pub noted_method : (p : Package) (f : PlacedFunction) (o : Option ℕ) (d : ℕ) (name : List ℕ) (old new : ℕ → List ℕ → Bool) (counts : Bool) → o ≡ Some d →
    name ≡ spelled p f.file f.function.name →
    AddsMemberName old new d name → ((counts ≡ true) ↔ ((old d name ≡ false) × (HasFieldNamed p d name → ⊥))) → AddsMethodName p f o old new counts
noted_method p f o d name old new counts some e notes says =
    method {definition = d} some (subst (AddsMemberName old new d) e notes) (subst (λ n. (counts ≡ true) ↔ ((old d n ≡ false) × (HasFieldNamed p d n →
    ⊥))) e says)

-- whether a method whose name was added counts
pub counts_if : (p : Package) (d : ℕ) (name : List ℕ) (noted is_new has : Bool) → is_new ≡ not noted → is_new ≡ true → (has ≡ true) ↔ HasFieldNamed p d name →
    (not has ≡ true) ↔ ((noted ≡ false) × (HasFieldNamed p d name → ⊥))
counts_if p d name noted is_new has e t h = (
  (λ n. (not-true noted (sym e ∙ t), λ f. false≢true (sym (not-true has n) ∙ h.1 f))),
  (λ k. not_from_false has (false_from_ne_true has (λ b. k.1 (h.0 b)))),
)

pub counts_not : (p : Package) (d : ℕ) (name : List ℕ) (noted is_new : Bool) → is_new ≡ not noted → is_new ≡ false →
    (false ≡ true) ↔ ((noted ≡ false) × (HasFieldNamed p d name → ⊥))
counts_not p d name noted is_new e t = (
  (λ n. absurd (false≢true n)),
  (λ k. absurd (false≢true (sym t ∙ e ∙ not_from_false noted k.0))),
)
