-- The names of fields, by rank.
use Rattle.std.proofs.Common.{ℕ, ◌≡◌, ◌<◌, Bool, List, length, ap, sym, subst, refl, ◌∙◌}
use Rattle.std.specs.Prelude.{Some, slice_get}
use Rattle.std.proofs.lemmas.Option.{same_Some}
use Rattle.types_declared.specs.Package.{Package, spelled}
use Rattle.types_declared.specs.Definitions.{PlacedField, package_fields}
use Rattle.types_members.specs.FieldsView.{IsFieldNamed}
use Rattle.types_members.specs.MembersView.{CountsAsField, AreCountingFields}
use Rattle.types_members.proofs.Noting.{IsFirstNamed}
use Rattle.types_members.proofs.Marking.{MarksBelow}

pub field_named : (p : Package) (rank : ℕ) (f : PlacedField) → slice_get (package_fields p) rank ≡ Some f →
    IsFieldNamed p rank f.definition (spelled p f.file f.name)
field_named p rank f e = record { field = f; is_field = record { has_rank = e; of_struct = refl; named = refl } }

pub one_name : (p : Package) (rank : ℕ) (f : PlacedField) → slice_get (package_fields p) rank ≡ Some f → (d : ℕ) (n : List ℕ) → IsFieldNamed p rank d n →
    (d ≡ f.definition) × (n ≡ spelled p f.file f.name)
one_name p rank f e d n h =
    let same : h.field ≡ f = same_Some h.field f (sym h.is_field.has_rank ∙ e) in
    (sym h.is_field.of_struct ∙ ap (λ g. g.definition) same, sym h.is_field.named ∙ ap (λ g. spelled p g.file g.name) same)

first_counts : (p : Package) (rank : ℕ) → IsFirstNamed (IsFieldNamed p) rank → CountsAsField p rank
first_counts p rank h = record {
  definition = h.definition;
  name = h.name;
  field = h.named.field;
  counting = record { is_field = h.named.is_field; first = λ other g lt is. h.first other lt (record { field = g; is_field = is }) };
}

counts_first : (p : Package) (rank : ℕ) → CountsAsField p rank → IsFirstNamed (IsFieldNamed p) rank
counts_first p rank h = record {
  definition = h.definition;
  name = h.name;
  named = record { field = h.field; is_field = h.counting.is_field };
  first = λ other lt k. h.counting.first other k.field lt k.is_field;
}

pub are_counting : (p : Package) (marks : List Bool) (count : ℕ) → count ≡ length (package_fields p) →
    MarksBelow (IsFirstNamed (IsFieldNamed p)) marks count → AreCountingFields p marks
are_counting p marks count e h = record {
  all = h.all ∙ e;
  each = λ rank lt. let at = h.each rank (subst (λ n. rank < n) (sym e) lt) in ((λ m. first_counts p rank (at.0 m)), (λ c. at.1 (counts_first p rank c)));
}
