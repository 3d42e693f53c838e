-- Methods and their definitions.
use Rattle.std.proofs.Common.{ℕ, ◌≡◌, ◌+◌, ◌<◌, inl, inr, List, [], ◌∷◌, ◌++◌, length, get_or, ap, sym, subst, refl, ◌∙◌, arith}
use Rattle.std.specs.Prelude.{Option, Some, None, slice_get, slice_index_or, MatchOption}
use Rattle.std.proofs.lemmas.Bool.{cases_lt}
use Rattle.std.proofs.lemmas.List.{get_or_append_left, get_or_push, length_push}
use Rattle.std.proofs.lemmas.Option.{same_Some, none-some}
use Rattle.go_ast.specs.Tree.{Local, ReceiverTree}
use Rattle.types_declared.specs.Package.{Package, PlacedFunction, package_functions, spelled}
use Rattle.types_declared.specs.Written.{BindsToken, DeclaresType, Mentions, by_name}
use Rattle.types_declared.specs.WrittenView.{IsMentionedBy}
use Rattle.types_declared.specs.Definitions.{IsMethodOf}
use Rattle.types_members.specs.MembersView.{IsMethodOn, AreOwners}
use Rattle.types_members.specs.MethodsView.{IsOwner, IsOwnedBy}

-- the definition that an unqualified name is bound to
pub bound_definition : (p : Package) (file name rank : ℕ) → Mentions p file (Local name) rank → (d : ℕ) × (BindsToken p file name d × DeclaresType p d rank)
bound_definition p file name rank (by_name {d = d} binds declares) = (d, (binds, declares))

pub no_receiver : (p : Package) (f : PlacedFunction) → f.function.receiver ≡ None → (d : ℕ) → IsOwner p f d → ⊥
no_receiver p f none d h = none-some h.receiver (sym none ∙ h.received)

owner_mentions : (p : Package) (f : PlacedFunction) (r : ReceiverTree) → f.function.receiver ≡ Some r → (d : ℕ) → IsOwner p f d →
    Mentions p f.file (Local r.type_name) d
owner_mentions p f r e d own = by_name {d = own.declaration}
    (subst (λ x. BindsToken p f.file x.type_name own.declaration) (same_Some own.receiver r (sym own.received ∙ e)) own.binds) own.of_type

pub owned_by : (p : Package) (f : PlacedFunction) (r : ReceiverTree) (o : Option ℕ) → f.function.receiver ≡ Some r →
    IsMentionedBy p f.file (Local r.type_name) o → IsOwnedBy p f o
owned_by p f r None e h = λ d own. h d (owner_mentions p f r e d own)
owned_by p f r (Some rank) e h =
    let at = bound_definition p f.file r.type_name rank h.0 in (
      record { receiver = r; received = e; declaration = at.0; binds = at.1.0; of_type = at.1.1 },
      λ d own. h.1 d (owner_mentions p f r e d own),
    )

-- The function of a rank

method_from : (p : Package) (rank d : ℕ) (f : PlacedFunction) → slice_get (package_functions p) rank ≡ Some f → IsOwner p f d →
    IsMethodOf p d (spelled p f.file f.function.name) rank f
method_from p rank d f e own = record {
  has_rank = e;
  receiver = own.receiver;
  received = own.received;
  declaration = own.declaration;
  binds =
      own.binds;
  of_type = own.of_type;
  named = refl;
}

owner_from : (p : Package) (rank d : ℕ) (n : List ℕ) (f g : PlacedFunction) → slice_get (package_functions p) rank ≡ Some f → IsMethodOf p d n rank g →
    IsOwner p f d
owner_from p rank d n f g e m =
    subst (λ x. IsOwner p x d) (same_Some g f (sym m.has_rank ∙ e))
    (record { receiver = m.receiver; received = m.received; declaration = m.declaration; binds = m.binds; of_type = m.of_type })

abbrev pub HasOwner : Package → ℕ → Option ℕ → Type 0
HasOwner p rank o = MatchOption o ((d : ℕ) → IsMethodOn p rank d → ⊥) (λ d. IsMethodOn p rank d)

pub has_owner : (p : Package) (rank : ℕ) (f : PlacedFunction) (o : Option ℕ) → slice_get (package_functions p) rank ≡ Some f → IsOwnedBy p f o →
    HasOwner p rank o
has_owner p rank f None e h = λ d m. h d (owner_from p rank d m.name f m.method e m.is_method)
has_owner p rank f (Some d) e h = record { name = spelled p f.file f.function.name; method = f; is_method = method_from p rank d f e h.0 }

-- owners has for each function below count the definition of which it is a method, or none
pub record OwnersBelow (p : Package) (owners : List (Option ℕ)) (count : ℕ) : Type 0 where
  pub all : length owners ≡ count
  pub each : (rank : ℕ) → rank < count → HasOwner p rank (slice_index_or owners rank None)

pub owners_none : (p : Package) (owners : List (Option ℕ)) → owners ≡ [] → OwnersBelow p owners 0
owners_none p owners e = record { all = ap length e; each = λ rank lt. absurd (omega arith) }

pub owners_next : (p : Package) (old new : List (Option ℕ)) (count : ℕ) (o : Option ℕ) → new ≡ old ++ (o ∷ []) → HasOwner p count o →
    OwnersBelow p old count → OwnersBelow p new (count + 1)
owners_next p old new count o e has h =
    let len : length (old ++ (o ∷ [])) ≡ length old + 1 = length_push old o in
    record {
      all = ap length e ∙ len ∙ ap (λ n. n + 1) h.all;
      each = λ rank lt. elim (cases_lt rank count) [
        | inl below ↦ subst (HasOwner p rank) (sym (ap (λ xs. get_or xs rank None) e ∙ get_or_append_left old (o ∷ []) None rank (omega (arith, h.all))))
            (h.each rank below)
        | inr ge ↦ (
            let last : rank ≡ count = omega arith in
            subst (HasOwner p rank) (sym (ap (λ xs. get_or xs rank None) e ∙ get_or_push old o None rank (omega (arith, h.all))))
            (subst (λ r. HasOwner p r o) (sym last) has))
      ];
    }

pub all_owners : (p : Package) (owners : List (Option ℕ)) (count : ℕ) → count ≡ length (package_functions p) → OwnersBelow p owners count → AreOwners p owners
all_owners p owners count e h = record { all = h.all ∙ e; each = λ rank lt. h.each rank (subst (λ n. rank < n) (sym e) lt) }
