-- Results of searches, by equivalent conditions.
use Rattle.std.proofs.Common.{◌≡◌, ℕ, ◌<◌, ◌≤◌, false, true, inl, inr, sym, subst}
use Rattle.std.specs.Prelude.{Option, Some, None}
use Rattle.std.specs.Borrow.{Bor}
use Rattle.std.specs.Option.{option_copied}
use Rattle.std.proofs.lemmas.Bool.{cases_lt, false≢true}
use Rattle.base_lemmas.proofs.Tests.{not_below}
use Rattle.refs_places.specs.DeclaredPlaces.{IsChoice, IsChoiceIn}

pub found_as : {X : Type 0} (P Q : X → Type 0) (o : Option X) → ((x : X) → P x → Q x) → ((x : X) → Q x → P x) → IsChoice P o → IsChoice Q o
found_as P Q None to from h = λ x q. h x (from x q)
found_as P Q (Some x) to from h = to x h

pub found_in_as : {X : Type 0} (P Q : X → Type 0) (o : Option (Bor X)) → ((x : X) → P x → Q x) → ((x : X) → Q x → P x) → IsChoiceIn P o → IsChoiceIn Q o
found_in_as P Q None to from h = λ x q. h x (from x q)
found_in_as P Q (Some x) to from h = to x.now h

-- A borrowed result is right if its copy is.
pub found_copied : {X : Type 0} (P : X → Type 0) (o : Option (Bor X)) (x : Option X) → option_copied o ≡ x → IsChoice P x → IsChoiceIn P o
found_copied P None x e h = subst (IsChoice P) (sym e) h
found_copied P (Some b) x e h = subst (IsChoice P) (sym e) h

-- a place not_below a list
