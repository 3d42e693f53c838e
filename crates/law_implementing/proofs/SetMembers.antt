-- What a set of members has, told by symbols.
use Rattle.std.proofs.Common.{◌≡◌, ◌==◌, ◌||◌, Bool, true, false, List, [], ◌∷◌, ap, refl, sym, ◌∙◌, inl, inr, eq-eqb}
use Rattle.std.specs.Prelude.{Contains, Option, Some, None, ◌↔◌}
use Rattle.std.specs.List.{list_any}
use Rattle.std.specs.Cmp.Lexicographic.{bytes_decides}
use Rattle.std.proofs.lemmas.Bool.{and_from, false≢true}
use Rattle.std.proofs.lemmas.Option.{none-some, same_Some}
use Rattle.base_lemmas.proofs.Elements.{first_or_later, nothing_in}
use Rattle.types_expr.specs.declared.symbol.Symbol.{Symbol}
use Rattle.types_expr.specs.Types.{same_path, same_symbol}
use Rattle.types_expr.specs.World.{Field as Written, Method as Received}
use Rattle.refs_binding.specs.declared.declaration.Declaration.{Declaration}
use Rattle.refs_binding.specs.declared.declaration.Declaration.TheVariants.{Field, Method}
use Rattle.refactor_coupled.specs.RenamedTypes.{SetRename, has_received_method, has_written_member, is_received_method, is_written_member, moves_if_received}
use Rattle.refactor_coupled.specs.RenamedTypes.{moves_if_written}
use Rattle.refactor_coupled.proofs.Listed.{listed_told}

same_itself : (s : Symbol) → same_symbol s s ≡ true
same_itself s = and_from (s.rank == s.rank) (same_path s.package s.package) (eq-eqb s.rank s.rank refl) ((bytes_decides s.package s.package).1 refl)

or_true : (b : Bool) → (b || true) ≡ true
or_true true = refl
or_true false = refl

passes : (test : Declaration → Bool) (e : Declaration) → test e ≡ true → (set : List Declaration) → Contains set e → list_any test set ≡ true
passes test e is [] has = absurd (nothing_in e has)
passes test e is (d ∷ set) has = elim (first_or_later d set e has) [
  | inl same ↦ ap (λ b. b || list_any test set) (ap test same ∙ is)
  | inr later ↦ ap (λ b. test d || b) (passes test e is set later) ∙ or_true (test d)
]

pub has_written : (set : List Declaration) (s : Symbol) → (has_written_member set s ≡ true) ↔ Contains set (Field s)
has_written set s = (listed_told set (Field s), passes (λ d. is_written_member d s) (Field s) (same_itself s) set)

pub has_received : (set : List Declaration) (s : Symbol) → (has_received_method set s ≡ true) ↔ Contains set (Method s)
has_received set s = (listed_told set (Method s), passes (λ d. is_received_method d s) (Method s) (same_itself s) set)

-- what moves is of the set, and what stays is none of it
module _ (r : SetRename) where
  pub moved_field : (o : Option Written) → moves_if_written r o ≡ true → (x : Written) × ((o ≡ Some x) × Contains r.set (Field x.symbol))
  moved_field None e = absurd (false≢true e)
  moved_field (Some x) e = (x, (refl, (has_written r.set x.symbol).0 e))

  pub still_field : (o : Option Written) → moves_if_written r o ≡ false → (x : Written) → o ≡ Some x → Contains r.set (Field x.symbol) → ⊥
  still_field None e x at among = none-some x at
  still_field (Some y) e x at among =
      false≢true (sym e ∙ ap (λ (z : Written). has_written_member r.set z.symbol) (same_Some y x at) ∙ (has_written r.set x.symbol).1 among)

  pub moved_method : (o : Option Received) → moves_if_received r o ≡ true → (x : Received) × ((o ≡ Some x) × Contains r.set (Method x.symbol))
  moved_method None e = absurd (false≢true e)
  moved_method (Some x) e = (x, (refl, (has_received r.set x.symbol).0 e))

  pub still_method : (o : Option Received) → moves_if_received r o ≡ false → (x : Received) → o ≡ Some x → Contains r.set (Method x.symbol) → ⊥
  still_method None e x at among = none-some x at
  still_method (Some y) e x at among =
      false≢true (sym e ∙ ap (λ (z : Received). has_received_method r.set z.symbol) (same_Some y x at) ∙ (has_received r.set x.symbol).1 among)
