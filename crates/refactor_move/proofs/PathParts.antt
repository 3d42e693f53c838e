-- The parts of paths that move.
use Rattle.std.proofs.Common.{ℕ, ◌≡◌, ◌+◌, inl, inr, true, false, List, [], ◌∷◌, ◌++◌, length, take, drop, Option, Some, None, Bor, refl, sym, ap, ◌∙◌}
use Rattle.std.specs.Prelude.{MatchOption, ◌==◌}
use Rattle.std.specs.Cmp.Lexicographic.{pointwise, bytes_decides}
use Rattle.std.proofs.Math.Seq.{take-append_seam}
use Rattle.std.proofs.lemmas.Bool.{true≢false}
use Rattle.std.proofs.lemmas.List.{append_cancel_left, append-nil, take-append-drop}
use Rattle.base_files.specs.Path.{IsPath}
use Rattle.base_files.specs.declared.refusal.Refusal.{Refusal}
use Rattle.base_files.specs.declared.refusal.Refusal.TheVariants.{Memory, TooLarge}
use Rattle.std.specs.Prelude.{Ok, Err}
use Rattle.refactor_move.specs.declared.moved.Moved.{Moved}
use Rattle.refactor_move.specs.Paths.{IsUnder, HasMoved, HasMovedPackage}
use Rattle.refactor_move.specs.PathSteps.{IsPathRest, JoinsNewPath, FindsNewPath}

-- The rest of a text after other bytes.

pub rest_found : (front text : List ℕ) (o : Option (Bor (List ℕ))) →
    MatchOption o (pointwise ◌==◌ (take (length front) text) front ≡ false)
    (λ x. (pointwise ◌==◌ (take (length front) text) front ≡ true) × (x.now ≡ drop (length front) text) × (length x.now + length front ≡ length text)) →
    MatchOption o ((rest : List ℕ) → text ≡ front ++ rest → ⊥) (λ rest. text ≡ front ++ rest.now)
rest_found front text None h = λ rest e. true≢false (sym ((bytes_decides (take (length front) text) front).1 (ap (take (length front)) e ∙ take-append_seam
    front rest)) ∙ h)
rest_found front text (Some x) h =
    sym (take-append-drop (length front) text) ∙ ap (λ l. l ++ drop (length front) text) ((bytes_decides (take (length front) text) front).0 h.0) ∙ ap
    (λ l. front ++ l) (sym h.1)

-- The path of a package in the folder that moves: the rest after the folder is empty or begins with a slash, and stays.

pub record MovesBehind (from to old new : List ℕ) : Type 0 where
  pub rest : List ℕ
  pub was : old ≡ from ++ rest
  pub behind : IsPathRest rest
  pub is : new ≡ to ++ rest

pub moves_behind : (from to old new : List ℕ) → HasMovedPackage from to old new → MovesBehind from to old new
moves_behind from to old new (inl h) = record { rest = []; was = h.0 ∙ sym (append-nil from); behind = inl refl; is = h.1 ∙ sym (append-nil to) }
moves_behind from to old new (inr h) = record { rest = 47 ∷ h.rest; was = h.was; behind = inr (h.rest, refl); is = h.is }

-- a path moves to one

pub one_moved_package : (from to old one other : List ℕ) → HasMovedPackage from to old one → HasMovedPackage from to old other → one ≡ other
one_moved_package from to old one other h k =
    let a = moves_behind from to old one h in
    let b = moves_behind from to old other k in
    let same = append_cancel_left from a.rest b.rest (sym a.was ∙ b.was) in
    a.is ∙ ap (λ r. to ++ r) same ∙ sym b.is

-- and from one
pub one_source : (from to one other new : List ℕ) → HasMoved from to one new → HasMoved from to other new → one ≡ other
one_source from to one other new h k =
    let same = append_cancel_left to (47 ∷ h.rest) (47 ∷ k.rest) (sym h.is ∙ k.is) in
    h.was ∙ ap (λ r. from ++ r) same ∙ sym k.was

pub moved_under : (from to old new : List ℕ) → HasMoved from to old new → IsUnder to new
moved_under from to old new h = (h.rest, h.is)

-- a path of a file that moves

pub moved_file : (m : Moved) (path rest new : List ℕ) → path ≡ m.from ++ 47 ∷ rest → JoinsNewPath m.to rest (Ok new) → FindsNewPath m path (Ok (Some new))
moved_file m path rest new e h = record { moved = record { rest = rest; was = e; is = h.0 }; is_path = h.1 }

-- a path that is none

pub refused : (m : Moved) (path rest : List ℕ) → IsPath 1 path → path ≡ m.from ++ 47 ∷ rest → (r : Refusal) → JoinsNewPath m.to rest (Err r) →
    FindsNewPath m path (Err r)
refused m path rest is e TooLarge h = (m.to ++ 47 ∷ rest, (record { rest = rest; was = e; is = refl }, h, is))
refused m path rest is e Memory h = h
refused m path rest is e _ h = h
