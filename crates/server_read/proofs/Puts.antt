-- A put and its body.
use Rattle.std.proofs.Common.{◌≡◌, ℕ, ◌≤◌, List, ◌++◌, length, take, drop, Option, None, Some, Ok, Bool, true, false, cond, nat_lt, IsTrue, ◌⊎◌, inl, inr}
use Rattle.std.proofs.Common.{refl, sym, ap, ◌∙◌, arith, length-append, drop_at, append-nil}
use Rattle.std.proofs.lemmas.List.{take_all, take-append-le}
use Rattle.std.proofs.lemmas.Bool.{ltb-true, false≢true}
use Rattle.std.proofs.lemmas.Grind.{common_steps}
use Rattle.std.specs.List.{list_all}
use Rattle.base_files.specs.Path.{IsPath, is_segment, segments}
use Rattle.base_files.specs.declared.limits.Limits.{Limits}
use Rattle.server_read.specs.declared.command.Command.TheVariants as command
use Rattle.server_read.specs.declared.command.StateCommand.TheVariants as state
use Rattle.server_read.specs.declared.body.Body.{Body}
use Rattle.server_read.specs.declared.body.Body.TheVariants as body
use Rattle.server_read.specs.declared.message.Message.TheVariants.{CutShort}
use Rattle.server_read.specs.declared.next.Next.TheVariants as next
use Rattle.server_read.specs.Bodies.{Skips, ReadsBody, ReadsBytes, FallsShort}
use Rattle.server_read.specs.Wire.{IsBodyKept, KeepsBody}
use Rattle.server_read.specs.Puts.{ReadsPut, SaysIfKept, put_next}

Either : Type 0 → Type 0
Either P = P ⊎ (P → ⊥)

le_by : (m n : ℕ) (b : Bool) → b ≡ nat_lt n m → Either (m ≤ n)
unfolding Either
le_by m n true e = inr (λ h. absurd (omega (arith, h, ltb-true n m (sym e))))
le_by m n false e = inl (grind (arith, common_steps))

true_or : (b : Bool) → Either (IsTrue b)
unfolding Either
true_or true = inl refl
true_or false = inr false≢true

-- a text is a path or it is none
path_or : (path : List ℕ) → Either (IsPath 2 path)
unfolding Either
path_or path = elim (le_by (length path) 255 (nat_lt 255 (length path)) refl) [
  | inr f ↦ inr (λ p. f p.short)
  | inl short ↦ elim (true_or (list_all is_segment (segments path))) [
    | inr f ↦ inr (λ p. f p.parts)
    | inl parts ↦ elim (le_by 2 (length (segments path)) (nat_lt (length (segments path)) 2) refl) [
      | inr f ↦ inr (λ p. f p.enough)
      | inl enough ↦ inl (record { short = short; parts = parts; enough = enough })
    ]
  ]
]

kept_or : (limits : Limits) (path : List ℕ) (size : ℕ) → Either (IsBodyKept limits path size)
unfolding Either
kept_or limits path size = elim (path_or path) [
  | inr f ↦ inr (λ k. f k.0)
  | inl is_path ↦ elim (le_by size limits.file_bytes (nat_lt limits.file_bytes size) refl) [
    | inr f ↦ inr (λ k. f k.1)
    | inl fits ↦ inl (is_path, fits)
  ]
]

-- the body of a put with these bytes is kept or dropped
some_body : (limits : Limits) (path bytes : List ℕ) → (body : Option (List ℕ)) × KeepsBody limits path bytes body
unfolding Either
some_body limits path bytes = elim (kept_or limits path (length bytes)) [
  | inl k ↦ (Some bytes, (k, refl))
  | inr f ↦ (None, f)
]

-- the bytes that were read, as a part of the input
pub record IsFront (size : ℕ) (input bytes rest : List ℕ) : Type 0 where
  pub taken : take size input ≡ bytes
  pub left : drop size input ≡ rest
  pub within : size ≤ length input

front : (size : ℕ) (input bytes rest : List ℕ) → length bytes ≡ size → input ≡ bytes ++ rest → IsFront size input bytes rest
front size input bytes rest n e = rw e (record {
  taken = take-append-le size bytes rest (omega (arith, n)) ∙ take_all size bytes (omega (arith, n));
  left = drop_at bytes rest size n;
  within = omega (arith, n, length-append bytes rest);
})

-- bytes that were read, and dropped for want of memory
taken_away : (limits : Limits) (basis : ℕ) (path : List ℕ) (size : ℕ) (before after : Option (List ℕ)) → ReadsBytes before after size
    → ReadsPut limits basis path size before after (Ok next.NoRoom)
taken_away limits basis path size None after h = (command.OnState state.Look, tt)
taken_away limits basis path size (Some input) None h = absurd h.2
taken_away limits basis path size (Some input) (Some rest) h =
    let f = front size input h.0 rest h.1 h.2 in
    let b = some_body limits path (take size input) in
    (command.OnState (state.Put basis path size b.0), (f.within, (b.0, b.1, refl), ap Some (sym f.left)))

cut_short : (limits : Limits) (basis : ℕ) (path : List ℕ) (size : ℕ) (before after : Option (List ℕ)) → FallsShort before after size
    → ReadsPut limits basis path size before after (Ok (next.Message CutShort))
cut_short limits basis path size None after h = tt
cut_short limits basis path size (Some input) None h = absurd h.2
cut_short limits basis path size (Some input) (Some rest) h =
    let all : input ≡ h.0 = h.2 ∙ ap (λ l. h.0 ++ l) h.3 ∙ append-nil h.0 in
    (omega (arith, ap length all, h.1), ap Some h.3)

pub put_skipped : (limits : Limits) (basis : ℕ) (path : List ℕ) (size : ℕ) (before after : Option (List ℕ)) (whole : Bool) → Skips before after size (Ok whole)
    → ReadsPut limits basis path size before after (Ok (cond whole next.NoRoom (next.Message CutShort)))
put_skipped limits basis path size before after true h = taken_away limits basis path size before after h
put_skipped limits basis path size before after false h = cut_short limits basis path size before after h

not_kept_of : (limits : Limits) (path : List ℕ) (size : ℕ) (kept : Bool) → SaysIfKept limits path size kept → kept ≡ false → IsBodyKept limits path size → ⊥
not_kept_of limits path size kept t e = λ k. false≢true (sym e ∙ t.1 k)

pub put_read : (limits : Limits) (basis : ℕ) (path : List ℕ) (size : ℕ) (before after : Option (List ℕ)) (kept : Bool) (became : Body)
    → SaysIfKept limits path size kept → ReadsBody before after size kept (Ok became)
    → ReadsPut limits basis path size before after (Ok (put_next basis path size became))
put_read limits basis path size before after kept body.NoRoom t h = taken_away limits basis path size before after h.1
put_read limits basis path size before after kept body.Short t h = cut_short limits basis path size before after h
put_read limits basis path size None after kept (body.Kept bytes) t h = tt
put_read limits basis path size (Some input) None kept (body.Kept bytes) t h = absurd h.2
put_read limits basis path size (Some input) (Some rest) kept (body.Kept bytes) t h =
    let f = front size input bytes rest h.1 h.2 in
    let k : IsBodyKept limits path (length (take size input)) = rw (f.taken, h.1) (t.0 h.0) in
    (f.within, (Some bytes, (k, sym f.taken), refl), ap Some (sym f.left))
put_read limits basis path size None after kept body.Dropped t h = tt
put_read limits basis path size (Some input) None kept body.Dropped t h = absurd h.1.2
put_read limits basis path size (Some input) (Some rest) kept body.Dropped t h =
    let f = front size input h.1.0 rest h.1.1 h.1.2 in
    let k : IsBodyKept limits path (length (take size input)) → ⊥ = rw (f.taken, h.1.1) (not_kept_of limits path size kept t h.0) in
    (f.within, (None, k, refl), ap Some (sym f.left))
