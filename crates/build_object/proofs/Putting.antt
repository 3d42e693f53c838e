-- Lines that are put in turn.
use Rattle.std.proofs.Common.{ℕ, ◌≡◌, ◌+◌, ◌-◌, ◌≤◌, ◌∷◌, ◌++◌, [], List, ap, sym, ◌∙◌, refl, append_assoc, length, length-append, suc}
use Rattle.std.proofs.Common.{arith, map, reverse, set}
use Rattle.std.proofs.lemmas.List.{map-append, reverse-append, reverse-reverse, length-reverse, length-map, map-set, set_at}
use Rattle.build_object.specs.declared.instructions.Instruction.{Instruction}
use Rattle.build_object.specs.declared.instructions.Instruction.TheVariants as instruction
use Rattle.build_object.specs.declared.code.Code.{Code}
use Rattle.build_object.specs.Lines.{CodeLine, JumpBack, Pop, pops}
use Rattle.build_object.specs.LineView.{line_of, lines_in, Puts}

pub puts_none : (c : Code) → Puts [] c c
puts_none c = record { put = refl }

pub puts_as : {a b : List CodeLine} {old new : Code} → a ≡ b → Puts b old new → Puts a old new
puts_as {a} {b} {old} {new} e p = record { put = p.put ∙ ap (λ x. x ++ lines_in old) (sym e) }

-- b was put first, then a before it
pub puts_then : {a b : List CodeLine} {old mid new : Code} → Puts b old mid → Puts a mid new → Puts (a ++ b) old new
puts_then {a} {b} {old} {mid} {new} p q = record { put = q.put ∙ (ap (λ x. a ++ x) p.put ∙ sym (append_assoc a b (lines_in old))) }

-- a line, and then others before it
pub puts_behind : {a : List CodeLine} {l : CodeLine} {old mid new : Code} → Puts (l ∷ []) old mid → Puts a mid new → Puts (a ++ (l ∷ [])) old new
puts_behind p q = puts_then p q

-- one more line before others
pub puts_more : {b : List CodeLine} {l : CodeLine} {old mid new : Code} → Puts b old mid → Puts (l ∷ []) mid new → Puts (l ∷ b) old new
puts_more {b} {l} {old} {mid} {new} p q = record { put = q.put ∙ ap (λ x. l ∷ x) p.put }

-- how many lines were put
pub puts_length : {a : List CodeLine} {old new : Code} → Puts a old new → length (lines_in new) ≡ length a + length (lines_in old)
puts_length {a} {old} {new} p = ap length p.put ∙ length-append a (lines_in old)

pub put_count : {a : List CodeLine} {old new : Code} → Puts a old new → length (lines_in new) - length (lines_in old) ≡ length a
put_count {a} {old} {new} p = let h = puts_length p in omega arith

pub puts_grow : {a : List CodeLine} {old new : Code} (n : ℕ) → n ≤ length (lines_in old) → Puts a old new → n ≤ length (lines_in new)
puts_grow {a} {old} {new} n h p = let k = puts_length p in omega arith

-- The lines of code, of which the program keeps the last one first

pub lines_pushed : (old new : Code) (x : Instruction) → new.lines.items ≡ old.lines.items ++ (x ∷ []) → Puts (line_of x ∷ []) old new
lines_pushed old new x e = record {
  put = ap (λ xs. reverse (map line_of xs)) e ∙
      (ap reverse (map-append line_of old.lines.items (x ∷ [])) ∙ reverse-append (map line_of old.lines.items) (line_of x ∷ []));
}

pub lines_length : (c : Code) → length (lines_in c) ≡ length c.lines.items
lines_length c = length-reverse (map line_of c.lines.items) ∙ length-map c.lines.items line_of

reverse_first : (x : CodeLine) (xs : List CodeLine) → reverse (x ∷ xs) ≡ reverse xs ++ (x ∷ [])
reverse_first x xs = reverse-append (x ∷ []) xs

-- one line set, before the last ones
pub line_set : (xs : List CodeLine) (n : ℕ) (y : CodeLine) (lines rest : List CodeLine) (l : CodeLine) → length rest ≡ n → reverse xs ≡ lines ++ (l ∷ rest) →
    reverse (set xs n y) ≡ lines ++ (y ∷ rest)
line_set xs n y lines rest l size e =
    let split : xs ≡ reverse rest ++ (l ∷ reverse lines) = sym (reverse-reverse xs) ∙ (ap reverse e ∙ (reverse-append lines (l ∷ rest)
    ∙ (ap (λ z. z ++ reverse lines) (reverse_first l rest) ∙ append_assoc (reverse rest) (l ∷ []) (reverse lines)))) in
    ap (λ z. reverse (set z n y)) split
    ∙ (ap reverse (set_at (reverse rest) l (reverse lines) y n (length-reverse rest ∙ size))
    ∙ (reverse-append (reverse rest) (y ∷ reverse lines)
    ∙ (ap (λ z. z ++ reverse (reverse rest)) (reverse_first y (reverse lines) ∙ ap (λ z. z ++ (y ∷ [])) (reverse-reverse lines))
    ∙ (ap (λ z. (lines ++ (y ∷ [])) ++ z) (reverse-reverse rest) ∙ append_assoc lines (y ∷ []) rest))))

-- a line of code that is set to a jump back over all lines before it
pub with_jump_back : (old new : Code) (n passed : ℕ) → new.lines.items ≡ set old.lines.items n (instruction.JumpBack passed) →
    passed ≡ length old.lines.items - n →
    (lines rest : List CodeLine) (l : CodeLine) → length rest ≡ n → lines_in old ≡ lines ++ (l ∷ rest) →
    lines_in new ≡ lines ++ (JumpBack (suc (length lines)) ∷ rest)
unfolding line_of
with_jump_back old new n passed e count lines rest l size was =
    let all : length old.lines.items ≡ length lines + suc (length rest) = sym (lines_length old) ∙ (ap length was ∙ length-append lines (l ∷ rest)) in
    let over : passed ≡ suc (length lines) = omega arith in
    ap (λ xs. reverse (map line_of xs)) e ∙ (ap reverse (map-set line_of old.lines.items n (instruction.JumpBack passed))
    ∙ (line_set (map line_of old.lines.items) n (JumpBack passed) lines rest l size was ∙ ap (λ k. lines ++ (JumpBack k ∷ rest)) over))

-- Lines that drop values, one more in each turn

pub no_pops : (c : Code) → Puts (pops 0) c c
unfolding pops
no_pops c = record { put = refl }

pops_next : (n : ℕ) → pops (n + 1) ≡ Pop ∷ pops n
unfolding pops
pops_next n = let e : n + 1 ≡ suc n = omega arith in ap pops e

pub one_pop_more : (n : ℕ) {old mid new : Code} → Puts (pops n) old mid → Puts (Pop ∷ []) mid new → Puts (pops (n + 1)) old new
one_pop_more n p q = puts_as (pops_next n) (puts_more p q)
