-- The answers to the goals of `words::name_run`.
use Rattle.std.proofs.Common.{◌≡◌, ◌+◌, Some, drop, arith, sym, ap, ◌∙◌}
use Rattle.std.proofs.lemmas.List.{take_rest}
use Rattle.bstr.specs.Utf8.{decoded}
use Rattle.go_scanner.specs.Words.{NameRunSoFar}
use Rattle.go_scanner.proofs.AsciiLemmas.{mark_stops}
use Rattle.go_scanner.proofs.WordLemmas.{run_grows, run_stops, char_some}
use Rattle.go_scanner.proofs.words.name_run.Goals as goal

-- the character that was read, at the place in the whole
read : (c : goal.Then-continues_name) → (decoded (drop c.loop-n.n c.args.bytes.now)).char ≡ Some c.in-Some.c
read c = sym (ap (λ l. (decoded l).char) (take_rest c.args.bytes.now c.loop-n.n)) ∙ sym c.decode-found.ensures.char ∙ c.in-Some.is

size : (c : goal.Then-continues_name) → (decoded (drop c.loop-n.n c.args.bytes.now)).size ≡ c.decode-found.result.1
size c = sym (c.decode-found.ensures.size ∙ ap (λ l. (decoded l).size) (take_rest c.args.bytes.now c.loop-n.n))

grown : (c : goal.Then-continues_name) → NameRunSoFar c.args.bytes.now (c.loop-n.n + c.decode-found.result.1)
grown c = rw (← size c) (run_grows c.args.bytes.now c.loop-n.n c.in-Some.c c.loop-n.invariant (read c)
    (sym c.continues_name.ensures ∙ c.if-continues_name.true))

pub overflow_add-n : goal.overflow_add-n
overflow_add-n c = omega (arith, (grown c).fits)

pub loop-n-smaller : goal.loop-n-smaller
loop-n-smaller c = omega (arith, (grown c).fits, char_some (drop c.loop-n.n c.args.bytes.now) c.in-Some.c (read c), size c)

pub loop-n-preserved : goal.loop-n-preserved
loop-n-preserved c = grown c

pub returns-then-is_ascii_mark : goal.returns-then-is_ascii_mark
returns-then-is_ascii_mark c = run_stops _ _ c.loop-n.invariant
    (mark_stops c.args.bytes.now c.loop-n.n c.loop-n-test.true (sym c.is_ascii_mark.ensures ∙ c.if-is_ascii_mark.true))

pub returns-in_default : goal.returns-in_default
returns-in_default c =
    let read = sym (ap (λ l. (decoded l).char) (take_rest c.args.bytes.now c.loop-n.n)) ∙ sym c.decode-found.ensures.char ∙ c.in-Some.is in
    run_stops _ _ c.loop-n.invariant (rw read (sym c.continues_name.ensures ∙ c.if-continues_name.false))

pub returns-in_default-2 : goal.returns-in_default-2
returns-in_default-2 c =
    let read = sym (ap (λ l. (decoded l).char) (take_rest c.args.bytes.now c.loop-n.n)) ∙ sym c.decode-found.ensures.char ∙ c.in_default.is in
    run_stops _ _ c.loop-n.invariant (rw read tt)
