-- The answers to the goals of `taken::ends_inside`.
use Rattle.std.proofs.Common.{◌≡◌, ◌∙◌, ◌+◌, ◌-◌, ◌≤◌, ◌∷◌, ◌||◌, true, false, ap, arith, drop, drop-cons, get_or, length, length-drop, suc, sym, take}
use Rattle.std.proofs.lemmas.List.{drop-drop}
use Rattle.std.specs.List.{starts_with}
use Rattle.std.specs.Prelude.{nat_eq, not}
use Rattle.tool_text.specs.GoMod.{is_padding}
use Rattle.tool_text.specs.Taken.{comment_mark, ends_inside}
use Rattle.tool_text.proofs.Comments.{byte_step, mark_step, two_bytes}
use Rattle.tool_text.proofs.Cuts.{tail_is}
use Rattle.tool_text.proofs.taken.ends_inside.Goals as goal

pub bytes-preserved-then-starts_with : goal.bytes-preserved-then-starts_with
bytes-preserved-then-starts_with c =
    let at = c.bytes.at in
    let line = c.args.line.now in
    let inside = c.bytes.inside in
    let starts : starts_with nat_eq (drop at line) (comment_mark inside) ≡ true =
    ap (λ l. starts_with nat_eq l (comment_mark inside)) (tail_is at line)
    ∙ ap (λ m. starts_with nat_eq (take (length line - at) (drop at line)) m) (sym c.comment_mark.ensures)
    ∙ (sym c.starts_with.ensures.value ∙ c.if-starts_with.true) in
    let two : 2 ≤ length (drop at line) = two_bytes inside (drop at line) starts in
    let len : length (drop at line) ≡ length line - at = length-drop at line in
    let test = c.bytes-test.true in
    record {
      within = omega (arith, two, len, test);
      same = c.bytes.invariant.same ∙ mark_step inside (drop at line) starts ∙ ap (ends_inside (not inside)) (drop-drop 2 at line);
    }

pub bytes-preserved : goal.bytes-preserved
bytes-preserved c =
    let at = c.bytes.at in
    let line = c.args.line.now in
    let inside = c.bytes.inside in
    let byte = get_or line at 0 in
    let first : drop at line ≡ byte ∷ drop (suc at) line = drop-cons line at 0 c.bytes-test.true in
    let none : starts_with nat_eq (drop at line) (comment_mark inside) ≡ false =
    ap (λ l. starts_with nat_eq l (comment_mark inside)) (tail_is at line)
    ∙ ap (λ m. starts_with nat_eq (take (length line - at) (drop at line)) m) (sym c.comment_mark.ensures)
    ∙ (sym c.starts_with.ensures.value ∙ c.if-starts_with.false) in
    let no_mark : starts_with nat_eq (byte ∷ drop (suc at) line) (comment_mark inside) ≡ false =
    ap (λ l. starts_with nat_eq l (comment_mark inside)) (sym first) ∙ none in
    let passed : (inside || is_padding byte) ≡ true = sym c.is_no_text.ensures ∙ c.if-is_no_text.true in
    let next : suc at ≡ at + 1 = omega arith in
    let test = c.bytes-test.true in
    record {
      within = omega (arith, test);
      same = c.bytes.invariant.same ∙ ap (ends_inside inside) first ∙ byte_step inside byte (drop (suc at) line) no_mark passed
          ∙ ap (λ k. ends_inside inside (drop k line)) next;
    }
