-- Edits in order around one of them.
use Rattle.std.proofs.Common.{ℕ, ◌≤◌, List, [], ◌∷◌, ◌++◌, arith}
use Rattle.std.specs.List.{AllByRecursion}
use Rattle.base_edits.specs.Edits.{AreInOrder}
use Rattle.base_edits.specs.declared.edit.Edit.{Edit}

-- The edits before one end at its start or before it.
pub end_before : (a : ℕ) (es : List Edit) (e : Edit) (fs : List Edit) → AreInOrder a (es ++ e ∷ fs) → AllByRecursion (λ d. d.span.end ≤ e.span.start) es
end_before a [] e fs order = tt
end_before a (d ∷ es) e fs order = (from_there d.span.end es e fs order.2, end_before d.span.end es e fs order.2)
  where
    from_there : (a : ℕ) (es : List Edit) (e : Edit) (fs : List Edit) → AreInOrder a (es ++ e ∷ fs) → a ≤ e.span.start
    from_there a [] e fs order = order.0
    from_there a (d ∷ es) e fs order =
        let one : a ≤ d.span.start = order.0 in
        let two : d.span.start ≤ d.span.end = order.1 in
        let three = from_there d.span.end es e fs order.2 in
        omega arith

-- The edits behind one are in order from its end on.
pub behind_one : (a : ℕ) (es : List Edit) (e : Edit) (fs : List Edit) → AreInOrder a (es ++ e ∷ fs) → AreInOrder e.span.end fs
behind_one a [] e fs order = order.2
behind_one a (d ∷ es) e fs order = behind_one d.span.end es e fs order.2

-- Each begins there or later.
pub begin_behind : (a : ℕ) (fs : List Edit) → AreInOrder a fs → AllByRecursion (λ d. a ≤ d.span.start) fs
begin_behind a [] order = tt
begin_behind a (d ∷ fs) order = (
  order.0,
  lower a d.span.end fs (let one : a ≤ d.span.start = order.0 in let two : d.span.start ≤ d.span.end = order.1 in
      omega arith) (begin_behind d.span.end fs order.2),
)
  where
    lower : (a b : ℕ) (fs : List Edit) → a ≤ b → AllByRecursion (λ d. b ≤ d.span.start) fs → AllByRecursion (λ d. a ≤ d.span.start) fs
    lower a b [] le all = tt
    lower a b (d ∷ fs) le all = ((let one : b ≤ d.span.start = all.0 in omega arith), lower a b fs le all.1)
