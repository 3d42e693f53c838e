-- The numbers of the rows behind the last bound, and their bounds, moved.
use Rattle.std.proofs.Common.{◌≡◌, ◌+◌, ◌-◌, ◌<◌, ◌≤◌, ◌^◌, ◌++◌, ℕ, List, length, get_or, map, take, sym, ap, subst, ◌∙◌, arith}
use Rattle.std.specs.List.{All, slice_range}
use Rattle.std.proofs.lemmas.List.{get_or_default, get_or_read}
use Rattle.std.proofs.lemmas.Result.{on_ok_weaker}
use Rattle.workspace_graph.specs.Imports.{LinkTable}
use Rattle.workspace_graph.specs.LinkRows.{AreBounds, last_bound, rows_of}
use Rattle.workspace_graph.specs.Shifts.{shifted}
use Rattle.workspace_graph.proofs.LinkRows.{rows_size}
use Rattle.workspace_graph.proofs.RowRuns.{bounds_more, numbers_between, numbers_long, rows_more, run_high, run_low, run_up, run_within}
use Rattle.workspace_graph.proofs.link_rows.LinkRows.add_shifted_rows.Goals as goal

pub index-start-requires : goal.index-start-requires
index-start-requires c =
    let bs = c.self.inside.bounds.items in
    let ns = c.self.inside.numbers.items in
    let obs = c.others.inside.bounds.items in
    let ons = c.others.inside.numbers.items in
    let from = c.args.run.from in
    let to = c.args.run.to in
    let size = rows_size obs ons in
    let same = ap length c.others.view_is in
    let within : to < length obs = omega (arith, c.requires.to, size, same, c.others.invariant.some) in
    omega (arith, within, c.requires.from, c.others.inside.bounds.ok.0)

pub index-end-requires : goal.index-end-requires
index-end-requires c =
    let bs = c.self.inside.bounds.items in
    let ns = c.self.inside.numbers.items in
    let obs = c.others.inside.bounds.items in
    let ons = c.others.inside.numbers.items in
    let from = c.args.run.from in
    let to = c.args.run.to in
    let size = rows_size obs ons in
    let same = ap length c.others.view_is in
    let within : to < length obs = omega (arith, c.requires.to, size, same, c.others.invariant.some) in
    omega (arith, within, c.others.inside.bounds.ok.0)

pub part_of-part-requires : goal.part_of-part-requires
part_of-part-requires c =
    let bs = c.self.inside.bounds.items in
    let ns = c.self.inside.numbers.items in
    let obs = c.others.inside.bounds.items in
    let ons = c.others.inside.numbers.items in
    let from = c.args.run.from in
    let to = c.args.run.to in
    let size = rows_size obs ons in
    let same = ap length c.others.view_is in
    let within : to < length obs = omega (arith, c.requires.to, size, same, c.others.invariant.some) in
    let start_is : c.index-start.result.now ≡ get_or obs from 0 =
    get_or_read obs from c.index-start.result.now (omega (arith, within, c.requires.from)) c.index-start.ensures 0 in
    let end_is : c.index-end.result.now ≡ get_or obs to 0 = get_or_read obs to c.index-end.result.now within c.index-end.ensures 0 in
    let up = run_up bs ns obs ons from to c.self.invariant c.others.invariant c.requires.from within in
    let inside = run_within bs ns obs ons from to c.self.invariant c.others.invariant c.requires.from within in
    let long = ap length c.deref-2.ensures.value in
    record { rising = omega (arith, start_is, end_is, up); within = omega (arith, end_is, inside, long) }

pub push_shifted-requires : goal.push_shifted-requires
push_shifted-requires c =
    let bs = c.self.inside.bounds.items in
    let ns = c.self.inside.numbers.items in
    let obs = c.others.inside.bounds.items in
    let ons = c.others.inside.numbers.items in
    let from = c.args.run.from in
    let to = c.args.run.to in
    let size = rows_size obs ons in
    let same = ap length c.others.view_is in
    let within : to < length obs = omega (arith, c.requires.to, size, same, c.others.invariant.some) in
    let start_is : c.index-start.result.now ≡ get_or obs from 0 =
    get_or_read obs from c.index-start.result.now (omega (arith, within, c.requires.from)) c.index-start.ensures 0 in
    let end_is : c.index-end.result.now ≡ get_or obs to 0 = get_or_read obs to c.index-end.result.now within c.index-end.ensures 0 in
    let part_is : c.part_of-part.result.now ≡ slice_range ons (get_or obs from 0) (get_or obs to 0) =
    c.part_of-part.ensures ∙ ap (λ (l : List ℕ). slice_range l c.index-start.result.now c.index-end.result.now) c.deref-2.ensures.value
    ∙ ap (λ a. slice_range ons a c.index-end.result.now) start_is ∙ ap (λ b. slice_range ons (get_or obs from 0) b) end_is in
    let P : ℕ → Type 0 = λ number. number + 1 < 2 ^ 64 in
    let all : All (All P) (rows_of obs ons) = subst (λ (g : LinkTable). All (All P) g) (sym c.others.view_is) c.requires.small in
    let e : from + (to - from) ≡ to = omega (arith, c.requires.from) in
    subst (All P) (sym part_is) (subst (λ k. All P (slice_range ons (get_or obs from 0) (get_or obs k 0))) e
    (numbers_between P obs ons c.others.invariant all (to - from) from (omega (arith, c.requires.from, within))))

pub overflow_add-run-2 : goal.overflow_add-run-2
overflow_add-run-2 c =
    let bs = c.self.inside.bounds.items in
    let ns = c.self.inside.numbers.items in
    let obs = c.others.inside.bounds.items in
    let ons = c.others.inside.numbers.items in
    let from = c.args.run.from in
    let to = c.args.run.to in
    let size = rows_size obs ons in
    let same = ap length c.others.view_is in
    let within : to < length obs = omega (arith, c.requires.to, size, same, c.others.invariant.some) in
    omega (arith, within, c.requires.from, c.others.inside.bounds.ok.0)

pub overflow_add-run : goal.overflow_add-run
overflow_add-run c =
    let bs = c.self.inside.bounds.items in
    let ns = c.self.inside.numbers.items in
    let obs = c.others.inside.bounds.items in
    let ons = c.others.inside.numbers.items in
    let from = c.args.run.from in
    let to = c.args.run.to in
    let size = rows_size obs ons in
    let same = ap length c.others.view_is in
    let within : to < length obs = omega (arith, c.requires.to, size, same, c.others.invariant.some) in
    omega (arith, within, c.requires.from, c.others.inside.bounds.ok.0)

pub part_of-ends-requires : goal.part_of-ends-requires
part_of-ends-requires c =
    let bs = c.self.inside.bounds.items in
    let ns = c.self.inside.numbers.items in
    let obs = c.others.inside.bounds.items in
    let ons = c.others.inside.numbers.items in
    let from = c.args.run.from in
    let to = c.args.run.to in
    let size = rows_size obs ons in
    let same = ap length c.others.view_is in
    let within : to < length obs = omega (arith, c.requires.to, size, same, c.others.invariant.some) in
    let long = ap length c.deref-3.ensures.value in
    record { rising = omega (arith, c.requires.from); within = omega (arith, within, long) }

pub push_moved-requires : goal.push_moved-requires
push_moved-requires c =
    let bs = c.self.inside.bounds.items in
    let ns = c.self.inside.numbers.items in
    let obs = c.others.inside.bounds.items in
    let ons = c.others.inside.numbers.items in
    let from = c.args.run.from in
    let to = c.args.run.to in
    let size = rows_size obs ons in
    let same = ap length c.others.view_is in
    let within : to < length obs = omega (arith, c.requires.to, size, same, c.others.invariant.some) in
    let start_is : c.index-start.result.now ≡ get_or obs from 0 =
    get_or_read obs from c.index-start.result.now (omega (arith, within, c.requires.from)) c.index-start.ensures 0 in
    let end_is : c.index-end.result.now ≡ get_or obs to 0 = get_or_read obs to c.index-end.result.now within c.index-end.ensures 0 in
    let part_is : c.part_of-part.result.now ≡ slice_range ons (get_or obs from 0) (get_or obs to 0) =
    c.part_of-part.ensures ∙ ap (λ (l : List ℕ). slice_range l c.index-start.result.now c.index-end.result.now) c.deref-2.ensures.value
    ∙ ap (λ a. slice_range ons a c.index-end.result.now) start_is ∙ ap (λ b. slice_range ons (get_or obs from 0) b) end_is in
    let last_is : c.last_of-last.result ≡ last_bound bs = c.last_of-last.ensures ∙ ap last_bound c.deref.ensures.value in
    let ends_is : c.part_of-ends.result.now ≡ slice_range obs (from + 1) (to + 1) =
    c.part_of-ends.ensures ∙ ap (λ (l : List ℕ). slice_range l (from + 1) (to + 1)) c.deref-3.ensures.value in
    let f = shifted c.args.place in
    let new = c.push_shifted.new.numbers.items in
    let numbers_is : new ≡ take (last_bound bs) ns ++ map f (slice_range ons (get_or obs from 0) (get_or obs to 0)) =
    c.in_ok-push_shifted.ensures.added ∙ ap (λ (l : List ℕ). l ++ map f c.part_of-part.result.now) (c.truncate.ensures.items ∙ ap (λ k. take k ns) last_is)
    ∙ ap (λ (l : List ℕ). take (last_bound bs) ns ++ map f l) part_is in
    let long = numbers_long bs ns obs ons from to c.self.invariant c.others.invariant c.requires.from within f new numbers_is in
    subst (λ (l : List ℕ). All (λ end. (c.index-start.result.now ≤ end) × (end - c.index-start.result.now + c.last_of-last.result < 2 ^ 64)) l) (sym ends_is)
    (λ k d lt.
    let at = get_or_default (slice_range obs (from + 1) (to + 1)) k d 0 lt in
    let low = run_low bs ns obs ons from to c.self.invariant c.others.invariant c.requires.from within k lt in
    let high = run_high bs ns obs ons from to c.self.invariant c.others.invariant c.requires.from within k lt in
    (omega (arith, at, low, start_is), omega (arith, at, low, high, start_is, last_is, long, c.push_shifted.new.numbers.ok.0)))

pub invariant_of-self-2 : goal.invariant_of-self-2
invariant_of-self-2 c =
    let bs = c.self.inside.bounds.items in
    let ns = c.self.inside.numbers.items in
    let obs = c.others.inside.bounds.items in
    let ons = c.others.inside.numbers.items in
    let from = c.args.run.from in
    let to = c.args.run.to in
    let size = rows_size obs ons in
    let same = ap length c.others.view_is in
    let within : to < length obs = omega (arith, c.requires.to, size, same, c.others.invariant.some) in
    let start_is : c.index-start.result.now ≡ get_or obs from 0 =
    get_or_read obs from c.index-start.result.now (omega (arith, within, c.requires.from)) c.index-start.ensures 0 in
    let end_is : c.index-end.result.now ≡ get_or obs to 0 = get_or_read obs to c.index-end.result.now within c.index-end.ensures 0 in
    let part_is : c.part_of-part.result.now ≡ slice_range ons (get_or obs from 0) (get_or obs to 0) =
    c.part_of-part.ensures ∙ ap (λ (l : List ℕ). slice_range l c.index-start.result.now c.index-end.result.now) c.deref-2.ensures.value
    ∙ ap (λ a. slice_range ons a c.index-end.result.now) start_is ∙ ap (λ b. slice_range ons (get_or obs from 0) b) end_is in
    let last_is : c.last_of-last.result ≡ last_bound bs = c.last_of-last.ensures ∙ ap last_bound c.deref.ensures.value in
    let ends_is : c.part_of-ends.result.now ≡ slice_range obs (from + 1) (to + 1) =
    c.part_of-ends.ensures ∙ ap (λ (l : List ℕ). slice_range l (from + 1) (to + 1)) c.deref-3.ensures.value in
    let f = shifted c.args.place in
    let new = c.push_shifted.new.numbers.items in
    let numbers_is : new ≡ take (last_bound bs) ns ++ map f (slice_range ons (get_or obs from 0) (get_or obs to 0)) =
    c.in_ok-push_shifted.ensures.added ∙ ap (λ (l : List ℕ). l ++ map f c.part_of-part.result.now) (c.truncate.ensures.items ∙ ap (λ k. take k ns) last_is)
    ∙ ap (λ (l : List ℕ). take (last_bound bs) ns ++ map f l) part_is in
    let long = numbers_long bs ns obs ons from to c.self.invariant c.others.invariant c.requires.from within f new numbers_is in
    let some = c.push_moved.ensures.some in
    let fits : some.0 ≤ length (slice_range obs (from + 1) (to + 1)) = (let size = ap length ends_is in omega (arith, some.1, size)) in
    let is : c.push_moved.new.bounds.items ≡ bs ++ map (λ e. e - get_or obs from 0 + last_bound bs) (take some.0 (slice_range obs (from + 1) (to + 1))) =
    some.2 ∙ ap (λ (l : List ℕ). bs ++ map (λ e. e - c.index-start.result.now + c.last_of-last.result) (take some.0 l)) ends_is
    ∙ ap (λ s. bs ++ map (λ e. e - s + c.last_of-last.result) (take some.0 (slice_range obs (from + 1) (to + 1)))) start_is
    ∙ ap (λ m. bs ++ map (λ e. e - get_or obs from 0 + m) (take some.0 (slice_range obs (from + 1) (to + 1)))) last_is in
    subst (λ (l : List ℕ). AreBounds l new) (sym is)
    (bounds_more bs ns obs ons from to c.self.invariant c.others.invariant c.requires.from within some.0 fits new (omega (arith, long)))

pub returns : goal.returns
returns c =
    let bs = c.self.inside.bounds.items in
    let ns = c.self.inside.numbers.items in
    let obs = c.others.inside.bounds.items in
    let ons = c.others.inside.numbers.items in
    let from = c.args.run.from in
    let to = c.args.run.to in
    let size = rows_size obs ons in
    let same = ap length c.others.view_is in
    let within : to < length obs = omega (arith, c.requires.to, size, same, c.others.invariant.some) in
    let start_is : c.index-start.result.now ≡ get_or obs from 0 =
    get_or_read obs from c.index-start.result.now (omega (arith, within, c.requires.from)) c.index-start.ensures 0 in
    let end_is : c.index-end.result.now ≡ get_or obs to 0 = get_or_read obs to c.index-end.result.now within c.index-end.ensures 0 in
    let part_is : c.part_of-part.result.now ≡ slice_range ons (get_or obs from 0) (get_or obs to 0) =
    c.part_of-part.ensures ∙ ap (λ (l : List ℕ). slice_range l c.index-start.result.now c.index-end.result.now) c.deref-2.ensures.value
    ∙ ap (λ a. slice_range ons a c.index-end.result.now) start_is ∙ ap (λ b. slice_range ons (get_or obs from 0) b) end_is in
    let last_is : c.last_of-last.result ≡ last_bound bs = c.last_of-last.ensures ∙ ap last_bound c.deref.ensures.value in
    let ends_is : c.part_of-ends.result.now ≡ slice_range obs (from + 1) (to + 1) =
    c.part_of-ends.ensures ∙ ap (λ (l : List ℕ). slice_range l (from + 1) (to + 1)) c.deref-3.ensures.value in
    let f = shifted c.args.place in
    let new = c.push_shifted.new.numbers.items in
    let numbers_is : new ≡ take (last_bound bs) ns ++ map f (slice_range ons (get_or obs from 0) (get_or obs to 0)) =
    c.in_ok-push_shifted.ensures.added ∙ ap (λ (l : List ℕ). l ++ map f c.part_of-part.result.now) (c.truncate.ensures.items ∙ ap (λ k. take k ns) last_is)
    ∙ ap (λ (l : List ℕ). take (last_bound bs) ns ++ map f l) part_is in
    let more = rows_more bs ns obs ons from to c.self.invariant c.others.invariant c.requires.from within f new numbers_is in
    on_ok_weaker c.push_moved.result
    (λ put.
    let is : c.push_moved.new.bounds.items ≡ bs ++ map (λ e. e - get_or obs from 0 + last_bound bs) (slice_range obs (from + 1) (to + 1)) =
    put ∙ ap (λ (l : List ℕ). bs ++ map (λ e. e - c.index-start.result.now + c.last_of-last.result) l) ends_is
    ∙ ap (λ s. bs ++ map (λ e. e - s + c.last_of-last.result) (slice_range obs (from + 1) (to + 1))) start_is
    ∙ ap (λ m. bs ++ map (λ e. e - get_or obs from 0 + m) (slice_range obs (from + 1) (to + 1))) last_is in
    ap (λ (l : List ℕ). rows_of l new) is ∙ more
    ∙ ap (λ (g : LinkTable). g ++ map (map f) (slice_range (rows_of obs ons) from to)) c.self.view_is
    ∙ ap (λ (g : LinkTable). c.args.self.now ++ map (map f) (slice_range g from to)) c.others.view_is)
    c.push_moved.ensures.all
