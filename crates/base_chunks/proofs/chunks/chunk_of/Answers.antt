-- The half that is left has the key's chunk.
use Rattle.std.proofs.Common.{◌≡◌, ◌+◌, ◌-◌, ◌/◌, ◌<◌, [], true, false, length, get_or, rules, arith}
use Rattle.std.proofs.lemmas.List.{get_or_default}
use Rattle.base_chunks.specs.Entries.{is_before}
use Rattle.base_chunks.proofs.Mapping.{after_chunk, before_chunk}
use Rattle.base_chunks.proofs.chunks.chunk_of.Goals as goal

pub halving-preserved-then-is_before : goal.halving-preserved-then-is_before
halving-preserved-then-is_before g c =
    let cs = c.args.chunks.now in
    let m = c.halving.low + (c.halving.high - c.halving.low) / 2 in
    let within : m < length cs = omega arith in
    let same = get_or_default cs m c.index-chunks-middle.result [] within in
    let before : is_before g.K.Ord.cmp c.args.key.now (get_or cs m []) ≡ true = search rules in
    record {
      order = omega arith;
      within = omega arith;
      front = c.halving.invariant.front;
      back = before_chunk g.K.Ord.cmp g.met.K.Ord.total c.args.key.now cs m c.requires before;
    }

pub halving-preserved : goal.halving-preserved
halving-preserved g c =
    let cs = c.args.chunks.now in
    let m = c.halving.low + (c.halving.high - c.halving.low) / 2 in
    let within : m < length cs = omega arith in
    let same = get_or_default cs m c.index-chunks-middle.result [] within in
    let before : is_before g.K.Ord.cmp c.args.key.now (get_or cs m []) ≡ false = search rules in
    record {
      order = omega arith;
      within = c.halving.invariant.within;
      front = after_chunk g.K.Ord.cmp g.met.K.Ord.total c.args.key.now cs m c.requires within before;
      back = c.halving.invariant.back;
    }
