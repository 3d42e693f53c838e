-- The invariants of the loops of `words::text_with`.
use Rattle.std.proofs.Common.{◌≡◌, ◌≤◌, []}
use Rattle.build_names.specs.Words.{so_far, words_with}
use Rattle.build_names.proofs.words.text_with.Given as goal

-- what is done, and what the rest becomes, are the whole new text
abbrev pub invariant-loop-at : goal.invariant-loop-at
invariant-loop-at l =
    (l.start ≤ l.at) × (so_far l.symbols.old.items l.symbols.new.items l.text l.renamed.items l.start l.at ≡ words_with l.symbols.old.items
    l.symbols.new.items [] l.text)
