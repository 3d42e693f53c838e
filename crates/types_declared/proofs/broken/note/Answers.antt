-- The answers to the goals of `broken::note`.
use Rattle.types_declared.proofs.Mentioning.{adds_one}
use Rattle.types_declared.proofs.broken.note.Goals as goal

pub returns : goal.returns
returns c = adds_one c.args.links.now.items c.args.to c.args.rank c.index_mut.result.now c.push.new.self c.requires c.index_mut.ensures.value
    c.in_ok-push.ensures.items
