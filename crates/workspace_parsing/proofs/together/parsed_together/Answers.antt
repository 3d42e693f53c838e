-- The threads give all shares.
use Rattle.std.proofs.Common.{◌≡◌, ap, arith, length, subst, sym, ◌∙◌}
use Rattle.workspace_parsing.specs.Promises.{PromiseShares}
use Rattle.workspace_parsing.specs.Shares.{GiveShares}
use Rattle.workspace_parsing.proofs.Kept.{shares_kept}
use Rattle.workspace_parsing.proofs.together.parsed_together.Goals as goal

pub all_shares-requires : goal.all_shares-requires
all_shares-requires g c =
    let w = c.args.files.now in
    let threads = c.in-Some.threads in
    let shares = c.in_ok-shares.shares in
    let long = c.in_ok-shares.ensures.len in
    let many : length threads.items ≡ 8 = rw c.in-Some.is at c.in_ok-threads.ensures.size in
    let named : PromiseShares w threads.items = rw c.in-Some.is at c.in_ok-threads.ensures.shares in
    record {
      size = ap length c.as_slice.ensures.value ∙ omega (arith, shares.ok.0, threads.ok.0, long, many);
      shares = subst (GiveShares w) (sym c.as_slice.ensures.value)
          (shares_kept w threads shares long named c.in_ok-shares.ensures.each (λ p r kept. kept));
    }
