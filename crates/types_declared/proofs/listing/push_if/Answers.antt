-- The answers to the goals of `listing::push_if`.
use Rattle.std.proofs.Common.{IsTrue, ◌≡◌}
use Rattle.types_declared.proofs.Listings.{call_adds}
use Rattle.types_declared.proofs.listing.push_if.Goals as goal

pub returns-then-test : goal.returns-then-test
returns-then-test c =
    call_adds c.args.found.now.items c.push.new.found.items (λ f. f ≡ c.args.fault) (λ f. IsTrue c.args.test × (f ≡ c.args.fault)) c.push.result c.push.ensures
    (λ f h. (c.if-test.true, h)) (λ f h. h.1)
