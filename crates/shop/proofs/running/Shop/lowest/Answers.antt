use Rattle.std.proofs.Common.{◌≡◌, ℕ, Bool, min, rules, tests}
use Rattle.std.specs.List.{reduce}
use Rattle.std.proofs.lemmas.Iterator.{YieldsList-from_slice, YieldsList-from_map}
use Rattle.std.proofs.lemmas.Iterator.Consumers.{YieldsList-at, YieldsList-from_filter}
use Rattle.index.specs.Meanings.{tells}
use Rattle.shop.proofs.Lowest.{passing, lowest_of, reduced}
use Rattle.shop.proofs.running.Shop.lowest.Goals as goal

pub returns : goal.returns
returns g c =
    let asks : ℕ → Bool = λ k. tells (g.I.Index.meaning c.args.self.now.index) k c.args.model in
    let e : c.reduce.result ≡ reduce min (passing asks c.holds.result.now) =
    reduced _ min _ (λ low held r f k. search rules) _ _ c.reduce.ensures.ran
    (YieldsList-from_filter _ _ (YieldsList-at c.filter.ensures.source
    (YieldsList-from_map _ _ (YieldsList-at c.map.ensures.source (YieldsList-from_slice c.holds.result.now cc)) c.map.ensures.closure (λ x r q k. search rules)))
    c.filter.ensures.closure (λ x r q k. search (rules, tests))) in
    rw (e, c.holds.ensures) (lowest_of asks _)
