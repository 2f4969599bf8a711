use Rattle.std.proofs.Common.{ap}
use Rattle.book.specs.Counts.{models}
use Rattle.shop.proofs.Calls.{opened}
use Rattle.shop.proofs.running.Shop.open.Goals as goal

pub returns-clause-follows : goal.returns-clause-follows
returns-clause-follows g c = opened (ap models c.new.ensures.count) c.new.ensures.standing c.new-2.ensures c.new.ensures.stale c.clear.ensures.refuses
