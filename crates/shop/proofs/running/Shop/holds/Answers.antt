use Rattle.std.proofs.Common.{length, ap, ◌∙◌}
use Rattle.history.specs.Events.{happened}
use Rattle.history.proofs.Kept.{sheet_length}
use Rattle.shop.proofs.Calls.{kept}
use Rattle.shop.proofs.running.Shop.holds.Goals as goal

pub returns : goal.returns
returns g c = record { by_history = λ n owed h f. c.len.ensures ∙ ap length f.sheet ∙ sheet_length n (happened h) (kept f) }
