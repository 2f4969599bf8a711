use Rattle.std.proofs.Common.{length, ap, ◌∙◌}
use Rattle.history.specs.Events.{happened}
use Rattle.history.proofs.Kept.{book_length}
use Rattle.shop.proofs.Calls.{kept}
use Rattle.shop.proofs.running.Shop.derivations.Goals as goal

pub returns : goal.returns
returns g c = record { by_history = λ n owed h f. c.len.ensures ∙ ap length f.book ∙ book_length n (happened h) (kept f) }
