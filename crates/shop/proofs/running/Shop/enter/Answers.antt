use Rattle.std.proofs.Common.{ap}
use Rattle.std.specs.Option.{option_map}
use Rattle.std.proofs.lemmas.Result.{err_from_is_err_and}
use Rattle.history.specs.declared.fault.ShopFault.TheVariants.{Book as OfBook}
use Rattle.shop.proofs.Calls.{owes_as, entry_owes, entered_keeps, refused_keeps}
use Rattle.shop.proofs.running.Shop.enter.Goals as goal

pub returns-in_err-enter-clause-law : goal.returns-in_err-enter-clause-law
returns-in_err-enter-clause-law g c =
    let p = err_from_is_err_and c.from_residual.result c.from_residual.ensures.1 in
    let s = c.args.self.now in
    let told = c.in_err-enter.ensures in
    rw (p.1, p.2, told.1) (refused_keeps s (owes_as s (entry_owes s c.args.derivation) (ap (option_map OfBook) told.0)))

pub returns-clause-law : goal.returns-clause-law
returns-clause-law g c = entered_keeps c.args.self.now c.args.derivation c.enter.new.self c.in_ok-enter.ensures
