use Rattle.std.proofs.Common.{ap}
use Rattle.std.specs.Option.{option_map}
use Rattle.std.proofs.lemmas.Result.{err_from_is_err_and}
use Rattle.history.specs.declared.fault.ShopFault.TheVariants.{Book as OfBook}
use Rattle.shop.proofs.Calls.{owes_as, strike_owes, struck_keeps, refused_keeps}
use Rattle.shop.proofs.running.Shop.strike.Goals as goal

pub returns-in_err-strike-clause-law : goal.returns-in_err-strike-clause-law
returns-in_err-strike-clause-law g c =
    let p = err_from_is_err_and c.from_residual.result c.from_residual.ensures.1 in
    let s = c.args.self.now in
    let told = c.in_err-strike.ensures in
    rw (p.1, p.2, told.1) (refused_keeps s (owes_as s (strike_owes s c.args.derivation) (ap (option_map OfBook) told.0)))

pub returns-clause-law : goal.returns-clause-law
returns-clause-law g c = struck_keeps c.args.self.now c.args.derivation c.strike.new.self c.in_ok-strike.ensures
