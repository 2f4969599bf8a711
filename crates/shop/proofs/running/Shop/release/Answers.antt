use Rattle.std.proofs.Common.{ap}
use Rattle.std.specs.Option.{option_map}
use Rattle.std.proofs.lemmas.Result.{err_from_is_err_and}
use Rattle.history.specs.declared.fault.ShopFault.TheVariants.{Hold as OfHold}
use Rattle.shop.proofs.Calls.{owes_unknown, owes_next, release_owes, released_keeps, refused_keeps}
use Rattle.shop.proofs.running.Shop.release.Goals as goal

pub returns-in_err-check_model-clause-law : goal.returns-in_err-check_model-clause-law
returns-in_err-check_model-clause-law g c =
    let p = err_from_is_err_and c.from_residual.result c.from_residual.ensures.1 in
    let s = c.args.self.now in
    rw (p.1, p.2) (refused_keeps s (owes_unknown s c.args.model _ (release_owes s c.args.model c.args.holder) c.in_err-check_model.ensures))

pub returns-in_err-release-clause-law : goal.returns-in_err-release-clause-law
returns-in_err-release-clause-law g c =
    let p = err_from_is_err_and c.from_residual-in_err-release.result c.from_residual-in_err-release.ensures.1 in
    let s = c.args.self.now in
    let told = c.in_err-release.ensures in
    rw (p.1, p.2, told.1) (refused_keeps s (owes_next s c.args.model (release_owes s c.args.model c.args.holder) c.in_ok-check_model.ensures (ap (option_map OfHold) told.0)))

pub returns-clause-law : goal.returns-clause-law
returns-clause-law g c = released_keeps c.args.self.now c.args.model c.args.holder c.release.new.self c.in_ok-check_model.ensures c.in_ok-release.ensures
