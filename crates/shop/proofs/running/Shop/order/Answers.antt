use Rattle.std.proofs.Common.{None, sym, ap}
use Rattle.std.proofs.lemmas.Result.{err_from_is_err_and}
use Rattle.history.specs.declared.fault.ShopFault.TheVariants.{Stale}
use Rattle.history.specs.Table.{check}
use Rattle.shop.proofs.Calls.{owes_unknown, owes_next, order_owes, refused_keeps, carved_keeps, stopped_keeps}
use Rattle.shop.proofs.running.Shop.order.Goals as goal

pub returns-in_err-check_model : goal.returns-in_err-check_model
returns-in_err-check_model g c =
    let p = err_from_is_err_and c.from_residual.result c.from_residual.ensures.1 in
    let s = c.args.self.now in
    rw (p.1, p.2) (refused_keeps s (owes_unknown s c.args.model _ (order_owes s c.args.model) c.in_err-check_model.ensures))

pub returns-then-stale : goal.returns-then-stale
returns-then-stale g c =
    let s = c.args.self.now in
    refused_keeps s (owes_next s c.args.model (order_owes s c.args.model) c.in_ok-check_model.ensures (ap (λ b. check b Stale None) (sym c.if-stale.ensures)))

pub returns-in-None : goal.returns-in-None
returns-in-None g c = carved_keeps c.args.self.now c.args.model c.in_ok-check_model.ensures (sym c.if-stale.ensures) c.in-None.ensures

pub returns-in-Some : goal.returns-in-Some
returns-in-Some g c = stopped_keeps c.args.self.now c.args.model c.in_ok-check_model.ensures (sym c.if-stale.ensures) c.in-Some.model c.in-Some.ensures
