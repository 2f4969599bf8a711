use Rattle.std.proofs.Common.{length, Ok, Err, ap}
use Rattle.std.specs.Option.{option_map}
use Rattle.std.proofs.lemmas.Result.{err_from_is_err_and}
use Rattle.history.specs.declared.fault.ShopFault.TheVariants.{Index as OfIndex}
use Rattle.shop.proofs.Calls.{owes_as, index_owes, unindexed_keeps, indexed_keeps, shown_as}
use Rattle.shop.proofs.running.Shop.reindex.Goals as goal

pub returns-in_err-build-clause-law : goal.returns-in_err-build-clause-law
returns-in_err-build-clause-law g c =
    let p = err_from_is_err_and c.from_residual.result c.from_residual.ensures.1 in
    let s = c.args.self.now in
    let told = c.in_err-build.ensures in
    rw (p.1, p.2) (unindexed_keeps s c.build.new.self told.builds.1 told.refuses (owes_as s (index_owes s (length c.args.work.now)) (ap (option_map OfIndex) told.builds.0)))

pub returns-in_err-build-clause-shows : goal.returns-in_err-build-clause-shows
returns-in_err-build-clause-shows g c =
    let p = err_from_is_err_and c.from_residual.result c.from_residual.ensures.1 in
    rw (p.1, p.2) (record { by_history = λ n owed h f. shown_as c.args.self.now g.I.Index.shows f (Err c.in_err-build.field-0.0) c.build.new.self c.in_err-build.ensures.shows })

pub returns-clause-law : goal.returns-clause-law
returns-clause-law g c =
    let told = c.in_ok-build.ensures in
    let marked = c.mark_indexed.ensures in
    indexed_keeps c.args.self.now (length c.args.work.now) c.mark_indexed.new.self c.build.new.self marked.standing marked.count marked.stale told.refuses told.builds.0 told.builds.1

pub returns-clause-shows : goal.returns-clause-shows
returns-clause-shows g c = record { by_history = λ n owed h f. shown_as c.args.self.now g.I.Index.shows f (Ok tt) c.build.new.self c.in_ok-build.ensures.shows }
