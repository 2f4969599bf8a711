use Rattle.std.proofs.Common.{◌≡◌, ◌≤◌, min, length, take, arith}
use Rattle.std.proofs.lemmas.List.{length-take}
use Rattle.book.specs.Counts.{models}
use Rattle.shop.specs.Runs.{Ran}
use Rattle.shop.proofs.Making.{ran_alike, ran_agree, take_cut}
use Rattle.shop.proofs.runs.compare.Goals as goal

pub returns : goal.returns
returns g c =
    let n = models c.args.count in
    let lent = length c.args.work.now in
    let cs = c.args.calls.now in
    let was = c.args.answers.now in
    let others = c.args.others.now in
    let places = min (length was) (length others) in
    let made = c.run-made.result in
    let is = c.run-made.new.answers in
    let js = c.run.new.answers in
    let cut : take c.min-places.result cs ≡ take places cs = rw (c.min-places.ensures, c.min.ensures) (take_cut places cs) in
    let first : Ran g.I.Index.CAPACITY n lent (take places cs) was made is = rw cut at c.run-made.ensures.law in
    let second : Ran g.J.Index.CAPACITY n lent (take places cs) others c.run.result js = rw (c.run-made.auto.work, cut) at c.run.ensures.law in
    let room : length (take places cs) ≤ length was = omega (arith, length-take places cs) in
    let space : length (take places cs) ≤ length others = omega (arith, length-take places cs) in
    let alike : c.run.result ≡ made = ran_alike first second room space in
    record { first = first; second = rw (← alike) second; agree = ran_agree first second room space }
