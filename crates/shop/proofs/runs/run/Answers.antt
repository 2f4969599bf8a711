use Rattle.std.proofs.Common.{◌≡◌, ◌<◌, sym, ◌∙◌, arith}
use Rattle.std.proofs.lemmas.List.{length-take, get_or-take}
use Rattle.history.specs.declared.call.Call.{Call}
use Rattle.history.specs.declared.call.Call.TheVariants.{Enter}
use Rattle.history.proofs.LastCall.{by_the_last_call}
use Rattle.shop.proofs.Making.{running_more, ran_short, ran_all, ruled_by}
use Rattle.shop.proofs.runs.run.Goals as goal

-- what the checker reads where there is no call
abbrev none : Call
none = Enter (record { from = 0; to = 0 })

pub returns-in-None : goal.returns-in-None
returns-in-None g c =
    let l = c.loop-made in
    let cs = c.args.calls.now in
    let low : l.made < c.min-most.result = omega (arith, length-take c.min-most.result cs) in
    record {
      law = ran_short l.invariant g.I.Index.CAPACITY (ruled_by g.I.Index.refuses g.I.Index.CAPACITY c.args.index g.met.I.Index.rules) none
          (sym (get_or-take c.min-most.result cs l.made none low)) (omega arith) (omega arith) (omega (arith, c.in-None.ensures.0));
      words = by_the_last_call;
    }

pub loop-made-preserved : goal.loop-made-preserved
loop-made-preserved g c =
    let l = c.loop-made in
    let cs = c.args.calls.now in
    let low : l.made < c.min-most.result = omega (arith, length-take c.min-most.result cs) in
    running_more l.invariant none (sym (get_or-take c.min-most.result cs l.made none low)) (omega arith) (omega arith) (omega (arith, c.in-Some.ensures.0)) c.in-Some.ensures.1

pub returns : goal.returns
returns g c =
    let l = c.loop-made in
    let end : l.made ≡ c.min-most.result = omega (arith, length-take c.min-most.result c.args.calls.now) in
    record {
      law = rw (← end) (ran_all l.invariant g.I.Index.CAPACITY (ruled_by g.I.Index.refuses g.I.Index.CAPACITY c.args.index g.met.I.Index.rules) (end ∙ c.min-most.ensures));
      words = by_the_last_call;
    }
