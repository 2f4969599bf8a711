use Rattle.std.proofs.Common.{◌≡◌, false, sym}
use Rattle.search.specs.Following.{reaches}
use Rattle.search.proofs.Reached.{reaches_past, answer_chain}
use Rattle.search.proofs.successors.Successors.leads.Goals as goal

pub returns-then-v-self : goal.returns-then-v-self
returns-then-v-self c =
    let s = c.args.self.now in
    let leads : false ≡ reaches s c.args.u c.args.v = sym (reaches_past s c.args.u c.args.v c.if-v-self.true) in
    record { leads = leads; chains = answer_chain s false c.args.u c.args.v leads }

pub returns : goal.returns
returns c = let leads = c.spread.ensures c.args.v in record { leads = leads; chains = answer_chain c.args.self.now _ c.args.u c.args.v leads }
