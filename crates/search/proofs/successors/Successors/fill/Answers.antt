use Rattle.std.proofs.Common.{List, ap, ◌∙◌, arith}
use Rattle.book.specs.declared.derivation.Derivation.{Derivation}
use Rattle.book.specs.Counts.{models}
use Rattle.book.specs.Derivations.{taken_from}
use Rattle.search.proofs.Filled.{valid_as, firsts_rise, known, starts_rise, starts_fit, targets_known, follows_book}
use Rattle.search.proofs.successors.Successors.fill.Goals as goal

pub copy_targets-requires : goal.copy_targets-requires
copy_targets-requires c =
    let valid = valid_as c.args.book.now c.count.result _ _ c.count.ensures c.models-models.ensures c.derivations-derivations.ensures in
    omega (arith, valid.few)

pub cut-requires : goal.cut-requires
cut-requires c =
    let n = c.models-models.result in
    let ds = c.derivations-derivations.result.now in
    let valid = valid_as c.args.book.now c.count.result n ds c.count.ensures c.models-models.ensures c.derivations-derivations.ensures in
    record {
      few = valid.few;
      room = omega (arith, valid.most);
      rises = firsts_rise ds valid.rises;
      known = λ k l. (known n ds valid k l).0;
    }

pub invariant_of-self : goal.invariant_of-self
invariant_of-self c =
    let n = c.models-models.result in
    let ds = c.derivations-derivations.result.now in
    let starts = c.cut.new.starts in
    let targets = c.copy_targets.new.targets in
    let valid = valid_as c.args.book.now c.count.result n ds c.count.ensures c.models-models.ensures c.derivations-derivations.ensures in
    record {
      few = valid.most;
      rise = starts_rise n ds valid starts targets c.cut.ensures c.copy_targets.ensures;
      fits = starts_fit n ds valid starts targets c.cut.ensures c.copy_targets.ensures;
      known = targets_known n ds valid starts targets c.cut.ensures c.copy_targets.ensures;
    }

pub returns : goal.returns
returns c =
    let n = c.models-models.result in
    let ds = c.derivations-derivations.result.now in
    let valid = valid_as c.args.book.now c.count.result n ds c.count.ensures c.models-models.ensures c.derivations-derivations.ensures in
    record {
      models = c.models-models.ensures ∙ ap models c.count.ensures;
      follows = λ u v.
          follows_book ds _ valid c.cut.ensures c.copy_targets.ensures (omega (arith, valid.few)) u v
          ∙ ap (λ (xs : List Derivation). taken_from xs u v) c.derivations-derivations.ensures;
    }
