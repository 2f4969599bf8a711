-- The order of derivations.
use Rattle.std.specs.declared.cmp.Ordering.{Ordering}
use Rattle.std.specs.Ordering.{nat_cmp, ordering_then}
use Rattle.book.specs.declared.derivation.Derivation.{Derivation}

-- by the first model, then by the second
abbrev pub by_models : Derivation → Derivation → Ordering
by_models a b = ordering_then (nat_cmp a.from b.from) (nat_cmp a.to b.to)
