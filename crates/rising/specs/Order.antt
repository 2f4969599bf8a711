-- What a total order is, given by a three-way comparison.
use Rattle.std.specs.Prelude.{◌≡◌}
use Rattle.std.specs.declared.cmp.Ordering.TheVariants.{Less, Equal}
use Rattle.std.specs.declared.cmp.Ordering.{Ordering}
use Rattle.std.specs.Ordering.{ordering_reverse}

pub record Order {K : Type 0} (cmp : K → K → Ordering) : Type 0 where
  -- only a key and itself are equal
  pub itself : (x : K) → cmp x x ≡ Equal
  pub same : (x y : K) → cmp x y ≡ Equal → x ≡ y
  -- exchanging the two turns the answer round
  pub exchanged : (x y : K) → cmp y x ≡ ordering_reverse (cmp x y)
  -- below carries over through a third key
  pub carries : (x y z : K) → cmp x y ≡ Less → cmp y z ≡ Less → cmp x z ≡ Less
