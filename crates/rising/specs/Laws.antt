-- What standing, inserting and deleting mean, in terms of the keys that a list has.
use Rattle.std.specs.Prelude.{◌≡◌, true, ◌⊎◌, ◌↔◌, List, Contains, Decides, ◌≢◌}
use Rattle.std.specs.declared.cmp.Ordering.{Ordering}
use Rattle.rising.specs.Lists.{rising, stands, insert, delete, sought}
use Rattle.rising.specs.Halving.{halving}

-- all of them of rising lists
pub record Laws {K : Type 0} (cmp : K → K → Ordering) : Type 0 where
  -- a key stands exactly if the list has it
  pub standing : (xs : List K) (k : K) → rising cmp xs ≡ true → Decides (stands cmp xs k) (Contains xs k)
  -- a list with k rises, and has k and what it had, and no more
  pub insert_rises : (xs : List K) (k : K) → rising cmp xs ≡ true → rising cmp (insert cmp xs k) ≡ true
  pub insert_has : (xs : List K) (k y : K) → rising cmp xs ≡ true → (Contains (insert cmp xs k) y ↔ ((y ≡ k) ⊎ Contains xs y))
  -- a list without k rises, and has what it had but k, and no more
  pub delete_rises : (xs : List K) (k : K) → rising cmp xs ≡ true → rising cmp (delete cmp xs k) ≡ true
  pub delete_has : (xs : List K) (k y : K) → rising cmp xs ≡ true → (Contains (delete cmp xs k) y ↔ ((y ≢ k) × Contains xs y))
  -- the halving search finds where a key stands, or else where it would go
  pub halving_seeks : (xs : List K) (k : K) → rising cmp xs ≡ true → halving cmp xs k ≡ sought cmp xs k
  -- two lists that have the same keys are one list
  pub one_list : (xs ys : List K) → rising cmp xs ≡ true → rising cmp ys ≡ true → ((y : K) → Contains xs y ↔ Contains ys y) → xs ≡ ys
