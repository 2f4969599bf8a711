-- How much of its two files decides what a day prints.
use Rattle.std.specs.Prelude.{◌≡◌, ℕ, List, take}
use Rattle.orderfile.specs.Days.{printed}

-- what is printed is the same by the first `most` bytes of a book file as by the whole file
abbrev pub DecidesBook : ℕ → Type 0
DecidesBook most = (capacity work : ℕ) (book orders : List ℕ) → printed capacity work (take most book) orders ≡ printed capacity work book orders

-- and by the first `most` bytes of an order file
abbrev pub DecidesOrders : ℕ → Type 0
DecidesOrders most = (capacity work : ℕ) (book orders : List ℕ) → printed capacity work book (take most orders) ≡ printed capacity work book orders
