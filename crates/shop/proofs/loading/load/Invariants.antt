use Rattle.std.proofs.Common.{◌≡◌, [], ◌++◌}
use Rattle.book.specs.Books.{standing, in_turn}
use Rattle.bookfile.specs.Checked.{count_shown, shown, left}
use Rattle.shop.specs.Shops.{book_in, index_in, Follows}
use Rattle.shop.specs.Loads.{entries}
use Rattle.shop.proofs.loading.load.Given as goal

-- what is left to enter comes to what all of it comes to
abbrev pub invariant-loop-derivation : goal.invariant-loop-derivation
invariant-loop-derivation g l =
    (l.yielded ++ left l.derivation-iterator ≡ shown l.file)
    × Follows g.I.Index.meaning g.I.Index.refuses (count_shown l.file) (g.I.Index.refuses l.initial.shop.index) (entries l.yielded) l.shop
    × (index_in l.shop ≡ index_in l.initial.shop)
    × (in_turn (count_shown l.file) (standing (book_in l.shop)) (left l.derivation-iterator) ≡ in_turn (count_shown l.file) [] (shown l.file))
