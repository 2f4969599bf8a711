-- The numbers that the refusals of a book file are told by.
use Rattle.std.specs.Prelude.{ℕ}
use Rattle.book.specs.Refusals.{number as book_number}
use Rattle.bookfile.specs.declared.refusal.FileRefusal.{FileRefusal}
use Rattle.bookfile.specs.declared.refusal.FileRefusal.TheVariants.{Book, WrongLength, TooMany, NotRising}
use Rattle.bookfile.specs.declared.refusal.WriteRefusal.{WriteRefusal}
use Rattle.bookfile.specs.declared.refusal.WriteRefusal.TheVariants.{TooShort}

abbrev pub number : FileRefusal → ℕ
number (Book refusal) = book_number refusal
number WrongLength = 14
number TooMany = 15
number NotRising = 16

abbrev pub write_number : WriteRefusal → ℕ
write_number TooShort = 17
