-- The text of a reply: how long it is, that it is one line, and that it says what the shop answered.
use Rattle.std.proofs.Common.{◌≡◌, ℕ, ◌<◌, ◌≤◌, Bool, true, not, ◌&&◌, eqb, List, [], ◌∷◌, ◌++◌, map, length, Some, None, Ok, Err, codes, decimal, Option, refl, ap, ◌∙◌, arith}
use Rattle.std.specs.Char.{is_ascii_digit}
use Rattle.std.specs.List.{flat_map, AllByRecursion}
use Rattle.std.specs.Str.{all_ascii_digits}
use Rattle.std.proofs.lemmas.Fmt.{digits_decimal}
use Rattle.std.proofs.lemmas.List.{length-append, length_push}
use Rattle.std.proofs.lemmas.Bool.{and_parts, eqb-false, not-true}
use Rattle.text.specs.Numerals.{Wrote}
use Rattle.text.proofs.Fronts.{own, range_from_digit}
use Rattle.text.proofs.Lengths.{length_few}
use Rattle.book.specs.declared.refusal.Refusal.TheVariants.{CountOutOfRange, NoSuchModel, FromItself, StandsAlready, BookFull, DoesNotStand}
use Rattle.index.specs.declared.fault.IndexFault.TheVariants.{WorkTooShort, TooMuchSurplus}
use Rattle.holds.specs.declared.fault.HoldFault.TheVariants.{OnHold, SheetFull, NotOnHold, AnothersHold}
use Rattle.history.specs.declared.fault.ShopFault.TheVariants.{Book, Index, Hold, Stale}
use Rattle.history.specs.declared.answer.Outcome.TheVariants.{Done, Carve, Stop}
use Rattle.history.specs.Answers.{Answer, told as answer_told}
use Rattle.lines.specs.declared.fault.LineFault.{LineFault}
use Rattle.lines.specs.declared.fault.LineFault.TheVariants.{OutputTooShort, NoForm, Shop}
use Rattle.lines.specs.Faults.{number}
use Rattle.lines.specs.Lines.{lines_of, Clear, ended}
use Rattle.lines.specs.Replies.{Reply, reply_line, reply_text, reply_of, Nameable, told, Replied}
use Rattle.lines.proofs.Lines.{lines_ended}

-- the numbers end at 18
pub few : (f : LineFault) → number f ≤ 18
few OutputTooShort = omega arith
few NoForm = omega arith
few (Shop (Book CountOutOfRange)) = omega arith
few (Shop (Book NoSuchModel)) = omega arith
few (Shop (Book FromItself)) = omega arith
few (Shop (Book StandsAlready)) = omega arith
few (Shop (Book BookFull)) = omega arith
few (Shop (Book DoesNotStand)) = omega arith
few (Shop (Index WorkTooShort)) = omega arith
few (Shop (Index (TooMuchSurplus found capacity))) = omega arith
few (Shop (Hold OnHold)) = omega arith
few (Shop (Hold SheetFull)) = omega arith
few (Shop (Hold NotOnHold)) = omega arith
few (Shop (Hold AnothersHold)) = omega arith
few (Shop Stale) = omega arith

pub numbered_short : (word : List ℕ) (n : ℕ) → length word ≤ 8 → n < 65536 → length (ended (word ++ decimal n)) ≤ 16
numbered_short word n h s = omega (arith, length_push (word ++ decimal n) 10, length-append word (decimal n), length_few n s)

-- the text of a reply has at most 16 bytes
pub reply_short : (r : Reply) → Nameable r → length (reply_text r) ≤ 16
reply_short (Ok Done) h = omega arith
reply_short (Ok Carve) h = omega arith
reply_short (Ok (Stop s)) h = numbered_short (codes "stop ") s.model (omega arith) (h s.model refl)
reply_short (Err f) h = numbered_short (codes "no ") (number f) (omega arith) (omega (arith, few f))

clear_digits : (ds : List ℕ) → all_ascii_digits ds ≡ true → Clear ds
clear_digits [] h = tt
clear_digits (d ∷ ds) h =
    let p = and_parts (is_ascii_digit d) (all_ascii_digits ds) h in
    let q = range_from_digit d p.0 in
    (λ e. omega (arith, q.0), clear_digits ds p.1)

abbrev no_end : List ℕ → Bool
no_end [] = true
no_end (b ∷ bs) = not (eqb b 10) && no_end bs

clear_word : (l : List ℕ) → no_end l ≡ true → Clear l
clear_word [] h = tt
clear_word (b ∷ bs) h =
    let p = and_parts (not (eqb b 10)) (no_end bs) h in
    (eqb-false b 10 (not-true (eqb b 10) p.0), clear_word bs p.1)

clear_append : (l m : List ℕ) → Clear l → Clear m → Clear (l ++ m)
clear_append [] m a b = b
clear_append (x ∷ l) m a b = (a.0, clear_append l m a.1 b)

clear_number : (n : ℕ) → n < 65536 → Clear (decimal n)
clear_number n h = clear_digits (decimal n) (digits_decimal own n (omega arith))

-- a reply is one line
pub reply_clear : (r : Reply) → Nameable r → Clear (reply_line r)
reply_clear (Ok Done) h = clear_word (codes "ok") refl
reply_clear (Ok Carve) h = clear_word (codes "carve") refl
reply_clear (Ok (Stop s)) h = clear_append (codes "stop ") (decimal s.model) (clear_word (codes "stop ") refl) (clear_number s.model (h s.model refl))
reply_clear (Err f) h = clear_append (codes "no ") (decimal (number f)) (clear_word (codes "no ") refl) (clear_number (number f) (omega (arith, few f)))

joined_ended : (rs : List Reply) → flat_map reply_text rs ≡ flat_map ended (map reply_line rs)
joined_ended [] = refl
joined_ended (r ∷ rs) = ap (λ xs. reply_text r ++ xs) (joined_ended rs)

clear_all : (rs : List Reply) → AllByRecursion Nameable rs → AllByRecursion Clear (map reply_line rs)
clear_all [] h = tt
clear_all (r ∷ rs) h = (reply_clear r h.0, clear_all rs h.1)

-- replies one behind another are as many lines
pub replies_lines : (rs : List Reply) → AllByRecursion Nameable rs → lines_of (flat_map reply_text rs) ≡ map reply_line rs
replies_lines rs h = ap lines_of (joined_ended rs) ∙ lines_ended (map reply_line rs) (clear_all rs h)

-- a reply stands for what the answer stands for that it was made of
pub told_same : (a : Answer) → told (reply_of a) ≡ answer_told a
told_same (Ok Done) = refl
told_same (Ok Carve) = refl
told_same (Ok (Stop s)) = refl
told_same (Err f) = refl

-- a short line written with room for 16 bytes is written whole
pub wrote_replied : (line out : List ℕ) (o : Option ℕ) (after : List ℕ) → length line ≤ 16 → 16 ≤ length out → Wrote out 0 line o after → Replied line out o after
wrote_replied line out None after short room w = let h = w.0 in absurd (omega arith)
wrote_replied line out (Some end) after short room w = let e = w.0 in (omega arith, omega arith, room, w.2)
