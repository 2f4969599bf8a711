-- Derivations entered in turn into a shop, one more each time.
use Rattle.std.proofs.Common.{◌≡◌, ℕ, zero, suc, ◌+◌, List, [], ◌∷◌, ◌++◌, map, reverse, take, Some, None, Ok, Err, Option, sym, refl, ap, ◌∙◌}
use Rattle.std.specs.List.{slice_get}
use Rattle.std.specs.Option.{option_map}
use Rattle.std.proofs.lemmas.List.{reverse-append, map-append, take_more}
use Rattle.std.proofs.lemmas.Option.{slice_get_within, get_or_from_slice_get}
use Rattle.rising.specs.Lists.{insert}
use Rattle.book.specs.declared.derivation.Derivation.{Derivation}
use Rattle.book.specs.declared.refusal.Refusal.{Refusal}
use Rattle.book.specs.Order.{by_models}
use Rattle.book.specs.Books.{standing, entry_refusal}
use Rattle.index.specs.Meanings.{Meaning}
use Rattle.history.specs.declared.answer.Outcome.TheVariants.{Done}
use Rattle.history.specs.declared.call.Call.{Call}
use Rattle.history.specs.declared.call.Call.TheVariants.{Enter}
use Rattle.history.specs.declared.fault.ShopFault.{ShopFault}
use Rattle.history.specs.declared.fault.ShopFault.TheVariants.{Book as OfBook}
use Rattle.history.specs.Answers.{Answer}
use Rattle.history.specs.Events.{History, happened}
use Rattle.history.specs.Table.{Refuses, refusal}
use Rattle.history.specs.Lists.{book_of}
use Rattle.shop.specs.declared.running.Shop.{Shop}
use Rattle.shop.specs.Shops.{book_in, Follows, Keeps}
use Rattle.shop.specs.Loads.{entries}
use Rattle.shop.proofs.Calls.{entry_owes}

-- the front of a list up to a place with an element, and up to one behind the last
pub take_nth : {X : Type 0} (xs : List X) (i : ℕ) (x : X) → Some x ≡ slice_get xs i → take (i + 1) xs ≡ take i xs ++ x ∷ []
take_nth xs i x e = take_more xs i x (slice_get_within xs i x (sym e)) ∙ ap (λ y. take i xs ++ y ∷ []) (get_or_from_slice_get xs i x x (sym e))

pub take_ends : {X : Type 0} (xs : List X) (i : ℕ) → None ≡ slice_get xs i → take i xs ≡ xs
take_ends [] zero e = refl
take_ends [] (suc i) e = refl
take_ends (y ∷ xs) zero e = cc
take_ends (y ∷ xs) (suc i) e = ap (λ zs. y ∷ zs) (take_ends xs i e)

-- one more entry
pub entries_more : (ds : List Derivation) (d : Derivation) → entries (ds ++ d ∷ []) ≡ (Enter d, Ok Done) ∷ entries ds
entries_more ds d =
    let f : Derivation → Call × Answer = λ e. (Enter e, Ok Done) in
    ap reverse (map-append f ds (d ∷ [])) ∙ reverse-append (map f ds) (f d ∷ [])

mapped_none : (o : Option Refusal) → None ≡ option_map OfBook o → o ≡ None
mapped_none None e = refl
mapped_none (Some r) e = cc

mapped_some : (o : Option Refusal) (f : ShopFault) → Some f ≡ option_map OfBook o → (r : Refusal) × (o ≡ Some r)
mapped_some None f e = cc
mapped_some (Some r) f e = (r, refl)

module _ {X : Type 0} {meaning : X → Meaning} {refuses : X → Refuses} {n : ℕ} {owed : Refuses} {h : History} {s : Shop X} (d : Derivation) (f : Follows meaning refuses n owed h s) where
  owes : refusal n owed (happened h) (Enter d) ≡ option_map OfBook (entry_refusal n (standing (book_in s)) d)
  owes = (entry_owes s d).by n owed h f ∙ ap (λ (x : ℕ). option_map OfBook (entry_refusal x (standing (book_in s)) d)) f.count

  -- what the book did at an entry that the shop took, and at one that it refused
  pub entry_goes : {t : Shop X} → Keeps meaning refuses s (Enter d) (Ok Done) t → (entry_refusal n (standing (book_in s)) d ≡ None) × (standing (book_in t) ≡ insert by_models (standing (book_in s)) d)
  unfolding book_of
  entry_goes k = (mapped_none _ ((k.law n owed h f).table ∙ owes), (k.follows n owed h f).book ∙ ap (λ ds. insert by_models ds d) (sym f.book))

  pub entry_stops : {t : Shop X} (e : ShopFault) → Keeps meaning refuses s (Enter d) (Err e) t → (r : Refusal) × (entry_refusal n (standing (book_in s)) d ≡ Some r)
  entry_stops e k = mapped_some _ e ((k.law n owed h f).table ∙ owes)
