-- The reply to a form, by the answer to its call.
use Rattle.std.proofs.Common.{◌≡◌, ℕ, Err, sym, ap, ◌∙◌, subst}
use Rattle.index.specs.Meanings.{Meaning}
use Rattle.history.specs.declared.fault.ShopFault.{ShopFault}
use Rattle.history.specs.Answers.{Answer}
use Rattle.history.specs.Table.{Refuses}
use Rattle.lines.specs.declared.fault.LineFault.{LineFault}
use Rattle.lines.specs.declared.fault.LineFault.TheVariants.{Shop as OfShop}
use Rattle.lines.specs.declared.form.Form.{Form}
use Rattle.lines.specs.Forms.{call_of}
use Rattle.lines.specs.Replies.{Reply, reply_of}
use Rattle.shop.specs.declared.running.Shop.{Shop}
use Rattle.shop.specs.Shops.{Keeps}
use Rattle.orderfile.specs.Answering.{Calls}

module _ {X : Type 0} (meaning : X → Meaning) (refuses : X → Refuses) (s : Shop X) (lent : ℕ) (form f : Form) (t : Shop X) (same : form ≡ f) where
  pub called : (a : Answer) (r : Reply) → r ≡ reply_of a → Keeps meaning refuses s (call_of lent f) a t → Calls meaning refuses s lent form r t
  called a r e k = record { answer = a; reply = e; keeps = subst (λ (x : Form). Keeps meaning refuses s (call_of lent x) a t) (sym same) k }

  -- a fault of the shop is the refusal of its call
  pub call_refused : (r : Reply) (y : LineFault) (e : ShopFault) → r ≡ Err y → y ≡ OfShop e → Keeps meaning refuses s (call_of lent f) (Err e) t → Calls meaning refuses s lent form r t
  call_refused r y e p q k = called (Err e) r (p ∙ ap (λ (z : LineFault). Err z) q) k
