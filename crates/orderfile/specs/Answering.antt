-- What answering a line comes to.
use Rattle.std.specs.Prelude.{◌≡◌, ℕ, ◌<◌, ◌≤◌, List, length, Some, None, Err, Option}
use Rattle.std.specs.Option.{option_map}
use Rattle.text.specs.Placing.{placed}
use Rattle.index.specs.Meanings.{Meaning}
use Rattle.history.specs.Answers.{Answer, refused}
use Rattle.history.specs.Table.{Refuses}
use Rattle.lines.specs.declared.fault.LineFault.TheVariants.{OutputTooShort, NoForm}
use Rattle.lines.specs.declared.form.Form.{Form}
use Rattle.lines.specs.declared.reading.Line.{Line}
use Rattle.lines.specs.Computed.{form_of}
use Rattle.lines.specs.Forms.{call_of}
use Rattle.lines.specs.Reading.{line_bytes, line_place}
use Rattle.lines.specs.Replies.{Reply, reply_text, reply_of}
use Rattle.shop.specs.declared.running.Shop.{Shop}
use Rattle.shop.specs.Shops.{Keeps}
use Rattle.orderfile.specs.declared.answering.RefusedLine.{RefusedLine}
use Rattle.orderfile.specs.declared.answering.AnsweredLine.{AnsweredLine}

-- the refusal in a reply, with the place of its line
abbrev pub refused_at : ℕ → Reply → Option RefusedLine
refused_at place r = option_map (λ f. record { place = place; fault = f }) (refused r)

module _ {X : Type 0} (meaning : X → Meaning) (refuses : X → Refuses) where
  -- the reply is that of the shop's answer to a call
  pub record Calls (s : Shop X) (lent : ℕ) (f : Form) (r : Reply) (t : Shop X) : Type 0 where
    pub answer : Answer
    pub reply : r ≡ reply_of answer
    pub keeps : Keeps meaning refuses s (call_of lent f) answer t

  -- a line of this form, or of none, which is refused and calls nothing
  abbrev pub Responds : Shop X → ℕ → Option Form → Reply → Shop X → Type 0
  Responds s lent None r t = (r ≡ Err NoForm) × (t ≡ s)
  Responds s lent (Some f) r t = Calls s lent f r t

  -- a line answered with room for a reply: it is in front of the buffer, and what is behind it is as it was
  pub record Written (s : Shop X) (lent : ℕ) (line : Line) (out : List ℕ) (r : AnsweredLine) (t : Shop X) (after : List ℕ) : Type 0 where
    pub room : 16 ≤ length out
    pub reply : Reply
    pub responds : Responds s lent (form_of (line_bytes line)) reply t
    pub refused : r.refused ≡ refused_at (line_place line) reply
    pub len : r.len ≡ length (reply_text reply)
    pub short : r.len ≤ 16
    pub bytes : after ≡ placed out 0 (reply_text reply)

  -- a line with too little room: nothing is touched
  pub record TooShort (s : Shop X) (line : Line) (out : List ℕ) (r : AnsweredLine) (t : Shop X) (after : List ℕ) : Type 0 where
    pub room : length out < 16
    pub result : r ≡ record { len = 0; refused = Some (record { place = line_place line; fault = OutputTooShort }) }
    pub shop : t ≡ s
    pub bytes : after ≡ out
