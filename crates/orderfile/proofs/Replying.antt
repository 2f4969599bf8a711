-- Lines answered in turn: what the shop replies is what its history says, and the replies stand one behind another.
use Rattle.std.proofs.Common.{◌≡◌, ℕ, ◌+◌, ◌-◌, ◌*◌, ◌≤◌, List, [], ◌∷◌, ◌++◌, length, take, drop, Some, None, Option, sym, refl, ap, ◌∙◌, subst, append_assoc, arith}
use borrow.Rule.Slice.PartMut.{post_of}
use Rattle.std.specs.List.{flat_map}
use Rattle.std.proofs.lemmas.List.{append-nil, length-append, length-drop, drop_all, drop-drop}
use Rattle.text.specs.Placing.{placed}
use Rattle.text.proofs.Placing.{placed_none, placed_append, length_placed}
use Rattle.index.specs.Meanings.{Meaning}
use Rattle.history.specs.Answers.{Answer}
use Rattle.history.specs.Events.{History, happened}
use Rattle.history.specs.Table.{Refuses}
use Rattle.history.specs.Made.{answer_to}
use Rattle.history.proofs.Histories.{answers_are_decided}
use Rattle.history.proofs.Kept.{kept_lawful}
use Rattle.history.proofs.Made.{answer_lawful}
use Rattle.lines.specs.declared.form.Form.{Form}
use Rattle.lines.specs.declared.reading.Line.{Line}
use Rattle.lines.specs.Computed.{form_of}
use Rattle.lines.specs.Forms.{call_of}
use Rattle.lines.specs.Reading.{line_bytes}
use Rattle.lines.specs.Replies.{Reply, reply_text, reply_of}
use Rattle.shop.specs.declared.running.Shop.{Shop}
use Rattle.shop.specs.Shops.{Follows}
use Rattle.orderfile.specs.declared.answering.AnsweredLine.{AnsweredLine}
use Rattle.orderfile.specs.Answering.{Responds, Written}
use Rattle.orderfile.specs.Days.{reply_to, behind, replies, AnswersLines}

module _ {X : Type 0} (meaning : X → Meaning) (refuses : X → Refuses) where
  -- a reply is that which the history says, and the shop follows the history behind it
  pub responded : (n : ℕ) (owed : Refuses) (h : History) (s : Shop X) (work : ℕ) (o : Option Form) (r : Reply) (t : Shop X) → Follows meaning refuses n owed h s → Responds meaning refuses s work o r t
      → (r ≡ reply_to n owed work h o) × Follows meaning refuses n owed (behind n owed work h o) t
  responded n owed h s work None r t f (e, q) = (e, subst (λ (x : Shop X). Follows meaning refuses n owed h x) (sym q) f)
  responded n owed h s work (Some form) r t f c =
      let call = call_of work form in
      let same : c.answer ≡ answer_to n owed (happened h) call =
      answers_are_decided.one n owed (happened h) call c.answer (answer_to n owed (happened h) call) (c.keeps.law n owed h f) (answer_lawful n (happened h) (kept_lawful n owed h f.lawful) owed call) in (
        c.reply ∙ ap reply_of same,
        subst (λ (a : Answer). Follows meaning refuses n owed ((call, a) ∷ h) t) same (c.keeps.follows n owed h f),
      )

  -- the history that a shop follows behind some of the lines, and that the text of their replies is the front of the whole
  pub record GoesOn (n : ℕ) (owed : Refuses) (h : History) (work : ℕ) (lines left : List (List ℕ)) (text : List ℕ) (s : Shop X) : Type 0 where
    pub history : History
    pub follows : Follows meaning refuses n owed history s
    pub front : flat_map reply_text (replies n owed work h lines) ≡ text ++ flat_map reply_text (replies n owed work history left)

  -- some of the lines were answered on a shop that was s and is t, and `left` are left; the buffer was `out` and is `is`
  pub record Replying (s : Shop X) (work : ℕ) (lines : List (List ℕ)) (out : List ℕ) (t : Shop X) (left : List (List ℕ)) (is : List ℕ) (end : ℕ) : Type 0 where
    pub room : end + 16 * length left ≤ length out
    pub text : List ℕ
    pub long : end ≡ length text
    pub bytes : is ≡ placed out 0 text
    pub goes : (n : ℕ) (owed : Refuses) (h : History) → Follows meaning refuses n owed h s → GoesOn n owed h work lines left text t

  pub replying_none : (s : Shop X) (work : ℕ) (lines left : List (List ℕ)) (out : List ℕ) → left ≡ lines → 16 * length lines ≤ length out → Replying s work lines out s left out 0
  replying_none s work lines left out e h = record {
    room = let l : length left ≡ length lines = ap length e in omega arith;
    text = [];
    long = refl;
    bytes = placed_none out 0;
    goes = λ n owed k f. record { history = k; follows = f; front = ap (λ (ls : List (List ℕ)). flat_map reply_text (replies n owed work k ls)) (sym e) };
  }

-- a reply written behind the others
written_behind : (is sub rest : List ℕ) (end : ℕ) (text : List ℕ) → end ≤ length is → sub ≡ placed (drop end is) 0 text → rest ≡ [] → take end is ++ (sub ++ rest) ≡ placed is end text
written_behind is sub rest end text h e r =
    ap (λ (xs : List ℕ). take end is ++ (sub ++ xs)) r
    ∙ ap (λ (xs : List ℕ). take end is ++ xs) (append-nil sub ∙ e ∙ ap (λ (xs : List ℕ). text ++ xs) (ap (λ (k : ℕ). drop k (drop end is)) (let z : 0 + length text ≡ length text = omega arith in z) ∙ drop-drop (length text) end is))

module _ {X : Type 0} {meaning : X → Meaning} {refuses : X → Refuses} {s : Shop X} {work : ℕ} {lines : List (List ℕ)} {out : List ℕ} {t : Shop X} {left : List (List ℕ)} {is : List ℕ} {end : ℕ} (a : Replying meaning refuses s work lines out t left is end) where
  pub buffer_long : length is ≡ length out
  buffer_long = let l = a.long in let h = a.room in ap length a.bytes ∙ length_placed out 0 a.text (omega arith)

  pub replying_more : {line : Line} {more : List (List ℕ)} {r : AnsweredLine} {u : Shop X} {sub now : List ℕ} → left ≡ line_bytes line ∷ more
      → Written meaning refuses t work line (drop end is) r u sub → now ≡ take end is ++ (sub ++ post_of end (length is - end) is)
      → Replying meaning refuses s work lines out u more now (end + r.len)
  replying_more {line} {more} {r} {u} {sub} {now} e w put =
      let count : length left ≡ length (line_bytes line ∷ more) = ap length e in
      let h = a.room in
      let l = a.long in
      let b = buffer_long in
      let few = w.short in
      let len = w.len in
      let tail : post_of end (length is - end) is ≡ [] = drop_all (length is - end) (drop end is) (let d = length-drop end is in omega arith) in
      record {
        room = omega arith;
        text = a.text ++ reply_text w.reply;
        long = let q = length-append a.text (reply_text w.reply) in omega arith;
        bytes =
            put ∙ written_behind is sub (post_of end (length is - end) is) end (reply_text w.reply) (omega arith) w.bytes tail
            ∙ ap (λ (xs : List ℕ). placed xs end (reply_text w.reply)) a.bytes
            ∙ ap (λ (k : ℕ). placed (placed out 0 a.text) k (reply_text w.reply)) (let z : end ≡ 0 + length a.text = omega arith in z)
            ∙ placed_append out 0 a.text (reply_text w.reply) (omega arith);
        goes = λ n owed k f.
            let g = a.goes n owed k f in
            let o = form_of (line_bytes line) in
            let p = responded meaning refuses n owed g.history t work o w.reply u g.follows w.responds in
            record {
              history = behind n owed work g.history o;
              follows = p.1;
              front =
                  g.front ∙ ap (λ (ls : List (List ℕ)). a.text ++ flat_map reply_text (replies n owed work g.history ls)) e
                  ∙ ap (λ (x : Reply). a.text ++ (reply_text x ++ flat_map reply_text (replies n owed work (behind n owed work g.history o) more))) (sym p.0)
                  ∙ sym (append_assoc a.text (reply_text w.reply) (flat_map reply_text (replies n owed work (behind n owed work g.history o) more)));
            };
      }

  pub replying_all : left ≡ [] → AnswersLines meaning refuses s work lines out end is
  replying_all e =
      let h = a.room in
      record {
        within = omega arith;
        by_history = λ n owed k f.
            let g = a.goes n owed k f in
            let whole : flat_map reply_text (replies n owed work k lines) ≡ a.text =
            g.front ∙ ap (λ (ls : List (List ℕ)). a.text ++ flat_map reply_text (replies n owed work g.history ls)) e ∙ append-nil a.text in
            (a.long ∙ ap length (sym whole), a.bytes ∙ ap (placed out 0) (sym whole));
      }
