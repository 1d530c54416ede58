use Rattle.std.proofs.Common.{arith, length, sym, true, ◌∙◌, ◌≡◌, ◌≤◌}
use Rattle.model.specs.Request.Words.{request_of}
use Rattle.model.specs.Text.Writing.{has_text, text_of_words}
use Rattle.request_writer.specs.EndLaws.{end_short, end_size, end_textless, end_written}
use Rattle.request_writer.specs.Sixteen.{Sixteen}
use Rattle.request_writer.specs.SixteenLaws.{has_sixteen}
use Rattle.request_writer.specs.NeedLaws.{need_most}
use Rattle.request_writer.proofs.write.Goals.{Else-not-has_text, Joined-room-lt-TEXT_MOST, else-room-lt-TEXT_MOST, then-room-lt-TEXT_MOST+else-room-n}
use Rattle.request_writer.proofs.write.Goals as goal

pub returns-then-request-ne-REQUEST_WORDS : goal.returns-then-request-ne-REQUEST_WORDS
returns-then-request-ne-REQUEST_WORDS c = rw c.into.ensures (end_size _ _ c.if-request-ne-REQUEST_WORDS.true)

pub returns-then-not-has_text : goal.returns-then-not-has_text
returns-then-not-has_text c =
    rw c.into-then-not-has_text.ensures (end_textless _ _ c.if-request-ne-REQUEST_WORDS.false (sym c.has_text.ensures ∙ c.if-not-has_text.true))

-- where the words were looked at: some text has them, and so they are sixteen good ones
texted : (c : Else-not-has_text) → has_text (request_of c.args.request.now) ≡ true
texted c = sym c.has_text.ensures ∙ c.if-not-has_text.false

sixteen : (c : Else-not-has_text) → Sixteen c.args.request.now
sixteen c = has_sixteen _ c.if-request-ne-REQUEST_WORDS.false (texted c)

pub need-n-requires : goal.need-n-requires
need-n-requires c = sixteen (goal.at.need-n-requires c).Else-not-has_text

pub overflow_cast-result : goal.overflow_cast-result
overflow_cast-result c = omega (arith, c.need-n.ensures, need_most _ (sixteen (goal.at.overflow_cast-result c).Else-not-has_text))

pub returns-then-room-n : goal.returns-then-room-n
returns-then-room-n c =
    end_short _ _ c.if-request-ne-REQUEST_WORDS.false (texted (goal.at.returns-then-room-n c).Else-not-has_text) c.need-n.ensures c.if-room-n.true

-- where the room was looked at: it is enough
enough : (c : Joined-room-lt-TEXT_MOST) → Sixteen c.args.request.now → length (text_of_words c.args.request.now) ≤ length c.args.room.now
enough c s = elim c.if-room-lt-TEXT_MOST.branch [
  | then-room-lt-TEXT_MOST+else-room-n w ↦ omega (arith, w.need-n.ensures, w.if-room-n.false)
  | else-room-lt-TEXT_MOST w ↦ omega (arith, w.if-room-lt-TEXT_MOST.false, need_most _ s)
]

pub write_text-n-requires : goal.write_text-n-requires
write_text-n-requires c =
    let s = sixteen (goal.at.write_text-n-requires c).Else-not-has_text in
    (s, enough (goal.at.write_text-n-requires c).Joined-room-lt-TEXT_MOST s)

pub overflow_cast-result-2 : goal.overflow_cast-result-2
overflow_cast-result-2 c =
    omega (arith, c.write_text-n.ensures.many, need_most _ (sixteen (goal.at.overflow_cast-result-2 c).Else-not-has_text))

pub returns : goal.returns
returns c =
    let looked = (goal.at.returns c).Else-not-has_text in
    end_written _ _ c.if-request-ne-REQUEST_WORDS.false (texted looked) (enough (goal.at.returns c).Joined-room-lt-TEXT_MOST (sixteen looked))
    c.write_text-n.ensures
