-- Rule 16.6: the writer and the reader undo one another, and each has one answer only, whatever calls they are: said of any answers that meet `WritesTables`
-- and `ReadsTables`.
use Rattle.std.specs.Prelude.{List, ◌++◌, ◌≡◌, ◌<◌, ◌≤◌, ℕ, drop, length, take}
use Rattle.std.proofs.Common.{◌∙◌, ap, sym}
use Rattle.model.specs.Tables.Layout.{word_count}
use Rattle.model.specs.Text.Given.{Small}
use Rattle.tables_text.specs.Calls.{ReadsTables, WritesTables, room_after}
use Rattle.tables_text.proofs.ReadLaws.{reads_text, text_reads}
use Rattle.tables_text.proofs.WriteLaws.{text_short, text_writes, writes_text}
use Rattle.model.specs.Request.Refusals as refusal

-- ---- both ways

-- Words of 32 bits that are written are read back,
pub write_then_read_lem : {t room r v u : List ℕ} {a k n : ℕ} → Small t → WritesTables t room refusal.accepted k r → length v ≡ word_count
    → ReadsTables (take k r) v a n u → (a ≡ refusal.accepted) × (n ≡ 0) × (u ≡ t)
write_then_read_lem s y h x = text_reads (writes_text s y) h x

-- a text that is read is written back,
pub read_then_write_lem : {s v w room r : List ℕ} {a n k : ℕ} → ReadsTables s v refusal.accepted n w → WritesTables w room a k r → length s ≤ length room
    → (a ≡ refusal.accepted) × (k ≡ length s) × (r ≡ s ++ drop (length s) room)
read_then_write_lem x y l = text_writes (reads_text x) y l

-- or, in a room that is too short, its bytes are counted and the room stays as it was.
pub read_then_short : {s v w room r : List ℕ} {a n k : ℕ} → ReadsTables s v refusal.accepted n w → WritesTables w room a k r → length room < length s
    → (a ≡ refusal.too_short) × (k ≡ length s) × (r ≡ room)
read_then_short x y l = text_short (reads_text x) y l

-- ---- one answer only

-- The writer's answer, number and bytes are settled by the words and the room,
pub writes_unique : {t room r s : List ℕ} {a b k j : ℕ} → WritesTables t room a k r → WritesTables t room b j s → (a ≡ b) × (k ≡ j) × (r ≡ s)
writes_unique {t} {room} {r} {s} {a} {b} x y =
    let e : a ≡ b = x.answer ∙ sym y.answer in
    (e, x.number ∙ sym y.number, x.bytes ∙ ap (λ (c : ℕ). room_after c t room) e ∙ sym y.bytes)

-- and the reader's answer, number and words by the text and the words that were there.
pub reads_unique : {s v w u : List ℕ} {a b n m : ℕ} → ReadsTables s v a n w → ReadsTables s v b m u → (a ≡ b) × (n ≡ m) × (w ≡ u)
reads_unique x y = (x.answer ∙ sym y.answer, x.number ∙ sym y.number, x.words ∙ sym y.words)
