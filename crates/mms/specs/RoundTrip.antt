-- Rule 11.5: the reader and the writer undo one another, said of whatever the two calls answer and leave.
use Rattle.std.specs.Prelude.{List, ◌++◌, ◌↔◌, ◌≡◌, ◌<◌, ◌≤◌, ℕ, drop, length, take}
use Rattle.std.proofs.Common.{subst}
use Rattle.mms.specs.Contract.{Reading, Writing}
use Rattle.mms.specs.declared.Answer.{Answer}
use Rattle.model.specs.Request.Words.{request_words}
use Rattle.model.proofs.Text.BothWays.{read_has, read_short, read_write, write_read, written_exactly}
use Rattle.model.specs.Text.Broken.{FirstBad, sorts}
use Rattle.model.proofs.Text.BrokenLaws.{broken_reads, reads_broken}
use Rattle.model.specs.Text.Given.{HasText, Small}
use Rattle.model.specs.Text.Reading.{Reads}
use Rattle.model.specs.Text.Writing.{Writes}
use Rattle.model.specs.Request.Refusals as refusal

-- an answer of two numbers
abbrev pub answering : ℕ → ℕ → Answer
answering a n = record { no = a; number = n }

-- A text that is read is what the writer gives for its words, where there is room,
pub read_then_write_lem : (s v w room r : List ℕ) (a b : Answer) → Reading s v a w → a.no ≡ refusal.accepted → Writing w room b r
    → length s ≤ length room → (b ≡ answering refusal.accepted (length s)) × (r ≡ s ++ drop (length s) room)
read_then_write_lem s v w room r a b x z y l =
    let e = read_write (subst (λ (n : ℕ). Reads s v n a.number w) z x) y l in
    (λ i. record { no = e.0 i; number = e.1 i }, e.2)

-- and where there is too little the writer asks for its bytes.
pub read_then_short : (s v w room r : List ℕ) (a b : Answer) → Reading s v a w → a.no ≡ refusal.accepted → Writing w room b r
    → length room < length s → (b ≡ answering refusal.too_short (length s)) × (r ≡ room)
read_then_short s v w room r a b x z y l =
    let e = read_short (subst (λ (n : ℕ). Reads s v n a.number w) z x) y l in
    (λ i. record { no = e.0 i; number = e.1 i }, e.2)

-- Words of 32 bits that are written are read again from the bytes that were written.
pub write_then_read_lem : (w room r v u : List ℕ) (a b : Answer) → Small w → Writing w room b r → b.no ≡ refusal.accepted
    → length v ≡ request_words → Reading (take b.number r) v a u → (a ≡ answering refusal.accepted 0) × (u ≡ w)
write_then_read_lem w room r v u a b s y z h x =
    let e = write_read s (subst (λ (n : ℕ). Writes w room n b.number r) z y) h x in
    (λ i. record { no = e.0 i; number = e.1 i }, e.2)

-- The writer refuses as a bad request exactly those words of 32 bits that no text gives,
pub written_exactly_given : (w room r : List ℕ) (b : Answer) → length w ≡ request_words → Small w → Writing w room b r
    → (b.no ≡ refusal.bad_request) ↔ (¬ HasText w)
written_exactly_given w room r b h s y = written_exactly h s y

-- and the reader leaves words that a text gives.
pub read_given : (s v w : List ℕ) (a : Answer) → Reading s v a w → a.no ≡ refusal.accepted → HasText w
read_given s v w a x z = read_has (subst (λ (n : ℕ). Reads s v n a.number w) z x)

-- Where the text is no request the number is the first line that is bad or missing, and nothing is written;
pub read_names_line : (s v w : List ℕ) (a : Answer) → Reading s v a w → a.no ≡ refusal.not_a_request → FirstBad sorts s a.number × (w ≡ v)
read_names_line s v w a x z = reads_broken (subst (λ (n : ℕ). Reads s v n a.number w) z x)

-- where there is such a line, the answer names it.
pub bad_line_named : (s v w : List ℕ) (k : ℕ) (a : Answer) → FirstBad sorts s k → length v ≡ request_words → Reading s v a w
    → (a ≡ answering refusal.not_a_request k) × (w ≡ v)
bad_line_named s v w k a f h x =
    let e = broken_reads f h x in
    (λ i. record { no = e.0 i; number = e.1 i }, e.2)
