-- What a refusal leaves (rules 8.1 and 8.2): everything, or everything but the requester's notice, which keeps its first refusal.
use Rattle.std.specs.Prelude.{◌≡◌, refl, ◌<◌, ◌≤◌}
use Rattle.model.specs.Effect.Notice.{notice}
use Rattle.model.specs.Request.After.{after, noticed_op}
use Rattle.model.proofs.Request.AfterLaws.{after_noticed, after_unchanged}
use Rattle.model.specs.Request.Ladder.{answer}
use Rattle.model.specs.Request.Words.{Request}
use Rattle.model.specs.Tables.Words.{Tables, first_noticed}
use Rattle.model.specs.Theorem.Definitions.{Quiet}
use Rattle.model.proofs.Theorem.LawfulNotice.{notice_quiet}
use Rattle.model.specs.Request.Refusals as refusal

module _ (d : Tables) (q : Request) where
  -- Refusals 2 to 4 change nothing; 1 is judged on words (`low_refusal_words`).
  pub low_refusal : refusal.bad_length ≤ answer d q → answer d q < first_noticed → after d q ≡ d
  low_refusal l h = after_unchanged d q (answer d q) refl l h

  -- Refusals 5 to 16 leave a notice: its first refusal and operation if nothing was held, and the number missed.
  pub high_refusal : first_noticed ≤ answer d q → after d q ≡ notice q.user (answer d q) (noticed_op q) d
  high_refusal h = after_noticed d q (answer d q) refl h

  -- They change no other word.
  pub high_refusal_quiet : first_noticed ≤ answer d q → Quiet d q.user (after d q)
  high_refusal_quiet h = rw (high_refusal h) (notice_quiet d q.user (answer d q) (noticed_op q))
