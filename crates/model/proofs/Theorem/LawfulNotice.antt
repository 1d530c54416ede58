-- Where nothing but the requester's notice has changed, Definitions 5 to 11 hold; a notice changes nothing else.
use Rattle.std.proofs.Common.{inl, ◌∙◌, subst, sym}
use Rattle.std.specs.Prelude.{◌≡◌, refl, ℕ, T}
use Rattle.model.specs.Effect.Notice.{notice}
use Rattle.model.specs.Request.Words.{Request}
use Rattle.model.specs.Tables.EditLaws.{elsewhere}
use Rattle.model.specs.Tables.Words.{Tables, UserWord, authorised, clearance, current, device, devices, held, held_op, kind, level}
use Rattle.model.specs.Tables.Words.{maximum, missed, place, present, releaser, shown, spare, type, used}
use Rattle.model.specs.Theorem.Definitions.{Obeys, Quiet, ShowsId, notice_word}
use Rattle.model.proofs.Theorem.LawfulSame.{downgrade_same, release_same, set_same}

-- Devices show the same IDs where entities are as they were.
quiet_ids : (d d' : Tables) (u : ℕ) → Quiet d u d' → (v x : ℕ) → ShowsId d' v x → ShowsId d v x
quiet_ids d d' u c v x h =
    let i = h.1.0 in (
      sym (c.entities v kind) ∙ h.0,
      (i, rw (c.entities v used) at h.1.1, sym (c.entities v (place i)) ∙ h.1.2, rw (c.entities v (shown i)) at h.1.3),
    )

-- Rules 9.5 to 9.11 where nothing but the notice has changed: all seven hold.
pub quiet_obeys : (d d' : Tables) (q : Request) → Quiet d q.user d' → Obeys d q d'
quiet_obeys d d' q c = record {
  access = inl c;
  copy = inl c;
  ccr = inl c;
  translation = λ x b h. inl (subst (λ (v : ℕ). ShowsId d v x) (c.users q.user device (λ z t. t)) (quiet_ids d d' q.user c (devices d' q.user) x h));
  setting = set_same q d d' (λ x b. c.entities x maximum) (λ x. c.users x clearance (λ e t. t)) (λ x. c.users x authorised (λ e t. t))
      (λ x. c.users x current (λ e t. t));
  downgrade = downgrade_same q d d' (λ x b. c.entities x level);
  release = release_same q d d' (λ x b. c.entities x type) (λ x b. c.entities x releaser);
}

-- Rule 8.2: a notice changes nothing but the notice of its user.
pub notice_quiet : (d : Tables) (u r o : ℕ) → Quiet d u (notice u r o d)
notice_quiet d u r o = record { users = words; entities = λ x f. refl }
  where
    words : (x : ℕ) (f : UserWord) → (x ≡ u → T (notice_word f) → ⊥) → (notice u r o d).user x f ≡ d.user x f
    words x present n = refl
    words x clearance n = refl
    words x authorised n = refl
    words x current n = refl
    words x device n = refl
    words x held n = elsewhere x u _ (d.user x held) (λ e. n e tt)
    words x held_op n = elsewhere x u _ (d.user x held_op) (λ e. n e tt)
    words x missed n = elsewhere x u _ (d.user x missed) (λ e. n e tt)
    words x (spare i) n = refl

-- The same tables are quiet, whoever asks.
pub same_quiet : (d : Tables) (u : ℕ) → Quiet d u d
same_quiet d u = record { users = λ x f n. refl; entities = λ x f. refl }
