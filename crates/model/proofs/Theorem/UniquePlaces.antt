-- The rules leave no choice for create, delete and move: no two tables are both the outcome of one of these.
use Rattle.std.specs.Prelude.{Bool, ◌&&◌, ◌||◌, false, true, List, [], ◌++◌, ◌∷◌, ◌≢◌, ◌⊎◌, ◌≡◌, ◌<◌, ◌≤◌, ℕ, T, eqb}
use Rattle.std.proofs.Common.{inl, inr, ◌∙◌, ap, subst, sym, arith, eqb→eq}
use Rattle.model.specs.Basics.Cases.{cases, lt_or_le}
use Rattle.model.specs.Basics.Choice.{Same, it, other, same}
use Rattle.model.specs.Basics.TestLaws.{T-l, T-r}
use Rattle.model.specs.Effect.Places.{draft_sort, object_sort, vacant}
use Rattle.model.proofs.Effect.PlacesLaws.{vacant_absent}
use Rattle.model.specs.Request.Allowed.{MayCreate}
use Rattle.model.specs.Request.Asked.{Asked}
use Rattle.model.specs.Request.Form.{Between}
use Rattle.model.specs.Request.Operations.{to_create, to_delete, to_move}
use Rattle.model.specs.State.AgreeLinks.{in_agrees}
use Rattle.model.specs.Tables.Contents.{contents}
use Rattle.model.specs.Tables.ContentsLaws.{taken_unique}
use Rattle.model.specs.Tables.Words.{EntityWord, Tables, absent_kind, container_kind, draft_type, kind, kinds, level, object_kind, places}
use Rattle.model.specs.Tables.Words.{plain_type, triple, triples, type, used_places}
use Rattle.model.specs.Theorem.Done.{HasCreated, Outcome, container_sort}
use Rattle.model.proofs.Theorem.DonePlaces.{vacant_lowest}
use Rattle.model.specs.Theorem.MayChange.{content_word, holder, word_or_row}
use Rattle.model.specs.Theorem.SameWords.{at_entity, content_same, contents_same, frame_same, one_of, same_word, triples_same}

-- Of the numbers from 1 on that are absent, one is the lowest.
lowest_one : (d : Tables) (n m : ℕ) → 1 ≤ n → 1 ≤ m → kinds d n ≡ absent_kind → kinds d m ≡ absent_kind
    → ((x : ℕ) → 1 ≤ x → x < n → kinds d x ≢ absent_kind) → ((x : ℕ) → 1 ≤ x → x < m → kinds d x ≢ absent_kind) → n ≡ m
lowest_one d n m p q gone gone' low low' =
    let l : ¬ (n < m) = λ h. low' n p h gone in
    let r : ¬ (m < n) = λ h. low m q h gone' in
    omega arith

module _ (s : Asked) (d : Tables) where
  -- The sort of a new entity fixes its kind and its type.
  sort_fixes : Between object_sort draft_sort s.a
      → (k : ℕ) × (t : ℕ) × ((a : Tables) (c : HasCreated s d a) → (kinds a c.new ≡ k) × (a.entity c.new type ≡ t))
  sort_fixes h = cases (lt_or_le s.a container_sort)
      (λ l. (object_kind, plain_type, λ a c. c.object (omega (arith, h))))
      (λ l. cases (lt_or_le s.a draft_sort)
      (λ m. (container_kind, plain_type, λ a c. c.container (omega arith)))
      (λ m. (container_kind, draft_type, λ a c. c.draft (omega (arith, h)))))

  -- The new number is the one that the frame leaves open.
  pub new_number : MayCreate s d → (a : Tables) (c : HasCreated s d a) → c.new ≡ vacant d
  new_number may a c = lowest_one d c.new (vacant d) c.low (omega arith) c.absent (vacant_absent d may.number) c.lowest (vacant_lowest d)

module _ (s : Asked) (d a b : Tables) where
  pub create_unique : MayCreate s d → Outcome to_create s d a → Outcome to_create s d b → a ≡ b
  create_unique may p q = frame_same to_create s d a b p.framed q.framed (λ x f t. absurd t)
      (λ x f t. cases (one_of (eqb x e && new_word f) (eqb x c && content_word f) t) (at_entity a b e new_word new_same x f)
      (at_entity a b c content_word (content_same (a.entity c) (b.entity c) (contents_same a b p.well_formed q.well_formed c list_same)) x f))
    where
      e : ℕ
      e = vacant d

      c : ℕ
      c = s.first

      new_word : EntityWord → Bool
      new_word f = word_or_row kind f || (word_or_row type f || (word_or_row level f || word_or_row (triple 0) f))

      here : p.done.new ≡ e
      here = new_number s d may a p.done

      here' : q.done.new ≡ e
      here' = new_number s d may b q.done

      list_same : contents a c ≡ contents b c
      list_same = p.done.last ∙ ap (λ (n : ℕ). contents d c ++ (n ∷ [])) (here ∙ sym here') ∙ sym q.done.last

      -- a word of the new record that both tables have from v
      both : (f : EntityWord) (v : ℕ) → a.entity p.done.new f ≡ v → b.entity q.done.new f ≡ v → a.entity e f ≡ b.entity e f
      both f v x y = ap (λ (n : ℕ). a.entity n f) (sym here) ∙ x ∙ sym y ∙ ap (λ (n : ℕ). b.entity n f) here'

      new_same : (f : EntityWord) → T (new_word f) → a.entity e f ≡ b.entity e f
      new_same f t =
          let z = sort_fixes s d may.sort in
          cases (one_of (word_or_row kind f) (word_or_row type f || (word_or_row level f || word_or_row (triple 0) f)) t)
          (same_word kind (omega arith) (a.entity e) (b.entity e) (both kind z.0 (z.2 a p.done).0 (z.2 b q.done).0) f)
          (λ t₁. cases (one_of (word_or_row type f) (word_or_row level f || word_or_row (triple 0) f) t₁)
          (same_word type (omega arith) (a.entity e) (b.entity e) (both type z.1 (z.2 a p.done).1 (z.2 b q.done).1) f)
          (λ t₂. cases (one_of (word_or_row level f) (word_or_row (triple 0) f) t₂)
          (same_word level (omega arith) (a.entity e) (b.entity e) (both level s.b p.done.levelled q.done.levelled) f)
          (triples_same (a.entity e) (b.entity e) (λ i. both (triple i) (triples d c i) (p.done.access i) (q.done.access i)) f)))

  -- a container that e stood in
  held_by : (e x : ℕ) → T (holder d e x) → kinds d x ≡ container_kind
  held_by e x t = ((in_agrees (kinds d) (used_places d) (places d) x e).to t).0

  pub delete_unique : Outcome to_delete s d a → Outcome to_delete s d b → a ≡ b
  delete_unique p q = frame_same to_delete s d a b p.framed q.framed (λ x f t. absurd t)
      (λ x f t. cases (one_of (eqb x e) (holder d e x && content_word f) t)
      (λ h. subst (λ (y : ℕ). a.entity y f ≡ b.entity y f) (sym (eqb→eq x e h)) (p.done.zeroed f ∙ sym (q.done.zeroed f)))
      (λ h. content_same (a.entity x) (b.entity x)
      (contents_same a b p.well_formed q.well_formed x (list_same x (held_by e x (T-l (holder d e x) (content_word f) h))))
      f (T-r (holder d e x) (content_word f) h)))
    where
      e : ℕ
      e = s.first

      list_same : (x : ℕ) → kinds d x ≡ container_kind → contents a x ≡ contents b x
      list_same x box = taken_unique e (contents d x) (contents a x) (contents b x) (p.done.left x box) (q.done.left x box)

  pub move_unique : Outcome to_move s d a → Outcome to_move s d b → a ≡ b
  move_unique p q = frame_same to_move s d a b p.framed q.framed (λ x f t. absurd t)
      (λ x f t. content_same (a.entity x) (b.entity x)
      (contents_same a b p.well_formed q.well_formed x (list_same x (one_of (eqb x c) (holder d e x) (T-l (eqb x c || holder d e x) (content_word f) t))))
      f (T-r (eqb x c || holder d e x) (content_word f) t))
    where
      e : ℕ
      e = s.first

      c : ℕ
      c = s.second

      entered_same : contents a c ≡ contents b c
      entered_same =
          let x = p.done.entered in
          let y = q.done.entered in
          x.2 ∙ ap (λ (l : List ℕ). l ++ (e ∷ [])) (taken_unique e (contents d c) x.0 y.0 x.1 y.1) ∙ sym y.2

      list_same : (x : ℕ) → T (eqb x c) ⊎ T (holder d e x) → contents a x ≡ contents b x
      list_same x h = go (eqb x c) (same x c) h
        where
          go : (t : Bool) → Same x c t → T t ⊎ T (holder d e x) → contents a x ≡ contents b x
          go true (it z) k = subst (λ (y : ℕ). contents a y ≡ contents b y) (sym z) entered_same
          go false (other z) (inl k) = absurd k
          go false (other z) (inr k) =
              let box = held_by e x k in
              taken_unique e (contents d x) (contents a x) (contents b x) (p.done.left x box z) (q.done.left x box z)
