-- A run goes on turn by turn, and ends as the run of the whole window does.
use Rattle.std.specs.Prelude.{Bool, ◌&&◌, false, not, true, List, [], ◌++◌, ◌∷◌, ◌≢◌, ◌≡◌, refl, ◌+◌, ◌-◌, ◌<◌, ◌≤◌, ℕ, drop, length}
use Rattle.std.proofs.Common.{append_assoc, append-nil, ◌∙◌, ap, subst, sym, arith, length-drop}
use Rattle.lines.specs.Onto.{Puts}
use Rattle.lines.specs.OntoLaws.{wrote_length, wrote_none, wrote_puts}
use Rattle.model.specs.Basics.Cases.{cases, true_or_false}
use Rattle.model.specs.Basics.Choice.{pick}
use Rattle.model.specs.Request.Step.{after_of}
use Rattle.model.proofs.Script.ReportLaws.{report_length}
use Rattle.model.specs.Script.Reports as model
use Rattle.model.specs.Script.Reports.{output, report, report_text, unread}
use Rattle.model.specs.Script.Windows as windows
use Rattle.model.specs.Script.Windows.{broken, waiting, preceded, ran, report_bytes, stopped}
use Rattle.model.specs.Text.NearLaws.{read_bad}
use Rattle.model.specs.Text.Unfinished.{unfinished}
use Rattle.model.specs.Text.Wording.{Lines, Wording, bad_line, lines, read_seven, sixteen}
use Rattle.request_reader.specs.SevenLaws.{seven_further, seven_rest}
use Rattle.script.specs.Going.{Going, after}
use Rattle.script.specs.Reported.{from_code}
use Rattle.script.specs.RunLaws.{waiting_end, waiting_full, waiting_go, output_more, ran_bad, ran_waiting, ran_turn}
use Rattle.script.specs.Running.{Halts, RunsOn}
use Rattle.script.specs.Turn.{Turns, left_by, turned_by, turned_of}
use Rattle.script.specs.declared.runs.Ran.{Ran}
use Rattle.script.specs.declared.turns.Place.{Place}
use Rattle.script.specs.declared.turns.Turned.{Turned}

-- the place at an index, with nothing amiss
abbrev pub here : ℕ → Place
here i = record { at = i; line = 0 }

-- the run begins
pub going_start : (t s : List ℕ) (last : Bool) (room : List ℕ) → Going t s last room t 0 room 0
unfolding output
going_start t s last room = record {
  within = omega arith;
  fits = omega arith;
  reports = [];
  so_far = let z : length room ≡ length room - 0 = omega arith in ap (λ (k : ℕ). ran t s last k) z;
  wrote = wrote_none room;
}

module _ {t₀ s : List ℕ} {last : Bool} {room t : List ℕ} {at : ℕ} {out : List ℕ} {n : ℕ} (g : Going t₀ s last room t at out n) where
  -- the room is as long as it was
  pub going_length : length out ≡ length room
  going_length = wrote_length g.wrote g.fits

  -- a turn that settled a request is further on
  pub turn_further : (x : Turned) → x ≡ turned_of t s (here at) → x.place.line ≡ 0 → (at < x.place.at) × (x.place.at ≤ length s)
  turn_further x e z = go (read_seven (drop at s)) refl
    where
      go : (l : Lines) → read_seven (drop at s) ≡ l → (at < x.place.at) × (x.place.at ≤ length s)
      go (lines m y) r =
          let p : x ≡ turned_by t (length s) (here at) (lines m y) = e ∙ ap (turned_by t (length s) (here at)) r in
          let a : x.place.at ≡ length s - length y = ap (λ (v : Turned). v.place.at) p in
          let f = seven_further s at m y g.within r in
          (omega arith, omega arith)
      go (bad_line k) r =
          let p : x ≡ turned_by t (length s) (here at) (bad_line k) = e ∙ ap (turned_by t (length s) (here at)) r in
          let a : x.place.line ≡ k = ap (λ (v : Turned). v.place.line) p in
          let f = read_bad (drop at s) k r in
          absurd (omega arith)

  -- what was run so far, and one report more
  after_more : (rs : List model.Report) (r : model.Report) (k : windows.Ran) → after rs (preceded r k) ≡ after (rs ++ (r ∷ [])) k
  after_more rs r k =
      ap (λ (l : List model.Report). record { reports = l; tables = k.tables; rest = k.rest; line = k.line })
      (sym (append_assoc rs (r ∷ []) k.reports))

  settled_on : (x : Turned) (u out' : List ℕ) (n' : ℕ) (m : Wording) (y : List ℕ) → read_seven (drop at s) ≡ lines m y → at < length s
      → report_bytes ≤ length room - n → x ≡ turned_by t (length s) (here at) (lines m y) → u ≡ after_of t (sixteen m)
      → Puts (report_text (from_code x.report)) out n out' n' → Going t₀ s last room u x.place.at out' n'
  settled_on x u out' n' m y r h enough e f p =
      let w : model.Report = report t (sixteen m) in
      let a : x.place.at ≡ length s - length y = ap (λ (v : Turned). v.place.at) e in
      let q : from_code x.report ≡ w = ap (λ (v : Turned). from_code v.report) e in
      let p' : Puts (report_text w) out n out' n' = subst (λ (v : model.Report). Puts (report_text v) out n out' n') q p in
      let rest = seven_rest s at m y r in
      let d : drop x.place.at s ≡ y = rw a rest.0 in
      let many : n' ≡ n + length (report_text w) = p'.many in
      let len = report_length w in
      let busy : waiting (length room - n) (drop at s) ≡ false = waiting_go (length room - n) (drop at s) enough (rw (length-drop at s) (omega arith)) in
      let left : length room - n - length (report_text w) ≡ length room - n' = omega arith in
      record {
        within = omega arith;
        fits = omega arith;
        reports = g.reports ++ (w ∷ []);
        so_far =
            g.so_far ∙ ap (after g.reports) (ran_turn t (drop at s) last (length room - n) m y busy r)
            ∙ after_more g.reports w _ ∙ rw (f, d, left) refl;
        wrote = rw (output_more g.reports w) (wrote_puts g.wrote p');
      }

  -- one request more is settled, and its report is written
  pub going_turn : (x : Turned) (u out' : List ℕ) (n' : ℕ) → at < length s → report_bytes ≤ length room - n → Turns t s (here at) x u
      → x.place.line ≡ 0 → Puts (report_text (from_code x.report)) out n out' n' → Going t₀ s last room u x.place.at out' n'
  going_turn x u out' n' h enough o z p = go (read_seven (drop at s)) refl
    where
      go : (l : Lines) → read_seven (drop at s) ≡ l → Going t₀ s last room u x.place.at out' n'
      go (lines m y) r =
          settled_on x u out' n' m y r h enough
          (o.turned ∙ ap (turned_by t (length s) (here at)) r) (o.left ∙ ap (left_by t) r) p
      go (bad_line k) r =
          let q : x ≡ turned_by t (length s) (here at) (bad_line k) = o.turned ∙ ap (turned_by t (length s) (here at)) r in
          let a : x.place.line ≡ k = ap (λ (v : Turned). v.place.line) q in
          let b = read_bad (drop at s) k r in
          absurd (omega arith)

  -- nothing more is begun: the run ends where it is
  stop_here : ran t (drop at s) last (length room - n) ≡ stopped t (drop at s) → RunsOn t₀ s last room (record { place = here at; bytes = n }) t out
  stop_here e =
      let whole : ran t₀ s last (length room) ≡ after g.reports (stopped t (drop at s)) = g.so_far ∙ ap (after g.reports) e in
      let i : at ≡ length s - length (drop at s) = omega (arith, length-drop at s, g.within) in
      record {
        tables = sym (ap (λ (k : windows.Ran). k.tables) whole);
        place = rw whole (ap here i);
        wrote = rw (whole, append-nil g.reports) g.wrote;
      }

  pub going_full : length room - n < report_bytes → RunsOn t₀ s last room (record { place = here at; bytes = n }) t out
  going_full h = stop_here (ran_waiting t (drop at s) last (length room - n) (waiting_full (length room - n) (drop at s) h))

  pub going_end : length s ≤ at → RunsOn t₀ s last room (record { place = here at; bytes = n }) t out
  going_end h = stop_here (ran_waiting t (drop at s) last (length room - n) (waiting_end (length room - n) (drop at s) (omega (arith, length-drop at s))))

  halted : (x : Turned) (u out' : List ℕ) (r : Ran) (k : ℕ) → read_seven (drop at s) ≡ bad_line k → at < length s → report_bytes ≤ length room - n
      → x ≡ turned_by t (length s) (here at) (bad_line k) → u ≡ t → Halts s last out n at x r out' → RunsOn t₀ s last room r u out'
  halted x u out' r k q h enough e f halts = cases (true_or_false (not last && unfinished (drop at s))) waits stops
    where
      busy : waiting (length room - n) (drop at s) ≡ false
      busy = waiting_go (length room - n) (drop at s) enough (rw (length-drop at s) (omega arith))

      is_bad : ran t (drop at s) last (length room - n) ≡ pick (not last && unfinished (drop at s)) (stopped t (drop at s)) (broken t (drop at s) k)
      is_bad = ran_bad t (drop at s) last (length room - n) k busy q

      waits : (not last && unfinished (drop at s)) ≡ true → RunsOn t₀ s last room r u out'
      waits b =
          let w = halts.waits b in
          rw (w.0, w.1, f) (stop_here (is_bad ∙ rw b refl))

      stops : (not last && unfinished (drop at s)) ≡ false → RunsOn t₀ s last room r u out'
      stops b =
          let w = halts.stops b in
          let whole : ran t₀ s last (length room) ≡ after g.reports (broken t (drop at s) k) =
          g.so_far ∙ ap (after g.reports) (is_bad ∙ rw b refl) in
          let i : at ≡ length s - length (drop at s) = omega (arith, length-drop at s, g.within) in
          let p : r.place ≡ record { at = at; line = k } = w.0 ∙ ap (λ (v : Turned). v.place) e in
          let o : Puts (report_text unread) out n out' r.bytes =
          subst (λ (v : Turned). Puts (report_text (from_code v.report)) out n out' r.bytes) e w.1 in
          record {
            tables = f ∙ sym (ap (λ (j : windows.Ran). j.tables) whole);
            place = rw whole (p ∙ ap (λ (j : ℕ). record { at = j; line = k }) i);
            wrote = rw (whole, output_more g.reports unread) (wrote_puts g.wrote o);
          }

  -- a request cannot be read: the run ends with that, unless the request may be unfinished
  pub going_halt : (x : Turned) (u out' : List ℕ) (r : Ran) → at < length s → report_bytes ≤ length room - n → Turns t s (here at) x u
      → x.place.line ≢ 0 → Halts s last out n at x r out' → RunsOn t₀ s last room r u out'
  going_halt x u out' r h enough o z halts = go (read_seven (drop at s)) refl
    where
      go : (l : Lines) → read_seven (drop at s) ≡ l → RunsOn t₀ s last room r u out'
      go (lines m y) q =
          let a : x ≡ turned_by t (length s) (here at) (lines m y) = o.turned ∙ ap (turned_by t (length s) (here at)) q in
          absurd (z (ap (λ (v : Turned). v.place.line) a))
      go (bad_line k) q =
          halted x u out' r k q h enough (o.turned ∙ ap (turned_by t (length s) (here at)) q) (o.left ∙ ap (left_by t) q) halts

-- ---- how a run ends at a request that could not be read

module _ {s : List ℕ} {last : Bool} {room : List ℕ} {n at : ℕ} {x : Turned} where
  -- nothing will follow, or the bytes are not unfinished: it is reported
  pub halts_stop : {r : Ran} {out : List ℕ} → (not last && unfinished (drop at s)) ≡ false
      → (r.place ≡ x.place) × Puts (report_text (from_code x.report)) room n out r.bytes → Halts s last room n at x r out
  halts_stop e p = record {
    waits = λ w. let z : ◌≡◌ {A = Bool} true false = sym w ∙ e in let y : ◌≡◌ {A = ℕ} 0 1 = cc in absurd (omega arith);
    stops = λ w. p;
  }

  -- they may be unfinished: nothing is written
  pub halts_wait : (not last && unfinished (drop at s)) ≡ true → Halts s last room n at x (record { place = here at; bytes = n }) room
  halts_wait e = record {
    waits = λ w. (refl, refl);
    stops = λ w. let z : ◌≡◌ {A = Bool} true false = sym e ∙ w in let y : ◌≡◌ {A = ℕ} 0 1 = cc in absurd (omega arith);
  }
