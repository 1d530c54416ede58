-- The ways in which reading a line with a reference ends: without its key, with a bad name, without LF, or well.
use Rattle.std.specs.Prelude.{List, [], ◌∷◌, Some, None, Option, ℕ, drop}
use Rattle.std.proofs.Common.{◌∙◌, zero-le}
use Rattle.lines.specs.LineAt.{KeyAt}
use Rattle.model.specs.Request.Words.{name_count}
use Rattle.model.specs.Text.Lines.{line_end, read_line}
use Rattle.model.specs.Text.References.{reference}
use Rattle.request_reader.specs.NamesAt.{NamesIs}
use Rattle.request_reader.specs.RefAt.{RefAt}
use Rattle.request_reader.specs.declared.Names.{Names}

module _ {s : List ℕ} {at : ℕ} {key o p : List ℕ} where
  pub ref_no_key : KeyAt s at key None → RefAt s at key o p None
  unfolding read_line
  ref_no_key k = record { is = rw (← k.is); within = zero-le; few = zero-le; kept = tt }

  pub ref_wrong : {i : ℕ} → KeyAt s at key (Some i) → NamesIs s (reference (drop i s)) name_count o p None → RefAt s at key o p None
  unfolding read_line
  ref_wrong k n = record { is = rw (← k.is, ← n.is); within = zero-le; few = zero-le; kept = tt }

  pub ref_no_end : {i : ℕ} {n : Names} → KeyAt s at key (Some i) → NamesIs s (reference (drop i s)) name_count o p (Some n) → KeyAt s n.end (line_end ∷ []) None
      → RefAt s at key o p None
  unfolding read_line
  ref_no_end k m e = record { is = rw (← k.is, ← m.is, ← e.is); within = zero-le; few = zero-le; kept = tt }

  pub ref_read : {i x : ℕ} {n : Names} → KeyAt s at key (Some i) → NamesIs s (reference (drop i s)) name_count o p (Some n)
      → KeyAt s n.end (line_end ∷ []) (Some x)
      → RefAt s at key o p (Some (record { n = n.n; end = x }))
  unfolding read_line
  ref_read k m e = record { is = rw (← k.is, ← m.is, ← e.is); within = e.within; few = m.few; kept = m.kept }

  -- the key was read, and then the rest of the line
  pub ref_behind : {i : ℕ} {r : Option Names} → KeyAt s at key (Some i) → RefAt s i [] o p r → RefAt s at key o p r
  unfolding read_line
  ref_behind k e = record { is = e.is ∙ rw (← k.is); within = e.within; few = e.few; kept = e.kept }
