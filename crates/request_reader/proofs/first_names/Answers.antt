use Rattle.std.proofs.Common.{◌-◌, [], arith, drop, sym, ◌≡◌, ◌∙◌}
use Rattle.std.proofs.lemmas.Bool.{ltb-false}
use Rattle.model.specs.Text.Numbers.{got}
use Rattle.model.specs.Text.References.{further}
use Rattle.request_reader.specs.NamesAt.{further_most}
use Rattle.request_reader.specs.NamesAtLaws.{further_end, names_bad, names_end, names_last, names_start, names_turn, no_dot}
use Rattle.request_reader.proofs.first_names.Goals.{In_default, in_default-via-in-Some+else-b-eq-DOT, in_default-via-in_default}
use Rattle.request_reader.proofs.first_names.Goals as goal

pub loop-k-init : goal.loop-k-init
loop-k-init c = record { within = c.requires.0; so_far = names_start _ _ _ }

pub returns-in_err-v : goal.returns-in_err-v
returns-in_err-v c = rw c.from_residual.ensures (names_bad c.loop-k.invariant.so_far c.in_err-v.ensures _)

-- no dot follows
ends : (c : In_default) → further (further_most - c.loop-k.k) (drop c.in_ok-v.field-0.next c.args.s.now) ≡ got [] (drop c.in_ok-v.field-0.next c.args.s.now)
ends c = elim c.in_default.branch [
  | in_default-via-in-Some+else-b-eq-DOT w ↦
      let l = w.in-Some.ensures.lookup.3 in
      no_dot _ _ (further_most - c.loop-k.k) l.0 (λ e. w.if-b-eq-DOT.false (l.1 0 ∙ e))
  | in_default-via-in_default w ↦
      let l = (rw w.in_default.is at c.get.ensures.lookup).0 in
      further_end _ _ (further_most - c.loop-k.k) (ltb-false _ _ (sym l))
]

pub returns-in_default : goal.returns-in_default
returns-in_default c = names_end c.loop-k.invariant.so_far (omega arith) (omega arith) c.in_ok-v.ensures (ends c)

pub loop-k-preserved : goal.loop-k-preserved
loop-k-preserved c =
    let l = c.in-Some.ensures.lookup.3 in
    record {
      within = omega arith;
      so_far = names_turn c.loop-k.invariant.so_far c.loop-k-test.true (omega arith) c.in_ok-v.ensures l.0 (sym (l.1 0) ∙ c.if-b-eq-DOT.true);
    }

pub returns-in_err-v-2 : goal.returns-in_err-v-2
returns-in_err-v-2 c = rw c.from_residual-in_err-v-2.ensures (names_bad c.loop-k.invariant.so_far c.in_err-v-2.ensures _)

pub returns : goal.returns
returns c = names_last c.loop-k.invariant.so_far (omega arith) (omega arith) c.in_ok-v-2.ensures
