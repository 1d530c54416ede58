use Rattle.script.proofs.TurnLaws.{turn_bad, turn_next}
use Rattle.script.proofs.turns.turn_at.Goals as goal

pub settled-requires : goal.settled-requires
settled-requires c =
    record { said = c.requires.said; request = c.read_seven.auto.w }

pub returns-in-Err : goal.returns-in-Err
returns-in-Err c =
    turn_bad c.args.tables.now c.args.p c.in-Err.ensures c.stuck.ensures

pub returns-in-Ok : goal.returns-in-Ok
returns-in-Ok c =
    turn_next c.args.tables.now c.args.p c.in-Ok.ensures c.settled.ensures
