use Rattle.model.specs.Request.Words.{request_of}
use Rattle.model.specs.Text.Wording.{wording_of}
use Rattle.request_writer.specs.TextLaws.{all_written, room1, room2, room3, room4, room5, room6, room7}
use Rattle.request_writer.proofs.put_text.Goals as goal

pub put_line-requires : goal.put_line-requires
put_line-requires c =
    rw c.requester.ensures (room1 (wording_of (request_of c.args.words.now)) c.args.out.now c.requires.1)

pub put_line-requires-2 : goal.put_line-requires-2
put_line-requires-2 c =
    rw c.operation.ensures (room2 (wording_of (request_of c.args.words.now)) c.args.out.now c.requires.1
    (rw c.requester.ensures at c.put_line.ensures))

pub put_ref-requires : goal.put_ref-requires
put_ref-requires c =
    rw c.first_names.ensures (room3 (wording_of (request_of c.args.words.now)) c.args.out.now c.requires.1
    (rw c.requester.ensures at c.put_line.ensures)
    (rw c.operation.ensures at c.put_line-2.ensures))

pub put_ref-requires-2 : goal.put_ref-requires-2
put_ref-requires-2 c =
    rw c.second_names.ensures (room4 (wording_of (request_of c.args.words.now)) c.args.out.now c.requires.1
    (rw c.requester.ensures at c.put_line.ensures)
    (rw c.operation.ensures at c.put_line-2.ensures)
    (rw c.first_names.ensures at c.put_ref.ensures))

pub a-requires : goal.a-requires
a-requires c = c.requires.0.long

pub put_line-requires-3 : goal.put_line-requires-3
put_line-requires-3 c =
    rw c.a.ensures (room5 (wording_of (request_of c.args.words.now)) c.args.out.now c.requires.1
    (rw c.requester.ensures at c.put_line.ensures)
    (rw c.operation.ensures at c.put_line-2.ensures)
    (rw c.first_names.ensures at c.put_ref.ensures)
    (rw c.second_names.ensures at c.put_ref-2.ensures))

pub b-requires : goal.b-requires
b-requires c = c.requires.0.long

pub put_line-requires-4 : goal.put_line-requires-4
put_line-requires-4 c =
    rw c.b.ensures (room6 (wording_of (request_of c.args.words.now)) c.args.out.now c.requires.1
    (rw c.requester.ensures at c.put_line.ensures)
    (rw c.operation.ensures at c.put_line-2.ensures)
    (rw c.first_names.ensures at c.put_ref.ensures)
    (rw c.second_names.ensures at c.put_ref-2.ensures)
    (rw c.a.ensures at c.put_line-3.ensures))

pub c-requires : goal.c-requires
c-requires c = c.requires.0.long

pub put_line-requires-5 : goal.put_line-requires-5
put_line-requires-5 c =
    rw c.c.ensures (room7 (wording_of (request_of c.args.words.now)) c.args.out.now c.requires.1
    (rw c.requester.ensures at c.put_line.ensures)
    (rw c.operation.ensures at c.put_line-2.ensures)
    (rw c.first_names.ensures at c.put_ref.ensures)
    (rw c.second_names.ensures at c.put_ref-2.ensures)
    (rw c.a.ensures at c.put_line-3.ensures)
    (rw c.b.ensures at c.put_line-4.ensures))

pub returns : goal.returns
returns c =
    all_written (wording_of (request_of c.args.words.now)) c.args.out.now c.requires.1
    (rw c.requester.ensures at c.put_line.ensures)
    (rw c.operation.ensures at c.put_line-2.ensures)
    (rw c.first_names.ensures at c.put_ref.ensures)
    (rw c.second_names.ensures at c.put_ref-2.ensures)
    (rw c.a.ensures at c.put_line-3.ensures)
    (rw c.b.ensures at c.put_line-4.ensures)
    (rw c.c.ensures at c.put_line-5.ensures)
