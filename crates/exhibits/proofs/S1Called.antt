-- Rules 13 and 16: all that is said of the public calls on S1 holds.
use Rattle.std.proofs.Common.{sym}
use Rattle.exhibits.proofs.Listed.{called_1, called_2, called_2_short, called_unmarked}
use Rattle.exhibits.specs.S1Called.{s1_called, s1_check_called, s1_run, s1_unknown_called}
use Rattle.exhibits.specs.S1Exhibit.{S1Exhibit}
use Rattle.exhibits.specs.TextCalled.{damaged_refused, empty_read_lem, empty_written_lem, insecure_checked_called, insecure_written_lem, s1_text_read}
use Rattle.exhibits.specs.TextCalled.{s1_text_written}
use Rattle.cases.specs.Case.S1Script.{s1_script_only, s1_script_writes}
use Rattle.cases.specs.Case.S1Text.{s1_text_length}

-- All of it in one statement.
pub s1_exhibit : S1Exhibit
s1_exhibit = record {
  checked = sym s1_check_called;
  steps = s1_called;
  runs = s1_run;
  user_nine = s1_unknown_called;
  list_of_two = called_2;
  short_of_two = called_2_short;
  list_unmarked = called_unmarked;
  list_of_one = called_1;
  script_writes = s1_script_writes;
  script_only = s1_script_only;
  text_written = s1_text_written;
  text_bytes = s1_text_length;
  text_read = s1_text_read;
  damaged_read = damaged_refused;
  empty_written = empty_written_lem;
  empty_read = empty_read_lem;
  insecure_checked = insecure_checked_called;
  insecure_written = insecure_written_lem;
}
