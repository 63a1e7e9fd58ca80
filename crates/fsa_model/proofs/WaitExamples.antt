-- Scripts with calls that wait, worked by hand: their bytes are read, and the text of their one history is
-- as it should be.
use Rattle.std.specs.Prelude.{◌≡◌, ℕ, List, [], ◌++◌, Result, Ok, Err, codes, refl}
use Rattle.std.specs.Fmt.{digits}
use Rattle.fsa_model.specs.ByteLines.{read_fields, start_at, write_fields, flush_fields, set_end_fields}
use Rattle.fsa_model.specs.Close.{try_close, close_at, with_closed, try_leave, with_client_gone}
use Rattle.fsa_model.specs.Fault.{Fault}
use Rattle.fsa_model.specs.Flush.{try_flush, flush_at}
use Rattle.fsa_model.specs.Lines.{client_at, line_of, request_of, sids_at}
use Rattle.fsa_model.specs.LockLines.{lock_fields, unlock_fields}
use Rattle.fsa_model.specs.Locking.{try_lock, lock_at, lock_by, lock_stream, lock_range, lock_free, try_unlock, unlock_at, unlock_by, unlock_range}
use Rattle.fsa_model.specs.Open.{try_create, create_at, create_walked, create_named, create_by_link, create_found, create_there, create_in_file, create_stream, create_on_stream, open_stream, open_directory, open_granted, overwrite_existing, open_existing, clashed, create_missing, make_file, make_directory, stopped}
use Rattle.fsa_model.specs.OpenLines.{disposition_at, create_fields, close_fields}
use Rattle.fsa_model.specs.Read.{try_read, read_at, read_by, read_stream, read_range, read_unlocked, read_bytes}
use Rattle.fsa_model.specs.Requests.{what_of}
use Rattle.fsa_model.specs.Schedule.{plain}
use Rattle.fsa_model.specs.Script.{take_line, take_client, take_request, take_call, line_after, end_after, script_of}
use Rattle.fsa_model.specs.SetEnd.{try_set_end, set_end_at, set_end_by, set_end_stream, set_end_to, set_end_grown}
use Rattle.fsa_model.specs.Setup.{Script}
use Rattle.fsa_model.specs.Text.{text}
use Rattle.fsa_model.specs.WaitLines.{cancel_fields, wait_fields}
use Rattle.fsa_model.specs.Waiting.{try_wait, try_cancel}
use Rattle.fsa_model.specs.Words.{field_at, number_at, mask_of, mask_at, text_of, text_at, choice_at, string_of, string_at}
use Rattle.fsa_model.specs.Write.{try_write, write_at, write_by, write_stream, write_at_place, write_range, write_unlocked, write_grown, write_bytes}

-- the text of the script's one history; nothing of bytes that are none
abbrev pub text_of_bytes : Result Script Fault → List ℕ
text_of_bytes (Ok script) = text script (plain script)
text_of_bytes (Err fault) = []

-- a waiting lock is taken up when one of its two blockers ends, and held anew, and granted when the other ends
pub waits_for_two :
    text_of_bytes (script_of (
    codes "fsa 1\nclient a 7\nclient b 9\nclient c 8\na 1 create =\\L 0x3 0x7 open_if 0x0 0x0 0\nb 1 create =\\L 0x3 0x7 open_if 0x0 0x0 0\n"
    ++ codes "c 1 create =\\L 0x3 0x7 open_if 0x0 0x0 0\na 2 lock 1 0 10 ex now\nb 2 lock 1 0 20 ex wait\nc 2 lock 1 15 5 sh now\na 3 unlock 1 0 10\nc 3 close 1\n"))
    ≡ codes "> a 1 create\na 1 SUCCESS created\n> b 1 create\nb 1 SUCCESS opened\n> c 1 create\nc 1 SUCCESS opened\n> a 2 lock\na 2 SUCCESS\n> b 2 lock\nb 2 PENDING lock\n"
    ++ codes "> c 2 lock\nc 2 SUCCESS\n> a 3 unlock\na 3 SUCCESS\n> c 3 close\nc 3 SUCCESS\nb 2 SUCCESS\n> a 4 leave\na 4 SUCCESS\n> b 3 leave\nb 3 SUCCESS\n> c 4 leave\n"
    ++ codes "c 4 SUCCESS\nend 11\n"
unfolding digits script_of line_after line_of client_at sids_at request_of what_of create_fields close_fields read_fields write_fields start_at flush_fields set_end_fields lock_fields unlock_fields cancel_fields wait_fields choice_at string_at string_of text_at text_of mask_at mask_of disposition_at number_at field_at take_line take_client take_request take_call end_after try_create create_at create_walked create_named create_by_link create_found create_there create_in_file create_stream create_on_stream open_stream open_directory open_granted overwrite_existing open_existing clashed create_missing make_file make_directory stopped try_close close_at with_closed try_leave with_client_gone try_write write_at write_by write_stream write_at_place write_range write_unlocked write_grown write_bytes try_read read_at read_by read_stream read_range read_unlocked read_bytes try_set_end set_end_at set_end_by set_end_stream set_end_to set_end_grown try_flush flush_at try_lock lock_at lock_by lock_stream lock_range lock_free try_unlock unlock_at unlock_by unlock_range try_wait try_cancel
waits_for_two = refl

-- a waiting lock is cancelled; another is granted when the holder leaves, and a wait for it is over
pub cancelled_then_freed :
    text_of_bytes (script_of (
    codes "fsa 1\nclient a 7\nclient b 9\na 1 create =\\L 0x3 0x7 open_if 0x0 0x0 0\nb 1 create =\\L 0x3 0x7 open_if 0x0 0x0 0\na 2 lock 1 0 1 ex now\n"
    ++ codes "b 2 lock 1 0 1 ex wait\nb 3 cancel 2\nb 4 lock 1 0 1 ex wait\nb 5 wait 4\na 3 wait 9\n"))
    ≡ codes "> a 1 create\na 1 SUCCESS created\n> b 1 create\nb 1 SUCCESS opened\n> a 2 lock\na 2 SUCCESS\n> b 2 lock\nb 2 PENDING lock\n> b 3 cancel\nb 3 SUCCESS\n"
    ++ codes "b 2 CANCELLED\n> b 4 lock\nb 4 PENDING lock\n> b 5 wait\nb 5 PENDING waiting\n> a 3 wait\na 3 INVALID_PARAMETER\n> a 4 leave\na 4 SUCCESS\nb 4 SUCCESS\n"
    ++ codes "b 5 SUCCESS\n> b 6 leave\nb 6 SUCCESS\nend 10\n"
unfolding digits script_of line_after line_of client_at sids_at request_of what_of create_fields close_fields read_fields write_fields start_at flush_fields set_end_fields lock_fields unlock_fields cancel_fields wait_fields choice_at string_at string_of text_at text_of mask_at mask_of disposition_at number_at field_at take_line take_client take_request take_call end_after try_create create_at create_walked create_named create_by_link create_found create_there create_in_file create_stream create_on_stream open_stream open_directory open_granted overwrite_existing open_existing clashed create_missing make_file make_directory stopped try_close close_at with_closed try_leave with_client_gone try_write write_at write_by write_stream write_at_place write_range write_unlocked write_grown write_bytes try_read read_at read_by read_stream read_range read_unlocked read_bytes try_set_end set_end_at set_end_by set_end_stream set_end_to set_end_grown try_flush flush_at try_lock lock_at lock_by lock_stream lock_range lock_free try_unlock unlock_at unlock_by unlock_range try_wait try_cancel
cancelled_then_freed = refl

-- a client alone that waits for its own lock stalls
pub one_client_stalls :
    text_of_bytes (script_of (
    codes "fsa 1\nclient a 7\na 1 create =\\L 0x3 0x7 open_if 0x0 0x0 0\na 2 create =\\L 0x3 0x7 open_if 0x0 0x0 0\na 3 lock 1 0 1 ex now\na 4 lock 2 0 1 ex wait\n"
    ++ codes "a 5 wait 4\n"))
    ≡ codes "> a 1 create\na 1 SUCCESS created\n> a 2 create\na 2 SUCCESS opened\n> a 3 lock\na 3 SUCCESS\n> a 4 lock\na 4 PENDING lock\n> a 5 wait\na 5 PENDING waiting\n"
    ++ codes "a 5 STALLED\n> a 6 leave\na 6 SUCCESS\na 4 CANCELLED\nend 6\n"
unfolding digits script_of line_after line_of client_at sids_at request_of what_of create_fields close_fields read_fields write_fields start_at flush_fields set_end_fields lock_fields unlock_fields cancel_fields wait_fields choice_at string_at string_of text_at text_of mask_at mask_of disposition_at number_at field_at take_line take_client take_request take_call end_after try_create create_at create_walked create_named create_by_link create_found create_there create_in_file create_stream create_on_stream open_stream open_directory open_granted overwrite_existing open_existing clashed create_missing make_file make_directory stopped try_close close_at with_closed try_leave with_client_gone try_write write_at write_by write_stream write_at_place write_range write_unlocked write_grown write_bytes try_read read_at read_by read_stream read_range read_unlocked read_bytes try_set_end set_end_at set_end_by set_end_stream set_end_to set_end_grown try_flush flush_at try_lock lock_at lock_by lock_stream lock_range lock_free try_unlock unlock_at unlock_by unlock_range try_wait try_cancel
one_client_stalls = refl

-- locks that are refused, that wait, are taken up, cancelled, stalled, and end with their handle; a write at
-- the end, a new length and a flush
pub all_of_it :
    text_of_bytes (script_of (
    codes "fsa 1\nclient ann 7\nclient bob 9\nann 1 create =\\L 0x3 0x7 create 0x0 0x0 0\nbob 1 create =\\L 0x3 0x7 open 0x0 0x0 0\nann 2 lock 1 0 10 ex now\n"
    ++ codes "bob 2 lock 1 5 10 ex now\nbob 3 lock 1 5 10 ex wait\nbob 4 read 1 0 1\nann 3 unlock 1 0 10\nann 4 lock 1 14 1 sh wait\nann 5 cancel 4\nbob 5 unlock 1 5 10\n"
    ++ codes "ann 6 write 1 end x6869\nann 7 lock 1 0 1 sh now\nann 8 write 1 0 x48\nbob 6 lock 1 0 2 ex wait\nbob 7 wait 6\nann 9 setend 1 1\nann 10 flush 1\n"
    ++ codes "ann 11 create =\\L 0x3 0x7 open 0x0 0x0 0\nann 12 lock 11 0 1 ex wait\nann 13 wait 12\nann 14 close 1\n"))
    ≡ codes "> ann 1 create\nann 1 SUCCESS created\n> bob 1 create\nbob 1 SUCCESS opened\n> ann 2 lock\nann 2 SUCCESS\n> bob 2 lock\nbob 2 LOCK_NOT_GRANTED\n> bob 3 lock\n"
    ++ codes "bob 3 PENDING lock\n> bob 4 read\nbob 4 FILE_LOCK_CONFLICT\n> ann 3 unlock\nann 3 SUCCESS\nbob 3 SUCCESS\n> ann 4 lock\nann 4 PENDING lock\n> ann 5 cancel\n"
    ++ codes "ann 5 SUCCESS\nann 4 CANCELLED\n> bob 5 unlock\nbob 5 SUCCESS\n> ann 6 write\nann 6 SUCCESS 2\n> ann 7 lock\nann 7 SUCCESS\n> ann 8 write\n"
    ++ codes "ann 8 FILE_LOCK_CONFLICT\n> bob 6 lock\nbob 6 PENDING lock\n> bob 7 wait\nbob 7 PENDING waiting\n> ann 9 setend\nann 9 SUCCESS\n> ann 10 flush\n"
    ++ codes "ann 10 SUCCESS\n> ann 11 create\nann 11 SUCCESS opened\n> ann 12 lock\nann 12 PENDING lock\n> ann 13 wait\nann 13 PENDING waiting\nann 13 STALLED\n"
    ++ codes "bob 7 STALLED\n> ann 14 close\nann 14 SUCCESS\nbob 6 SUCCESS\n> ann 15 leave\nann 15 SUCCESS\nann 12 CANCELLED\n> bob 8 leave\nbob 8 SUCCESS\nend 23\n"
unfolding digits script_of line_after line_of client_at sids_at request_of what_of create_fields close_fields read_fields write_fields start_at flush_fields set_end_fields lock_fields unlock_fields cancel_fields wait_fields choice_at string_at string_of text_at text_of mask_at mask_of disposition_at number_at field_at take_line take_client take_request take_call end_after try_create create_at create_walked create_named create_by_link create_found create_there create_in_file create_stream create_on_stream open_stream open_directory open_granted overwrite_existing open_existing clashed create_missing make_file make_directory stopped try_close close_at with_closed try_leave with_client_gone try_write write_at write_by write_stream write_at_place write_range write_unlocked write_grown write_bytes try_read read_at read_by read_stream read_range read_unlocked read_bytes try_set_end set_end_at set_end_by set_end_stream set_end_to set_end_grown try_flush flush_at try_lock lock_at lock_by lock_stream lock_range lock_free try_unlock unlock_at unlock_by unlock_range try_wait try_cancel
all_of_it = refl
