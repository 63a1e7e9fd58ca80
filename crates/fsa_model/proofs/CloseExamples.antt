-- Closes and leavings, worked by hand from the rules and shown by computation: the calls that end with
-- them, in order, what is marked, what is noted, and what is left.
use Rattle.std.specs.Prelude.{◌≡◌, ℕ, ◌+◌, Bool, true, false, List, [], ◌∷◌, ◌++◌, map, Option, Some, None, codes, refl}
use Rattle.std.specs.Fmt.{digits}
use Rattle.fsa_types.specs.CaseTable.{ascii_pairs}
use Rattle.fsa_types.specs.declared.request.Call.{Call}
use Rattle.fsa_types.specs.declared.request.Level.TheVariants.{R, RH, RW}
use Rattle.fsa_types.specs.declared.request.Disposition.{Disposition}
use Rattle.fsa_types.specs.declared.request.Disposition.TheVariants.{CreateNew, OpenExisting}
use Rattle.fsa_types.specs.declared.request.Request.TheVariants as request
use Rattle.fsa_types.specs.declared.request.What.{What}
use Rattle.fsa_types.specs.declared.request.What.TheVariants.{Ask, WaitFor, Leave}
use Rattle.fsa_types.specs.declared.reply.Answer.TheVariants as answer
use Rattle.fsa_types.specs.declared.reply.Blocker.TheVariants as blocker
use Rattle.fsa_types.specs.declared.reply.Body.TheVariants.{Nothing}
use Rattle.fsa_types.specs.declared.reply.EndOf.{EndOf}
use Rattle.fsa_types.specs.declared.status.Status.{Status}
use Rattle.fsa_types.specs.declared.status.Status.TheVariants.{Success, InvalidHandle, Cancelled, NotifyCleanup, OplockHandleClosed}
use Rattle.fsa_model.specs.Close.{try_close, close_at, with_closed, try_leave, with_client_gone}
use Rattle.fsa_model.specs.Open.{try_create, create_at, create_walked, create_named, create_by_link, create_found, create_there, create_in_file, create_stream, create_on_stream, open_stream, open_directory, open_granted, overwrite_existing, open_existing, clashed, create_missing, make_file, make_directory, stopped}
use Rattle.fsa_model.specs.Outcome.{Outcome, Done}
use Rattle.fsa_model.specs.Schedule.{plain}
use Rattle.fsa_model.specs.Setup.{Script}
use Rattle.fsa_model.specs.Text.{text}
use Rattle.fsa_model.specs.Turn.{turn, try, volume_after}
use Rattle.fsa_model.specs.Volume.{File, Link, Stream, Handle, Lock, Pending, Watch, Change, Volume, fresh, root}

-- ---- what is there

-- files are of owner 7 with ARCHIVE; their times are 1, 2, 3 and 4
abbrev pub file : File
file = record {
  directory = false;
  attributes = 0x20;
  creation = 1;
  access = 2;
  write = 3;
  change = 4;
  owner = 7;
  dacl = None;
  point = None;
}

abbrev pub link_at : ℕ → List ℕ → ℕ → Bool → Link
link_at parent name file deleted = record { parent = parent; name = name; file = file; deleted = deleted }

abbrev pub stream_at : ℕ → List ℕ → List ℕ → Bool → Stream
stream_at file name bytes deleted = record { file = file; name = name; bytes = bytes; deleted = deleted }

-- a handle of this client and number by this link on this stream, with DELETE_ON_CLOSE or without
abbrev pub handle_at : ℕ → ℕ → ℕ → Option ℕ → Bool → Handle
handle_at client number link stream delete_on_close = record {
  client = client;
  number = number;
  link = link;
  stream = stream;
  access = 0x10001;
  share = 0x7;
  key = 0;
  delete_on_close = delete_on_close;
  enumeration = None;
}

-- the directory 2 `d`, its file 3 `f`, which is `h` in the root too in some of the examples, and the file
-- 4 `g` in the root; marked or not
abbrev pub link_d : Bool → ℕ × Link
link_d deleted = (1, link_at 1 (codes "d") 2 deleted)

abbrev pub link_f : Bool → ℕ × Link
link_f deleted = (2, link_at 2 (codes "f") 3 deleted)

abbrev pub link_h : Bool → ℕ × Link
link_h deleted = (3, link_at 1 (codes "h") 3 deleted)

abbrev pub link_g : Bool → ℕ × Link
link_g deleted = (4, link_at 1 (codes "g") 4 deleted)

-- the default stream of `f`, its stream `s`, marked or not, and the default stream of `g`
abbrev pub default_f : ℕ × Stream
default_f = (1, stream_at 3 [] (1 ∷ []) false)

abbrev pub stream_s : Bool → ℕ × Stream
stream_s deleted = (2, stream_at 3 (codes "s") (2 ∷ []) deleted)

abbrev pub default_g : ℕ × Stream
default_g = (3, stream_at 4 [] (3 ∷ []) false)

-- all of them, with `f` marked or not; without `f`; and with `h` too
abbrev pub links : Bool → List (ℕ × Link)
links marked = link_d false ∷ link_f marked ∷ link_g false ∷ []

abbrev pub links_without_f : List (ℕ × Link)
links_without_f = link_d false ∷ link_g false ∷ []

abbrev pub four_links : Bool → Bool → List (ℕ × Link)
four_links f h = link_d false ∷ link_f f ∷ link_h h ∷ link_g false ∷ []

abbrev pub streams : Bool → List (ℕ × Stream)
streams marked = default_f ∷ stream_s marked ∷ default_g ∷ []

abbrev pub streams_without_s : List (ℕ × Stream)
streams_without_s = default_f ∷ default_g ∷ []

-- client 0's handle of this number on this stream of the file, opened as `f` or as `h`
abbrev pub on_f : ℕ → ℕ → Bool → ℕ × Handle
on_f number stream delete_on_close = (10 + number, handle_at 0 number 2 (Some stream) delete_on_close)

abbrev pub on_h : ℕ → ℕ → Bool → ℕ × Handle
on_h number stream delete_on_close = (10 + number, handle_at 0 number 3 (Some stream) delete_on_close)

abbrev pub volume : List (ℕ × File) → List (ℕ × Link) → List (ℕ × Stream) → List (ℕ × Handle) → List Change → Volume
volume files links streams handles changes = record (fresh (record {
  table = ascii_pairs;
  clients = record { name = codes "a"; sids = 7 ∷ [] } ∷ record { name = codes "b"; sids = 9 ∷ [] } ∷ [];
})) {
  files = files;
  links = links;
  streams = streams;
  handles = handles;
  changes = changes;
  clock = 8;
  last_file = 4;
  last_link = 4;
  last_stream = 3;
  last_handle = 14;
}

-- with the directory and both files, and any links, streams and handles
abbrev pub all_files : List (ℕ × File)
all_files = (1, root) ∷ (2, root) ∷ (3, file) ∷ (4, file) ∷ []

abbrev pub whole : List (ℕ × Link) → List (ℕ × Stream) → List (ℕ × Handle) → List Change → Volume
whole links streams handles changes = volume all_files links streams handles changes

-- without `f`
abbrev pub without_f : List (ℕ × Handle) → List Change → Volume
without_f handles changes = volume ((1, root) ∷ (2, root) ∷ (4, file) ∷ []) links_without_f (default_g ∷ []) handles changes

-- ---- what is noted, and what is answered

-- FILE_ACTION_REMOVED of `f` in `d`, of `h`, of `g`, and of the directory `d`
abbrev pub removed_f : Change
removed_f = record { action = 2; bits = 0x1; seen_from = (2, codes "f") ∷ (1, codes "d\\f") ∷ [] }

abbrev pub removed_h : Change
removed_h = record { action = 2; bits = 0x1; seen_from = (1, codes "h") ∷ [] }

abbrev pub removed_g : Change
removed_g = record { action = 2; bits = 0x1; seen_from = (1, codes "g") ∷ [] }

abbrev pub removed_d : Change
removed_d = record { action = 2; bits = 0x2; seen_from = (1, codes "d") ∷ [] }

-- FILE_ACTION_REMOVED_STREAM of `s`, opened by `f` and by `h`
abbrev pub removed_s : Change
removed_s = record { action = 7; bits = 0x200; seen_from = (2, codes "f:s") ∷ (1, codes "d\\f:s") ∷ [] }

abbrev pub removed_s_by_h : Change
removed_s_by_h = record { action = 7; bits = 0x200; seen_from = (1, codes "h:s") ∷ [] }

abbrev pub done : Volume → Outcome
done v = Done v (record { status = Success; body = Nothing })

-- client 0 closes handles by these numbers, one after the other
abbrev pub closed : Volume → List ℕ → List Outcome
closed v [] = []
closed v (number ∷ more) = try_close v 0 number ∷ closed (volume_after (try_close v 0 number)) more

-- ---- closes that remove nothing

-- the handle goes, and nothing is noted; so does one of the root. A handle is closed once
pub close_plain :
    closed (whole (links false) (streams false) (on_f 1 1 false ∷ (12, handle_at 0 2 0 None false) ∷ []) []) (1 ∷ 2 ∷ 1 ∷ [])
    ≡ done (whole (links false) (streams false) ((12, handle_at 0 2 0 None false) ∷ []) [])
    ∷ done (whole (links false) (streams false) [] [])
    ∷ Done (whole (links false) (streams false) [] []) (record { status = InvalidHandle; body = Nothing })
    ∷ []
unfolding try_close close_at with_closed
close_plain = refl

-- the number of another client's handle, and that of none, are refused and change nothing
pub close_no_handle :
    closed (whole (links true) (streams true) ((11, handle_at 1 1 2 (Some 2) true) ∷ []) []) (1 ∷ 11 ∷ [])
    ≡ Done (whole (links true) (streams true) ((11, handle_at 1 1 2 (Some 2) true) ∷ []) []) (record { status = InvalidHandle; body = Nothing })
    ∷ Done (whole (links true) (streams true) ((11, handle_at 1 1 2 (Some 2) true) ∷ []) []) (record { status = InvalidHandle; body = Nothing })
    ∷ []
unfolding try_close close_at with_closed
close_no_handle = refl

-- a marked link with another handle stays, whichever stream that handle has open
pub close_of_two :
    closed (whole (links true) (streams false) (on_f 1 1 false ∷ on_f 2 2 false ∷ []) []) (1 ∷ 2 ∷ [])
    ≡ done (whole (links true) (streams false) (on_f 2 2 false ∷ []) [])
    ∷ done (without_f [] (removed_f ∷ []))
    ∷ []
unfolding try_close close_at with_closed
close_of_two = refl

-- ---- marked files and streams

-- the last handle of a marked file with two streams: one note, of the file
pub close_marked_file :
    closed (whole (links true) (streams false) (on_f 1 1 false ∷ (12, handle_at 1 1 4 (Some 3) false) ∷ []) []) (1 ∷ [])
    ≡ done (without_f ((12, handle_at 1 1 4 (Some 3) false) ∷ []) (removed_f ∷ [])) ∷ []
unfolding try_close close_at with_closed
close_marked_file = refl

-- a marked stream goes with its last handle; its file stays as it was
pub close_marked_stream :
    closed (whole (links false) (streams true) (on_f 1 2 false ∷ on_f 2 2 false ∷ on_f 3 1 false ∷ []) []) (1 ∷ 3 ∷ 2 ∷ [])
    ≡ done (whole (links false) (streams true) (on_f 2 2 false ∷ on_f 3 1 false ∷ []) [])
    ∷ done (whole (links false) (streams true) (on_f 2 2 false ∷ []) [])
    ∷ done (whole (links false) streams_without_s [] (removed_s ∷ []))
    ∷ []
unfolding try_close close_at with_closed
close_marked_stream = refl

-- where one close removes both, the stream is noted and then the file
pub close_marked_stream_and_file :
    closed (whole (links true) (streams true) (on_f 1 2 false ∷ []) []) (1 ∷ [])
    ≡ done (without_f [] (removed_s ∷ removed_f ∷ [])) ∷ []
unfolding try_close close_at with_closed
close_marked_stream_and_file = refl

-- with another handle of the link the stream goes first, and the file with that handle
pub close_marked_stream_last :
    closed (whole (links true) (streams true) (on_f 1 2 false ∷ on_f 2 1 false ∷ []) []) (1 ∷ 2 ∷ [])
    ≡ done (whole (links true) streams_without_s (on_f 2 1 false ∷ []) (removed_s ∷ []))
    ∷ done (without_f [] (removed_s ∷ removed_f ∷ []))
    ∷ []
unfolding try_close close_at with_closed
close_marked_stream_last = refl

-- a file with another link stays, also where a handle was opened by that link, and also where that link is
-- marked and open; it goes with its last link
pub close_linked :
    closed (whole (four_links true false) (streams false) (on_f 1 1 false ∷ on_h 2 1 false ∷ []) []) (1 ∷ 2 ∷ [])
    ≡ done (whole (link_d false ∷ link_h false ∷ link_g false ∷ []) (streams false) (on_h 2 1 false ∷ []) (removed_f ∷ []))
    ∷ done (whole (link_d false ∷ link_h false ∷ link_g false ∷ []) (streams false) [] (removed_f ∷ []))
    ∷ []
unfolding try_close close_at with_closed
close_linked = refl

pub close_both_links :
    closed (whole (four_links true true) (streams false) (on_f 1 1 false ∷ on_h 2 2 false ∷ []) []) (1 ∷ 2 ∷ [])
    ≡ done (whole (link_d false ∷ link_h true ∷ link_g false ∷ []) (streams false) (on_h 2 2 false ∷ []) (removed_f ∷ []))
    ∷ done (without_f [] (removed_f ∷ removed_h ∷ []))
    ∷ []
unfolding try_close close_at with_closed
close_both_links = refl

-- a marked stream is noted by the link of its last handle
pub close_stream_of_two_links :
    closed (whole (four_links false false) (streams true) (on_f 1 2 false ∷ on_h 2 2 false ∷ []) []) (1 ∷ 2 ∷ [])
    ≡ done (whole (four_links false false) (streams true) (on_h 2 2 false ∷ []) [])
    ∷ done (whole (four_links false false) streams_without_s [] (removed_s_by_h ∷ []))
    ∷ []
unfolding try_close close_at with_closed
close_stream_of_two_links = refl

-- ---- DELETE_ON_CLOSE

-- of a handle of the default stream: the link is marked and goes, and the other stream notes nothing
pub close_deletes_file :
    closed (whole (links false) (streams false) (on_f 1 1 true ∷ []) []) (1 ∷ [])
    ≡ done (without_f [] (removed_f ∷ [])) ∷ []
unfolding try_close close_at with_closed
close_deletes_file = refl

-- of one of two: the link is marked, and goes with the other handle, which doesn't delete
pub close_deletes_later :
    closed (whole (links false) (streams false) (on_f 1 1 true ∷ on_f 2 2 false ∷ []) []) (1 ∷ 2 ∷ [])
    ≡ done (whole (links true) (streams false) (on_f 2 2 false ∷ []) [])
    ∷ done (without_f [] (removed_f ∷ []))
    ∷ []
unfolding try_close close_at with_closed
close_deletes_later = refl

-- the other way round nothing is marked before
pub close_deletes_last :
    closed (whole (links false) (streams false) (on_f 1 1 true ∷ on_f 2 2 false ∷ []) []) (2 ∷ 1 ∷ [])
    ≡ done (whole (links false) (streams false) (on_f 1 1 true ∷ []) [])
    ∷ done (without_f [] (removed_f ∷ []))
    ∷ []
unfolding try_close close_at with_closed
close_deletes_last = refl

-- of a handle of a named stream: the stream goes, its file and link stay
pub close_deletes_stream :
    closed (whole (links false) (streams false) (on_f 1 2 true ∷ []) []) (1 ∷ [])
    ≡ done (whole (links false) streams_without_s [] (removed_s ∷ [])) ∷ []
unfolding try_close close_at with_closed
close_deletes_stream = refl

-- of one of two of a named stream: the stream is marked and the link isn't
pub close_deletes_stream_later :
    closed (whole (links false) (streams false) (on_f 1 2 true ∷ on_f 2 2 false ∷ []) []) (1 ∷ 2 ∷ [])
    ≡ done (whole (links false) (streams true) (on_f 2 2 false ∷ []) [])
    ∷ done (whole (links false) streams_without_s [] (removed_s ∷ []))
    ∷ []
unfolding try_close close_at with_closed
close_deletes_stream_later = refl

-- of the named stream of a file whose link is marked
pub close_deletes_stream_and_file :
    closed (whole (links true) (streams false) (on_f 1 2 true ∷ []) []) (1 ∷ [])
    ≡ done (without_f [] (removed_s ∷ removed_f ∷ [])) ∷ []
unfolding try_close close_at with_closed
close_deletes_stream_and_file = refl

-- the link by which the handle was opened is marked, and no other of its file
pub close_deletes_link :
    closed (whole (four_links false false) (streams false) (on_h 1 1 true ∷ []) []) (1 ∷ [])
    ≡ done (whole (links false) (streams false) [] (removed_h ∷ [])) ∷ []
unfolding try_close close_at with_closed
close_deletes_link = refl

-- a directory with a link in it isn't marked, also where that link is marked
pub close_deletes_no_parent :
    map {B = List Outcome} (λ marked. closed (whole (links marked) (streams false) ((11, handle_at 0 1 1 None true) ∷ (12, handle_at 1 1 2 (Some 1) false) ∷ []) []) (1 ∷ [])) (false ∷ true ∷ [])
    ≡ (done (whole (links false) (streams false) ((12, handle_at 1 1 2 (Some 1) false) ∷ []) []) ∷ [])
    ∷ (done (whole (links true) (streams false) ((12, handle_at 1 1 2 (Some 1) false) ∷ []) []) ∷ [])
    ∷ []
unfolding try_close close_at with_closed
close_deletes_no_parent = refl

-- it is once the link is gone
pub close_deletes_parent :
    closed (whole (links false) (streams false) ((11, handle_at 0 1 1 None true) ∷ on_f 2 1 true ∷ []) []) (2 ∷ 1 ∷ [])
    ≡ done (without_f ((11, handle_at 0 1 1 None true) ∷ []) (removed_f ∷ []))
    ∷ done (volume ((1, root) ∷ (4, file) ∷ []) (link_g false ∷ []) (default_g ∷ []) [] (removed_f ∷ removed_d ∷ []))
    ∷ []
unfolding try_close close_at with_closed
close_deletes_parent = refl

-- ---- what ends with a handle

abbrev pub call : ℕ → ℕ → What → Call
call client number what = record { client = client; number = number; what = what }

abbrev pub waiting : ℕ → ℕ → What → Pending
waiting client number what = record { call = call client number what; blockers = blocker.Break 1 ∷ [] }

abbrev pub standing : ℕ → ℕ → What → Pending
standing client number what = record { call = call client number what; blockers = [] }

abbrev pub ends : ℕ → ℕ → Status → EndOf
ends client number status = record { client = client; number = number; reply = record { status = status; body = Nothing } }

abbrev pub lock_of : ℕ → Lock
lock_of handle = record { handle = handle; at = 0; count = 1; exclusive = false }

abbrev pub watch_of : ℕ → Watch
watch_of handle = record { handle = handle; filter = 0x1; tree = false; from = 0 }

-- client 0 has the default stream of `f` open as its handle 1, and so has client 1; and both have `d` open
-- as their handles 2. All of them have locks or watches, and calls that are pending
abbrev pub files_handles : List (ℕ × Handle)
files_handles =
    on_f 1 1 false
    ∷ (12, handle_at 1 1 2 (Some 1) false)
    ∷ (13, handle_at 0 2 1 None false)
    ∷ (14, handle_at 1 2 1 None false)
    ∷ []

abbrev pub busy : Volume
busy = record (whole (links false) (streams false) files_handles []) {
  locks = (1, lock_of 12) ∷ (2, lock_of 11) ∷ (3, lock_of 11) ∷ [];
  oplocks = record { handle = 11; key = 0; level = R; target = None; number = 0; call = Some 4 }
      ∷ record { handle = 12; key = 0; level = RH; target = Some R; number = 1; call = None }
      ∷ [];
  pending = (9, standing 0 3 (Ask (request.Notify 2 0x1 false 100)))
      ∷ (8, waiting 0 4 (Ask (request.Write 1 (Some 0) (5 ∷ []))))
      ∷ (4, standing 0 5 (Ask (request.Ack 1 R)))
      ∷ (5, waiting 1 4 (Ask (request.Write 1 (Some 0) (5 ∷ []))))
      ∷ (6, waiting 0 6 (Ask (request.Lock 1 0 1 true true)))
      ∷ (7, standing 0 7 (Ask (request.Notify 2 0x1 false 100)))
      ∷ (2, standing 1 5 (Ask (request.Notify 2 0x1 false 100)))
      ∷ (10, standing 0 8 (WaitFor 1))
      ∷ (11, waiting 0 1 (Ask (request.Create (codes "\\g") 0x1 0x7 OpenExisting 0x0 0x0 0)))
      ∷ [];
  watches = watch_of 13 ∷ watch_of 14 ∷ [];
  last_lock = 3;
  last_break = 1;
}

-- the handle of the stream: its calls end in order of turns, and its locks and its oplock are gone. A wait
-- for the call 1 and an open by a call of that number are calls on no handle
pub close_ends_calls :
    closed busy (1 ∷ [])
    ≡ done (record busy {
      handles = (12, handle_at 1 1 2 (Some 1) false) ∷ (13, handle_at 0 2 1 None false) ∷ (14, handle_at 1 2 1 None false) ∷ [];
      locks = (1, lock_of 12) ∷ [];
      oplocks = record { handle = 12; key = 0; level = RH; target = Some R; number = 1; call = None } ∷ [];
      pending = (9, standing 0 3 (Ask (request.Notify 2 0x1 false 100)))
          ∷ (5, waiting 1 4 (Ask (request.Write 1 (Some 0) (5 ∷ []))))
          ∷ (7, standing 0 7 (Ask (request.Notify 2 0x1 false 100)))
          ∷ (2, standing 1 5 (Ask (request.Notify 2 0x1 false 100)))
          ∷ (10, standing 0 8 (WaitFor 1))
          ∷ (11, waiting 0 1 (Ask (request.Create (codes "\\g") 0x1 0x7 OpenExisting 0x0 0x0 0)))
          ∷ [];
      ended = ends 0 5 OplockHandleClosed ∷ ends 0 6 Cancelled ∷ ends 0 4 Cancelled ∷ [];
    })
    ∷ []
unfolding try_close close_at with_closed
close_ends_calls = refl

-- the handle of the directory: both its calls end, and its watch is gone
pub close_ends_watches :
    closed busy (2 ∷ [])
    ≡ done (record busy {
      handles = on_f 1 1 false ∷ (12, handle_at 1 1 2 (Some 1) false) ∷ (14, handle_at 1 2 1 None false) ∷ [];
      pending = (8, waiting 0 4 (Ask (request.Write 1 (Some 0) (5 ∷ []))))
          ∷ (4, standing 0 5 (Ask (request.Ack 1 R)))
          ∷ (5, waiting 1 4 (Ask (request.Write 1 (Some 0) (5 ∷ []))))
          ∷ (6, waiting 0 6 (Ask (request.Lock 1 0 1 true true)))
          ∷ (2, standing 1 5 (Ask (request.Notify 2 0x1 false 100)))
          ∷ (10, standing 0 8 (WaitFor 1))
          ∷ (11, waiting 0 1 (Ask (request.Create (codes "\\g") 0x1 0x7 OpenExisting 0x0 0x0 0)))
          ∷ [];
      ended = ends 0 7 NotifyCleanup ∷ ends 0 3 NotifyCleanup ∷ [];
      watches = watch_of 14 ∷ [];
    })
    ∷ []
unfolding try_close close_at with_closed
close_ends_watches = refl

-- how each kind of call on a handle ends
pub close_statuses :
    map {B = List EndOf}
    (λ what. (volume_after (try_close (record busy { pending = (3, standing 0 3 what) ∷ [] }) 0 1)).ended)
    (Ask (request.Notify 1 0x1 true 0)
    ∷ Ask (request.Oplock 1 RW)
    ∷ Ask (request.Ack 1 R)
    ∷ Ask (request.Read 1 0 1)
    ∷ Ask (request.Write 1 None [])
    ∷ Ask (request.Lock 1 0 1 true true)
    ∷ Ask (request.SetEnd 1 0)
    ∷ Ask (request.SetDisposition 1 true)
    ∷ Ask (request.Rename 1 (codes "\\x") false)
    ∷ Ask (request.Link 1 (codes "\\x") false)
    ∷ Ask (request.Read 2 0 1)
    ∷ WaitFor 1
    ∷ [])
    ≡ (ends 0 3 NotifyCleanup ∷ [])
    ∷ (ends 0 3 OplockHandleClosed ∷ [])
    ∷ (ends 0 3 OplockHandleClosed ∷ [])
    ∷ (ends 0 3 Cancelled ∷ [])
    ∷ (ends 0 3 Cancelled ∷ [])
    ∷ (ends 0 3 Cancelled ∷ [])
    ∷ (ends 0 3 Cancelled ∷ [])
    ∷ (ends 0 3 Cancelled ∷ [])
    ∷ (ends 0 3 Cancelled ∷ [])
    ∷ (ends 0 3 Cancelled ∷ [])
    ∷ []
    ∷ []
    ∷ []
unfolding try_close close_at with_closed
close_statuses = refl

-- ---- a client leaves

-- client 0 has `f` open as its handle 5, opened first, `g` as its handle 3, both to be deleted, and `d` as
-- its handle 1; client 1 has `d` open
abbrev pub leaving_handles : List (ℕ × Handle)
leaving_handles =
    (11, handle_at 0 5 2 (Some 1) true)
    ∷ (12, handle_at 0 3 4 (Some 3) true)
    ∷ (13, handle_at 1 1 1 None false)
    ∷ (14, handle_at 0 1 1 None false)
    ∷ []

abbrev pub opens_g : What
opens_g = Ask (request.Create (codes "\\g") 0x1 0x7 OpenExisting 0x0 0x0 0)

abbrev pub full : Volume
full = record (whole (links false) (streams false) leaving_handles []) {
  locks = (1, lock_of 11) ∷ [];
  oplocks = record { handle = 12; key = 0; level = R; target = None; number = 0; call = Some 3 } ∷ [];
  pending = (7, waiting 0 6 opens_g)
      ∷ (2, standing 0 7 (WaitFor 6))
      ∷ (9, standing 0 8 (Ask (request.Notify 1 0x1 true 100)))
      ∷ (3, standing 0 9 (Ask (request.Ack 3 R)))
      ∷ (5, waiting 0 10 (Ask (request.Write 5 (Some 0) (5 ∷ []))))
      ∷ (4, waiting 1 6 opens_g)
      ∷ (8, standing 1 7 (WaitFor 6))
      ∷ (6, standing 1 8 (Ask (request.Notify 1 0x1 true 100)))
      ∷ [];
  watches = watch_of 13 ∷ watch_of 14 ∷ [];
  last_lock = 1;
  last_break = 1;
}

-- what is left: `d`, and client 1 with its handle, its watch and its calls
abbrev pub after_leaving : Volume
after_leaving = record (volume ((1, root) ∷ (2, root) ∷ []) (link_d false ∷ []) [] ((13, handle_at 1 1 1 None false) ∷ []) (removed_g ∷ removed_f ∷ [])) {
  pending = (4, waiting 1 6 opens_g) ∷ (8, standing 1 7 (WaitFor 6)) ∷ (6, standing 1 8 (Ask (request.Notify 1 0x1 true 100))) ∷ [];
  ended = ends 0 7 Cancelled ∷ ends 0 6 Cancelled ∷ ends 0 8 NotifyCleanup ∷ ends 0 9 OplockHandleClosed ∷ ends 0 10 Cancelled ∷ [];
  watches = watch_of 13 ∷ [];
  left = true ∷ false ∷ [];
  last_lock = 1;
  last_break = 1;
}

-- the open and the wait end first, in order of turns; then the handles close by number, not in the order
-- in which they were opened, and the calls on each end with it
pub leave : try_leave full 0 ≡ done after_leaving
unfolding try_leave with_client_gone with_closed
leave = refl

-- a turn of it gives the ends out after its own answer, and keeps its own end last
abbrev pub watching : Volume
watching = record (whole (links false) (streams false) ((11, handle_at 0 1 1 None false) ∷ []) []) {
  pending = (1, standing 0 2 (Ask (request.Notify 1 0x1 true 100))) ∷ [];
  watches = watch_of 11 ∷ [];
}

pub leave_turn :
    turn watching (call 0 3 Leave) []
    ≡ Some (record {
      volume = record (whole (links false) (streams false) [] []) { ended = ends 0 2 NotifyCleanup ∷ ends 0 3 Success ∷ []; left = true ∷ false ∷ [] };
      out = record { answer = answer.Ended (record { status = Success; body = Nothing }); ended = ends 0 2 NotifyCleanup ∷ []; starved = [] };
    })
unfolding try_leave with_client_gone with_closed
leave_turn = refl

-- after it no call of the client has a handle
pub left_for_good :
    map {B = Outcome} (λ made. try after_leaving made 9) (call 0 12 Leave ∷ call 0 12 (WaitFor 1) ∷ call 0 12 opens_g ∷ call 0 12 (Ask (request.Close 3)) ∷ [])
    ≡ Done after_leaving (record { status = InvalidHandle; body = Nothing })
    ∷ Done after_leaving (record { status = InvalidHandle; body = Nothing })
    ∷ Done after_leaving (record { status = InvalidHandle; body = Nothing })
    ∷ Done after_leaving (record { status = InvalidHandle; body = Nothing })
    ∷ []
left_for_good = refl

-- the last leaving of a client without handles or calls only marks it
pub leave_alone :
    try_leave (whole (links false) (streams false) ((13, handle_at 1 1 1 None true) ∷ []) []) 0
    ≡ done (record (whole (links false) (streams false) ((13, handle_at 1 1 1 None true) ∷ []) []) { left = true ∷ false ∷ [] })
unfolding try_leave with_client_gone with_closed
leave_alone = refl

-- handles are closed one by one: a directory to be deleted whose file goes before it goes too, and stays
-- where it is closed first
pub leave_in_order :
    map {B = List Change}
    (λ (numbers : ℕ × ℕ). (volume_after (try_leave (whole (links false) (streams false) ((11, handle_at 0 numbers.0 1 None true) ∷ (12, handle_at 0 numbers.1 2 (Some 1) true) ∷ []) []) 0)).changes)
    ((2, 1) ∷ (1, 2) ∷ [])
    ≡ (removed_f ∷ removed_d ∷ []) ∷ (removed_f ∷ []) ∷ []
unfolding try_leave with_client_gone with_closed
leave_in_order = refl

-- ---- a whole run

-- a file that is to be deleted with its first handle goes with its second; a name can be made again after
abbrev pub opens_file : ℕ → ℕ → ℕ → Disposition → ℕ → Call
opens_file client number wanted disposition options =
    call client number (Ask (request.Create (codes "\\D") wanted 0x7 disposition options 0x0 0))

abbrev pub two_clients : Script
two_clients = record {
  setup = record { table = ascii_pairs; clients = record { name = codes "a"; sids = 7 ∷ [] } ∷ record { name = codes "b"; sids = 9 ∷ [] } ∷ [] };
  lines = opens_file 0 1 0x10000 CreateNew 0x1000
      ∷ opens_file 1 1 0x1 OpenExisting 0x0
      ∷ call 0 2 (Ask (request.Close 1))
      ∷ opens_file 1 2 0x1 OpenExisting 0x0
      ∷ call 1 3 (Ask (request.Close 1))
      ∷ opens_file 1 4 0x1 OpenExisting 0x0
      ∷ opens_file 1 5 0x1 CreateNew 0x0
      ∷ [];
}

pub run_of_closes :
    text two_clients (plain two_clients)
    ≡ codes "> a 1 create\na 1 SUCCESS created\n> b 1 create\nb 1 SUCCESS opened\n> a 2 close\na 2 SUCCESS\n"
    ++ codes "> b 2 create\nb 2 DELETE_PENDING\n> b 3 close\nb 3 SUCCESS\n> b 4 create\nb 4 OBJECT_NAME_NOT_FOUND\n"
    ++ codes "> b 5 create\nb 5 SUCCESS created\n> a 3 leave\na 3 SUCCESS\n> b 6 leave\nb 6 SUCCESS\nend 9\n"
unfolding digits try_create create_at create_walked create_named create_by_link create_found create_there create_in_file create_stream create_on_stream open_stream open_directory open_granted overwrite_existing open_existing clashed create_missing make_file make_directory stopped try_close close_at with_closed try_leave with_client_gone
run_of_closes = refl
